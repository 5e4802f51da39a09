use Rattle.pict_words.specs.Plain.{texts_of}
use Rattle.pict_words.proofs.Commands.{no_others_on_error}
use Rattle.pict_words.proofs.words.other_command.Goals as goal

pub returns-in-None-clause-usage : goal.returns-in-None-clause-usage
returns-in-None-clause-usage c =
    let further = c.further_command.ensures in
    no_others_on_error c.further_command.result (texts_of c.args.words.now) (c.seed_command.ensures.none c.in-None.is) further.no_sites further.no_load further.no_replay
