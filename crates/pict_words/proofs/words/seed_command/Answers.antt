use Rattle.pict_words.specs.Plain.{texts_of, plain_options}
use Rattle.pict_words.proofs.Commands.{no_other_seeded, found_seeded}
use Rattle.pict_words.proofs.words.seed_command.Goals as goal

pub returns-in-None-clause-none : goal.returns-in-None-clause-none
returns-in-None-clause-none c e command takes shape = let b = found_seeded (texts_of c.args.words.now) command takes shape in c.seeded_by.ensures.none c.in-None.is b.0 b.1

pub returns-in-Some-clause-none : goal.returns-in-Some-clause-none
returns-in-Some-clause-none c e command takes shape =
    let seeded = c.in-Some.seeded in
    no_other_seeded (texts_of c.args.words.now) seeded.word.now seeded.seed (plain_options seeded.options) c.in-Some.ensures.some (c.picking_of.ensures.none e) command takes shape
