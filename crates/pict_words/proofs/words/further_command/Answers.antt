use Rattle.pict_words.specs.Plain.{texts_of}
use Rattle.pict_words.proofs.Commands.{no_sites_on_error}
use Rattle.pict_words.proofs.words.further_command.Goals as goal

pub returns-in-None-clause-no_sites : goal.returns-in-None-clause-no_sites
returns-in-None-clause-no_sites c = no_sites_on_error c.last_command.result (texts_of c.args.words.now) (c.sites_command.ensures.none c.in-None.is)
