use Rattle.pict_words.specs.Plain.{texts_of}
use Rattle.pict_words.proofs.Commands.{no_shape_on_error}
use Rattle.pict_words.proofs.words.words_of.Goals as goal

pub returns-in-None-clause-usage : goal.returns-in-None-clause-usage
returns-in-None-clause-usage c = no_shape_on_error c.other_command.result (texts_of c.args.words.now) (c.file_command.ensures.none c.in-None.is) c.other_command.ensures.usage
