use Rattle.pict_words.specs.Plain.{texts_of, plain_options}
use Rattle.pict_words.proofs.Commands.{no_other, found_by}
use Rattle.pict_words.proofs.words.file_command.Goals as goal

pub returns-in-None-clause-none : goal.returns-in-None-clause-none
returns-in-None-clause-none c e command file shape = let b = found_by (texts_of c.args.words.now) command file shape in c.asked_by.ensures.none c.in-None.is b.0 b.1

pub returns-in-Some-clause-none : goal.returns-in-Some-clause-none
returns-in-Some-clause-none c e command file shape =
    let asked = c.in-Some.asked in
    no_other (texts_of c.args.words.now) asked.word.now asked.fueled (plain_options asked.options) c.in-Some.ensures.some (c.command_of.ensures.none e) command file shape
