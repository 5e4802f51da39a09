use Rattle.pict_shapes.proofs.Having.{no_kind}
use Rattle.pict_shapes.proofs.shape.word_is.Goals as goal

pub returns-in_default : goal.returns-in_default
returns-in_default c = no_kind c.args.heap.now c.args.kind c.args.word c.in_default.not-Int c.in_default.not-Char c.in_default.not-Bool c.in_default.not-Text
