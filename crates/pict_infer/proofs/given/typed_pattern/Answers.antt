-- Patterns use no value, so that what is judged without values is judged with them.
use Rattle.std.proofs.Common.{refl}
use Rattle.pict_syntax.specs.PlainTrees.{pat_of}
use Rattle.pict_infer.proofs.MadeGiven.{typed_answer}
use Rattle.pict_infer.proofs.given.typed_pattern.Goals as goal

pub returns : goal.returns
returns c = record { answer = typed_answer c.args.env.now _ (pat_of c.args.p.now) c.give.result c.requires.right c.give.ensures.answer c.give.ensures.base c.give.ensures.same refl }
