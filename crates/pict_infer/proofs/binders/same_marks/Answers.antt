-- Marks that compare as the same are the same.
use Rattle.pict_rules.proofs.SameMarks.{same_marks_answered}
use Rattle.pict_infer.proofs.binders.same_marks.Goals as goal

pub returns : goal.returns
returns c = same_marks_answered c.equal_marks.result c.args.written.now c.args.marks.now c.equal_marks.ensures.answer
