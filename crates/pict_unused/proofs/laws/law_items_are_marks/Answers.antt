use Rattle.pict_unused.proofs.Sighted.{items_are_marks}
use Rattle.pict_unused.proofs.laws.law_items_are_marks.Goals as goal

pub returns : goal.returns
returns c = items_are_marks
