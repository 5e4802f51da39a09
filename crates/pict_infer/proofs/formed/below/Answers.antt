-- The first is a subtype of the second, or it isn't.
use Rattle.pict_rules.specs.Derivations.{give_, met, failed}
use Rattle.pict_infer.proofs.Forming.{holds, fails}
use Rattle.pict_infer.proofs.formed.below.Goals as goal

pub returns-then-below : goal.returns-then-below
returns-then-below c = met (holds c.in_ok-below.below c.if-below.true c.in_ok-below.ensures.answer) give_

pub returns : goal.returns
returns c = failed (fails c.in_ok-below.below c.if-below.false c.in_ok-below.ensures.answer)
