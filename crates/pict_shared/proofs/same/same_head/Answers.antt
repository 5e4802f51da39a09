use Rattle.pict_shared.proofs.Becoming.{head_becomes}
use Rattle.pict_shared.proofs.same.same_head.Goals as goal

pub returns-else-not-same_value : goal.returns-else-not-same_value
returns-else-not-same_value c = λ h. head_becomes _ _ _ _ _ _ _ _ c.in-In.is (c.same_value.ensures c.if-not-same_value.false) c.if-replicated-again.false (c.same_pattern.ensures h)
