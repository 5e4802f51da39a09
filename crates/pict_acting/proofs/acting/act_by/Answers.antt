use Rattle.pict_meetings.proofs.PassedOver.{steps_or_passes}
use Rattle.pict_acting.proofs.acting.act_by.Goals as goal

pub returns-then-has_no_operand : goal.returns-then-has_no_operand
returns-then-has_no_operand g c = record { steps = steps_or_passes _ _ _ _ _ c.act_alone.ensures.steps }

pub returns-then-has_one_operand : goal.returns-then-has_one_operand
returns-then-has_one_operand g c = record { steps = steps_or_passes _ _ _ _ _ c.act_on_one.ensures.steps }
