use Rattle.pict_meetings.proofs.PassedOver.{steps_always}
use Rattle.pict_acting.proofs.acting.act.Goals as goal

pub returns : goal.returns
returns g c = record { steps = steps_always _ _ _ _ c.act_or_pass.ensures.steps }
