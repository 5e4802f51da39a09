use Rattle.pict_core.proofs.Onward.{steps_go_on}
use Rattle.pict_core.proofs.laws.law_steps_go_on.Goals as goal

pub returns : goal.returns
returns c = steps_go_on
