use Rattle.pict_core.proofs.Kept.{wrong_steps}
use Rattle.pict_core.proofs.laws.law_wrong_steps_are_wrong.Goals as goal

pub returns : goal.returns
returns c = wrong_steps
