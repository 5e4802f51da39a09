use Rattle.pict_object.proofs.DressedSteps.{steps_are_dressed}
use Rattle.pict_object.proofs.laws.law_steps_are_dressed.Goals as goal

pub returns : goal.returns
returns c = steps_are_dressed
