use Rattle.pict_object.proofs.DressedSteps.{runs_are_dressed}
use Rattle.pict_object.proofs.laws.law_runs_are_dressed.Goals as goal

pub returns : goal.returns
returns c = runs_are_dressed
