use Rattle.pict_sites.proofs.Right.{runs_are_right}
use Rattle.pict_sites.proofs.laws.law_runs_are_right.Goals as goal

pub returns : goal.returns
returns c = runs_are_right
