use Rattle.pict_exploration.proofs.Covering.{found_is_reduced}
use Rattle.pict_exploration.proofs.laws.law_found_is_reduced.Goals as goal

pub returns : goal.returns
returns c = found_is_reduced
