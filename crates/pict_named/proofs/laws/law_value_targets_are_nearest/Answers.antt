use Rattle.pict_named.proofs.Targets.{value_targets_nearest}
use Rattle.pict_named.proofs.laws.law_value_targets_are_nearest.Goals as goal

pub returns : goal.returns
returns c = value_targets_nearest
