use Rattle.pict_named.proofs.Targets.{type_targets_nearest}
use Rattle.pict_named.proofs.laws.law_type_targets_are_nearest.Goals as goal

pub returns : goal.returns
returns c = type_targets_nearest
