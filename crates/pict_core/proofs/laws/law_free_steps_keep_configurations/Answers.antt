use Rattle.pict_core.proofs.Kept.{free_steps_keep}
use Rattle.pict_core.proofs.laws.law_free_steps_keep_configurations.Goals as goal

pub returns : goal.returns
returns c = free_steps_keep
