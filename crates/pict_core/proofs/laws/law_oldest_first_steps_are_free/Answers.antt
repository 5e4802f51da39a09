use Rattle.pict_core.proofs.Kept.{oldest_first_is_free}
use Rattle.pict_core.proofs.laws.law_oldest_first_steps_are_free.Goals as goal

pub returns : goal.returns
returns c = oldest_first_is_free
