use Rattle.pict_sub.proofs.Decidable.{decided}
use Rattle.pict_sub.proofs.laws.law_subtyping_is_decided.Goals as goal

pub returns : goal.returns
returns c = decided
