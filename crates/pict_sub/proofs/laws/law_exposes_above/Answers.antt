use Rattle.pict_sub.proofs.Followed.{below_exposed}
use Rattle.pict_sub.proofs.laws.law_exposes_above.Goals as goal

pub returns : goal.returns
returns c = λ c t u e. below_exposed e
