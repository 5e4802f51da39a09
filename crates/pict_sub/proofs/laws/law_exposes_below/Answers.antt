use Rattle.pict_sub.proofs.Followed.{exposed_below}
use Rattle.pict_sub.proofs.laws.law_exposes_below.Goals as goal

pub returns : goal.returns
returns c = exposed_below
