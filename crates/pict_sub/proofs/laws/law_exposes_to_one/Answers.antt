use Rattle.pict_sub.proofs.Followed.{exactly_one_exposed}
use Rattle.pict_sub.proofs.laws.law_exposes_to_one.Goals as goal

pub returns : goal.returns
returns c = exactly_one_exposed
