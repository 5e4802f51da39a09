use Rattle.pict_sub.proofs.Replaced.{substitution}
use Rattle.pict_sub.proofs.laws.law_substitution.Goals as goal

pub returns : goal.returns
returns c = substitution
