use Rattle.pict_sub.proofs.Inversion.{above_recursive, below_recursive}
use Rattle.pict_sub.proofs.laws.law_recursive_only_equal.Goals as goal

pub returns-clause-above : goal.returns-clause-above
returns-clause-above c = above_recursive

pub returns-clause-below : goal.returns-clause-below
returns-clause-below c = below_recursive
