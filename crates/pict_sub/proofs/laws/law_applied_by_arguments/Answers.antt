use Rattle.pict_sub.proofs.Inversion.{applied, above_applied, below_applied}
use Rattle.pict_sub.proofs.laws.law_applied_by_arguments.Goals as goal

pub returns-clause-between : goal.returns-clause-between
returns-clause-between c = applied

pub returns-clause-above : goal.returns-clause-above
returns-clause-above c = above_applied

pub returns-clause-below : goal.returns-clause-below
returns-clause-below c = below_applied
