-- The laws are their lemmas.
use Rattle.pict_scope.proofs.Clean.{uses_are_bound}
use Rattle.pict_scope.proofs.BindersRead.{targets_are_binders}
use Rattle.pict_scope.proofs.laws.law_uses_are_bound.Goals as goal

pub returns-clause-uses : goal.returns-clause-uses
returns-clause-uses c = uses_are_bound

pub returns-clause-targets : goal.returns-clause-targets
returns-clause-targets c = targets_are_binders
