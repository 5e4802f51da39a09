-- What is bound already and what is left are as they were together.
use Rattle.std.proofs.Common.{◌≡◌, ◌++◌, length}
use Rattle.pict_scope.proofs.steps.bind_each.Given as goal

abbrev pub invariant-loop-binder : goal.invariant-loop-binder
invariant-loop-binder l = l.bound.items ++ l.binders ≡ l.fn.bound.items ++ l.fn.binders

abbrev pub decreases-loop-binder : goal.decreases-loop-binder
decreases-loop-binder l = length l.bound.items
