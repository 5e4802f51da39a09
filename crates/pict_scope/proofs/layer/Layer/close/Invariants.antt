-- What is left of the layer stands before the layers outside it.
use Rattle.std.proofs.Common.{◌≡◌, drop}
use Rattle.pict_scope.proofs.layer.Layer.close.Given as goal

abbrev pub invariant-loop-left : goal.invariant-loop-left
invariant-loop-left l = drop l.left l.self.binders ≡ drop l.fn.self.count l.fn.self.binders

abbrev pub decreases-loop-left : goal.decreases-loop-left
decreases-loop-left l = l.left
