-- What was taken and what is left of the layer, before the layers outside it.
use Rattle.std.proofs.Common.{◌≡◌, ◌++◌, drop, take}
use Rattle.pict_scope.proofs.layer.Layer.take.Given as goal

abbrev pub invariant-loop-left : goal.invariant-loop-left
invariant-loop-left l = record {
  layer : l.taken.items ++ take l.left l.self.binders ≡ take l.fn.self.count l.fn.self.binders;
  outside : drop l.left l.self.binders ≡ drop l.fn.self.count l.fn.self.binders;
}

abbrev pub decreases-loop-left : goal.decreases-loop-left
decreases-loop-left l = l.left
