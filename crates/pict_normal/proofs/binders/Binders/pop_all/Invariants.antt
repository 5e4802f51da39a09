-- As many as were popped are gone.
use Rattle.std.proofs.Common.{◌≡◌, ◌≤◌, ◌-◌, drop}
use Rattle.pict_normal.specs.Around.{scope_of}
use Rattle.pict_normal.proofs.binders.Binders.pop_all.Given as goal

abbrev pub invariant-loop-left : goal.invariant-loop-left
invariant-loop-left l = record {
  less : l.left ≤ l.count;
  gone : scope_of l.self ≡ drop (l.count - l.left) (scope_of l.fn.self);
}

abbrev pub decreases-loop-left : goal.decreases-loop-left
decreases-loop-left l = l.left
