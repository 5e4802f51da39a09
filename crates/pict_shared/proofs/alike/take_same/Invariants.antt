use Rattle.std.proofs.Common.{◌≡◌}
use Rattle.pict_shared.proofs.alike.take_same.Given as goal

abbrev pub invariant-loop-i : goal.invariant-loop-i
invariant-loop-i l = l.left.items ≡ l.fn.left.items
