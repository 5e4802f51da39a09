-- As many as are left stay.
use Rattle.std.proofs.Common.{◌≡◌, ◌-◌, length, drop}
use Rattle.pict_infer.proofs.env.cut_values.Given as goal

abbrev pub invariant-loop-names : goal.invariant-loop-names
invariant-loop-names l = drop (length l.names - l.left) l.names ≡ drop (length l.fn.names - l.left) l.fn.names

abbrev pub decreases-loop-names : goal.decreases-loop-names
decreases-loop-names l = length l.names
