-- The parameters that were marked, with those of what is left, are all.
use Rattle.std.proofs.Common.{◌+◌, ◌-◌, ◌*◌, length, drop}
use Rattle.pict_types.specs.Measures.{size, size_bound, size_types, size_labels, size_bounds}
use Rattle.pict_types.specs.Plain.{plain, plain_record, plain_bound, plain_types, plain_bounds, plain_labels}
use Rattle.pict_normal.specs.Uses.{uses_types, uses_labels, uses_bounds}
use Rattle.pict_normal.proofs.Marking.{MarkedSoFar}
use Rattle.pict_normal.proofs.uses.+uses.Given as goal

abbrev pub invariant-mark_types-loop-t : goal.invariant-mark_types-loop-t
invariant-mark_types-loop-t l = MarkedSoFar (λ i. uses_types (length l.fn.used) l.depth i (plain_types l.ts)) (λ i. uses_types (length l.fn.used) l.depth i (plain_types (drop l.t-index l.ts))) l.fn.used l.used

abbrev pub invariant-mark_labels-loop-l : goal.invariant-mark_labels-loop-l
invariant-mark_labels-loop-l l = MarkedSoFar (λ i. uses_labels (length l.fn.used) l.depth i (plain_labels l.ls)) (λ i. uses_labels (length l.fn.used) l.depth i (plain_labels (drop l.l-index l.ls))) l.fn.used l.used

abbrev pub invariant-mark_bounds-loop-k : goal.invariant-mark_bounds-loop-k
invariant-mark_bounds-loop-k l = MarkedSoFar (λ i. uses_bounds (length l.fn.used) l.depth i (plain_bounds l.bs)) (λ i. uses_bounds (length l.fn.used) (l.depth + l.k) i (plain_bounds (drop l.k l.bs))) l.fn.used l.used

abbrev pub decreases-mark_type : goal.decreases-mark_type
decreases-mark_type l = 4 * size (plain l.t.now)

abbrev pub decreases-mark_types : goal.decreases-mark_types
decreases-mark_types l = 4 * size_types (plain_types l.ts.now) + 1

abbrev pub decreases-mark_labels : goal.decreases-mark_labels
decreases-mark_labels l = 4 * size_labels (plain_labels l.ls.now) + 1

abbrev pub decreases-mark_bound : goal.decreases-mark_bound
decreases-mark_bound l = 4 * size_bound (plain_bound l.b.now)

abbrev pub decreases-mark_bounds : goal.decreases-mark_bounds
decreases-mark_bounds l = 4 * size_bounds (plain_bounds l.bs.now) + 1

abbrev pub decreases-mark_record : goal.decreases-mark_record
decreases-mark_record l = 4 * size (plain_record l.r.now) - 1
