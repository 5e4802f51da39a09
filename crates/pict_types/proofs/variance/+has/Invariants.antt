-- What is left of a row has the parameter where the whole does.
use Rattle.std.proofs.Common.{◌≡◌, ◌+◌, ◌-◌, ◌*◌, drop}
use Rattle.pict_types.specs.Plain.{plain, plain_record, plain_bound, plain_types, plain_bounds, plain_labels}
use Rattle.pict_types.specs.Measures.{size, size_bound, size_types, size_labels, size_bounds}
use Rattle.pict_types.specs.Mentions.{mentions_types, mentions_labels, mentions_bounds}
use Rattle.pict_types.specs.Variance.{only}
use Rattle.pict_types.specs.Bodies.{seen}
use Rattle.pict_types.proofs.variance.+has.Given as goal

abbrev pub invariant-types_have-loop-t : goal.invariant-types_have-loop-t
invariant-types_have-loop-t l = mentions_types (only (seen l.body l.x)) (plain_types (drop l.t-index l.ts)) ≡ mentions_types (only (seen l.body l.x)) (plain_types l.ts)

abbrev pub invariant-labels_have-loop-l : goal.invariant-labels_have-loop-l
invariant-labels_have-loop-l l = mentions_labels (only (seen l.body l.x)) (plain_labels (drop l.l-index l.ls)) ≡ mentions_labels (only (seen l.body l.x)) (plain_labels l.ls)

abbrev pub invariant-bounds_have-loop-i : goal.invariant-bounds_have-loop-i
invariant-bounds_have-loop-i l = mentions_bounds (only (l.i + seen l.body l.x)) (plain_bounds (drop l.i l.bs)) ≡ mentions_bounds (only (seen l.body l.x)) (plain_bounds l.bs)

abbrev pub decreases-type_has : goal.decreases-type_has
decreases-type_has l = 3 * size (plain l.t.now)

abbrev pub decreases-record_has : goal.decreases-record_has
decreases-record_has l = 3 * size (plain_record l.r.now) - 1

abbrev pub decreases-bound_has : goal.decreases-bound_has
decreases-bound_has l = 3 * size_bound (plain_bound l.b.now)

abbrev pub decreases-types_have : goal.decreases-types_have
decreases-types_have l = 3 * size_types (plain_types l.ts.now) + 1

abbrev pub decreases-labels_have : goal.decreases-labels_have
decreases-labels_have l = 3 * size_labels (plain_labels l.ls.now) + 1

abbrev pub decreases-bounds_have : goal.decreases-bounds_have
decreases-bounds_have l = 3 * size_bounds (plain_bounds l.bs.now) + 1
