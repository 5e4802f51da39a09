-- What was moved, and then what is left, moved, is the whole row moved.
use Rattle.std.proofs.Common.{◌≡◌, true, ◌+◌, ◌-◌, ◌*◌, drop}
use Rattle.pict_types.specs.Plain.{plain, plain_record, plain_bound, plain_types, plain_bounds, plain_labels}
use Rattle.pict_types.specs.Measures.{size, size_bound, size_types, size_labels, size_bounds}
use Rattle.pict_types.specs.Renaming.{beyond_times, rename_types, rename_labels, rename_bounds}
use Rattle.pict_types.specs.Renumbering.{renumbered}
use Rattle.pict_types.proofs.Rows.{then_types, then_bounds, then_labels}
use Rattle.pict_types.proofs.renumber.+renumber.Given as goal

abbrev pub invariant-changed_types-loop-t : goal.invariant-changed_types-loop-t
invariant-changed_types-loop-t l =
    (then_types (plain_types l.items.items) (rename_types (beyond_times l.from (renumbered l.how)) (plain_types (drop l.t-index l.ts))) ≡ rename_types (beyond_times l.from (renumbered l.how)) (plain_types l.ts))
    × (l.same ≡ true → rename_types (beyond_times l.from (renumbered l.how)) (plain_types (drop l.t-index l.ts)) ≡ (plain_types (drop l.t-index l.ts)) → rename_types (beyond_times l.from (renumbered l.how)) (plain_types l.ts) ≡ plain_types l.ts)

abbrev pub invariant-changed_labels-loop-l : goal.invariant-changed_labels-loop-l
invariant-changed_labels-loop-l l =
    (then_labels (plain_labels l.items.items) (rename_labels (beyond_times l.from (renumbered l.how)) (plain_labels (drop l.l-index l.ls))) ≡ rename_labels (beyond_times l.from (renumbered l.how)) (plain_labels l.ls))
    × (l.same ≡ true → rename_labels (beyond_times l.from (renumbered l.how)) (plain_labels (drop l.l-index l.ls)) ≡ (plain_labels (drop l.l-index l.ls)) → rename_labels (beyond_times l.from (renumbered l.how)) (plain_labels l.ls) ≡ plain_labels l.ls)

abbrev pub invariant-changed_bounds-loop-i : goal.invariant-changed_bounds-loop-i
invariant-changed_bounds-loop-i l =
    (then_bounds (plain_bounds l.items.items) (rename_bounds (beyond_times (l.from + l.i) (renumbered l.how)) (plain_bounds (drop l.i l.bs))) ≡ rename_bounds (beyond_times l.from (renumbered l.how)) (plain_bounds l.bs))
    × (l.same ≡ true → rename_bounds (beyond_times (l.from + l.i) (renumbered l.how)) (plain_bounds (drop l.i l.bs)) ≡ (plain_bounds (drop l.i l.bs)) → rename_bounds (beyond_times l.from (renumbered l.how)) (plain_bounds l.bs) ≡ plain_bounds l.bs)

abbrev pub decreases-changed_type : goal.decreases-changed_type
decreases-changed_type l = 4 * size (plain l.t.now) + 1

abbrev pub decreases-changed_anew : goal.decreases-changed_anew
decreases-changed_anew l = 4 * size (plain l.t.now)

abbrev pub decreases-changed_record : goal.decreases-changed_record
decreases-changed_record l = 4 * size (plain_record l.r.now) - 1

abbrev pub decreases-changed_bound : goal.decreases-changed_bound
decreases-changed_bound l = 4 * size_bound (plain_bound l.b.now)

abbrev pub decreases-changed_types : goal.decreases-changed_types
decreases-changed_types l = 4 * size_types (plain_types l.ts.now) + 2

abbrev pub decreases-changed_labels : goal.decreases-changed_labels
decreases-changed_labels l = 4 * size_labels (plain_labels l.ls.now) + 2

abbrev pub decreases-changed_bounds : goal.decreases-changed_bounds
decreases-changed_bounds l = 4 * size_bounds (plain_bounds l.bs.now) + 2
