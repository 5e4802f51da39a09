-- What was filled, and then what is left, filled, is the whole row filled.
use Rattle.std.proofs.Common.{◌≡◌, true, ◌+◌, ◌-◌, ◌*◌, drop}
use Rattle.pict_types.specs.Plain.{plain, plain_record, plain_bound, plain_types, plain_bounds, plain_labels}
use Rattle.pict_types.specs.Measures.{size, size_bound, size_types, size_labels, size_bounds}
use Rattle.pict_types.specs.Replacing.{fill_types, fill_labels, fill_bounds}
use Rattle.pict_types.specs.Filling.{filling_past, put_for}
use Rattle.pict_types.proofs.Rows.{then_types, then_bounds, then_labels}
use Rattle.pict_types.proofs.fill.+fill.Given as goal

abbrev pub invariant-filled_types-loop-t : goal.invariant-filled_types-loop-t
invariant-filled_types-loop-t l =
    (then_types (plain_types l.items.items) (fill_types (filling_past l.under (put_for (plain_types l.us) l.by)) (plain_types (drop l.t-index l.ts))) ≡ fill_types (filling_past l.under (put_for (plain_types l.us) l.by)) (plain_types l.ts))
    × (l.same ≡ true → fill_types (filling_past l.under (put_for (plain_types l.us) l.by)) (plain_types (drop l.t-index l.ts)) ≡ (plain_types (drop l.t-index l.ts)) → fill_types (filling_past l.under (put_for (plain_types l.us) l.by)) (plain_types l.ts) ≡ plain_types l.ts)

abbrev pub invariant-filled_labels-loop-l : goal.invariant-filled_labels-loop-l
invariant-filled_labels-loop-l l =
    (then_labels (plain_labels l.items.items) (fill_labels (filling_past l.under (put_for (plain_types l.us) l.by)) (plain_labels (drop l.l-index l.ls))) ≡ fill_labels (filling_past l.under (put_for (plain_types l.us) l.by)) (plain_labels l.ls))
    × (l.same ≡ true → fill_labels (filling_past l.under (put_for (plain_types l.us) l.by)) (plain_labels (drop l.l-index l.ls)) ≡ (plain_labels (drop l.l-index l.ls)) → fill_labels (filling_past l.under (put_for (plain_types l.us) l.by)) (plain_labels l.ls) ≡ plain_labels l.ls)

abbrev pub invariant-filled_bounds-loop-i : goal.invariant-filled_bounds-loop-i
invariant-filled_bounds-loop-i l =
    (then_bounds (plain_bounds l.items.items) (fill_bounds (filling_past (l.under + l.i) (put_for (plain_types l.us) l.by)) (plain_bounds (drop l.i l.bs))) ≡ fill_bounds (filling_past l.under (put_for (plain_types l.us) l.by)) (plain_bounds l.bs))
    × (l.same ≡ true → fill_bounds (filling_past (l.under + l.i) (put_for (plain_types l.us) l.by)) (plain_bounds (drop l.i l.bs)) ≡ (plain_bounds (drop l.i l.bs)) → fill_bounds (filling_past l.under (put_for (plain_types l.us) l.by)) (plain_bounds l.bs) ≡ plain_bounds l.bs)

abbrev pub decreases-filled_type : goal.decreases-filled_type
decreases-filled_type l = 4 * size (plain l.t.now) + 1

abbrev pub decreases-filled_anew : goal.decreases-filled_anew
decreases-filled_anew l = 4 * size (plain l.t.now)

abbrev pub decreases-filled_record : goal.decreases-filled_record
decreases-filled_record l = 4 * size (plain_record l.r.now) - 1

abbrev pub decreases-filled_bound : goal.decreases-filled_bound
decreases-filled_bound l = 4 * size_bound (plain_bound l.b.now)

abbrev pub decreases-filled_types : goal.decreases-filled_types
decreases-filled_types l = 4 * size_types (plain_types l.ts.now) + 2

abbrev pub decreases-filled_labels : goal.decreases-filled_labels
decreases-filled_labels l = 4 * size_labels (plain_labels l.ls.now) + 2

abbrev pub decreases-filled_bounds : goal.decreases-filled_bounds
decreases-filled_bounds l = 4 * size_bounds (plain_bounds l.bs.now) + 2
