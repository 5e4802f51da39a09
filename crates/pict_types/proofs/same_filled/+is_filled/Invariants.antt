-- Where what is left of one row is what is left of the other filled, so is the whole.
use Rattle.std.proofs.Common.{◌≡◌, ◌+◌, ◌-◌, ◌*◌, drop, length}
use Rattle.pict_types.specs.Plain.{plain, plain_record, plain_bound, plain_types, plain_bounds, plain_labels}
use Rattle.pict_types.specs.Measures.{size, size_bound, size_types, size_labels, size_bounds}
use Rattle.pict_types.specs.Replacing.{fill_types, fill_labels, fill_bounds}
use Rattle.pict_types.specs.Filling.{filling_past, put_for}
use Rattle.pict_types.proofs.same_filled.+is_filled.Given as goal

abbrev pub invariant-are_filled-loop-i : goal.invariant-are_filled-loop-i
invariant-are_filled-loop-i l = record {
  long : length l.ts ≡ length l.vs;
  same : plain_types (drop l.i l.vs) ≡ fill_types (filling_past l.under (put_for (plain_types l.us) l.by)) (plain_types (drop l.i l.ts)) → plain_types l.vs ≡ fill_types (filling_past l.under (put_for (plain_types l.us) l.by)) (plain_types l.ts);
}

abbrev pub invariant-are_labels_filled-loop-i : goal.invariant-are_labels_filled-loop-i
invariant-are_labels_filled-loop-i l = record {
  long : length l.ls ≡ length l.ms;
  same : plain_labels (drop l.i l.ms) ≡ fill_labels (filling_past l.under (put_for (plain_types l.us) l.by)) (plain_labels (drop l.i l.ls)) → plain_labels l.ms ≡ fill_labels (filling_past l.under (put_for (plain_types l.us) l.by)) (plain_labels l.ls);
}

abbrev pub invariant-are_bounds_filled-loop-i : goal.invariant-are_bounds_filled-loop-i
invariant-are_bounds_filled-loop-i l = record {
  long : length l.bs ≡ length l.ds;
  same : plain_bounds (drop l.i l.ds) ≡ fill_bounds (filling_past (l.under + l.i) (put_for (plain_types l.us) l.by)) (plain_bounds (drop l.i l.bs)) → plain_bounds l.ds ≡ fill_bounds (filling_past l.under (put_for (plain_types l.us) l.by)) (plain_bounds l.bs);
}

abbrev pub decreases-is_filled : goal.decreases-is_filled
decreases-is_filled l = 3 * size (plain l.t.now)

abbrev pub decreases-is_record_filled : goal.decreases-is_record_filled
decreases-is_record_filled l = 3 * size (plain_record l.r.now) - 1

abbrev pub decreases-is_bound_filled : goal.decreases-is_bound_filled
decreases-is_bound_filled l = 3 * size_bound (plain_bound l.b.now)

abbrev pub decreases-are_filled : goal.decreases-are_filled
decreases-are_filled l = 3 * size_types (plain_types l.ts.now) + 1

abbrev pub decreases-are_labels_filled : goal.decreases-are_labels_filled
decreases-are_labels_filled l = 3 * size_labels (plain_labels l.ls.now) + 1

abbrev pub decreases-are_bounds_filled : goal.decreases-are_bounds_filled
decreases-are_bounds_filled l = 3 * size_bounds (plain_bounds l.bs.now) + 1
