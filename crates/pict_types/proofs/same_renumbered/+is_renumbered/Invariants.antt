-- Where what is left of one row is what is left of the other renumbered, so is the whole.
use Rattle.std.proofs.Common.{◌≡◌, ◌+◌, ◌-◌, ◌*◌, drop, length}
use Rattle.pict_types.specs.Plain.{plain, plain_record, plain_bound, plain_types, plain_bounds, plain_labels}
use Rattle.pict_types.specs.Measures.{size, size_bound, size_types, size_labels, size_bounds}
use Rattle.pict_types.specs.Renaming.{beyond_times, rename_types, rename_labels, rename_bounds}
use Rattle.pict_types.specs.Renumbering.{renumbered}
use Rattle.pict_types.proofs.same_renumbered.+is_renumbered.Given as goal

abbrev pub invariant-are_renumbered-loop-i : goal.invariant-are_renumbered-loop-i
invariant-are_renumbered-loop-i l = record {
  long : length l.ts ≡ length l.us;
  same : plain_types (drop l.i l.us) ≡ rename_types (beyond_times l.from (renumbered l.how)) (plain_types (drop l.i l.ts)) → plain_types l.us ≡ rename_types (beyond_times l.from (renumbered l.how)) (plain_types l.ts);
}

abbrev pub invariant-are_labels_renumbered-loop-i : goal.invariant-are_labels_renumbered-loop-i
invariant-are_labels_renumbered-loop-i l = record {
  long : length l.ls ≡ length l.ms;
  same : plain_labels (drop l.i l.ms) ≡ rename_labels (beyond_times l.from (renumbered l.how)) (plain_labels (drop l.i l.ls)) → plain_labels l.ms ≡ rename_labels (beyond_times l.from (renumbered l.how)) (plain_labels l.ls);
}

abbrev pub invariant-are_bounds_renumbered-loop-i : goal.invariant-are_bounds_renumbered-loop-i
invariant-are_bounds_renumbered-loop-i l = record {
  long : length l.bs ≡ length l.ds;
  same : plain_bounds (drop l.i l.ds) ≡ rename_bounds (beyond_times (l.from + l.i) (renumbered l.how)) (plain_bounds (drop l.i l.bs)) → plain_bounds l.ds ≡ rename_bounds (beyond_times l.from (renumbered l.how)) (plain_bounds l.bs);
}

abbrev pub decreases-is_renumbered : goal.decreases-is_renumbered
decreases-is_renumbered l = 3 * size (plain l.t.now)

abbrev pub decreases-is_record_renumbered : goal.decreases-is_record_renumbered
decreases-is_record_renumbered l = 3 * size (plain_record l.r.now) - 1

abbrev pub decreases-is_bound_renumbered : goal.decreases-is_bound_renumbered
decreases-is_bound_renumbered l = 3 * size_bound (plain_bound l.b.now)

abbrev pub decreases-are_renumbered : goal.decreases-are_renumbered
decreases-are_renumbered l = 3 * size_types (plain_types l.ts.now) + 1

abbrev pub decreases-are_labels_renumbered : goal.decreases-are_labels_renumbered
decreases-are_labels_renumbered l = 3 * size_labels (plain_labels l.ls.now) + 1

abbrev pub decreases-are_bounds_renumbered : goal.decreases-are_bounds_renumbered
decreases-are_bounds_renumbered l = 3 * size_bounds (plain_bounds l.bs.now) + 1
