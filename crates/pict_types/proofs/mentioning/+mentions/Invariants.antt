-- What is left of a row mentions what the whole does.
use Rattle.std.proofs.Common.{◌≡◌, ◌+◌, ◌-◌, ◌*◌, drop}
use Rattle.pict_types.specs.Plain.{plain, plain_record, plain_bound, plain_types, plain_bounds, plain_labels}
use Rattle.pict_types.specs.Measures.{size, size_bound, size_types, size_labels, size_bounds}
use Rattle.pict_types.specs.Mentions.{mentions_types, mentions_labels, mentions_bounds, outside_times}
use Rattle.pict_types.specs.Among.{is_among}
use Rattle.pict_types.proofs.mentioning.+mentions.Given as goal

abbrev pub invariant-types_mention-loop-t : goal.invariant-types_mention-loop-t
invariant-types_mention-loop-t l = mentions_types (outside_times l.under (is_among l.variables)) (plain_types (drop l.t-index l.ts)) ≡ mentions_types (outside_times l.under (is_among l.variables)) (plain_types l.ts)

abbrev pub invariant-labels_mention-loop-l : goal.invariant-labels_mention-loop-l
invariant-labels_mention-loop-l l = mentions_labels (outside_times l.under (is_among l.variables)) (plain_labels (drop l.l-index l.ls)) ≡ mentions_labels (outside_times l.under (is_among l.variables)) (plain_labels l.ls)

abbrev pub invariant-bounds_mention-loop-i : goal.invariant-bounds_mention-loop-i
invariant-bounds_mention-loop-i l = mentions_bounds (outside_times (l.under + l.i) (is_among l.variables)) (plain_bounds (drop l.i l.bs)) ≡ mentions_bounds (outside_times l.under (is_among l.variables)) (plain_bounds l.bs)

abbrev pub decreases-type_mentions : goal.decreases-type_mentions
decreases-type_mentions l = 3 * size (plain l.t.now)

abbrev pub decreases-record_mentions : goal.decreases-record_mentions
decreases-record_mentions l = 3 * size (plain_record l.r.now) - 1

abbrev pub decreases-bound_mentions : goal.decreases-bound_mentions
decreases-bound_mentions l = 3 * size_bound (plain_bound l.b.now)

abbrev pub decreases-types_mention : goal.decreases-types_mention
decreases-types_mention l = 3 * size_types (plain_types l.ts.now) + 1

abbrev pub decreases-labels_mention : goal.decreases-labels_mention
decreases-labels_mention l = 3 * size_labels (plain_labels l.ls.now) + 1

abbrev pub decreases-bounds_mention : goal.decreases-bounds_mention
decreases-bounds_mention l = 3 * size_bounds (plain_bounds l.bs.now) + 1
