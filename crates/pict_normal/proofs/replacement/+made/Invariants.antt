-- What was made, and then what is left, replaced, is the whole row replaced.
use Rattle.std.proofs.Common.{◌≡◌, ◌+◌, ◌-◌, ◌*◌, drop}
use Rattle.pict_normal.specs.Made.{IsRow, only_used}
use Rattle.pict_types.specs.Measures.{size, size_bound, size_types, size_labels, size_bounds, weigh_types, weigh_labels, rise_types, rise_labels}
use Rattle.pict_types.specs.Plain.{plain, plain_record, plain_bound, plain_types, plain_bounds, plain_labels}
use Rattle.pict_normal.specs.Putting.{weights_in, heights_in, replacement_in}
use Rattle.pict_types.specs.Replacing.{replace_types, replace_labels}
use Rattle.pict_normal.proofs.Arguing.{ArgumentsSoFar}
use Rattle.pict_normal.proofs.Bounding.{BoundsSoFar}
use Rattle.pict_normal.proofs.Parts.{WeightSoFar}
use Rattle.pict_types.proofs.Rows.{then_types, then_labels}
use Rattle.pict_normal.proofs.replacement.+made.Given as goal

abbrev pub invariant-made_types-loop-t : goal.invariant-made_types-loop-t
invariant-made_types-loop-t l = record {
  row : IsRow (λ xs. then_types (plain_types xs) (replace_types (replacement_in l.puts l.fn.inner.items) (plain_types (drop l.t-index l.ts)))) l.row (weigh_types (weights_in l.puts l.fn.inner.items) (replace_types (replacement_in l.puts l.fn.inner.items) (plain_types l.ts))) (weigh_types (weights_in l.puts l.fn.inner.items) (replace_types (replacement_in l.puts l.fn.inner.items) (plain_types (drop l.t-index l.ts)))) (rise_types (heights_in l.puts l.fn.inner.items) (replace_types (replacement_in l.puts l.fn.inner.items) (plain_types l.ts))) (rise_types (heights_in l.puts l.fn.inner.items) (replace_types (replacement_in l.puts l.fn.inner.items) (plain_types (drop l.t-index l.ts)))) (replace_types (replacement_in l.puts l.fn.inner.items) (plain_types l.ts));
  inner : l.inner.items ≡ l.fn.inner.items;
}

abbrev pub invariant-made_labels-loop-l : goal.invariant-made_labels-loop-l
invariant-made_labels-loop-l l = record {
  row : IsRow (λ xs. then_labels (plain_labels xs) (replace_labels (replacement_in l.puts l.fn.inner.items) (plain_labels (drop l.l-index l.ls)))) l.row (weigh_labels (weights_in l.puts l.fn.inner.items) (replace_labels (replacement_in l.puts l.fn.inner.items) (plain_labels l.ls))) (weigh_labels (weights_in l.puts l.fn.inner.items) (replace_labels (replacement_in l.puts l.fn.inner.items) (plain_labels (drop l.l-index l.ls)))) (rise_labels (heights_in l.puts l.fn.inner.items) (replace_labels (replacement_in l.puts l.fn.inner.items) (plain_labels l.ls))) (rise_labels (heights_in l.puts l.fn.inner.items) (replace_labels (replacement_in l.puts l.fn.inner.items) (plain_labels (drop l.l-index l.ls)))) (replace_labels (replacement_in l.puts l.fn.inner.items) (plain_labels l.ls));
  inner : l.inner.items ≡ l.fn.inner.items;
}

abbrev pub invariant-made_arguments-loop-k : goal.invariant-made_arguments-loop-k
invariant-made_arguments-loop-k l = record {
  args : ArgumentsSoFar (weights_in l.puts l.fn.inner.items) (heights_in l.puts l.fn.inner.items) l.args (only_used l.used (replace_types (replacement_in l.puts l.fn.inner.items) (plain_types l.ts))) (only_used l.used (replace_types (replacement_in l.puts l.fn.inner.items) (plain_types (drop l.k l.ts))));
  weight : WeightSoFar l.puts l.fn.inner.items l.used (plain_types l.ts) (plain_types (drop l.k l.ts)) l.together.weight;
  inner : l.inner.items ≡ l.fn.inner.items;
}

abbrev pub invariant-made_bounds-loop-b : goal.invariant-made_bounds-loop-b
invariant-made_bounds-loop-b l = BoundsSoFar l.puts l.fn.inner.items l.inner.items (plain_bounds l.bs) (plain_bounds (drop l.b-index l.bs)) l.row

abbrev pub decreases-made_type : goal.decreases-made_type
decreases-made_type l = 4 * size (plain l.t.now)

abbrev pub decreases-made_apply : goal.decreases-made_apply
decreases-made_apply l = 4 * size_types (plain_types l.ts.now) + 3

abbrev pub decreases-made_arguments : goal.decreases-made_arguments
decreases-made_arguments l = 4 * size_types (plain_types l.ts.now) + 2

abbrev pub decreases-made_argument : goal.decreases-made_argument
decreases-made_argument l = 4 * size (plain l.t.now) + 1

abbrev pub decreases-made_types : goal.decreases-made_types
decreases-made_types l = 4 * size_types (plain_types l.ts.now) + 1

abbrev pub decreases-made_labels : goal.decreases-made_labels
decreases-made_labels l = 4 * size_labels (plain_labels l.ls.now) + 1

abbrev pub decreases-made_bound : goal.decreases-made_bound
decreases-made_bound l = 4 * size_bound (plain_bound l.b.now)

abbrev pub decreases-made_bounds : goal.decreases-made_bounds
decreases-made_bounds l = 4 * size_bounds (plain_bounds l.bs.now) + 1

abbrev pub decreases-made_record : goal.decreases-made_record
decreases-made_record l = 4 * size (plain_record l.r.now) - 1
