-- What was measured, and then what is left, measures what the whole does.
use Rattle.std.proofs.Common.{◌≡◌, ◌+◌, ◌*◌, ◌<◌, ◌^◌, max, drop, take, map, reverse, ◌++◌}
use Rattle.pict_types.specs.Measures.{held, weigh_types, weigh_labels, rise_types, rise_labels, size, size_bound, size_types, size_labels, size_bounds}
use Rattle.pict_types.specs.Plain.{plain, plain_bound, plain_types, plain_bounds, plain_labels}
use Rattle.pict_types.specs.Around.{around_weights, around_heights, weigh_parts, rise_parts}
use Rattle.pict_types.proofs.measure.+measure.Given as goal

abbrev pub decreases-measure : goal.decreases-measure
decreases-measure l = 4 * size (plain l.t.now)

abbrev pub decreases-measure_bound : goal.decreases-measure_bound
decreases-measure_bound l = 4 * size_bound (plain_bound l.b.now)

abbrev pub decreases-measure_types : goal.decreases-measure_types
decreases-measure_types l = 4 * size_types (plain_types l.ts.now) + 1

abbrev pub decreases-measure_labels : goal.decreases-measure_labels
decreases-measure_labels l = 4 * size_labels (plain_labels l.ls.now) + 1

abbrev pub decreases-measure_record : goal.decreases-measure_record
decreases-measure_record l = 4 * (size_bounds (plain_bounds l.binders.now) + size_types (plain_types l.r.now.positional.items) + size_labels (plain_labels l.r.now.labelled.items)) + 3

abbrev pub decreases-measure_block : goal.decreases-measure_block
decreases-measure_block l = 4 * (size_bounds (plain_bounds l.binders.now) + size_types (plain_types l.r.now.positional.items) + size_labels (plain_labels l.r.now.labelled.items)) + 2

abbrev pub invariant-measure_types-loop-t : goal.invariant-measure_types-loop-t
invariant-measure_types-loop-t l = record {
  weight : held (l.all.weight + weigh_types (around_weights l.around) (plain_types (drop l.t-index l.ts))) ≡ held (weigh_types (around_weights l.around) (plain_types l.ts));
  height : held (max l.all.height (rise_types (around_heights l.around) (plain_types (drop l.t-index l.ts)))) ≡ held (rise_types (around_heights l.around) (plain_types l.ts));
  weight_fits : l.all.weight < 2 ^ 64;
  height_fits : l.all.height < 2 ^ 64;
}

abbrev pub invariant-measure_labels-loop-l : goal.invariant-measure_labels-loop-l
invariant-measure_labels-loop-l l = record {
  weight : held (l.all.weight + weigh_labels (around_weights l.around) (plain_labels (drop l.l-index l.ls))) ≡ held (weigh_labels (around_weights l.around) (plain_labels l.ls));
  height : held (max l.all.height (rise_labels (around_heights l.around) (plain_labels (drop l.l-index l.ls)))) ≡ held (rise_labels (around_heights l.around) (plain_labels l.ls));
  weight_fits : l.all.weight < 2 ^ 64;
  height_fits : l.all.height < 2 ^ 64;
}

abbrev pub invariant-measure_block-loop-k : goal.invariant-measure_block-loop-k
invariant-measure_block-loop-k l = record {
  weight : held (l.all.weight + weigh_parts (reverse (map (λ m. m.weight) (take l.k l.known)) ++ around_weights l.around) (plain_bounds (drop l.k l.binders)) (plain_types l.r.positional.items) (plain_labels l.r.labelled.items)) ≡ held (weigh_parts (around_weights l.around) (plain_bounds l.binders) (plain_types l.r.positional.items) (plain_labels l.r.labelled.items));
  height : held (max l.all.height (rise_parts (reverse (map (λ m. m.height) (take l.k l.known)) ++ around_heights l.around) (plain_bounds (drop l.k l.binders)) (plain_types l.r.positional.items) (plain_labels l.r.labelled.items))) ≡ held (rise_parts (around_heights l.around) (plain_bounds l.binders) (plain_types l.r.positional.items) (plain_labels l.r.labelled.items));
  weight_fits : l.all.weight < 2 ^ 64;
  height_fits : l.all.height < 2 ^ 64;
}
