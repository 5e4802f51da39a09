use Rattle.std.proofs.Common.{◌≡◌, ◌+◌, ◌≤◌, map, drop, filter, length}
use Rattle.pict_core.specs.Step.{is_ready}
use Rattle.pict_shared.specs.Plain.{plain_held}
use Rattle.pict_orders.proofs.places.count_ready.Given as goal

abbrev pub invariant-loop-entry : goal.invariant-loop-entry
invariant-loop-entry l = record {
  counts : length (filter is_ready (map plain_held l.entries)) ≡ l.count + length (filter is_ready (map plain_held (drop l.entry-index l.entries)));
  few : l.count ≤ l.entry-index;
}
