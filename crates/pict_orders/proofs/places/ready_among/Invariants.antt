use Rattle.std.proofs.Common.{◌≡◌, map, drop, filter}
use Rattle.std.specs.List.{slice_get}
use Rattle.pict_core.specs.Step.{is_ready}
use Rattle.pict_shared.specs.Plain.{plain_held}
use Rattle.pict_orders.proofs.places.ready_among.Given as goal

abbrev pub invariant-loop-entry : goal.invariant-loop-entry
invariant-loop-entry l = slice_get (filter is_ready (map plain_held (drop l.entry-index l.entries))) l.left ≡ slice_get (filter is_ready (map plain_held l.entries)) l.i
