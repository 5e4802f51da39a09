use Rattle.std.proofs.Common.{◌≤◌, map, drop}
use Rattle.pict_shared.specs.Plain.{plain_held}
use Rattle.pict_orders.specs.Settling.{goes_alone}
use Rattle.pict_orders.proofs.Scanning.{Scan}
use Rattle.pict_orders.proofs.settling.first_alone.Given as goal

abbrev pub invariant-loop-entry : goal.invariant-loop-entry
invariant-loop-entry l = record {
  scan : Scan goes_alone (map plain_held l.entries) (map plain_held (drop l.entry-index l.entries)) l.count;
  few : l.count ≤ l.entry-index;
}
