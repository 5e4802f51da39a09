use Rattle.std.proofs.Common.{◌≤◌, map, drop}
use Rattle.pict_shared.specs.Plain.{plain_held}
use Rattle.pict_reduction.specs.Silent.{is_silent}
use Rattle.pict_orders.proofs.Scanning.{Scan}
use Rattle.pict_orders.proofs.settling.first_silent.Given as goal

abbrev pub invariant-loop-entry : goal.invariant-loop-entry
invariant-loop-entry l = record {
  scan : Scan (is_silent (map plain_held l.entries)) (map plain_held l.entries) (map plain_held (drop l.entry-index l.entries)) l.count;
  few : l.count ≤ l.entry-index;
}
