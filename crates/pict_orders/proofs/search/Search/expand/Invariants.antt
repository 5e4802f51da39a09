use Rattle.std.proofs.Common.{◌≡◌, ◌≤◌, length}
use Rattle.pict_core.specs.Term.{Process}
use Rattle.pict_core.specs.Closed.{IsClosed}
use Rattle.pict_orders.specs.Found.{vertices, IsSearch}
use Rattle.pict_orders.proofs.Going.{ExpandedSoFar}
use Rattle.pict_orders.proofs.search.Search.expand.Given as goal

abbrev pub invariant-loop-ready : goal.invariant-loop-ready
invariant-loop-ready l = record {
  limit : l.self.limit ≡ l.fn.self.limit;
  grows : length l.fn.self.found.items ≤ length l.self.found.items;
  few : length l.fn.self.found.items ≤ l.fn.self.limit → length l.self.found.items ≤ l.fn.self.limit;
  expanded : (p : Process) → IsClosed p → IsSearch p (vertices l.fn.self.found.items) l.fn.self.traps.items
      → ExpandedSoFar p l.fn.self l.self l.number l.ready;
}
