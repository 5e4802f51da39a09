use Rattle.std.proofs.Common.{◌≡◌, ◌≤◌, length}
use Rattle.pict_core.specs.Term.{Process}
use Rattle.pict_core.specs.Closed.{IsClosed}
use Rattle.pict_orders.specs.Found.{vertices, IsSearch}
use Rattle.pict_orders.specs.Going.{IsReadyAt}
use Rattle.pict_orders.proofs.Going.{TriedSoFar}
use Rattle.pict_orders.proofs.search.Search.expand_at.Given as goal

abbrev pub invariant-loop-partner : goal.invariant-loop-partner
invariant-loop-partner l = record {
  limit : l.self.limit ≡ l.fn.self.limit;
  grows : length l.fn.self.found.items ≤ length l.self.found.items;
  few : length l.fn.self.found.items ≤ l.fn.self.limit → length l.self.found.items ≤ l.fn.self.limit;
  tried : (p : Process) → IsClosed p → IsSearch p (vertices l.fn.self.found.items) l.fn.self.traps.items
      → IsReadyAt (vertices l.fn.self.found.items) l.number l.ready → TriedSoFar p l.fn.self l.self l.number l.ready l.partner;
}
