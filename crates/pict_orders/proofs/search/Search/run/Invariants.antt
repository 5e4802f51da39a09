use Rattle.std.proofs.Common.{◌≡◌, ◌≤◌, length}
use Rattle.pict_core.specs.Term.{Process}
use Rattle.pict_core.specs.Closed.{IsClosed}
use Rattle.pict_orders.specs.Found.{vertices, IsSearch}
use Rattle.pict_orders.proofs.Going.{RunSoFar}
use Rattle.pict_orders.proofs.search.Search.run.Given as goal

abbrev pub invariant-loop-number : goal.invariant-loop-number
invariant-loop-number l = record {
  limit : l.self.limit ≡ l.fn.self.limit;
  some : l.number ≤ length l.self.found.items;
  few : length l.fn.self.found.items ≤ l.fn.self.limit → length l.self.found.items ≤ l.fn.self.limit;
  run : (p : Process) → IsClosed p → IsSearch p (vertices l.fn.self.found.items) l.fn.self.traps.items → RunSoFar p l.fn.self l.self l.number;
}
