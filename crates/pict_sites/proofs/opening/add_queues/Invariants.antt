use Rattle.std.proofs.Common.{ℕ, ◌≡◌, ◌≤◌, ◌<◌, length, Some, slice_get}
use Rattle.pict_queue.specs.QueuesState.{QueuesState}
use Rattle.pict_sites.specs.Passing.{GainsQueue}
use Rattle.pict_sites.proofs.opening.add_queues.Given as goal

abbrev pub invariant-loop-s : goal.invariant-loop-s
invariant-loop-s l = record {
  count : length l.sites ≡ length l.fn.sites;
  done : (t : ℕ) (q : QueuesState) → t < l.s → slice_get l.sites t ≡ Some q → (p : QueuesState) × (slice_get l.fn.sites t ≡ Some p) × GainsQueue p q;
  rest : (t : ℕ) (q : QueuesState) → l.s ≤ t → slice_get l.sites t ≡ Some q → slice_get l.fn.sites t ≡ Some q;
}
