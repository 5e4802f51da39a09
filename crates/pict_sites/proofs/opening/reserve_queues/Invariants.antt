use Rattle.std.proofs.Common.{ℕ, ◌≡◌, ◌≤◌, ◌<◌, length, Some, slice_get}
use Rattle.pict_queue.specs.QueuesState.{QueuesState}
use Rattle.pict_sites.proofs.opening.reserve_queues.Given as goal

abbrev pub invariant-loop-s : goal.invariant-loop-s
invariant-loop-s l = record {
  count : length l.sites ≡ length l.fn.sites;
  same : (t : ℕ) (q : QueuesState) → slice_get l.sites t ≡ Some q → (p : QueuesState) × (slice_get l.fn.sites t ≡ Some p) × (q ≡ record p { spare_queues = q.spare_queues });
  room : (t : ℕ) (q : QueuesState) → t < l.s → slice_get l.sites t ≡ Some q → 1 ≤ q.spare_queues;
}
