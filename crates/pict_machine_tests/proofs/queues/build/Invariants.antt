use Rattle.std.proofs.Common.{◌≡◌, ◌+◌, ◌≤◌, length}
use Rattle.pict_region.specs.RegionState.{spare}
use Rattle.pict_queue.specs.QueuesState.{IsQueue, queue_blocks}
use Rattle.pict_machine_tests.proofs.queues.build.Given as goal

abbrev pub invariant-loop : goal.invariant-loop
invariant-loop l = record {
  queue : IsQueue l.queues l.q.0;
  spare_left : l.n ≤ spare l.queues.region 2 + l.counter;
  longer : length (queue_blocks l.queues l.q.0) ≡ length (queue_blocks l.fn.queues l.q.0) + l.counter;
}
