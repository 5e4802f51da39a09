use Rattle.std.proofs.Common.{◌≡◌, ◌+◌, length}
use Rattle.pict_queue.specs.QueuesState.{IsQueue, queue_blocks}
use Rattle.pict_machine_tests.proofs.queues.drain.Given as goal

abbrev pub invariant-loop : goal.invariant-loop
invariant-loop l = record {
  queue : IsQueue l.queues l.q.0;
  known : l.length ≡ length (queue_blocks l.fn.queues l.q.0);
  left : length (queue_blocks l.queues l.q.0) + l.counter ≡ l.length;
}
