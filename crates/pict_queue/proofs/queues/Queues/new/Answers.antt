use Rattle.std.proofs.Common.{sym, subst, arith}
use Rattle.pict_queue.specs.Threads.{IsThreaded}
use Rattle.pict_queue.proofs.Orders.{threaded_none}
use Rattle.pict_queue.proofs.queues.Queues.new.Goals as goal

pub invariant_of-result : goal.invariant_of-result
invariant_of-result c = record {
  threaded = subst (IsThreaded c.new.result) (sym c.new-2.ensures.items) (threaded_none c.new.result c.new.ensures.live);
  room = omega (arith, c.new-2.ensures.len);
}
