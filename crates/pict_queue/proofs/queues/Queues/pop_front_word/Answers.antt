use Rattle.std.proofs.Common.{subst, arith}
use Rattle.pict_queue.specs.QueuesState.{HasEachBlockOnce}
use Rattle.pict_queue.proofs.Orders.{once_seen}
use Rattle.pict_queue.proofs.Calls.{queue_there, list_length}
use Rattle.pict_queue.proofs.queues.Queues.pop_front_word.Goals as goal

pub length-requires : goal.length-requires
length-requires c = queue_there c.self.inside _ c.args.q.0 c.self.view_is c.requires

pub pop_word-requires-clause-some : goal.pop_word-requires-clause-some
pop_word-requires-clause-some c = omega (arith, c.if-length-eq0.false, c.length.ensures, list_length c.self.inside _ c.args.q.0 c.self.view_is)

pub returns-then-length-eq0-clause-once : goal.returns-then-length-eq0-clause-once
returns-then-length-eq0-clause-once c = subst HasEachBlockOnce c.self.view_is (once_seen c.self.inside c.self.invariant.threaded)
