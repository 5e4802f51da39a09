use Rattle.std.proofs.Common.{sym, ◌∙◌, subst}
use Rattle.pict_queue.specs.QueuesState.{HasEachBlockOnce}
use Rattle.pict_queue.proofs.Orders.{once_seen}
use Rattle.pict_queue.proofs.Calls.{queue_there, list_length}
use Rattle.pict_queue.proofs.queues.Queues.length.Goals as goal

pub length-requires : goal.length-requires
length-requires c = queue_there c.self.inside _ c.args.q.0 c.self.view_is c.requires

pub returns-clause-value : goal.returns-clause-value
returns-clause-value c = c.length.ensures ∙ sym (list_length c.self.inside _ c.args.q.0 c.self.view_is)

pub returns-clause-once : goal.returns-clause-once
returns-clause-once c = subst HasEachBlockOnce c.self.view_is (once_seen c.self.inside c.self.invariant.threaded)
