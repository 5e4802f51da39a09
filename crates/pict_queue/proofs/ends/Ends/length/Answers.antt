use Rattle.std.proofs.Common.{ap}
use Rattle.pict_queue.specs.declared.ends.Queue.{Queue}
use Rattle.pict_queue.proofs.Tables.{read_at}
use Rattle.pict_queue.proofs.ends.Ends.length.Goals as goal

pub returns : goal.returns
returns c = ap (λ (q : Queue). q.length) (read_at c.args.self.now.queues.items c.args.number c.index.result.now c.requires c.index.ensures)
