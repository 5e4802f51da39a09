use Rattle.std.proofs.Common.{arith}
use Rattle.pict_queue.proofs.Costs.{raised_least}
use Rattle.pict_queue.proofs.queues.set_link.Goals as goal

pub returns-clause-least : goal.returns-clause-least
returns-clause-least c = omega (arith, raised_least c.args.region.now.work, c.set.ensures.work)
