use Rattle.std.proofs.Common.{sym, ◌∙◌, ap, subst, arith}
use Rattle.pict_region.specs.RegionState.{IsLive}
use Rattle.pict_queue.specs.declared.ends.Queue.{Queue}
use Rattle.pict_queue.proofs.Costs.{raised_least}
use Rattle.pict_queue.proofs.Tables.{read_at}
use Rattle.pict_queue.proofs.ends.Ends.first.Goals as goal

pub block-token-requires : goal.block-token-requires
block-token-requires c =
    let is = read_at c.args.self.now.queues.items c.args.number c.index-queue.result.now c.requires.queue c.index-queue.ensures in
    subst (λ (q : Queue). IsLive c.args.region.now q.first) (sym is) c.requires.live

pub returns-clause-queue : goal.returns-clause-queue
returns-clause-queue c = read_at c.args.self.now.queues.items c.args.number c.index-queue.result.now c.requires.queue c.index-queue.ensures

pub returns-clause-token : goal.returns-clause-token
returns-clause-token c =
    let is = read_at c.args.self.now.queues.items c.args.number c.index-queue.result.now c.requires.queue c.index-queue.ensures in
    c.block-token.ensures.token ∙ ap (λ (q : Queue). q.first) is

pub returns-clause-least : goal.returns-clause-least
returns-clause-least c = omega (arith, raised_least c.args.region.now.work, ap (λ r. r.work) c.block-token.ensures.rest)
