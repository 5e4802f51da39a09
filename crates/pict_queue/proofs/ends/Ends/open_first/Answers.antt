use Rattle.std.proofs.Common.{sym, ◌∙◌, ◌<◌, get_or, ap, subst, arith}
use Rattle.pict_region.specs.RegionState.{IsLive, words_of, width_of}
use Rattle.pict_queue.specs.declared.ends.Queue.{Queue}
use Rattle.pict_queue.proofs.Costs.{raised_least}
use Rattle.pict_queue.proofs.Tables.{read_at}
use Rattle.pict_queue.proofs.ends.Ends.open_first.Goals as goal

pub open-requires-clause-live : goal.open-requires-clause-live
open-requires-clause-live c =
    let is = read_at c.args.self.now.queues.items c.args.number c.index-queue.result.now c.requires.queue c.index-queue.ensures in
    subst (λ (q : Queue). IsLive c.args.region.now q.first) (sym is) c.requires.live

pub returns-clause-queue : goal.returns-clause-queue
returns-clause-queue c = read_at c.args.self.now.queues.items c.args.number c.index-queue.result.now c.requires.queue c.index-queue.ensures

pub returns-clause-token : goal.returns-clause-token
returns-clause-token c =
    let is = read_at c.args.self.now.queues.items c.args.number c.index-queue.result.now c.requires.queue c.index-queue.ensures in
    c.open.ensures.token ∙ ap (λ (q : Queue). q.first) is

pub returns-clause-least : goal.returns-clause-least
returns-clause-least c = omega (arith, raised_least c.args.region.now.work, ap (λ r. r.work) c.open.ensures.rest)

pub open-requires-clause-wide : goal.open-requires-clause-wide
open-requires-clause-wide c =
    let is = read_at c.args.self.now.queues.items c.args.number c.index-queue.result.now c.requires.queue c.index-queue.ensures in
    subst (λ (q : Queue). 1 < width_of c.args.region.now q.first) (sym is) c.requires.wide

pub returns-clause-link : goal.returns-clause-link
returns-clause-link c =
    let is = read_at c.args.self.now.queues.items c.args.number c.index-queue.result.now c.requires.queue c.index-queue.ensures in
    c.open.ensures.first ∙ ap (λ (q : Queue). get_or (words_of c.args.region.now q.first) 0 0) is

pub returns-clause-word : goal.returns-clause-word
returns-clause-word c =
    let is = read_at c.args.self.now.queues.items c.args.number c.index-queue.result.now c.requires.queue c.index-queue.ensures in
    c.open.ensures.second ∙ ap (λ (q : Queue). get_or (words_of c.args.region.now q.first) 1 0) is
