use Rattle.std.proofs.Common.{ℕ, ◌*◌, ◌∙◌, drop, length, take, refl, sym, ap, subst, arith}
use Rattle.pict_region.specs.RegionState.{RegionState, IsLive, words_of, width_of}
use Rattle.pict_queue.specs.Ends.{queue_in}
use Rattle.pict_queue.proofs.Orders.{live_kept}
use Rattle.pict_queue.proofs.Calls.{first_there, queue_there, sees_first}
use Rattle.pict_queue.proofs.queues.Queues.scatter_first.Goals as goal

pub first-block-requires-clause-queue : goal.first-block-requires-clause-queue
first-block-requires-clause-queue c = queue_there c.self.inside _ c.args.q.0 c.self.view_is c.requires.queue

pub first-block-requires-clause-live : goal.first-block-requires-clause-live
first-block-requires-clause-live c = (first_there c.self.inside _ c.args.q.0 c.self.view_is c.self.invariant c.requires.queue c.requires.some).live

pub read_words-requires-clause-live : goal.read_words-requires-clause-live
read_words-requires-clause-live c =
    let sees = sees_first c.self.inside _ c.args.q.0 (queue_in c.self.inside.ends.queues.items c.args.q.0) c.self.view_is c.self.invariant c.requires.queue refl c.requires.some in
    subst (λ (r : RegionState). IsLive r c.first-block.result.1) (sym c.first-block.ensures.rest) (subst (IsLive c.self.inside.region) (sym c.first-block.ensures.token) sees.live)

pub read_words-requires-clause-inside : goal.read_words-requires-clause-inside
read_words-requires-clause-inside c =
    let sees = sees_first c.self.inside _ c.args.q.0 (queue_in c.self.inside.ends.queues.items c.args.q.0) c.self.view_is c.self.invariant c.requires.queue refl c.requires.some in
    omega (arith, sees.wide, c.requires.inside, ap (λ (r : RegionState). width_of r c.first-block.result.1) c.first-block.ensures.rest, ap (width_of c.self.inside.region) c.first-block.ensures.token)

pub invariant_of-self : goal.invariant_of-self
invariant_of-self c = record {
  threaded = (live_kept c.self.inside.region c.read_words.new.region c.self.inside.ends.queues.items c.self.invariant.threaded (ap (λ (r : RegionState). r.live) c.read_words.ensures.rest ∙ ap (λ (r : RegionState). r.live) c.first-block.ensures.rest)).threaded;
  room = c.self.invariant.room;
}

pub returns-clause-words : goal.returns-clause-words
returns-clause-words c =
    let sees = sees_first c.self.inside _ c.args.q.0 (queue_in c.self.inside.ends.queues.items c.args.q.0) c.self.view_is c.self.invariant c.requires.queue refl c.requires.some in
    c.read_words.ensures.words
    ∙ ap (λ (r : RegionState). take (2 * length c.args.indices.now) (drop c.args.first (words_of r c.first-block.result.1))) c.first-block.ensures.rest
    ∙ ap (λ (n : ℕ). take (2 * length c.args.indices.now) (drop c.args.first (words_of c.self.inside.region n))) c.first-block.ensures.token
    ∙ ap (take (2 * length c.args.indices.now)) (sees.words c.args.first c.requires.behind_link)
