use Rattle.std.proofs.Common.{refl, ◌∙◌, ap, ◌≢◌, ◌≡◌, ℕ}
use Rattle.std.proofs.lemmas.Bool.{both_ways}
use Rattle.std.specs.Option.{is_some}
use Rattle.std.specs.FinMap.{get}
use Rattle.pict_region.proofs.Uses.{get_removed, get_remove_apart}
use Rattle.pict_queue.specs.declared.queues.Queues.TheInside.{Inside}
use Rattle.pict_queue.proofs.Orders.{once_seen, apart_if_held, ThreadsStay, apart_changed}
use Rattle.pict_queue.proofs.Calls.{lists_kept}
use Rattle.pict_queue.specs.Threads.{queues_state}
use Rattle.pict_queue.proofs.Kept.{contents_beside, held_beside, one_more_beside, released_if_gone}
use Rattle.pict_queue.proofs.queues.Queues.scatter_and_give.Goals as goal

after : (c : goal.After-values-1) → Inside
after c = record { region = c.scatter_and_give.new.self; ends = c.self.inside.ends; spare = c.self.inside.spare }

stays : (c : goal.After-values-1) → ThreadsStay c.self.inside.region c.scatter_and_give.new.self c.self.inside.ends.queues.items
stays c =
    let gone = ap (λ m. get m c.args.b) c.scatter_and_give.ensures.live ∙ get_removed c.self.inside.region.live c.args.b in
    apart_changed c.self.inside.region c.scatter_and_give.new.self c.self.inside.ends.queues.items c.args.b c.self.invariant.threaded
    (apart_if_held c.self.inside _ c.args.b c.self.view_is c.requires.held).absent
    (λ other apart. ap (λ m. get m other) c.scatter_and_give.ensures.live ∙ get_remove_apart c.self.inside.region.live c.args.b other apart)
    (λ live. absurd (both_ways (is_some (get c.scatter_and_give.new.self.live c.args.b)) (ap is_some gone) live))

pub invariant_of-self : goal.invariant_of-self
invariant_of-self c = record { threaded = (stays c).threaded; room = c.self.invariant.room }

pub returns-clause-lists : goal.returns-clause-lists
unfolding after
returns-clause-lists c = lists_kept c.self.inside (after c) _ c.self.view_is refl (stays c)

pub returns-clause-once : goal.returns-clause-once
unfolding after
returns-clause-once c = once_seen (after c) (stays c).threaded

others : (c : goal.After-values-1) (other : ℕ) → other ≢ c.args.b → get c.scatter_and_give.new.self.live other ≡ get c.args.self.now.region.live other
others c other apart =
    ap (λ m. get m other) c.scatter_and_give.ensures.live ∙ get_remove_apart c.self.inside.region.live c.args.b other apart
    ∙ ap (λ s. get s.region.live other) c.self.view_is

pub returns-clause-contents : goal.returns-clause-contents
unfolding after
returns-clause-contents c = contents_beside c.args.self.now (queues_state (after c)) c.args.b (others c) (returns-clause-lists c) c.requires.held.apart

pub returns-clause-kept : goal.returns-clause-kept
unfolding after
returns-clause-kept c = held_beside c.args.self.now (queues_state (after c)) c.args.b (others c) (returns-clause-lists c)

pub returns-clause-gone : goal.returns-clause-gone
unfolding after
returns-clause-gone c =
    released_if_gone c.args.self.now (queues_state (after c)) c.args.b
    (ap (λ m. get m c.args.b) c.scatter_and_give.ensures.live ∙ get_removed c.self.inside.region.live c.args.b)
    (one_more_beside c.args.self.now (queues_state (after c)) c.args.b (others c) (returns-clause-lists c))
