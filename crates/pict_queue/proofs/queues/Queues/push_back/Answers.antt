use Rattle.std.proofs.Common.{ℕ, ◌≡◌, ◌+◌, length, set, sym, ◌∙◌, ap, refl, subst, arith}
use Rattle.pict_region.specs.RegionState.{RegionState, IsLive, words_of, width_of}
use Rattle.std.specs.FinMap.{insert}
use Rattle.pict_queue.specs.Ends.{queue_in, ends_of}
use Rattle.pict_queue.specs.declared.ends.Queue.{Queue}
use Rattle.pict_queue.specs.declared.queues.Queues.TheInside.{Inside}
use Rattle.pict_queue.proofs.Orders.{ends_length}
use Rattle.pict_queue.proofs.Calls.{ends_found, held_small, queue_there}
use Rattle.pict_queue.proofs.Pushing.{PushesBlock, pushes_block}
use Rattle.pict_queue.proofs.queues.Queues.push_back.Goals as goal

pub overflow_cast-queue : goal.overflow_cast-queue
overflow_cast-queue c =
    let small = held_small c.self.inside _ _ _ c.self.view_is c.self.invariant c.requires.held c.number-number.ensures in omega (arith, small)

pub last_or-last-requires-clause-queue : goal.last_or-last-requires-clause-queue
last_or-last-requires-clause-queue c = queue_there c.self.inside _ c.args.q.0 c.self.view_is c.requires.queue

pub last_or-last-requires-clause-small : goal.last_or-last-requires-clause-small
last_or-last-requires-clause-small c =
    let small = held_small c.self.inside _ _ _ c.self.view_is c.self.invariant c.requires.held c.number-number.ensures in omega (arith, small)

pub last_or-last-requires-clause-live : goal.last_or-last-requires-clause-live
last_or-last-requires-clause-live c =
    let queue = queue_in c.self.inside.ends.queues.items c.args.q.0 in
    (ends_found c.self.inside _ c.args.q.0 c.args.b c.number-number.result queue (ends_of queue c.number-number.result) c.self.view_is c.self.invariant c.requires.queue c.requires.held c.number-number.ensures refl refl).live

pub set_link-requires-clause-live : goal.set_link-requires-clause-live
set_link-requires-clause-live c =
    let found = ends_found c.self.inside _ c.args.q.0 c.args.b c.number-number.result (queue_in c.self.inside.ends.queues.items c.args.q.0) c.last_or-last.result.0 c.self.view_is c.self.invariant c.requires.queue c.requires.held c.number-number.ensures refl c.last_or-last.ensures.queue in
    subst (λ (r : RegionState). IsLive r c.last_or-last.result.1) (sym c.last_or-last.ensures.rest)
    (subst (IsLive c.self.inside.region) (ap (λ (q : Queue). q.last) c.last_or-last.ensures.queue ∙ sym c.last_or-last.ensures.token) found.live)

pub set_link-requires-clause-wide : goal.set_link-requires-clause-wide
set_link-requires-clause-wide c =
    let found = ends_found c.self.inside _ c.args.q.0 c.args.b c.number-number.result (queue_in c.self.inside.ends.queues.items c.args.q.0) c.last_or-last.result.0 c.self.view_is c.self.invariant c.requires.queue c.requires.held c.number-number.ensures refl c.last_or-last.ensures.queue in
    let same = ap (λ (q : Queue). q.last) c.last_or-last.ensures.queue ∙ sym c.last_or-last.ensures.token in
    omega (arith, found.wide, ap (λ (r : RegionState). width_of r c.last_or-last.result.1) c.last_or-last.ensures.rest, ap (width_of c.self.inside.region) same)

pub overflow_add-queue : goal.overflow_add-queue
overflow_add-queue c =
    let found = ends_found c.self.inside _ c.args.q.0 c.args.b c.number-number.result (queue_in c.self.inside.ends.queues.items c.args.q.0) c.last_or-last.result.0 c.self.view_is c.self.invariant c.requires.queue c.requires.held c.number-number.ensures refl c.last_or-last.ensures.queue in
    let same = ap (λ (q : Queue). q.length) c.last_or-last.ensures.queue ∙ ends_length (queue_in c.self.inside.ends.queues.items c.args.q.0) c.number-number.result in
    omega (arith, found.fits, same)

after : (c : goal.After-put) → Inside
after c = record { region = c.set_link.new.region; ends = c.put.new.self; spare = c.self.inside.spare }

pushes : (c : goal.After-put) → PushesBlock c.args.self.now (after c) c.args.q.0 c.args.b
unfolding after
pushes c =
    let number = c.number-number.ensures in
    let ends : Queue = c.last_or-last.result.0 in
    let same = ap (λ (q : Queue). q.last) c.last_or-last.ensures.queue ∙ sym c.last_or-last.ensures.token in
    pushes_block c.self.inside (after c) c.args.self.now c.args.q.0 c.args.b ends c.self.view_is c.self.invariant c.requires.queue c.requires.held (record {
      ends_are = c.last_or-last.ensures.queue ∙ ap (ends_of (queue_in c.self.inside.ends.queues.items c.args.q.0)) number;
      live = subst (λ (r : RegionState). c.set_link.new.region.live ≡ insert r.live c.last_or-last.result.1 (set (words_of r c.last_or-last.result.1) 0 c.number-number.result))
          c.last_or-last.ensures.rest c.set_link.ensures.live
          ∙ ap (λ (n : ℕ). insert c.self.inside.region.live n (set (words_of c.self.inside.region n) 0 c.number-number.result)) (sym same)
          ∙ ap (λ (n : ℕ). insert c.self.inside.region.live ends.last (set (words_of c.self.inside.region ends.last) 0 n)) number;
      free = c.set_link.ensures.free ∙ ap (λ (r : RegionState). r.free) c.last_or-last.ensures.rest;
      queues = c.put.ensures.items ∙ ap (λ (n : ℕ). let q : Queue = record { first = ends.first; last = n; length = ends.length + 1 } in set c.self.inside.ends.queues.items c.args.q.0 q) number;
      spare = refl;
    })

pub invariant_of-self : goal.invariant_of-self
unfolding after
invariant_of-self c = record { threaded = (pushes c).threaded; room = omega (arith, c.self.invariant.room, c.put.ensures.len, c.put.ensures.capacity) }

pub returns-clause-list : goal.returns-clause-list
unfolding after
returns-clause-list c = (pushes c).list

pub returns-clause-others : goal.returns-clause-others
unfolding after
returns-clause-others c = (pushes c).others

pub returns-clause-rest : goal.returns-clause-rest
unfolding after
returns-clause-rest c = (pushes c).rest

pub returns-clause-once : goal.returns-clause-once
unfolding after
returns-clause-once c = (pushes c).once

pub returns-clause-pushed : goal.returns-clause-pushed
unfolding after
returns-clause-pushed c = (pushes c).pushed

pub returns-clause-other_contents : goal.returns-clause-other_contents
unfolding after
returns-clause-other_contents c = (pushes c).other_contents

pub returns-clause-kept : goal.returns-clause-kept
unfolding after
returns-clause-kept c = (pushes c).kept

pub returns-clause-gone : goal.returns-clause-gone
unfolding after
returns-clause-gone c = (pushes c).gone
