use Rattle.std.proofs.Common.{ℕ, ◌≡◌, ◌≤◌, ◌+◌, ◌∷◌, List, length, set, sym, ◌∙◌, ap, refl, subst, arith}
use Rattle.pict_region.specs.RegionState.{RegionState, IsLive, words_of, width_of}
use Rattle.pict_queue.specs.QueuesState.{queue_blocks}
use Rattle.std.specs.FinMap.{insert}
use Rattle.std.proofs.lemmas.List.{length-set}
use Rattle.pict_queue.specs.Ends.{queue_in, ends_of}
use Rattle.pict_queue.specs.declared.ends.Queue.{Queue}
use Rattle.pict_queue.specs.declared.queues.Queues.TheInside.{Inside}
use Rattle.pict_queue.proofs.Links.{LinksBlock, link_written}
use Rattle.pict_queue.proofs.Orders.{list_is, once_seen, ends_length, PushesFront, pushed_front}
use Rattle.pict_queue.proofs.Calls.{FindsEnds, ends_found, held_small, queue_there, list_seen, rest_kept}
use Rattle.pict_queue.specs.Threads.{queues_state}
use Rattle.pict_queue.proofs.Kept.{contents_pushed_front, other_contents_kept, released_front, held_pushed_front}
use Rattle.pict_queue.proofs.queues.Queues.push_front.Goals as goal

pub overflow_cast-queue : goal.overflow_cast-queue
overflow_cast-queue c =
    let small = held_small c.self.inside _ _ _ c.self.view_is c.self.invariant c.requires.held c.name-number.ensures in omega (arith, small)

pub last_or-last-requires-clause-queue : goal.last_or-last-requires-clause-queue
last_or-last-requires-clause-queue c = queue_there c.self.inside _ c.args.q.0 c.self.view_is c.requires.queue

pub last_or-last-requires-clause-small : goal.last_or-last-requires-clause-small
last_or-last-requires-clause-small c =
    let small = held_small c.self.inside _ _ _ c.self.view_is c.self.invariant c.requires.held c.name-number.ensures in omega (arith, small)

pub last_or-last-requires-clause-live : goal.last_or-last-requires-clause-live
last_or-last-requires-clause-live c =
    let queue = queue_in c.self.inside.ends.queues.items c.args.q.0 in
    (ends_found c.self.inside _ c.args.q.0 c.args.b c.name-number.result queue (ends_of queue c.name-number.result) c.self.view_is c.self.invariant c.requires.queue c.requires.held c.name-number.ensures refl refl).live

pub set_link-requires-clause-live : goal.set_link-requires-clause-live
set_link-requires-clause-live c =
    let found = ends_found c.self.inside _ c.args.q.0 c.args.b c.name-number.result (queue_in c.self.inside.ends.queues.items c.args.q.0) c.last_or-last.result.0 c.self.view_is c.self.invariant c.requires.queue c.requires.held c.name-number.ensures refl c.last_or-last.ensures.queue in
    subst (λ (r : RegionState). IsLive r c.args.b) (sym c.last_or-last.ensures.rest) (subst (IsLive c.self.inside.region) c.name-number.ensures found.apart.live)

pub set_link-requires-clause-wide : goal.set_link-requires-clause-wide
set_link-requires-clause-wide c =
    let found = ends_found c.self.inside _ c.args.q.0 c.args.b c.name-number.result (queue_in c.self.inside.ends.queues.items c.args.q.0) c.last_or-last.result.0 c.self.view_is c.self.invariant c.requires.queue c.requires.held c.name-number.ensures refl c.last_or-last.ensures.queue in
    omega (arith, found.block_wide, ap (λ (r : RegionState). width_of r c.args.b) c.last_or-last.ensures.rest, ap (width_of c.self.inside.region) c.name-number.ensures)

pub overflow_add-queue : goal.overflow_add-queue
overflow_add-queue c =
    let found = ends_found c.self.inside _ c.args.q.0 c.args.b c.name-number.result (queue_in c.self.inside.ends.queues.items c.args.q.0) c.last_or-last.result.0 c.self.view_is c.self.invariant c.requires.queue c.requires.held c.name-number.ensures refl c.last_or-last.ensures.queue in
    let same = ap (λ (q : Queue). q.length) c.last_or-last.ensures.queue ∙ ends_length (queue_in c.self.inside.ends.queues.items c.args.q.0) c.name-number.result in
    omega (arith, found.fits, same)

found : (c : goal.After-put) → FindsEnds c.self.inside c.args.q.0 c.name-number.result (queue_in c.self.inside.ends.queues.items c.args.q.0) c.last_or-last.result.0
found c = ends_found c.self.inside _ c.args.q.0 c.args.b c.name-number.result (queue_in c.self.inside.ends.queues.items c.args.q.0) c.last_or-last.result.0 c.self.view_is c.self.invariant c.requires.queue c.requires.held c.name-number.ensures refl c.last_or-last.ensures.queue

links : (c : goal.After-put) → LinksBlock c.self.inside.region c.set_link.new.region c.name-number.result c.last_or-last.result.0.first
links c =
    let live = subst (IsLive c.self.inside.region) c.name-number.ensures (found c).apart.live in
    let wide : 1 ≤ width_of c.self.inside.region c.args.b = omega (arith, (found c).block_wide, ap (width_of c.self.inside.region) c.name-number.ensures) in
    let written = subst (λ (r : RegionState). c.set_link.new.region.live ≡ insert r.live c.args.b (set (words_of r c.args.b) 0 c.last_or-last.result.0.first))
    c.last_or-last.ensures.rest c.set_link.ensures.live in
    subst (λ (n : ℕ). LinksBlock c.self.inside.region c.set_link.new.region n c.last_or-last.result.0.first) (sym c.name-number.ensures)
    (link_written c.self.inside.region c.set_link.new.region c.args.b c.last_or-last.result.0.first live wide written)

queue_after : (c : goal.After-put) → Queue
queue_after c = record { first = c.name-number.result; last = c.last_or-last.result.0.last; length = c.last_or-last.result.0.length + 1 }

after : (c : goal.After-put) → Inside
after c = record { region = c.set_link.new.region; ends = c.put.new.self; spare = c.self.inside.spare }

pushes : (c : goal.After-put)
    → PushesFront c.self.inside.region c.set_link.new.region c.self.inside.ends.queues.items c.put.new.self.queues.items c.args.q.0 c.name-number.result
pushes c =
    let queues = c.self.inside.ends.queues.items in
    let same = ap (λ (q : Queue). q.length) c.last_or-last.ensures.queue ∙ ends_length (queue_in queues c.args.q.0) c.name-number.result in
    let written = c.put.ensures.items
    ∙ ap (λ (l : ℕ). let q : Queue = record { first = c.name-number.result; last = c.last_or-last.result.0.last; length = l + 1 } in set queues c.args.q.0 q) same in
    subst (λ (qs : List Queue). PushesFront c.self.inside.region c.set_link.new.region queues qs c.args.q.0 c.name-number.result) (sym written)
    (pushed_front c.self.inside.region c.set_link.new.region queues c.args.q.0 c.name-number.result (queue_in queues c.args.q.0) c.last_or-last.result.0
    c.self.invariant.threaded (found c).read.inside (found c).apart refl c.last_or-last.ensures.queue (links c))

pub invariant_of-self : goal.invariant_of-self
invariant_of-self c = record { threaded = (pushes c).threaded; room = omega (arith, c.self.invariant.room, c.put.ensures.len, c.put.ensures.capacity) }

pub returns-clause-list : goal.returns-clause-list
unfolding after
returns-clause-list c =
    list_is (after c) c.args.q.0
    ∙ (pushes c).list
    ∙ ap (λ ns. c.name-number.result ∷ ns) (sym (list_seen c.self.inside _ c.args.q.0 c.self.view_is))
    ∙ ap (λ b. b ∷ queue_blocks c.args.self.now c.args.q.0) c.name-number.ensures

pub returns-clause-others : goal.returns-clause-others
unfolding after
returns-clause-others c other apart =
    list_is (after c) other ∙ (pushes c).others other apart ∙ sym (list_seen c.self.inside _ other c.self.view_is)

pub returns-clause-rest : goal.returns-clause-rest
unfolding queue_after after
returns-clause-rest c =
    rest_kept c.self.inside (after c) c.args.self.now c.self.view_is (links c).contents (c.set_link.ensures.free ∙ ap (λ (r : RegionState). r.free) c.last_or-last.ensures.rest)
    (ap length c.put.ensures.items ∙ length-set c.self.inside.ends.queues.items c.args.q.0 (queue_after c)) refl

pub returns-clause-once : goal.returns-clause-once
unfolding after
returns-clause-once c = once_seen (after c) (pushes c).threaded

pub returns-clause-pushed : goal.returns-clause-pushed
unfolding after
returns-clause-pushed c = contents_pushed_front c.args.self.now (queues_state (after c)) (returns-clause-rest c).contents c.args.q.0 c.args.b (returns-clause-list c)

pub returns-clause-other_contents : goal.returns-clause-other_contents
unfolding after
returns-clause-other_contents c = other_contents_kept c.args.self.now (queues_state (after c)) (returns-clause-rest c).contents c.args.q.0 (returns-clause-others c)

pub returns-clause-kept : goal.returns-clause-kept
unfolding after
returns-clause-kept c = held_pushed_front c.args.self.now (queues_state (after c)) (returns-clause-rest c).contents c.args.q.0 c.args.b (returns-clause-list c) (returns-clause-others c)

pub returns-clause-gone : goal.returns-clause-gone
unfolding after
returns-clause-gone c = released_front c.args.self.now (queues_state (after c)) (returns-clause-rest c).contents c.args.q.0 c.args.b (returns-clause-list c) (returns-clause-others c)
