use Rattle.std.proofs.Common.{ap, sym, ◌∙◌, arith}
use Rattle.pict_region.specs.Chain.{chain}
use Rattle.pict_queue.specs.QueuesState.{link_of}
use Rattle.pict_queue.specs.declared.queues.Queues.TheInside.{Inside}
use Rattle.pict_queue.proofs.Orders.{list_is, queue_in-added, threaded_added}
use Rattle.pict_queue.proofs.Calls.{list_seen}
use Rattle.pict_queue.specs.Threads.{queues_state}
use Rattle.pict_queue.specs.Ends.{queue_in}
use Rattle.pict_queue.proofs.Kept.{contents_same, held_same, no_more_same}
use Rattle.pict_queue.proofs.queues.Queues.add_queue.Goals as goal

pub invariant_of-self-2 : goal.invariant_of-self-2
invariant_of-self-2 c = record {
  threaded = threaded_added c.self.inside.region c.self.inside.ends.queues.items c.push.new.self.queues.items c.self.invariant.threaded c.in_ok-push.ensures.items;
  room = omega (arith, c.self.invariant.room, c.in_ok-push.ensures.len, c.in_ok-push.ensures.capacity, c.push.new.self.queues.ok, c.saturating_sub-self-inside.ensures);
}

after : (c : goal.After-self-1) → Inside
after c = record { region = c.self.inside.region; ends = c.push.new.self; spare = c.saturating_sub-self-inside.result }

pub returns-clause-lists : goal.returns-clause-lists
unfolding after
returns-clause-lists c queue =
    list_is (after c) queue
    ∙ ap (λ q. chain (link_of c.self.inside.region) q.first q.length) (ap (λ qs. queue_in qs queue) c.in_ok-push.ensures.items ∙ queue_in-added c.self.inside.ends.queues.items queue)
    ∙ sym (list_seen c.self.inside _ queue c.self.view_is)

pub returns-clause-contents : goal.returns-clause-contents
unfolding after
returns-clause-contents c = contents_same c.args.self.now (queues_state (after c)) (ap (λ s. s.region.live) c.self.view_is) (returns-clause-lists c)

pub returns-clause-kept : goal.returns-clause-kept
unfolding after
returns-clause-kept c = held_same c.args.self.now (queues_state (after c)) (ap (λ s. s.region.live) c.self.view_is) (returns-clause-lists c)

pub returns-clause-no_more : goal.returns-clause-no_more
unfolding after
returns-clause-no_more c = no_more_same c.args.self.now (queues_state (after c)) (ap (λ s. s.region.live) c.self.view_is) (returns-clause-lists c)
