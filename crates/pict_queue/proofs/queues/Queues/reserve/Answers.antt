use Rattle.pict_queue.proofs.Orders.{live_kept}
use Rattle.std.proofs.Common.{◌≡◌, ◌∙◌, ap}
use Rattle.pict_queue.specs.QueuesState.{QueuesState, KeepsQueues}
use Rattle.pict_queue.specs.Threads.{queues_state}
use Rattle.pict_queue.proofs.Kept.{contents_same, held_same, no_more_same, lists_same}
use Rattle.pict_queue.proofs.queues.Queues.reserve.Goals as goal

pub invariant_of-self : goal.invariant_of-self
invariant_of-self c = record {
  threaded = (live_kept c.self.inside.region c.reserve.new.self c.self.inside.ends.queues.items c.self.invariant.threaded c.reserve.ensures.live).threaded;
  room = c.self.invariant.room;
}

after : (c : goal.After-reserve) → QueuesState
after c = queues_state (record { region = c.reserve.new.self; ends = c.self.inside.ends; spare = c.self.inside.spare })

live : (c : goal.After-reserve) → (after c).region.live ≡ c.args.self.now.region.live
unfolding after
live c = c.reserve.ensures.live ∙ ap (λ s. s.region.live) c.self.view_is

lists : (c : goal.After-reserve) → KeepsQueues c.args.self.now (after c)
unfolding after
lists c = lists_same c.args.self.now (after c) (live c) (ap (λ s. s.queues) c.self.view_is)

pub returns-clause-contents : goal.returns-clause-contents
unfolding after
returns-clause-contents c = contents_same c.args.self.now (after c) (live c) (lists c)

pub returns-clause-kept : goal.returns-clause-kept
unfolding after
returns-clause-kept c = held_same c.args.self.now (after c) (live c) (lists c)

pub returns-clause-no_more : goal.returns-clause-no_more
unfolding after
returns-clause-no_more c = no_more_same c.args.self.now (after c) (live c) (lists c)
