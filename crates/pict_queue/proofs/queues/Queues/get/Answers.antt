use Rattle.std.proofs.Common.{ap, ◌≡◌, ◌∙◌}
use Rattle.pict_queue.proofs.Orders.{live_kept}
use Rattle.pict_queue.specs.QueuesState.{QueuesState, KeepsQueues}
use Rattle.pict_queue.specs.Threads.{queues_state}
use Rattle.pict_queue.proofs.Kept.{contents_same, held_same, lists_same}
use Rattle.pict_queue.proofs.queues.Queues.get.Goals as goal

pub invariant_of-self : goal.invariant_of-self
invariant_of-self c = record {
  threaded = (live_kept c.self.inside.region c.get.new.self c.self.inside.ends.queues.items c.self.invariant.threaded (ap (λ r. r.live) c.get.ensures.rest)).threaded;
  room = c.self.invariant.room;
}

after : (c : goal.After-get) → QueuesState
after c = queues_state (record { region = c.get.new.self; ends = c.self.inside.ends; spare = c.self.inside.spare })

live : (c : goal.After-get) → (after c).region.live ≡ c.args.self.now.region.live
unfolding after
live c = ap (λ r. r.live) c.get.ensures.rest ∙ ap (λ s. s.region.live) c.self.view_is

lists : (c : goal.After-get) → KeepsQueues c.args.self.now (after c)
unfolding after
lists c = lists_same c.args.self.now (after c) (live c) (ap (λ s. s.queues) c.self.view_is)

pub returns-clause-contents : goal.returns-clause-contents
unfolding after
returns-clause-contents c = contents_same c.args.self.now (after c) (live c) (lists c)

pub returns-clause-kept : goal.returns-clause-kept
unfolding after
returns-clause-kept c = held_same c.args.self.now (after c) (live c) (lists c)
