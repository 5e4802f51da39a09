use Rattle.std.proofs.Common.{◌-◌, ◌<◌, sym, refl, ◌∙◌, ap, subst, arith}
use Rattle.pict_region.specs.RegionState.{IsLive, width_of}
use Rattle.pict_queue.specs.QueuesState.{link_of}
use Rattle.pict_queue.specs.declared.ends.Queue.{Queue}
use Rattle.pict_queue.specs.declared.queues.Queues.TheInside.{Inside}
use Rattle.pict_queue.proofs.Calls.{first_there, queue_there, list_length}
use Rattle.pict_queue.proofs.Popping.{PopsBlock, pops_block}
use Rattle.pict_queue.proofs.queues.Queues.pop.Goals as goal

pub first-block-requires-clause-queue : goal.first-block-requires-clause-queue
first-block-requires-clause-queue c = queue_there c.self.inside _ c.args.q.0 c.self.view_is c.requires.queue

pub first-block-requires-clause-live : goal.first-block-requires-clause-live
first-block-requires-clause-live c = (first_there c.self.inside _ c.args.q.0 c.self.view_is c.self.invariant c.requires.queue c.requires.some).live

pub get-requires-clause-live : goal.get-requires-clause-live
get-requires-clause-live c =
    let found = first_there c.self.inside _ c.args.q.0 c.self.view_is c.self.invariant c.requires.queue c.requires.some in
    subst (λ r. IsLive r c.first-block.result.1) (sym c.first-block.ensures.rest) (subst (IsLive c.self.inside.region) (sym c.first-block.ensures.token) found.live)

pub get-requires-clause-inside : goal.get-requires-clause-inside
get-requires-clause-inside c =
    let found = first_there c.self.inside _ c.args.q.0 c.self.view_is c.self.invariant c.requires.queue c.requires.some in
    omega (arith, found.wide, ap (λ r. width_of r c.first-block.result.1) c.first-block.ensures.rest, ap (width_of c.self.inside.region) c.first-block.ensures.token)

some_there : (c : goal.After-put) → 0 < c.first-block.result.0.length
some_there c =
    omega (arith, c.requires.some, list_length c.self.inside _ c.args.q.0 c.self.view_is, ap (λ (q : Queue). q.length) c.first-block.ensures.queue)

after : (c : goal.After-put) → Inside
after c = record { region = c.get.new.self; ends = c.put.new.self; spare = c.self.inside.spare }

pops : (c : goal.After-put) → PopsBlock c.args.self.now (after c) c.args.q.0 c.first-block.result.1
unfolding after
pops c = pops_block c.self.inside (after c) c.args.self.now c.args.q.0 c.first-block.result.1 c.number_in-next.result c.first-block.result.0
    c.self.view_is c.self.invariant c.requires.queue c.requires.some
    (record {
      queue_is = c.first-block.ensures.queue;
      block_is = c.first-block.ensures.token;
      link = c.get.result;
      link_is = c.get.ensures.word ∙ ap (λ r. link_of r c.first-block.result.1) c.first-block.ensures.rest;
      named = c.number_in-next.ensures;
    })
    (record {
      live = ap (λ r. r.live) c.get.ensures.rest ∙ ap (λ r. r.live) c.first-block.ensures.rest;
      free = ap (λ r. r.free) c.get.ensures.rest ∙ ap (λ r. r.free) c.first-block.ensures.rest;
      queues = c.put.ensures.items;
      spare = refl;
    })

pub invariant_of-self : goal.invariant_of-self
unfolding after
invariant_of-self c = record { threaded = (pops c).threaded; room = omega (arith, c.self.invariant.room, c.put.ensures.len, c.put.ensures.capacity) }

pub returns-clause-list : goal.returns-clause-list
unfolding after
returns-clause-list c = (pops c).list

pub returns-clause-held : goal.returns-clause-held
unfolding after
returns-clause-held c = (pops c).held

pub returns-clause-others : goal.returns-clause-others
unfolding after
returns-clause-others c = (pops c).others

pub returns-clause-once : goal.returns-clause-once
unfolding after
returns-clause-once c = (pops c).once

pub returns-clause-rest : goal.returns-clause-rest
unfolding after
returns-clause-rest c = (pops c).rest

pub returns-clause-popped : goal.returns-clause-popped
unfolding after
returns-clause-popped c = (pops c).popped

pub returns-clause-other_contents : goal.returns-clause-other_contents
unfolding after
returns-clause-other_contents c = (pops c).other_contents

pub returns-clause-kept : goal.returns-clause-kept
unfolding after
returns-clause-kept c = (pops c).kept

pub returns-clause-more : goal.returns-clause-more
unfolding after
returns-clause-more c = (pops c).more
