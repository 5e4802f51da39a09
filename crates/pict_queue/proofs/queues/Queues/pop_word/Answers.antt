use Rattle.std.proofs.Common.{◌-◌, ◌<◌, sym, refl, ◌∙◌, ap, arith, get_or}
use Rattle.pict_region.specs.RegionState.{words_of}
use Rattle.pict_queue.specs.QueuesState.{link_of}
use Rattle.pict_queue.specs.declared.ends.Queue.{Queue}
use Rattle.pict_queue.specs.declared.queues.Queues.TheInside.{Inside}
use Rattle.pict_queue.proofs.Calls.{first_there, queue_there, list_length}
use Rattle.pict_queue.proofs.Popping.{PopsBlock, pops_block}
use Rattle.pict_queue.proofs.queues.Queues.pop_word.Goals as goal

pub open_first-block-requires-clause-queue : goal.open_first-block-requires-clause-queue
open_first-block-requires-clause-queue c = queue_there c.self.inside _ c.args.q.0 c.self.view_is c.requires.queue

pub open_first-block-requires-clause-live : goal.open_first-block-requires-clause-live
open_first-block-requires-clause-live c = (first_there c.self.inside _ c.args.q.0 c.self.view_is c.self.invariant c.requires.queue c.requires.some).live

pub open_first-block-requires-clause-wide : goal.open_first-block-requires-clause-wide
open_first-block-requires-clause-wide c =
    let found = first_there c.self.inside _ c.args.q.0 c.self.view_is c.self.invariant c.requires.queue c.requires.some in
    omega (arith, found.wide)

after : (c : goal.After-put) → Inside
after c = record { region = c.open_first-block.new.region; ends = c.put.new.self; spare = c.self.inside.spare }

pops : (c : goal.After-put) → PopsBlock c.args.self.now (after c) c.args.q.0 c.open_first-block.result.1.0
unfolding after
pops c = pops_block c.self.inside (after c) c.args.self.now c.args.q.0 c.open_first-block.result.1.0 c.number_in.result c.open_first-block.result.0
    c.self.view_is c.self.invariant c.requires.queue c.requires.some
    (record {
      queue_is = c.open_first-block.ensures.queue;
      block_is = c.open_first-block.ensures.token;
      link = c.open_first-block.result.1.1.0;
      link_is = c.open_first-block.ensures.link ∙ ap (link_of c.self.inside.region) (sym c.open_first-block.ensures.token);
      named = c.number_in.ensures;
    })
    (record {
      live = ap (λ r. r.live) c.open_first-block.ensures.rest;
      free = ap (λ r. r.free) c.open_first-block.ensures.rest;
      queues = c.put.ensures.items;
      spare = refl;
    })

pub returns-clause-word : goal.returns-clause-word
unfolding after
returns-clause-word c = c.open_first-block.ensures.word ∙ ap (λ b. get_or (words_of c.self.inside.region b) 1 0) (sym c.open_first-block.ensures.token)
    ∙ ap (λ r. get_or (words_of r c.open_first-block.result.1.0) 1 0) (sym c.open_first-block.ensures.rest)

pub invariant_of-self : goal.invariant_of-self
unfolding after
invariant_of-self c = record { threaded = (pops c).threaded; room = omega (arith, c.self.invariant.room, c.put.ensures.len, c.put.ensures.capacity) }

pub returns-clause-list : goal.returns-clause-list
unfolding after
returns-clause-list c = (pops c).list

pub returns-clause-held : goal.returns-clause-held
unfolding after
returns-clause-held c = (pops c).held

pub returns-clause-others : goal.returns-clause-others
unfolding after
returns-clause-others c = (pops c).others

pub returns-clause-once : goal.returns-clause-once
unfolding after
returns-clause-once c = (pops c).once

pub returns-clause-rest : goal.returns-clause-rest
unfolding after
returns-clause-rest c = (pops c).rest

pub returns-clause-popped : goal.returns-clause-popped
unfolding after
returns-clause-popped c = (pops c).popped

pub returns-clause-other_contents : goal.returns-clause-other_contents
unfolding after
returns-clause-other_contents c = (pops c).other_contents

pub returns-clause-kept : goal.returns-clause-kept
unfolding after
returns-clause-kept c = (pops c).kept

pub returns-clause-more : goal.returns-clause-more
unfolding after
returns-clause-more c = (pops c).more
