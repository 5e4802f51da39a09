use Rattle.std.proofs.Common.{◌≡◌, ◌<◌, ◌∷◌, ℕ, List, [], Some, length, get_or, refl, sym, ◌∙◌, ap, subst, arith}
use Rattle.std.specs.Option.{option_map}
use Rattle.std.specs.List.{slice_get}
use Rattle.pict_region.specs.RegionState.{RegionState, IsLive, words_of, width_of}
use Rattle.pict_queue.specs.QueuesState.{QueuesState, queue_blocks}
use Rattle.pict_queue.specs.Threads.{queues_state}
use Rattle.pict_queue.specs.Ends.{queue_in}
use Rattle.pict_queue.specs.declared.ends.Queue.{Queue}
use Rattle.pict_queue.specs.declared.queues.Queues.TheInside.{Inside}
use Rattle.pict_queue.proofs.Orders.{first_of, live_kept}
use Rattle.pict_queue.proofs.Calls.{first_found, queue_there, list_seen, list_length}
use Rattle.pict_queue.proofs.queues.Queues.peek.Goals as goal

-- the first block of the list is the one that the call reads
first_seen : (a : Inside) (s : QueuesState) (number : ℕ) (queue : Queue) → queues_state a ≡ s → queue ≡ queue_in a.ends.queues.items number → 0 < queue.length
    → slice_get (queue_blocks s number) 0 ≡ Some queue.first
first_seen a s number queue is queue_is some =
    ap (λ ns. slice_get ns 0) (list_seen a s number is ∙ first_of a.region a.ends.queues.items number (omega (arith, some, ap (λ q. q.length) queue_is)))
    ∙ ap (λ q. Some q.first) (sym queue_is)

head_is : (ns : List ℕ) (n : ℕ) → slice_get ns 0 ≡ Some n → get_or ns 0 0 ≡ n
head_is [] n e = cc
head_is (m ∷ ns) n e = cc

pub length-requires : goal.length-requires
length-requires c = queue_there c.self.inside _ c.args.q.0 c.self.view_is c.requires.queue

pub first-block-requires-clause-queue : goal.first-block-requires-clause-queue
first-block-requires-clause-queue c = queue_there c.self.inside _ c.args.q.0 c.self.view_is c.requires.queue

pub first-block-requires-clause-live : goal.first-block-requires-clause-live
first-block-requires-clause-live c =
    let some : 0 < (queue_in c.self.inside.ends.queues.items c.args.q.0).length = omega (arith, c.if-length-eq0.false, c.length.ensures) in
    (first_found c.self.inside _ c.args.q.0 _ c.self.view_is c.self.invariant c.requires.queue refl some).live

pub word-requires-clause-live : goal.word-requires-clause-live
word-requires-clause-live c =
    let some : 0 < (queue_in c.self.inside.ends.queues.items c.args.q.0).length = omega (arith, c.if-length-eq0.false, c.length.ensures) in
    let found = first_found c.self.inside _ c.args.q.0 (queue_in c.self.inside.ends.queues.items c.args.q.0) c.self.view_is c.self.invariant c.requires.queue refl some in
    subst (λ (r : RegionState). IsLive r c.first-block.result.1) (sym c.first-block.ensures.rest) (subst (IsLive c.self.inside.region) (sym c.first-block.ensures.token) found.live)

pub word-requires-clause-inside : goal.word-requires-clause-inside
word-requires-clause-inside c =
    let queue = queue_in c.self.inside.ends.queues.items c.args.q.0 in
    let some : 0 < queue.length = omega (arith, c.if-length-eq0.false, c.length.ensures) in
    let there : 0 < length (queue_blocks c.args.self.now c.args.q.0) = omega (arith, some, list_length c.self.inside _ c.args.q.0 c.self.view_is) in
    let first = head_is (queue_blocks c.args.self.now c.args.q.0) _ (first_seen c.self.inside _ c.args.q.0 queue c.self.view_is refl some) in
    omega (
      arith,
      c.requires.inside there,
      ap (width_of c.args.self.now.region) first,
      ap (λ (s : QueuesState). width_of s.region queue.first) c.self.view_is,
      ap (λ (r : RegionState). width_of r c.first-block.result.1) c.first-block.ensures.rest,
      ap (width_of c.self.inside.region) c.first-block.ensures.token,
    )

pub invariant_of-self : goal.invariant_of-self
invariant_of-self c = record {
  threaded = (live_kept c.self.inside.region c.word.new.region c.self.inside.ends.queues.items c.self.invariant.threaded (ap (λ (r : RegionState). r.live) c.word.ensures.rest ∙ ap (λ (r : RegionState). r.live) c.first-block.ensures.rest)).threaded;
  room = c.self.invariant.room;
}

pub returns-clause-word : goal.returns-clause-word
returns-clause-word c =
    let queue = queue_in c.self.inside.ends.queues.items c.args.q.0 in
    let some : 0 < queue.length = omega (arith, c.if-length-eq0.false, c.length.ensures) in
    ap Some (c.word.ensures.value ∙ ap (λ (r : RegionState). get_or (words_of r c.first-block.result.1) c.args.i 0) c.first-block.ensures.rest
    ∙ ap (λ (n : ℕ). get_or (words_of c.self.inside.region n) c.args.i 0) c.first-block.ensures.token
    ∙ ap (λ (s : QueuesState). get_or (words_of s.region queue.first) c.args.i 0) c.self.view_is)
    ∙ sym (ap (option_map (λ b. get_or (words_of c.args.self.now.region b) c.args.i 0)) (first_seen c.self.inside _ c.args.q.0 queue c.self.view_is refl some))
