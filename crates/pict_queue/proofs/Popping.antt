-- The first block leaves a queue: what contracts see of it.
use Rattle.std.proofs.Common.{◌≡◌, ◌-◌, ◌+◌, ◌^◌, ◌<◌, ◌≤◌, ◌∷◌, ℕ, length, sym, refl, ◌∙◌, ap, subst, arith, drop, set}
use Rattle.std.proofs.lemmas.List.{length-set}
use Rattle.std.specs.Option.{option_map}
use Rattle.std.specs.FinMap.{get}
use Rattle.pict_region.proofs.Uses.{Live}
use Rattle.pict_queue.specs.QueuesState.{QueuesState, IsQueue, IsHeld, HasEachBlockOnce, queue_blocks, link_of, KeepsContents, KeepsOtherQueues, KeepsRest}
use Rattle.pict_queue.specs.Contents.{contents, held_words, KeepsOtherContents, KeepsHeld, HoldsOneMore}
use Rattle.pict_queue.specs.declared.ends.Queue.{Queue}
use Rattle.pict_queue.specs.Ends.{queue_in}
use Rattle.pict_queue.specs.Threads.{queues_state, IsThreaded, AreQueuesSound}
use Rattle.pict_queue.specs.declared.queues.Queues.TheInside.{Inside}
use Rattle.pict_queue.proofs.Orders.{list_is, once_seen, held_if_apart, PopsFront, popped_front}
use Rattle.pict_queue.proofs.Calls.{queue_there, next_found, list_seen, list_length, rest_kept}
use Rattle.pict_queue.proofs.Kept.{contents_popped, other_contents_kept, held_popped, one_more_popped}

-- the queue as a call read it, and the number of the block behind its first one
pub record ReadsFirst (a : Inside) (number block next : ℕ) (queue : Queue) : Type 0 where
  pub queue_is : queue ≡ queue_in a.ends.queues.items number
  pub block_is : block ≡ (queue_in a.ends.queues.items number).first
  pub link : ℕ
  pub link_is : link ≡ link_of a.region block
  pub named : link < 2 ^ 32 → next ≡ link

-- what a call left that took the first block
pub record LeavesRest (a after : Inside) (number next : ℕ) (queue : Queue) : Type 0 where
  pub live : after.region.live ≡ a.region.live
  pub free : after.region.free ≡ a.region.free
  pub queues : after.ends.queues.items ≡ set a.ends.queues.items number (record { first = next; last = queue.last; length = queue.length - 1 })
  pub spare : after.spare ≡ a.spare

-- what contracts see of it
pub record PopsBlock (old : QueuesState) (after : Inside) (number block : ℕ) : Type 0 where
  pub threaded : IsThreaded after.region after.ends.queues.items
  pub list : queue_blocks old number ≡ block ∷ queue_blocks (queues_state after) number
  pub held : IsHeld (queues_state after) block
  pub others : KeepsOtherQueues old (queues_state after) number
  pub once : HasEachBlockOnce (queues_state after)
  pub rest : KeepsRest old (queues_state after)
  pub popped : contents old number ≡ held_words after.region block ∷ contents (queues_state after) number
  pub other_contents : KeepsOtherContents old (queues_state after) number
  pub kept : KeepsHeld old (queues_state after)
  pub more : HoldsOneMore old (queues_state after) block

pub pops_block : (a after : Inside) (old : QueuesState) (number block next : ℕ) (queue : Queue) → queues_state a ≡ old → AreQueuesSound a → IsQueue old number
    → 0 < length (queue_blocks old number) → ReadsFirst a number block next queue → LeavesRest a after number next queue → PopsBlock old after number block
pops_block a after old number block next queue is sound there some reads leaves =
    let entry : Queue = queue_in a.ends.queues.items number in
    let many : 0 < queue.length = omega (arith, some, list_length a old number is, ap (λ (q : Queue). q.length) reads.queue_is) in
    let link = reads.link_is ∙ ap (link_of a.region) reads.block_is ∙ ap (λ (q : Queue). link_of a.region q.first) (sym reads.queue_is) in
    let pops : PopsFront a.region after.region a.ends.queues.items after.ends.queues.items number =
    subst (λ qs. PopsFront a.region after.region a.ends.queues.items qs number) (sym leaves.queues)
    (popped_front a.region after.region a.ends.queues.items number next queue sound.threaded (queue_there a old number is there) leaves.live reads.queue_is many
    (next_found a number reads.link next queue sound reads.queue_is link reads.named)) in
    let list : queue_blocks old number ≡ block ∷ queue_blocks (queues_state after) number =
    list_seen a old number is ∙ pops.list ∙ ap (λ ns. entry.first ∷ ns) (sym (list_is after number)) ∙ ap (λ b. b ∷ queue_blocks (queues_state after) number) (sym reads.block_is) in
    let others : KeepsOtherQueues old (queues_state after) number = λ other apart.
    list_is after other ∙ pops.others other apart ∙ sym (list_seen a old other is) in
    let keeps : KeepsContents old.region after.region = λ b.
    ap (λ (m : Live). option_map (drop 1) (get m b)) (leaves.live ∙ ap (λ s. s.region.live) is) in
    record {
      threaded = pops.threaded;
      list = list;
      held = subst (IsHeld (queues_state after)) (sym reads.block_is) (held_if_apart after entry.first pops.apart);
      others = others;
      once = once_seen after pops.threaded;
      rest = rest_kept a after old is (λ b. ap (λ (m : Live). option_map (drop 1) (get m b)) leaves.live) leaves.free
          (ap length leaves.queues ∙ length-set a.ends.queues.items number (record { first = next; last = queue.last; length = queue.length - 1 })) leaves.spare;
      popped = contents_popped old (queues_state after) keeps number block list;
      other_contents = other_contents_kept old (queues_state after) keeps number others;
      kept = held_popped old (queues_state after) keeps number block list others;
      more = one_more_popped old (queues_state after) keeps number block list others;
    }
