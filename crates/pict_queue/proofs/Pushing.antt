-- A block becomes the last of a queue: what contracts see of it.
use Rattle.std.proofs.Common.{◌≡◌, ◌+◌, ◌++◌, ◌∷◌, [], ℕ, List, length, set, sym, refl, ◌∙◌, ap, subst}
use Rattle.std.proofs.lemmas.List.{length-set}
use Rattle.std.specs.FinMap.{insert}
use Rattle.pict_region.specs.RegionState.{words_of}
use Rattle.pict_queue.specs.QueuesState.{QueuesState, IsQueue, IsHeld, HasEachBlockOnce, queue_blocks, KeepsOtherQueues, KeepsRest}
use Rattle.pict_queue.specs.Contents.{contents, held_words, KeepsOtherContents, KeepsOtherHeld, Releases}
use Rattle.pict_queue.specs.declared.ends.Queue.{Queue}
use Rattle.pict_queue.specs.Ends.{queue_in, ends_of}
use Rattle.pict_queue.specs.Threads.{queues_state, IsThreaded, AreQueuesSound}
use Rattle.pict_queue.specs.declared.queues.Queues.TheInside.{Inside}
use Rattle.pict_queue.proofs.Links.{LinksBlock, link_written}
use Rattle.pict_queue.proofs.Orders.{list_is, once_seen, ends_length, PushesBack, pushed_back}
use Rattle.pict_queue.proofs.Calls.{FindsEnds, ends_found, list_seen, rest_kept}
use Rattle.pict_queue.proofs.Kept.{contents_pushed_back, other_contents_kept, released_back, held_pushed_back}

-- what a call left that made the link of the last block, and the ends, of a queue
pub record LinksLast (a after : Inside) (number block : ℕ) (ends : Queue) : Type 0 where
  pub ends_are : ends ≡ ends_of (queue_in a.ends.queues.items number) block
  pub live : after.region.live ≡ insert a.region.live ends.last (set (words_of a.region ends.last) 0 block)
  pub free : after.region.free ≡ a.region.free
  pub queues : after.ends.queues.items ≡ set a.ends.queues.items number (record { first = ends.first; last = block; length = ends.length + 1 })
  pub spare : after.spare ≡ a.spare

-- what contracts see of it
pub record PushesBlock (old : QueuesState) (after : Inside) (number block : ℕ) : Type 0 where
  pub threaded : IsThreaded after.region after.ends.queues.items
  pub list : queue_blocks (queues_state after) number ≡ queue_blocks old number ++ block ∷ []
  pub others : KeepsOtherQueues old (queues_state after) number
  pub pushed : contents (queues_state after) number ≡ contents old number ++ held_words old.region block ∷ []
  pub other_contents : KeepsOtherContents old (queues_state after) number
  pub kept : KeepsOtherHeld old (queues_state after) block
  pub gone : Releases old (queues_state after) block
  pub rest : KeepsRest old (queues_state after)
  pub once : HasEachBlockOnce (queues_state after)

pub pushes_block : (a after : Inside) (old : QueuesState) (number block : ℕ) (ends : Queue) → queues_state a ≡ old → AreQueuesSound a → IsQueue old number → IsHeld old block
    → LinksLast a after number block ends → PushesBlock old after number block
pushes_block a after old number block ends is sound there held l =
    let queues : List Queue = a.ends.queues.items in
    let found : FindsEnds a number block (queue_in queues number) ends = ends_found a old number block block (queue_in queues number) ends is sound there held refl refl l.ends_are in
    let links : LinksBlock a.region after.region ends.last block = link_written a.region after.region ends.last block found.live found.wide l.live in
    let same : ends.length ≡ (queue_in queues number).length = ap (λ (q : Queue). q.length) l.ends_are ∙ ends_length (queue_in queues number) block in
    let written = l.queues ∙ ap (λ (n : ℕ). let q : Queue = record { first = ends.first; last = block; length = n + 1 } in set queues number q) same in
    let pushes : PushesBack a.region after.region queues after.ends.queues.items number block =
    subst (λ (qs : List Queue). PushesBack a.region after.region queues qs number block) (sym written)
    (pushed_back a.region after.region queues number block (queue_in queues number) ends sound.threaded found.read.inside found.apart refl l.ends_are links) in
    let list : queue_blocks (queues_state after) number ≡ queue_blocks old number ++ block ∷ [] =
    list_is after number ∙ pushes.list ∙ ap (λ ns. ns ++ block ∷ []) (sym (list_seen a old number is)) in
    let others : KeepsOtherQueues old (queues_state after) number = λ other apart.
    list_is after other ∙ pushes.others other apart ∙ sym (list_seen a old other is) in
    let rest : KeepsRest old (queues_state after) =
    rest_kept a after old is links.contents l.free (ap length l.queues ∙ length-set queues number (record { first = ends.first; last = block; length = ends.length + 1 })) l.spare in
    record {
      threaded = pushes.threaded;
      list = list;
      others = others;
      pushed = contents_pushed_back old (queues_state after) rest.contents number block list;
      other_contents = other_contents_kept old (queues_state after) rest.contents number others;
      kept = held_pushed_back old (queues_state after) rest.contents number block list others;
      gone = released_back old (queues_state after) rest.contents number block list others;
      rest = rest;
      once = once_seen after pushes.threaded;
    }
