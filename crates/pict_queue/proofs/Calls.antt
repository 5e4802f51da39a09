-- What each call reads and leaves, from the fields to what contracts see.
use Rattle.std.proofs.Common.{◌≡◌, ℕ, ◌+◌, ◌-◌, ◌^◌, ◌<◌, ◌≤◌, [], length, map, drop, get_or, refl, sym, ◌∙◌, ap, subst, arith, length-drop, drop-drop}
use Rattle.std.proofs.lemmas.List.{length-map}
use Rattle.pict_region.specs.RegionState.{IsLive, words_of, width_of}
use Rattle.pict_region.proofs.Chains.{chain-length}
use Rattle.pict_queue.specs.QueuesState.{QueuesState, IsQueue, IsHeld, queue_blocks, link_of, KeepsContents, KeepsRest}
use Rattle.pict_queue.specs.Contents.{held_words, first_words}
use Rattle.pict_queue.specs.Threads.{queues_state, thread, AreQueuesSound}
use Rattle.pict_queue.specs.Ends.{queue_in, ends_of}
use Rattle.pict_queue.specs.declared.ends.Queue.{Queue}
use Rattle.pict_queue.specs.declared.queues.Queues.TheInside.{Inside}
use Rattle.pict_queue.proofs.Orders.{list_is, StandsApart, apart_if_held, end_is, first_of, first_in, second_in, length_fits, ThreadsStay}

-- the record of a queue, as a call reads it
pub record ReadsQueue (a : Inside) (number : ℕ) (queue : Queue) : Type 0 where
  pub inside : number < length a.ends.queues.items
  pub queue_is : queue ≡ queue_in a.ends.queues.items number

pub queues_length : (a : Inside) (s : QueuesState) → queues_state a ≡ s → length s.queues ≡ length a.ends.queues.items
queues_length a s is = ap (λ t. length t.queues) (sym is) ∙ length-map a.ends.queues.items _

pub queue_read : (a : Inside) (s : QueuesState) (number : ℕ) (queue : Queue) → queues_state a ≡ s → IsQueue s number
    → queue ≡ queue_in a.ends.queues.items number → ReadsQueue a number queue
queue_read a s number queue is there read =
    let inside : number < length a.ends.queues.items = omega (arith, there, queues_length a s is) in
    record { inside = inside; queue_is = read }

-- the list of a queue, before a call
pub list_seen : (a : Inside) (s : QueuesState) (queue : ℕ) → queues_state a ≡ s → queue_blocks s queue ≡ thread a.region a.ends.queues.items queue
list_seen a s queue is = ap (λ t. queue_blocks t queue) (sym is) ∙ list_is a queue

pub list_length : (a : Inside) (s : QueuesState) (number : ℕ) → queues_state a ≡ s → length (queue_blocks s number) ≡ (queue_in a.ends.queues.items number).length
list_length a s number is =
    ap length (list_seen a s number is) ∙ chain-length (link_of a.region) (queue_in a.ends.queues.items number).first (queue_in a.ends.queues.items number).length

-- what a push finds
pub record FindsEnds (a : Inside) (number block : ℕ) (queue ends : Queue) : Type 0 where
  pub read : ReadsQueue a number queue
  pub apart : StandsApart a.region a.ends.queues.items block
  pub live : IsLive a.region ends.last
  pub wide : 1 ≤ width_of a.region ends.last
  pub block_wide : 1 ≤ width_of a.region block
  pub fits : queue.length + 1 < 2 ^ 32

pub ends_found : (a : Inside) (s : QueuesState) (number token block : ℕ) (queue ends : Queue) → queues_state a ≡ s → AreQueuesSound a → IsQueue s number → IsHeld s token
    → block ≡ token → queue ≡ queue_in a.ends.queues.items number → ends ≡ ends_of queue block → FindsEnds a number block queue ends
ends_found a s number token block queue ends is sound there held same read ends_are =
    let reads = queue_read a s number queue is there read in
    let apart : StandsApart a.region a.ends.queues.items block = subst (StandsApart a.region a.ends.queues.items) (sym same) (apart_if_held a s token is held) in
    let live : IsLive a.region ends.last =
    subst (λ e. IsLive a.region e.last) (sym (ends_are ∙ ap (λ q. ends_of q block) reads.queue_is))
    (end_is a.region a.ends.queues.items number block sound.threaded apart).0 in
    record {
      read = reads;
      apart = apart;
      live = live;
      wide = omega (arith, sound.threaded.wide ends.last live);
      block_wide = omega (arith, sound.threaded.wide block apart.live);
      fits = omega (arith, length_fits a.region a.ends.queues.items number block sound.threaded apart, ap (λ q. q.length) reads.queue_is);
    }

-- the number of a held block is small
pub held_small : (a : Inside) (s : QueuesState) (token block : ℕ) → queues_state a ≡ s → AreQueuesSound a → IsHeld s token → block ≡ token → block < 2 ^ 32
held_small a s token block is sound held same = omega (arith, sound.threaded.small token (apart_if_held a s token is held).live, same)

-- what a pop or a look at the first block finds
pub record FindsFirst (a : Inside) (number : ℕ) (queue : Queue) : Type 0 where
  pub read : ReadsQueue a number queue
  pub live : IsLive a.region queue.first
  pub wide : 2 ≤ width_of a.region queue.first

pub first_found : (a : Inside) (s : QueuesState) (number : ℕ) (queue : Queue) → queues_state a ≡ s → AreQueuesSound a → IsQueue s number
    → queue ≡ queue_in a.ends.queues.items number → 0 < queue.length → FindsFirst a number queue
first_found a s number queue is sound there read some =
    let reads = queue_read a s number queue is there read in
    let stands = first_in a.region a.ends.queues.items number (omega (arith, some, ap (λ q. q.length) reads.queue_is)) in
    let live : IsLive a.region queue.first = subst (IsLive a.region) (sym (ap (λ q. q.first) reads.queue_is)) (sound.threaded.live number (queue_in a.ends.queues.items number).first stands) in
    record { read = reads; live = live; wide = sound.threaded.wide queue.first live }

-- the queue is there
pub queue_there : (a : Inside) (s : QueuesState) (number : ℕ) → queues_state a ≡ s → IsQueue s number → number < length a.ends.queues.items
queue_there a s number is there = omega (arith, there, queues_length a s is)

-- the first block of a queue that isn't empty
pub first_there : (a : Inside) (s : QueuesState) (number : ℕ) → queues_state a ≡ s → AreQueuesSound a → IsQueue s number → 0 < length (queue_blocks s number)
    → FindsFirst a number (queue_in a.ends.queues.items number)
first_there a s number is sound there some =
    first_found a s number (queue_in a.ends.queues.items number) is sound there refl (omega (arith, some, list_length a s number is))

-- all but links, orders and work stays
pub rest_kept : (a a' : Inside) (s : QueuesState) → queues_state a ≡ s → KeepsContents a.region a'.region → a'.region.free ≡ a.region.free
    → length a'.ends.queues.items ≡ length a.ends.queues.items → a'.spare ≡ a.spare → KeepsRest s (queues_state a')
rest_kept a a' s is contents free queues spare = subst (λ t. KeepsRest t (queues_state a')) is (record {
  contents = contents;
  free = free;
  queues = length-map a'.ends.queues.items _ ∙ queues ∙ sym (length-map a.ends.queues.items _);
  spare_queues = spare;
})

-- all lists stay
pub lists_kept : (a a' : Inside) (s : QueuesState) → queues_state a ≡ s → a'.ends.queues.items ≡ a.ends.queues.items → ThreadsStay a.region a'.region a.ends.queues.items
    → (queue : ℕ) → queue_blocks (queues_state a') queue ≡ queue_blocks s queue
lists_kept a a' s is queues stay queue =
    list_is a' queue ∙ ap (λ qs. thread a'.region qs queue) queues ∙ stay.same queue ∙ sym (list_seen a s queue is)

-- the number that the first block of a queue names, where there is a second
pub next_found : (a : Inside) (number link next : ℕ) (queue : Queue) → AreQueuesSound a → queue ≡ queue_in a.ends.queues.items number
    → link ≡ link_of a.region queue.first → (link < 2 ^ 32 → next ≡ link) → 1 < queue.length → next ≡ link_of a.region queue.first
next_found a number link next queue sound queue_is link_is named some =
    let first : ℕ = (queue_in a.ends.queues.items number).first in
    let second = second_in a.region a.ends.queues.items number (omega (arith, some, ap (λ q. q.length) queue_is)) in
    let small = sound.threaded.small (link_of a.region first) (sound.threaded.live number (link_of a.region first) second) in
    let same : link ≡ link_of a.region first = link_is ∙ ap (λ q. link_of a.region q.first) queue_is in
    named (omega (arith, small, same)) ∙ link_is

-- what the first block of a queue holds
pub record SeesFirst (a : Inside) (s : QueuesState) (number : ℕ) (queue : Queue) : Type 0 where
  pub live : IsLive a.region queue.first
  pub wide : length (first_words s number) + 1 ≡ width_of a.region queue.first
  pub words : (first : ℕ) → 1 ≤ first → drop first (words_of a.region queue.first) ≡ drop (first - 1) (first_words s number)

pub sees_first : (a : Inside) (s : QueuesState) (number : ℕ) (queue : Queue) → queues_state a ≡ s → AreQueuesSound a → IsQueue s number
    → queue ≡ queue_in a.ends.queues.items number → 0 < length (queue_blocks s number) → SeesFirst a s number queue
sees_first a s number queue is sound there read some =
    let queue_is = (queue_read a s number queue is there read).queue_is in
    let more : 0 < queue.length = omega (arith, some, list_length a s number is, ap (λ q. q.length) queue_is) in
    let found = first_found a s number queue is sound there read more in
    let list = list_seen a s number is ∙ first_of a.region a.ends.queues.items number (omega (arith, more, ap (λ q. q.length) queue_is)) in
    let words : first_words s number ≡ drop 1 (words_of a.region queue.first) =
    ap (λ ns. get_or (map (held_words s.region) ns) 0 []) list
    ∙ ap (λ q. held_words s.region q.first) (sym queue_is)
    ∙ ap (λ t. held_words t.region queue.first) (sym is) in
    record {
      live = found.live;
      wide = omega (arith, ap length words, length-drop 1 (words_of a.region queue.first), found.wide);
      words = λ first behind.
          let back : 1 + (first - 1) ≡ first = omega (arith, behind) in
          sym (ap (drop (first - 1)) words ∙ drop-drop (first - 1) 1 (words_of a.region queue.first) ∙ ap (λ n. drop n (words_of a.region queue.first)) back);
    }
