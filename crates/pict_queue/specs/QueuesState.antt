-- What queues stand for: a region, and for each queue the number of its first block and its length.
use Rattle.std.specs.Prelude.{◌≡◌, ℕ, ◌+◌, ◌<◌, ◌≤◌, ◌==◌, if◌then◌else◌, eqb, List, ◌++◌, take, drop, length, slice_index, slice_index_or, IsTrue, refl}
use Rattle.std.specs.Coded.{Coded, code_by, coded×, coded_list, coded_ℕ}
use Rattle.std.specs.List.{IsDistinct, list_any}
use Rattle.std.specs.Option.{option_map}
use Rattle.std.specs.FinMap.{get}
use Rattle.pict_region.specs.Chain.{chain}
use Rattle.pict_region.specs.RegionState.{RegionState, region_code, IsLive, words_of}

pub record QueueState : Type 0 where
  pub first : ℕ
  pub count : ℕ

pub record QueuesState : Type 0 where
  -- the region in which all blocks lie
  pub region : RegionState
  -- the queues, by their numbers
  pub queues : List QueueState
  -- how many queues can be added without memory
  pub spare_queues : ℕ

abbrev pub queue_code : Coded QueueState
queue_code = code_by (ℕ × ℕ) (coded× coded_ℕ coded_ℕ) (λ q. (q.first, q.count)) (λ p. record { first = p.0; count = p.1 }) (λ _. refl)

abbrev pub queues_code : Coded QueuesState
queues_code =
    code_by
    (RegionState × (List QueueState × ℕ))
    (coded× region_code (coded× (coded_list queue_code) coded_ℕ))
    (λ s. (s.region, (s.queues, s.spare_queues)))
    (λ p. record { region = p.0; queues = p.1.0; spare_queues = p.1.1 })
    (λ _. refl)

abbrev pub IsQueue : QueuesState → ℕ → Type 0
IsQueue s queue = queue < length s.queues

-- the link of a block, its word 0
abbrev pub link_of : RegionState → ℕ → ℕ
link_of r block = slice_index (words_of r block) 0

abbrev pub no_queue : QueueState
no_queue = record { first = 0; count = 0 }

abbrev pub queue_at : QueuesState → ℕ → QueueState
queue_at s queue = slice_index_or s.queues queue no_queue

-- the blocks of a queue, from its first block on by the links
abbrev pub queue_blocks : QueuesState → ℕ → List ℕ
queue_blocks s queue = chain (link_of s.region) (queue_at s queue).first (queue_at s queue).count

abbrev pub StandsIn : QueuesState → ℕ → ℕ → Type 0
StandsIn s queue block = IsTrue (list_any (eqb block) (queue_blocks s queue))

-- a held block is live and stands in no queue
pub record IsHeld (s : QueuesState) (block : ℕ) : Type 0 where
  pub live : IsLive s.region block
  pub apart : (queue : ℕ) → ¬ StandsIn s queue block

-- a block that stands in a queue is live, stands there once, and in no other queue
pub record HasEachBlockOnce (s : QueuesState) : Type 0 where
  pub live : (queue block : ℕ) → StandsIn s queue block → IsLive s.region block
  pub once : (queue : ℕ) → IsDistinct eqb (queue_blocks s queue)
  pub alone : (queue other block : ℕ) → StandsIn s queue block → StandsIn s other block → queue ≡ other

-- the same blocks are live, with the same words behind their links
abbrev pub KeepsContents : RegionState → RegionState → Type 0
KeepsContents old new = (block : ℕ) → option_map (drop 1) (get new.live block) ≡ option_map (drop 1) (get old.live block)

-- the lists of all queues but this one stay
abbrev pub KeepsOtherQueues : QueuesState → QueuesState → ℕ → Type 0
KeepsOtherQueues old new queue = (other : ℕ) → ¬ (other ≡ queue) → queue_blocks new other ≡ queue_blocks old other

abbrev pub KeepsQueues : QueuesState → QueuesState → Type 0
KeepsQueues old new = (queue : ℕ) → queue_blocks new queue ≡ queue_blocks old queue

-- the list of a queue without the first block of one of them
abbrev pub without_first : QueuesState → ℕ → ℕ → List ℕ
without_first s from queue = if queue == from then drop 1 (queue_blocks s queue) else queue_blocks s queue

-- the list of a queue after the first block of one has become the last of another, or of the same
abbrev pub moved_list : QueuesState → ℕ → ℕ → ℕ → List ℕ
moved_list s from to queue =
    if queue == to then without_first s from queue ++ take 1 (queue_blocks s from) else without_first s from queue

-- there are no fewer queues, those that can be added without memory among them
abbrev pub LosesNoQueue : QueuesState → QueuesState → Type 0
LosesNoQueue old new = length old.queues + old.spare_queues ≤ length new.queues + new.spare_queues

-- nothing but links and the order of blocks in queues has changed, and work
pub record KeepsRest (old new : QueuesState) : Type 0 where
  pub contents : KeepsContents old.region new.region
  pub free : new.region.free ≡ old.region.free
  pub queues : length new.queues ≡ length old.queues
  pub spare_queues : new.spare_queues ≡ old.spare_queues

-- the work has risen by at most this much
pub record CostsAtMost (cost : ℕ) (old new : QueuesState) : Type 0 where
  pub least : old.region.work ≤ new.region.work
  pub most : new.region.work ≤ old.region.work + cost
