-- Queues as lists of words: what their blocks hold behind the links. Contracts above speak of these, and of no numbers of
-- blocks.
use Rattle.std.specs.Prelude.{◌≡◌, ◌≢◌, ℕ, List, [], map, drop, slice_index_or}
use Rattle.pict_region.specs.RegionState.{RegionState, words_of}
use Rattle.pict_queue.specs.QueuesState.{QueuesState, queue_blocks, moved_list, IsHeld}

-- the words of a block behind its link
abbrev pub held_words : RegionState → ℕ → List ℕ
held_words r block = drop 1 (words_of r block)

-- what the blocks of a queue hold, the oldest first
abbrev pub contents : QueuesState → ℕ → List (List ℕ)
contents s queue = map (held_words s.region) (queue_blocks s queue)

-- the same after the first block of one queue has become the last of another, or of the same
abbrev pub moved_contents : QueuesState → ℕ → ℕ → ℕ → List (List ℕ)
moved_contents s from to queue = map (held_words s.region) (moved_list s from to queue)

-- what the first block of a queue holds
abbrev pub first_words : QueuesState → ℕ → List ℕ
first_words s queue = slice_index_or (contents s queue) 0 []

abbrev pub KeepsAllContents : QueuesState → QueuesState → Type 0
KeepsAllContents old new = (queue : ℕ) → contents new queue ≡ contents old queue

abbrev pub KeepsOtherContents : QueuesState → QueuesState → ℕ → Type 0
KeepsOtherContents old new queue = (other : ℕ) → other ≢ queue → contents new other ≡ contents old other

-- this block is held still, with the same words behind its link
pub record StaysHeld (old new : QueuesState) (block : ℕ) : Type 0 where
  pub held : IsHeld new block
  pub words : held_words new.region block ≡ held_words old.region block

-- each held block stays held
abbrev pub KeepsHeld : QueuesState → QueuesState → Type 0
KeepsHeld old new = (block : ℕ) → IsHeld old block → StaysHeld old new block

-- each held block but this one stays held
abbrev pub KeepsOtherHeld : QueuesState → QueuesState → ℕ → Type 0
KeepsOtherHeld old new block = (other : ℕ) → other ≢ block → IsHeld old other → StaysHeld old new other

-- no block is held that wasn't held
abbrev pub HoldsNoMore : QueuesState → QueuesState → Type 0
HoldsNoMore old new = (block : ℕ) → IsHeld new block → IsHeld old block

-- the same, and this block isn't held any more
abbrev pub Releases : QueuesState → QueuesState → ℕ → Type 0
Releases old new block = (other : ℕ) → IsHeld new other → (other ≢ block) × IsHeld old other

-- no block is held that wasn't held but this one
abbrev pub HoldsOneMore : QueuesState → QueuesState → ℕ → Type 0
HoldsOneMore old new block = (other : ℕ) → IsHeld new other → other ≢ block → IsHeld old other
