-- What writing the words of one held block changes, what making one does, and what freeing one does.
use Rattle.std.specs.Prelude.{◌≡◌, ◌≢◌, ℕ, ◌+◌, List, Some}
use Rattle.std.specs.FinMap.{get}
use Rattle.pict_region.specs.RegionState.{spare, width_of, KeepsBlocks, KeepsOtherWidths}
use Rattle.pict_queue.specs.QueuesState.{QueuesState, IsHeld, KeepsQueues}
use Rattle.pict_queue.specs.Contents.{held_words, KeepsAllContents, KeepsHeld, HoldsOneMore, Releases}

-- the held block has these words now, and nothing else has changed but work
pub record OnlyWrites (old new : QueuesState) (block : ℕ) (words : List ℕ) : Type 0 where
  pub here : get new.region.live block ≡ Some words
  pub others : (other : ℕ) → other ≢ block → get new.region.live other ≡ get old.region.live other
  pub free : new.region.free ≡ old.region.free
  pub blocks : KeepsBlocks old.region new.region
  pub queues : new.queues ≡ old.queues
  pub spare_queues : new.spare_queues ≡ old.spare_queues
  pub lists : KeepsQueues old new
  pub held : IsHeld new block

-- nothing has changed but work
abbrev pub OnlyWorks : QueuesState → QueuesState → Type 0
OnlyWorks old new = new ≡ record old { region = record old.region { work = new.region.work } }

-- A held block with these words behind its link was made of a free one of this width. The queues hold what they held, and
-- the other held blocks stay.
pub record IsMade (old new : QueuesState) (block : ℕ) (words : List ℕ) (width : ℕ) : Type 0 where
  pub held : IsHeld new block
  pub here : held_words new.region block ≡ words
  pub contents : KeepsAllContents old new
  pub spare : spare new.region width + 1 ≡ spare old.region width
  pub widths : KeepsOtherWidths old.region new.region width
  pub queues : new.queues ≡ old.queues
  pub spare_queues : new.spare_queues ≡ old.spare_queues
  pub apart : (other : ℕ) → IsHeld old other → other ≢ block
  pub kept : KeepsHeld old new
  pub more : HoldsOneMore old new block
  pub blocks : KeepsBlocks old.region new.region

-- The block, which was held, is free. The queues hold what they held, and no block is held that wasn't.
pub record IsFreed (old new : QueuesState) (block : ℕ) : Type 0 where
  pub contents : KeepsAllContents old new
  pub spare : spare new.region (width_of old.region block) ≡ spare old.region (width_of old.region block) + 1
  pub widths : KeepsOtherWidths old.region new.region (width_of old.region block)
  pub queues : new.queues ≡ old.queues
  pub spare_queues : new.spare_queues ≡ old.spare_queues
  pub gone : Releases old new block
  pub blocks : KeepsBlocks old.region new.region
