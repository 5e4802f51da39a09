-- Room for what a step is about to make.
use Rattle.std.specs.Prelude.{◌≡◌, ◌≤◌, ◌==◌, ℕ, List, if◌then◌else◌}
use Rattle.pict_region.specs.RegionState.{spare}
use Rattle.pict_queue.specs.Contents.{KeepsAllContents, KeepsHeld, HoldsNoMore}
use Rattle.pict_prim.specs.Acts.{UsesNeed}
use Rattle.pict_prim.specs.declared.act.Need.{Need}
use Rattle.pict_desk.specs.Needs.{no_need, both_needs, HasRoomFor}
use Rattle.pict_desk.specs.Room.{KeepsHeap, KeepsPiles, frame_need}
use Rattle.pict_blocks.specs.Parts.{block_width}
use Rattle.pict_turns.specs.declared.store.Store.{Store}

-- There is a free block for the frame, and room for its record where it needs one and for so much more.
pub record CanHoldAnd (s : Store) (frame : List ℕ) (further : Need) : Type 0 where
  pub block : 1 ≤ spare s.queues.region (block_width frame)
  pub room : HasRoomFor s.desk.heap s.desk.pending (both_needs (frame_need frame) further)

-- There are free blocks for both frames, two where they are equally wide, and room for the records of both.
pub record CanHoldBoth (s : Store) (first second : List ℕ) : Type 0 where
  pub one : 1 ≤ spare s.queues.region (block_width first)
  pub other : (if block_width second == block_width first then 2 else 1) ≤ spare s.queues.region (block_width second)
  pub room : HasRoomFor s.desk.heap s.desk.pending (both_needs (frame_need first) (frame_need second))

-- Nothing has changed but room, of which there is no less: in the heap, on the piles, for queues, and free blocks.
pub record OnlyReserves (old new : Store) : Type 0 where
  pub heap : KeepsHeap old.desk.heap new.desk.heap
  pub room : UsesNeed old.desk.heap.room new.desk.heap.room no_need
  pub pending : KeepsPiles old.desk.pending new.desk.pending
  pub live : new.queues.region.live ≡ old.queues.region.live
  pub work : new.queues.region.work ≡ old.queues.region.work
  pub spare : (width : ℕ) → spare old.queues.region width ≤ spare new.queues.region width
  pub queues : new.queues.queues ≡ old.queues.queues
  pub spare_queues : old.queues.spare_queues ≤ new.queues.spare_queues
  pub contents : KeepsAllContents old.queues new.queues
  pub held : KeepsHeld old.queues new.queues
  pub no_more : HoldsNoMore old.queues new.queues
  pub values : new.desk.values.items ≡ old.desk.values.items
  pub turn : new.turn ≡ old.turn
