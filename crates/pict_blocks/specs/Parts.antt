-- The parts of a node in blocks: how wide a block is, the room that it takes, how it is made and how it is read.
use Rattle.std.specs.Prelude.{◌≡◌, ◌≤◌, ◌+◌, ◌*◌, ℕ, suc, nat_lt, List, ◌∷◌, drop, length, map, if◌then◌else◌}
use Rattle.pict_syntax.specs.declared.limits.TheConstants.{NARROW_LIMIT}
use Rattle.pict_region.specs.RegionState.{spare}
use Rattle.pict_queue.specs.QueuesState.{QueuesState}
use Rattle.pict_heap.specs.HeapState.{KeepsWords}
use Rattle.pict_prim.specs.Acts.{UsesNeed}
use Rattle.pict_desk.specs.Known.{value_in, known}
use Rattle.pict_desk.specs.Needs.{HasRoomFor, KeepsPending}
use Rattle.pict_desk.specs.Pairs.{ArePairs}
use Rattle.pict_desk.specs.Room.{frame_need}
use Rattle.pict_desk.specs.declared.desk.Desk.{Desk}
use Rattle.pict_blocks.specs.Blocks.{frame_values}
use Rattle.pict_blocks.specs.Framed.{gathered}
use Rattle.pict_blocks.specs.Holding.{HoldsFrame}
use Rattle.pict_blocks.specs.Writing.{IsMade}

-- the width of a block for a frame: two words a level, or those of one record
abbrev pub block_width : List ℕ → ℕ
block_width frame = if nat_lt NARROW_LIMIT (length frame) then 4 else 2 + 2 * length frame

-- there is a free block for the frame, and room for its record where it needs one
pub record HasPlaceFor (q : QueuesState) (d : Desk) (frame : List ℕ) : Type 0 where
  pub block : 1 ≤ spare q.region (block_width frame)
  pub room : HasRoomFor d.heap d.pending (frame_need frame)

-- The block, made of a free one, is that of the node with this number, with the values that the levels of its frame had. All
-- words stand for what they stood for, and the values stay.
pub record IsPart (before after : QueuesState) (old new : Desk) (block number : ℕ) (frame : List ℕ) : Type 0 where
  pub held : List ℕ
  pub made : IsMade before after block (suc number ∷ held) (block_width frame)
  pub holds : HoldsFrame new.heap (known old.heap old.values.items) frame held
  pub keeps : KeepsWords old.heap new.heap
  pub used : UsesNeed old.heap.room new.heap.room (frame_need frame)
  pub values : new.values.items ≡ old.values.items
  pub pending : KeepsPending old.pending new.pending

-- The levels of the frame have the values that a block with these words behind its link holds, and the very words where it holds
-- those of each level. Nothing has changed but the values of levels, each of which has the words of a value still.
pub record HasReadFrame (old new : Desk) (words frame : List ℕ) : Type 0 where
  pub values : frame_values (value_in new.heap) (length frame) (drop 1 words) ≡ map (known new.heap new.values.items) frame
  pub same : length frame ≤ NARROW_LIMIT → drop 1 words ≡ gathered new.values.items frame
  pub heap : new.heap ≡ old.heap
  pub pending : new.pending ≡ old.pending
  pub levels : length new.values.items ≡ length old.values.items
  pub pairs : ArePairs new.heap new.values.items
