-- Room for the block of a part, once other blocks are given back.
use Rattle.std.specs.Prelude.{◌≡◌, ℕ, ◌≤◌, ◌+◌, ◌==◌, List, [], ◌∷◌, length, if◌then◌else◌}
use Rattle.pict_region.specs.RegionState.{spare}
use Rattle.pict_prim.specs.declared.act.Need.{Need}
use Rattle.pict_desk.specs.Needs.{both_needs, HasRoomFor}
use Rattle.pict_turns.specs.Parts.{CanHold}
use Rattle.pict_blocks.specs.Parts.{block_width}
use Rattle.pict_desk.specs.Room.{frame_need}
use Rattle.pict_turns.specs.declared.store.Store.{Store}

-- how many of the blocks with these words behind their links are this wide
abbrev pub as_wide : ℕ → List (List ℕ) → ℕ
as_wide width [] = 0
as_wide width (words ∷ rest) = (if length words + 1 == width then 1 else 0) + as_wide width rest

-- Once the blocks with these words are given back there is a free block for the frame, and there is room for its record
-- where it needs one.
pub record CanHoldAfter (s : Store) (given : List (List ℕ)) (frame : List ℕ) : Type 0 where
  pub block : 1 ≤ spare s.queues.region (block_width frame) + as_wide (block_width frame) given
  pub room : HasRoomFor s.desk.heap s.desk.pending (frame_need frame)

-- The same, and there is room for so much more.
pub record CanHoldAfterAnd (s : Store) (given : List (List ℕ)) (frame : List ℕ) (further : Need) : Type 0 where
  pub block : 1 ≤ spare s.queues.region (block_width frame) + as_wide (block_width frame) given
  pub room : HasRoomFor s.desk.heap s.desk.pending (both_needs (frame_need frame) further)

-- There is a free block for the frame, and room for its record where it needs one; and a second free block where the frame's
-- has this width.
pub record CanHoldBeside (s : Store) (width : ℕ) (frame : List ℕ) : Type 0 where
  pub can : CanHold s frame
  pub left : width ≡ block_width frame → 2 ≤ spare s.queues.region (block_width frame)
