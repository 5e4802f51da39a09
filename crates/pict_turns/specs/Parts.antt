-- The parts of a node: one has the turn, others stand in blocks.
use Rattle.std.specs.Prelude.{◌≡◌, ◌≤◌, ◌<◌, ◌+◌, ◌==◌, ◌⊎◌, ◌++◌, ℕ, suc, List, [], ◌∷◌, length, if◌then◌else◌}
use Rattle.pict_syntax.specs.declared.limits.TheConstants.{NARROW_LIMIT}
use Rattle.pict_core.specs.Term.{Process}
use Rattle.pict_queue.specs.Contents.{contents, KeepsOtherContents}
use Rattle.pict_region.specs.RegionState.{spare}
use Rattle.pict_heap.specs.HeapState.{KeepsWords}
use Rattle.pict_prim.specs.Acts.{UsesNeed}
use Rattle.pict_desk.specs.Known.{known}
use Rattle.pict_desk.specs.Needs.{KeepsPending}
use Rattle.pict_blocks.specs.Holding.{HoldsFrame}
use Rattle.pict_blocks.specs.Parts.{block_width, HasPlaceFor}
use Rattle.pict_desk.specs.Room.{frame_need}
use Rattle.pict_turns.specs.Turns.{IsTurn}
use Rattle.pict_turns.specs.Views.{turn_words}
use Rattle.pict_turns.specs.declared.store.Store.{Store}

-- there is a free block for the frame, and room for its record where it needs one
abbrev pub CanHold : Store → List ℕ → Type 0
CanHold s frame = HasPlaceFor s.queues s.desk frame

-- this record has the values that the levels of the frame have, which are more than `NARROW_LIMIT`
pub record HasRecord (s : Store) (frame : List ℕ) (pair : ℕ × ℕ) : Type 0 where
  pub wide : NARROW_LIMIT < length frame
  pub holds : HoldsFrame s.desk.heap (known s.desk.heap s.desk.values.items) frame (pair.0 ∷ pair.1 ∷ [])

-- The node with this number has the turn, with the values that the levels of its frame had. The queues and the values stay, and
-- all words stand for what they stood for.
pub record HandsOn (core : Process) (old new : Store) (number : ℕ) (frame : List ℕ) : Type 0 where
  pub held : List ℕ
  pub holds : HoldsFrame new.desk.heap (known old.desk.heap old.desk.values.items) frame held
  pub turn : turn_words core new ≡ (suc number ∷ held) ∷ []
  pub is : IsTurn core new.desk.heap new.desk.values.items new.turn
  pub queues : new.queues ≡ old.queues
  pub keeps : KeepsWords old.desk.heap new.desk.heap
  pub used : UsesNeed old.desk.heap.room new.desk.heap.room (frame_need frame)
  pub values : new.desk.values.items ≡ old.desk.values.items
  pub pending : KeepsPending old.desk.pending new.desk.pending

-- A new block of the node with this number, with the values that the levels of its frame had, is the last of queue 0. What other
-- queues hold, the values, and who has the turn, stay, and all words stand for what they stood for.
pub record Spawns (old new : Store) (number : ℕ) (frame : List ℕ) : Type 0 where
  pub held : List ℕ
  pub holds : HoldsFrame new.desk.heap (known old.desk.heap old.desk.values.items) frame held
  pub last : contents new.queues 0 ≡ contents old.queues 0 ++ (suc number ∷ held) ∷ []
  pub turn : new.turn ≡ old.turn
  pub others : KeepsOtherContents old.queues new.queues 0
  pub spare : (width : ℕ) → spare old.queues.region width ≤ spare new.queues.region width + (if width == block_width frame then 1 else 0)
  pub queues : length new.queues.queues ≡ length old.queues.queues
  pub keeps : KeepsWords old.desk.heap new.desk.heap
  pub used : UsesNeed old.desk.heap.room new.desk.heap.room (frame_need frame)
  pub values : new.desk.values.items ≡ old.desk.values.items
  pub pending : KeepsPending old.desk.pending new.desk.pending

-- Where nobody had the turn, the node with this number is the last of the ready ones: it has the turn, queue 0 being empty, or
-- a new block of it is the last of queue 0.
abbrev pub IsLast : Process → Store → Store → ℕ → List ℕ → Type 0
IsLast core old new number frame = ((contents old.queues 0 ≡ []) × HandsOn core old new number frame) ⊎ Spawns old new number frame
