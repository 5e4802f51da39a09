-- Room for what a node is about to make.
use Rattle.std.specs.Prelude.{◌≡◌, ◌≤◌, ℕ, nat_lt, List, length, if◌then◌else◌}
use Rattle.std.specs.Vec.{vec_capacity}
use Rattle.pict_syntax.specs.declared.limits.TheConstants.{NARROW_LIMIT}
use Rattle.pict_heap.specs.HeapState.{HeapState}
use Rattle.pict_prim.specs.Acts.{UsesNeed}
use Rattle.pict_prim.specs.declared.act.Need.{Need}
use Rattle.pict_desk.specs.Needs.{no_need, record_need}
use Rattle.pict_desk.specs.declared.desk.Desk.{Desk}
use Rattle.pict_desk.specs.declared.pending.Pending.{Pending}

-- what a block for a frame needs of the heap
abbrev pub frame_need : List ℕ → Need
frame_need frame = if nat_lt NARROW_LIMIT (length frame) then record_need (length frame) else no_need

-- The heap has the texts and the records that it had.
pub record KeepsHeap (old new : HeapState) : Type 0 where
  pub texts : new.texts ≡ old.texts
  pub records : new.records ≡ old.records

-- the piles are as they were, and there is room for no less on them
pub record KeepsPiles (old new : Pending) : Type 0 where
  pub words : new.words.items ≡ old.words.items
  pub words_room : vec_capacity old.words ≤ vec_capacity new.words
  pub labelled : new.labelled.items ≡ old.labelled.items
  pub labelled_room : vec_capacity old.labelled ≤ vec_capacity new.labelled

-- Nothing has changed but room, of which there is no less: in the heap and on the piles.
pub record OnlyMakesRoom (old new : Desk) : Type 0 where
  pub heap : KeepsHeap old.heap new.heap
  pub room : UsesNeed old.heap.room new.heap.room no_need
  pub pending : KeepsPiles old.pending new.pending
  pub values : new.values ≡ old.values
