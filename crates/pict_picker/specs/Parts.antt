-- Parts of a node, with values for their frames, room for those of inputs, and what a desk keeps.
use Rattle.std.specs.Prelude.{◌≡◌, ◌≤◌, ℕ, List, length, map, slice_get, Option, Some, None}
use Rattle.pict_core.specs.Term.{Process}
use Rattle.pict_code.specs.Instruction as op
use Rattle.pict_code.specs.Instruction.{Node, Op}
use Rattle.pict_code.specs.Nodes.{nodes_of}
use Rattle.pict_heap.specs.HeapState.{KeepsWords}
use Rattle.pict_desk.specs.Known.{pair_at}
use Rattle.pict_desk.specs.declared.desk.Desk.{Desk}
use Rattle.pict_picker.specs.Picker.{IsDesk}
use Rattle.pict_picker.specs.declared.waiting.Waiting.{Waiting}
use Rattle.pict_picker.specs.declared.waiting.Waiting.TheVariants as waiting

-- the words that the levels of the node's frame have among these
pub record IsFrameOf (core : Process) (values : List (ℕ × ℕ)) (number : ℕ) (frame : List (ℕ × ℕ)) : Type 0 where
  pub node : Node
  pub at : slice_get (nodes_of core) number ≡ Some node
  pub is : frame ≡ map (pair_at values) node.frame

-- the node of this number, with the values that levels have
abbrev pub IsPart : Process → List (ℕ × ℕ) → ℕ → Waiting → Type 0
IsPart core values number (waiting.Node n frame) = (n ≡ number) × IsFrameOf core values number frame.items
IsPart core values number (waiting.Output kept) = ⊥

-- how many levels the frame of a node has, if there is one
abbrev pub frame_width : Option Node → ℕ
frame_width None = 0
frame_width (Some node) = length node.frame

-- the same of the part of an input, by its instruction; none for any other
abbrev pub part_width : List Node → Op → ℕ
part_width nodes (op.In chan pattern part) = frame_width (slice_get nodes part)
part_width nodes (op.Serve chan pattern part) = frame_width (slice_get nodes part)
part_width nodes _ = 0

-- the same of the part of an input that waits, by its node
abbrev pub reader_width : List Node → Option Node → ℕ
reader_width nodes None = 0
reader_width nodes (Some node) = part_width nodes node.op

-- the same of what waits; none for an output
abbrev pub waiting_width : List Node → Waiting → ℕ
waiting_width nodes (waiting.Node number frame) = reader_width nodes (slice_get nodes number)
waiting_width nodes (waiting.Output kept) = 0

-- There is room for the frame of the part of the j-th of these, where it is an input.
abbrev pub HasRoomAt : List Node → List Waiting → ℕ → ℕ → Type 0
HasRoomAt nodes items j room = (w : Waiting) → slice_get items j ≡ Some w → waiting_width nodes w ≤ room

-- All words stand for what they stood for, and each level has the words of a value still.
pub record KeepsDesk (core : Process) (old new : Desk) : Type 0 where
  pub words : KeepsWords old.heap new.heap
  pub desk : IsDesk core new
