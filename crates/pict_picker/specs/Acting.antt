-- What is known of a process that acts, and of a channel at which it does.
use Rattle.std.specs.Prelude.{◌≡◌, ◌≢◌, ◌<◌, ℕ, true, Bool, List, length, map, slice_get, Some}
use Rattle.pict_syntax.specs.declared.span.Span.{Span}
use Rattle.pict_core.specs.Term.{Val, Process, Chan, Out}
use Rattle.pict_core.specs.Closed.{IsUnder}
use Rattle.pict_core.specs.Deed.{Misfits}
use Rattle.pict_code.specs.Frames.{frame_of}
use Rattle.pict_code.specs.Instruction.{Op, CodePat}
use Rattle.pict_code.specs.Nodes.{Place, places, op_of, input_op}
use Rattle.pict_code.specs.Plain.{plain_node}
use Rattle.pict_code.specs.Standing.{with_frame}
use Rattle.pict_code.specs.declared.instruction.Node.{Node}
use Rattle.pict_view.specs.Partners.{is_input}
use Rattle.pict_view.specs.View.{list_at}
use Rattle.pict_desk.specs.Code.{core_in, IsCode}
use Rattle.pict_desk.specs.Known.{known, operand_value}
use Rattle.pict_desk.specs.Pairs.{IsPair}
use Rattle.pict_desk.specs.declared.desk.Desk.{Desk}
use Rattle.pict_desk.specs.declared.kept.Kept.{Kept}
use Rattle.pict_heap.specs.HeapState.{HeapState}
use Rattle.pict_picker.specs.Deeds.{deed_at}
use Rattle.pict_picker.specs.Picker.{IsDesk}
use Rattle.pict_picker.specs.Waiting.{pair_value, node_process, processes_of, IsNode, AreParked}
use Rattle.pict_picker.specs.declared.waiting.Waiting.{Waiting}

-- the process of a node with this instruction, where the levels have these values
pub record IsProcessOf (core : Process) (value : ℕ → Val) (op : Op) (own : Process) : Type 0 where
  pub number : ℕ
  pub part : Place
  pub at : slice_get (places 0 core) number ≡ Some part
  pub op_is : op_of number part.around part.process ≡ op
  pub is : own ≡ with_frame part (map value (frame_of part.around part.process))

-- A process acts where these wait at channels: its channels are there, and its step isn't wrong.
pub record MayAct (code : List Node) (d : Desk) (lists : List (List Process)) (j : ℕ) (own : Process) : Type 0 where
  pub code_is : IsCode (map plain_node code)
  pub desk : IsDesk (core_in code) d
  pub under : IsUnder 0 (length lists) own
  pub right : deed_at lists j own ≢ Misfits

-- The one that acts is a node with this instruction, and the levels of its frame have its values.
pub record ActsBy (code : List Node) (d : Desk) (lists : List (List Process)) (j : ℕ) (op : Op) (own : Process) : Type 0 where
  pub may : MayAct code d lists j own
  pub node : IsProcessOf (core_in code) (known d.heap d.values.items) op own

-- These wait at the channel.
pub record WaitAt (code : List Node) (d : Desk) (lists : List (List Process)) (channel : ℕ) (items : List Waiting) : Type 0 where
  pub there : channel < length lists
  pub list : list_at channel lists ≡ processes_of (core_in code) d.heap items
  pub parked : AreParked (core_in code) d.heap items

-- it is an output of this message on the channel
pub record SendsOn (code : List Node) (d : Desk) (lists : List (List Process)) (j channel : ℕ) (message : ℕ × ℕ) (at : Span) (own : Process) : Type 0 where
  pub may : MayAct code d lists j own
  pub there : channel < length lists
  pub pair : IsPair d.heap message
  pub is : own ≡ Out (Chan channel) (pair_value d.heap message) at

-- it is an input from the channel, with this pattern and this part
pub record ReceivesOn (code : List Node) (d : Desk) (lists : List (List Process)) (j channel : ℕ) (replicated : Bool) (pattern : CodePat) (part : ℕ)
    (own : Process) : Type 0 where
  pub chan : Val
  pub acts : ActsBy code d lists j (input_op replicated chan pattern part) own
  pub from : operand_value (known d.heap d.values.items) chan ≡ Chan channel
  pub there : channel < length lists

-- The j-th that waits at the channel is the node with this number, an input, whose frame has these values.
pub record ReadsAt (code : List Node) (d : Desk) (lists : List (List Process)) (j channel number : ℕ) (frame : List (ℕ × ℕ)) : Type 0 where
  pub node : IsNode (core_in code) d.heap number frame
  pub input : is_input (node_process d.heap frame (slice_get (places 0 (core_in code)) number)) ≡ true
  pub waits : slice_get (list_at channel lists) j ≡ Some (node_process d.heap frame (slice_get (places 0 (core_in code)) number))

-- The j-th that waits at the channel is an output of this message.
pub record SentAt (d : Desk) (lists : List (List Process)) (j channel : ℕ) (message : ℕ × ℕ) : Type 0 where
  pub pair : IsPair d.heap message
  pub to : Val
  pub at : Span
  pub waits : slice_get (list_at channel lists) j ≡ Some (Out to (pair_value d.heap message) at)

-- the kept words of an output on a channel, at a place
pub record IsKeptOn (channel : ℕ) (message : ℕ × ℕ) (at : Span) (kept : Kept) : Type 0 where
  pub to : (h : HeapState) → IsPair h kept.to × (pair_value h kept.to ≡ Chan channel)
  pub message_is : kept.message ≡ message
  pub at_is : kept.at ≡ at
