-- What a picker keeps of a process: a node of the code with the values of its frame, or an output of kept values.
use Rattle.std.specs.Prelude.{◌≡◌, ℕ, true, List, length, map, slice_get, Option, Some, None}
use Rattle.std.specs.List.{AllByRecursion}
use Rattle.pict_core.specs.Term.{Val, Process, Zero, Out}
use Rattle.pict_code.specs.Instruction.{Node}
use Rattle.pict_code.specs.Nodes.{Place, places, nodes_of}
use Rattle.pict_code.specs.Standing.{with_frame}
use Rattle.pict_heap.specs.HeapState.{HeapState}
use Rattle.pict_view.specs.Partners.{is_input}
use Rattle.pict_desk.specs.Known.{value_in}
use Rattle.pict_desk.specs.Pairs.{IsPair}
use Rattle.pict_desk.specs.declared.kept.Kept.{Kept}
use Rattle.pict_picker.specs.declared.waiting.Waiting.{Waiting}
use Rattle.pict_picker.specs.declared.waiting.Waiting.TheVariants as waiting

-- what the two words of a value stand for
abbrev pub pair_value : HeapState → ℕ × ℕ → Val
pair_value h pair = value_in h pair.0 pair.1

abbrev pub node_process : HeapState → List (ℕ × ℕ) → Option Place → Process
node_process h frame None = Zero
node_process h frame (Some p) = with_frame p (map (pair_value h) frame)

abbrev pub kept_process : HeapState → Kept → Process
kept_process h kept = Out (pair_value h kept.to) (pair_value h kept.message) kept.at

-- the process itself: that of the node, with the values of its frame, or the output
abbrev pub process_of : Process → HeapState → Waiting → Process
process_of core h (waiting.Node number frame) = node_process h frame.items (slice_get (places 0 core) number)
process_of core h (waiting.Output kept) = kept_process h kept

-- a node of the code, and the words of a value for each level of its frame
pub record IsNode (core : Process) (h : HeapState) (number : ℕ) (frame : List (ℕ × ℕ)) : Type 0 where
  pub node : Node
  pub at : slice_get (nodes_of core) number ≡ Some node
  pub many : length frame ≡ length node.frame
  pub pairs : AllByRecursion (IsPair h) frame

-- the words of both values
pub record IsKept (h : HeapState) (kept : Kept) : Type 0 where
  pub to : IsPair h kept.to
  pub message : IsPair h kept.message

-- one that may be ready
abbrev pub IsWaiting : Process → HeapState → Waiting → Type 0
IsWaiting core h (waiting.Node number frame) = IsNode core h number frame.items
IsWaiting core h (waiting.Output kept) = IsKept h kept

-- an output of kept values, or a node that is an input
abbrev pub CanPark : Process → HeapState → Waiting → Type 0
CanPark core h (waiting.Node number frame) = is_input (process_of core h (waiting.Node number frame)) ≡ true
CanPark core h (waiting.Output kept) = Unit {0}

-- one that may wait at a channel
abbrev pub IsParked : Process → HeapState → Waiting → Type 0
IsParked core h w = IsWaiting core h w × CanPark core h w

-- the processes of a list, and of each list of a list
abbrev pub processes_of : Process → HeapState → List Waiting → List Process
processes_of core h = map (process_of core h)

abbrev pub AreWaiting : Process → HeapState → List Waiting → Type 0
AreWaiting core h = AllByRecursion (IsWaiting core h)

abbrev pub AreParked : Process → HeapState → List Waiting → Type 0
AreParked core h = AllByRecursion (IsParked core h)
