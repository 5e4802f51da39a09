-- What a block of a machine stands for, by the words behind its link, and what queues of blocks stand for.
use Rattle.std.specs.Prelude.{◌≡◌, ℕ, zero, suc, nat_lt, List, [], ◌∷◌, map, length, slice_get, Option, Some, None, if◌then◌else◌}
use Rattle.pict_syntax.specs.declared.limits.TheConstants.{NARROW_LIMIT}
use Rattle.pict_core.specs.Term.{Val, Process, Zero, Out}
use Rattle.pict_code.specs.Frames.{frame_of}
use Rattle.pict_code.specs.Instruction.{Node}
use Rattle.pict_code.specs.Nodes.{Place, places, nodes_of}
use Rattle.pict_code.specs.Standing.{with_frame}
use Rattle.pict_desk.specs.Known.{value_in, value_fields, known}
use Rattle.pict_heap.specs.HeapState.{HeapState}
use Rattle.pict_view.specs.View.{View}

-- two words a value, read by `value`
abbrev pub values_in_words : (ℕ → ℕ → Val) → List ℕ → List Val
values_in_words value (tag ∷ payload ∷ ws) = value tag payload ∷ values_in_words value ws
values_in_words value _ = []

-- the values of a frame: themselves, or where it has more than `NARROW_LIMIT` levels the positional fields of one record
abbrev pub frame_values : (ℕ → ℕ → Val) → ℕ → List ℕ → List Val
frame_values value levels (tag ∷ payload ∷ ws) = if nat_lt NARROW_LIMIT levels then value_fields (value tag payload) else values_in_words value (tag ∷ payload ∷ ws)
frame_values value levels ws = []

abbrev pub node_process : (ℕ → ℕ → Val) → List ℕ → Option Place → Process
node_process value ws None = Zero
node_process value ws (Some p) = with_frame p (frame_values value (length (frame_of p.around p.process)) ws)

-- word 1 is 0: an output of kept values, with its place in the text
abbrev pub kept_process : (ℕ → ℕ → Val) → List ℕ → Process
kept_process value (a ∷ b ∷ c ∷ d ∷ text ∷ start ∷ end ∷ ws) = Out (value a b) (value c d) (record { text = text; start = start; end = end })
kept_process value _ = Zero

-- Word 1 is n + 1: the process of node n of the core process' code, with the values of its frame.
abbrev pub process_of : Process → (ℕ → ℕ → Val) → List ℕ → Process
process_of core value [] = Zero
process_of core value (zero ∷ ws) = kept_process value ws
process_of core value (suc n ∷ ws) = node_process value ws (slice_get (places 0 core) n)

-- the first queue is of the ready processes, the others are of the channels in order
abbrev pub view_of_contents : Process → (ℕ → ℕ → Val) → List (List ℕ) → List (List (List ℕ)) → View
view_of_contents core value ready channels = record {
  ready = map (process_of core value) ready;
  channels = map (map (process_of core value)) channels;
}

-- These words are a block of the node with this number, which holds the values of the levels of its frame.
pub record IsNodeBlock (core : Process) (h : HeapState) (values : List (ℕ × ℕ)) (number : ℕ) (node : Node) (words : List ℕ) : Type 0 where
  pub at : slice_get (nodes_of core) number ≡ Some node
  pub frame : List ℕ
  pub words_are : words ≡ suc number ∷ frame
  pub holds : frame_values (value_in h) (length node.frame) frame ≡ map (known h values) node.frame
