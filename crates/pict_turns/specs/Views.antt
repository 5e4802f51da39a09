-- The view of a store: what the blocks of its queues stand for, and who has the turn.
use Rattle.std.specs.Prelude.{◌≡◌, ◌≤◌, ◌<◌, ◌+◌, ◌-◌, ◌⊎◌, ℕ, zero, suc, Bool, List, [], ◌∷◌, ◌++◌, length, Some, slice_get, slice_index_or, option_map, unwrap_or}
use Rattle.std.specs.List.{AllByRecursion}
use Rattle.pict_syntax.specs.declared.limits.TheConstants.{NARROW_LIMIT}
use Rattle.pict_core.specs.Term.{Process, Val}
use Rattle.pict_code.specs.Instruction.{Node, CodePat}
use Rattle.pict_code.specs.Nodes.{nodes_of, input_op}
use Rattle.pict_queue.specs.QueuesState.{QueuesState}
use Rattle.pict_queue.specs.Contents.{contents}
use Rattle.pict_blocks.specs.Framed.{node_words}
use Rattle.pict_blocks.specs.Keeping.{kept_words}
use Rattle.pict_desk.specs.Kept.{FitsKept}
use Rattle.pict_desk.specs.declared.kept.Kept.{Kept}
use Rattle.pict_heap.specs.HeapState.{HeapState}
use Rattle.pict_view.specs.View.{View}
use Rattle.pict_blocks.specs.Blocks.{view_of_contents}
use Rattle.pict_desk.specs.Known.{value_in}
use Rattle.pict_desk.specs.Pairs.{IsPair}
use Rattle.pict_blocks.specs.Holding.{HoldWords, HoldRecord}
use Rattle.pict_turns.specs.declared.store.Store.{Store}
use Rattle.pict_turns.specs.declared.turn.Turn.{Turn}
use Rattle.pict_turns.specs.declared.turn.Turn.TheVariants.{Nobody, Node as NodeTurn, Wide, Output}

-- what the blocks of these queues hold, so many from this one on
abbrev pub lists_from : QueuesState → ℕ → ℕ → List (List (List ℕ))
lists_from s queue zero = []
lists_from s queue (suc n) = contents s queue ∷ lists_from s (queue + 1) n

-- what the blocks of each channel's queue hold: channel c has queue c + 1
abbrev pub channel_lists : QueuesState → List (List (List ℕ))
channel_lists s = lists_from s 1 (length s.queues - 1)

-- the view of a store whose code is that of this process: queue 0 is of the ready processes
abbrev pub view_of : Process → Store → View
view_of core s = view_of_contents core (value_in s.desk.heap) (contents s.queues 0) (channel_lists s.queues)

-- ---- who has the turn

-- the frame of the node with this number
abbrev pub frame_in : List Node → ℕ → List ℕ
frame_in nodes number = unwrap_or (option_map (λ (n : Node). n.frame) (slice_get nodes number)) []

-- The words that a block of who has the turn would have behind its link: of a node with the values that the levels of its frame
-- have. None where nobody has it.
abbrev pub words_of_turn : List Node → List (ℕ × ℕ) → Turn → List (List ℕ)
words_of_turn nodes values Nobody = []
words_of_turn nodes values (NodeTurn number) = node_words values number (frame_in nodes number) ∷ []
words_of_turn nodes values (Wide number record_pair) = (suc number ∷ record_pair.0 ∷ record_pair.1 ∷ []) ∷ []
words_of_turn nodes values (Output kept) = kept_words kept ∷ []

abbrev pub turn_words : Process → Store → List (List ℕ)
turn_words core s = words_of_turn (nodes_of core) s.desk.values.items s.turn

-- who is ready, in order: who has the turn, and then the blocks of queue 0
abbrev pub ready_words : Process → Store → List (List ℕ)
ready_words core s = turn_words core s ++ contents s.queues 0

-- the words of who has the turn, where somebody has it
abbrev pub acting_words : Process → Store → List ℕ
acting_words core s = slice_index_or (turn_words core s) 0 []

-- the view of a store in which somebody may have the turn
abbrev pub view_with_turn : Process → Store → View
view_with_turn core s = view_of_contents core (value_in s.desk.heap) (ready_words core s) (channel_lists s.queues)

-- ---- blocks

-- a block of a node of the code: the values of its frame, or one record of them
pub record IsNode (core : Process) (h : HeapState) (words : List ℕ) : Type 0 where
  pub number : ℕ
  pub node : Node
  pub at : slice_get (nodes_of core) number ≡ Some node
  pub held : List ℕ
  pub is : words ≡ suc number ∷ held
  pub narrow : length node.frame ≤ NARROW_LIMIT → HoldWords h (length node.frame) held
  pub wide : NARROW_LIMIT < length node.frame → HoldRecord h (length node.frame) held

-- a block of an output of kept values
pub record IsKept (h : HeapState) (words : List ℕ) : Type 0 where
  pub kept : Kept
  pub is : words ≡ kept_words kept
  pub fits : FitsKept kept
  pub to : IsPair h kept.to
  pub message : IsPair h kept.message

abbrev pub IsBlock : Process → HeapState → List ℕ → Type 0
IsBlock core h words = IsNode core h words ⊎ IsKept h words

-- each queue holds blocks
abbrev pub AreBlocks : Process → Store → Type 0
AreBlocks core s = (queue : ℕ) → AllByRecursion (IsBlock core s.desk.heap) (contents s.queues queue)

-- the node with this number is an input
pub record IsInputAt (core : Process) (number : ℕ) : Type 0 where
  pub node : Node
  pub at : slice_get (nodes_of core) number ≡ Some node
  pub replicated : Bool
  pub chan : Val
  pub pattern : CodePat
  pub part : ℕ
  pub is : node.op ≡ input_op replicated chan pattern part

-- a block that may wait at a channel: an output of kept values, or an input
abbrev pub CanWait : Process → List ℕ → Type 0
CanWait core [] = ⊥
CanWait core (zero ∷ held) = Unit {0}
CanWait core (suc number ∷ held) = IsInputAt core number

-- what waits at channels
abbrev pub AreWaiting : Process → QueuesState → Type 0
AreWaiting core s = (channel : ℕ) → AllByRecursion (CanWait core) (contents s (channel + 1))
