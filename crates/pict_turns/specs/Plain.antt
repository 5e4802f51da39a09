-- Steps that take no memory: a message and an input that isn't replicated meet.
use Rattle.std.specs.Prelude.{◌≡◌, ◌≤◌, ◌+◌, ◌⊎◌, ℕ, zero, suc, false, List, [], ◌∷◌, length, slice_get, Option, Some, None, option_map, Result, IsOk}
use Rattle.std.specs.declared.alloc.AllocError.{AllocError}
use Rattle.pict_syntax.specs.declared.limits.TheConstants.{NARROW_LIMIT}
use Rattle.pict_syntax.specs.declared.span.Span.{Span}
use Rattle.pict_core.specs.Term as term
use Rattle.pict_core.specs.Term.{Process, Val, Pat, Chan}
use Rattle.pict_code.specs.Instruction.{Op, Out, In, Node, CodePat}
use Rattle.pict_code.specs.Nodes.{nodes_of}
use Rattle.pict_region.specs.RegionState.{spare, KeepsBlocks}
use Rattle.pict_queue.specs.Contents.{contents}
use Rattle.pict_blocks.specs.Blocks.{process_of}
use Rattle.pict_desk.specs.Known.{value_in}
use Rattle.pict_desk.specs.AtHand.{IsOfHeap}
use Rattle.pict_blocks.specs.Parts.{block_width}
use Rattle.pict_desk.specs.Code.{HasFrame}
use Rattle.pict_turns.specs.Views.{ready_words}
use Rattle.pict_turns.specs.declared.store.Store.{Store}
use Rattle.pict_desk.specs.Constants.{HasNoVariable}

-- the instruction of a block with these words behind its link, if it is one of a node
abbrev pub instruction_of : List Node → List ℕ → Option Op
instruction_of nodes (suc number ∷ held) = option_map (λ (n : Node). n.op) (slice_get nodes number)
instruction_of nodes _ = None

-- an input that isn't replicated, with this part
pub record IsPlainInput (nodes : List Node) (words : List ℕ) (part : ℕ) : Type 0 where
  pub chan : Val
  pub pattern : CodePat
  pub is : instruction_of nodes words ≡ Some (In chan pattern part)

-- an output of a node, whose message is no text and no record, or has no variable
pub record NeedsNoWord (nodes : List Node) (words : List ℕ) : Type 0 where
  pub chan : Val
  pub message : Val
  pub at : Span
  pub is : instruction_of nodes words ≡ Some (Out chan message at)
  pub needs_none : IsOfHeap message → HasNoVariable message

-- an output of kept values, or one of a node for whose message no word is made
abbrev pub HasWord : List Node → List ℕ → Type 0
HasWord nodes [] = ⊥
HasWord nodes (zero ∷ held) = Unit {0}
HasWord nodes (suc number ∷ held) = NeedsNoWord nodes (suc number ∷ held)

-- The frame of the part stands in a block itself, and a block of its width is free, or one of the two that meet is as wide.
pub record HasPlainRoom (core : Process) (s : Store) (part : ℕ) (acting waiting : List ℕ) : Type 0 where
  pub frame : List ℕ
  pub has : HasFrame (nodes_of core) part frame
  pub narrow : length frame ≤ NARROW_LIMIT
  pub room : 1 ≤ spare s.queues.region (block_width frame)
      ⊎ length acting + 1 ≡ block_width frame ⊎ length waiting + 1 ≡ block_width frame

-- The block with these words is an output on a channel where an input that isn't replicated waits first, and meets it plainly.
pub record SendsInPlace (core : Process) (s : Store) (acting : List ℕ) : Type 0 where
  pub channel : ℕ
  pub message : Val
  pub at : Span
  pub out : process_of core (value_in s.desk.heap) acting ≡ term.Out (Chan channel) message at
  pub word : HasWord (nodes_of core) acting
  pub waiting : List ℕ
  pub others : List (List ℕ)
  pub waits : contents s.queues (channel + 1) ≡ waiting ∷ others
  pub part : ℕ
  pub input : IsPlainInput (nodes_of core) waiting part
  pub room : HasPlainRoom core s part acting waiting

-- The block with these words is an input that isn't replicated, from a channel where an output of kept values waits first, and
-- meets it plainly.
pub record ReceivesInPlace (core : Process) (s : Store) (acting : List ℕ) : Type 0 where
  pub channel : ℕ
  pub pattern : Pat
  pub body : Process
  pub receives : process_of core (value_in s.desk.heap) acting ≡ term.In (Chan channel) false pattern body
  pub part : ℕ
  pub input : IsPlainInput (nodes_of core) acting part
  pub held : List ℕ
  pub others : List (List ℕ)
  pub waits : contents s.queues (channel + 1) ≡ (zero ∷ held) ∷ others
  pub room : HasPlainRoom core s part acting (zero ∷ held)

-- the block with these words acts, and a message and an input that isn't replicated meet plainly
abbrev pub ActsInPlace : Process → Store → List ℕ → Type 0
ActsInPlace core s acting = SendsInPlace core s acting ⊎ ReceivesInPlace core s acting

-- A message and an input that isn't replicated meet in the step of the first of these ready ones. What is sent is no operand that
-- is a text or a record with a variable, and there is a block for the input's part, once the blocks of the two that meet are
-- given back.
pub record FirstMeetsInPlace (core : Process) (s : Store) (all_ready : List (List ℕ)) : Type 0 where
  pub acting : List ℕ
  pub ready : List (List ℕ)
  pub first : all_ready ≡ acting ∷ ready
  pub plainly : ActsInPlace core s acting

-- the same of the first of queue 0
abbrev pub MeetsInPlace : Process → Store → Type 0
MeetsInPlace core s = FirstMeetsInPlace core s (contents s.queues 0)

-- the same of who has the turn, or else of the first of queue 0
abbrev pub RunsInPlace : Process → Store → Type 0
RunsInPlace core s = FirstMeetsInPlace core s (ready_words core s)

-- the step is done, and there are as many blocks as before, of every width
abbrev pub TakesNoMemory : {T : Type 0} → Store → Store → Result T AllocError → Type 0
TakesNoMemory old new result = IsOk result × KeepsBlocks old.queues.region new.queues.region
