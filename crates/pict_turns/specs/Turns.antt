-- Who may have the turn, how it is taken, and what it costs to take it or to set it down.
use Rattle.std.specs.Prelude.{◌≡◌, ◌≤◌, ◌<◌, ◌+◌, ℕ, suc, List, [], ◌∷◌, length, Some, slice_get}
use Rattle.pict_syntax.specs.declared.limits.TheConstants.{NARROW_LIMIT}
use Rattle.pict_core.specs.Term.{Process}
use Rattle.pict_code.specs.Instruction.{Node}
use Rattle.pict_code.specs.Nodes.{nodes_of}
use Rattle.pict_blocks.specs.Keeping.{kept_words}
use Rattle.pict_heap.specs.HeapState.{HeapState}
use Rattle.pict_queue.specs.QueuesState.{QueuesState}
use Rattle.pict_queue.specs.Contents.{held_words, contents, KeepsOtherContents, HoldsNoMore}
use Rattle.pict_region.specs.RegionState.{spare, KeepsBlocks, KeepsOtherWidths}
use Rattle.pict_blocks.specs.Blocks.{IsNodeBlock}
use Rattle.pict_blocks.specs.Holding.{HoldRecord}
use Rattle.pict_blocks.specs.Writing.{IsFreed}
use Rattle.pict_turns.specs.Reading.{OnlyReads}
use Rattle.pict_turns.specs.Views.{IsKept, turn_words, acting_words}
use Rattle.pict_turns.specs.declared.store.Store.{Store}
use Rattle.pict_turns.specs.declared.turn.Turn.{Turn}
use Rattle.pict_turns.specs.declared.turn.Turn.TheVariants.{Nobody, Node as NodeTurn, Wide, Output}

-- a node whose values are those of the levels of its frame, which would stand in a block itself
pub record IsNarrow (core : Process) (number : ℕ) : Type 0 where
  pub node : Node
  pub at : slice_get (nodes_of core) number ≡ Some node
  pub narrow : length node.frame ≤ NARROW_LIMIT

-- a node of a larger frame, whose values are those of the levels of its frame, and the fields of the record
pub record IsWide (core : Process) (h : HeapState) (values : List (ℕ × ℕ)) (number : ℕ) (pair : ℕ × ℕ) : Type 0 where
  pub node : Node
  pub wide : NARROW_LIMIT < length node.frame
  pub is : IsNodeBlock core h values number node (suc number ∷ pair.0 ∷ pair.1 ∷ [])
  pub record_is : HoldRecord h (length node.frame) (pair.0 ∷ pair.1 ∷ [])

-- who may have the turn
abbrev pub IsTurn : Process → HeapState → List (ℕ × ℕ) → Turn → Type 0
IsTurn core h values Nobody = Unit {0}
IsTurn core h values (NodeTurn number) = IsNarrow core number
IsTurn core h values (Wide number pair) = IsWide core h values number pair
IsTurn core h values (Output kept) = IsKept h (kept_words kept)

-- Who has the turn is what a block with these words behind its link is. Nothing else has changed but work and the values of
-- levels, each of which has the words of a value still.
pub record ReadsTurn (core : Process) (old new : Store) (held : List ℕ) : Type 0 where
  pub words : turn_words core new ≡ held ∷ []
  pub turn : IsTurn core new.desk.heap new.desk.values.items new.turn
  pub rest : OnlyReads old (record new { turn = old.turn })

-- The same of a held block, which is free then.
pub record FreesTurn (core : Process) (old new : Store) (block : ℕ) : Type 0 where
  pub between : QueuesState
  pub read : ReadsTurn core old (record new { queues = between }) (held_words old.queues.region block)
  pub freed : IsFreed between new.queues block

-- The first of queue 0 has the turn now, and its block is free. The other queues, the heap and the piles stay. There are as
-- many blocks, queues, spare queues and levels, and no fewer free blocks, and no block is held that wasn't.
pub record TakesTurn (core : Process) (old new : Store) : Type 0 where
  pub first : contents old.queues 0 ≡ acting_words core new ∷ contents new.queues 0
  pub others : KeepsOtherContents old.queues new.queues 0
  pub queues : length new.queues.queues ≡ length old.queues.queues
  pub spare_queues : new.queues.spare_queues ≡ old.queues.spare_queues
  pub freed : spare new.queues.region (length (acting_words core new) + 1) ≡ spare old.queues.region (length (acting_words core new) + 1) + 1
  pub spare : (width : ℕ) → spare old.queues.region width ≤ spare new.queues.region width
  pub blocks : KeepsBlocks old.queues.region new.queues.region
  pub no_more : HoldsNoMore old.queues new.queues
  pub heap : new.desk.heap ≡ old.desk.heap
  pub pending : new.desk.pending ≡ old.desk.pending
  pub levels : length new.desk.values.items ≡ length old.desk.values.items

-- A free block of this width at most is taken, and as many of the others, and queues, are spare still.
pub record TakesOneBlock (old new : QueuesState) (width : ℕ) : Type 0 where
  pub own : spare old.region width ≤ spare new.region width + 1
  pub others : KeepsOtherWidths old.region new.region width
  pub queues : new.spare_queues ≡ old.spare_queues

-- how many units it takes at most to take the turn from blocks with these words, or to set it down
abbrev pub handing : List (List ℕ) → ℕ
handing [] = 0
handing (words ∷ rest) = length words + 5 + handing rest

-- what it takes at most to take the turn, or to set down who has it; nothing where nobody has it
abbrev pub turn_cost : Process → Store → ℕ
turn_cost core s = handing (turn_words core s)
