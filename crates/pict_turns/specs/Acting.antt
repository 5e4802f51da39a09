-- Somebody has the turn and acts: what is known of a store meanwhile, and what the step does to it.
use Rattle.std.specs.Prelude.{◌≡◌, ◌≢◌, ◌≤◌, ◌+◌, ℕ, List, [], ◌∷◌, length}
use Rattle.std.specs.List.{AllByRecursion}
use Rattle.pict_core.specs.Term.{Process}
use Rattle.pict_core.specs.Step.{Label}
use Rattle.pict_code.specs.Instruction.{Node, Op}
use Rattle.pict_code.specs.Nodes.{Place, places}
use Rattle.pict_heap.specs.HeapState.{KeepsWords}
use Rattle.pict_queue.specs.QueuesState.{IsQueue, LosesNoQueue}
use Rattle.pict_queue.specs.Contents.{KeepsAllContents, HoldsNoMore}
use Rattle.pict_region.specs.RegionState.{RegionState, spare}
use Rattle.pict_prim.specs.Acts.{UsesNeed}
use Rattle.pict_view.specs.Moved.{Moves, Misshapen}
use Rattle.pict_view.specs.Placed.{next_view}
use Rattle.pict_blocks.specs.Blocks.{IsNodeBlock}
use Rattle.pict_desk.specs.Needs.{no_need}
use Rattle.pict_desk.specs.Pairs.{ArePairs}
use Rattle.pict_desk.specs.Room.{KeepsHeap}
use Rattle.pict_turns.specs.Turns.{IsTurn}
use Rattle.pict_turns.specs.Views.{turn_words, acting_words, view_with_turn, AreBlocks, AreWaiting}
use Rattle.pict_turns.specs.declared.store.Store.{Store}

-- a free block is there for these words and a link
abbrev pub HasBlockFor : RegionState → List ℕ → Type 0
HasBlockFor r words = 1 ≤ spare r (length words + 1)

-- What a store keeps: queue 0 is there, the queues hold blocks of the code, those of channels outputs of kept values and inputs
-- alone, each level has the words of a value, and there is a place for each level of the code. Who has the turn is one who may
-- have it, and a free block is there for it.
pub record IsStore (core : Process) (s : Store) : Type 0 where
  pub ready : IsQueue s.queues 0
  pub blocks : AreBlocks core s
  pub waiting : AreWaiting core s.queues
  pub pairs : ArePairs s.desk.heap s.desk.values.items
  pub levels : AllByRecursion (λ (p : Place). p.around ≤ length s.desk.values.items) (places 0 core)
  pub turn : IsTurn core s.desk.heap s.desk.values.items s.turn
  pub room : AllByRecursion (HasBlockFor s.queues.region) (turn_words core s)

-- Somebody has the turn.
pub record HasActing (core : Process) (s : Store) : Type 0 where
  pub store : IsStore core s
  pub has : turn_words core s ≡ acting_words core s ∷ []

-- Who has the turn is a node with this instruction, and the levels of its frame have its values.
pub record ActsBy (core : Process) (s : Store) (op : Op) : Type 0 where
  pub acting : HasActing core s
  pub number : ℕ
  pub node : Node
  pub is : IsNodeBlock core s.desk.heap s.desk.values.items number node (acting_words core s)
  pub op_is : node.op ≡ op

-- the step isn't wrong
abbrev pub IsRight : Process → Store → Type 0
IsRight core s = next_view (view_with_turn core s) ≢ Misshapen

-- The step is done, with this label. No block is held that wasn't, and no queue is lost.
pub record IsDone (core : Process) (old new : Store) (label : Label) : Type 0 where
  pub moves : next_view (view_with_turn core old) ≡ Moves (view_with_turn core new) label
  pub store : IsStore core new
  pub keeps : KeepsWords old.desk.heap new.desk.heap
  pub levels : length new.desk.values.items ≡ length old.desk.values.items
  pub queues : length new.queues.queues ≤ length old.queues.queues + 1
  pub no_more : HoldsNoMore old.queues new.queues
  pub no_loss : LosesNoQueue old.queues new.queues

-- Nothing that is spare is thrown away: there are no fewer free blocks of any width and no fewer spare queues, and the heap has no
-- less room.
pub record KeepsSpare (old new : Store) : Type 0 where
  pub blocks : (width : ℕ) → spare old.queues.region width ≤ spare new.queues.region width
  pub queues : old.queues.spare_queues ≤ new.queues.spare_queues
  pub room : UsesNeed old.desk.heap.room new.desk.heap.room no_need

-- The step isn't done: nothing has changed but room, spare blocks and work, and nothing spare is thrown away.
pub record IsRefused (core : Process) (old new : Store) : Type 0 where
  pub turn : new.turn ≡ old.turn
  pub values : new.desk.values.items ≡ old.desk.values.items
  pub contents : KeepsAllContents old.queues new.queues
  pub queues : length new.queues.queues ≡ length old.queues.queues
  pub heap : KeepsHeap old.desk.heap new.desk.heap
  pub store : IsStore core new
  pub no_more : HoldsNoMore old.queues new.queues
  pub spare : KeepsSpare old new
