-- A channel that a node makes for two parts, of which one waits there: three steps. The channel is made, the parts stand beside each
-- other, and the left one waits. Whoever else is ready stays before the right one.
use Rattle.std.specs.Prelude.{◌≡◌, ◌+◌, ◌++◌, ◌∷◌, [], ℕ, Bool, List, length}
use Rattle.pict_core.specs.Step.{Quiet}
use Rattle.pict_core.specs.Term.{Process, Var}
use Rattle.pict_code.specs.Instruction.{Op, New, Par, CodePat}
use Rattle.pict_code.specs.Nodes.{input_op}
use Rattle.pict_heap.specs.HeapState.{KeepsWords, LosesNoRoom}
use Rattle.pict_queue.specs.QueuesState.{LosesNoQueue}
use Rattle.pict_queue.specs.Contents.{contents, KeepsOtherContents, KeepsHeld, HoldsNoMore}
use Rattle.pict_region.specs.RegionState.{spare, KeepsBlocks, KeepsOtherWidths}
use Rattle.pict_blocks.specs.Framed.{node_words}
use Rattle.pict_blocks.specs.Parts.{block_width}
use Rattle.pict_view.specs.Moved.{Moves}
use Rattle.pict_view.specs.Placed.{next_view}
use Rattle.pict_view.specs.View.{View}
use Rattle.pict_turns.specs.Acting.{IsStore}
use Rattle.pict_turns.specs.Turns.{IsNarrow}
use Rattle.pict_turns.specs.Views.{view_with_turn}
use Rattle.pict_turns.specs.declared.store.Store.{Store}
use Rattle.pict_turns.specs.declared.turn.Turn.TheVariants as turn
use Rattle.pict_acting.specs.declared.opening.Opening.{Opening}

-- The node with this number has this instruction, and its frame stands in a block itself.
pub record IsNarrowWith (core : Process) (number : ℕ) (op : Op) : Type 0 where
  pub narrow : IsNarrow core number
  pub is : narrow.node.op ≡ op

-- The node with this number makes a channel as the value of this level, for these two parts. Both frames stand in blocks themselves.
pub record OpensFor (core : Process) (number : ℕ) (opening : Opening) : Type 0 where
  pub both : ℕ
  pub opens : IsNarrowWith core number (New opening.level both)
  pub forks : IsNarrowWith core both (Par opening.left opening.right)

-- The same of who has the turn.
pub record BeginsOpening (core : Process) (s : Store) (opening : Opening) : Type 0 where
  pub number : ℕ
  pub turn : s.turn ≡ turn.Node number
  pub opens : OpensFor core number opening

-- an input, replicated or not, from the channel at this level
pub record ReadsAt (op : Op) (level : ℕ) : Type 0 where
  pub replicated : Bool
  pub pattern : CodePat
  pub part : ℕ
  pub is : op ≡ input_op replicated (Var level) pattern part

-- The left part waits at the channel, and the frames of both parts stand in blocks themselves.
pub record WaitsFor (core : Process) (opening : Opening) : Type 0 where
  pub op : Op
  pub waits : IsNarrowWith core opening.left op
  pub reads : ReadsAt op opening.level
  pub other : IsNarrow core opening.right

-- Who has the turn makes a channel for two parts, and the left one waits there.
pub record BeginsWait (core : Process) (s : Store) : Type 0 where
  pub opening : Opening
  pub begins : BeginsOpening core s opening
  pub waits : WaitsFor core opening

-- The last of the queue has these words of a node now: with this number, and the values of its frame's levels. A free block was taken.
-- Nothing else has changed but work.
pub record PutsLast (old new : Store) (queue number : ℕ) (frame : List ℕ) : Type 0 where
  pub last : contents new.queues queue ≡ contents old.queues queue ++ node_words old.desk.values.items number frame ∷ []
  pub others : KeepsOtherContents old.queues new.queues queue
  pub taken : spare new.queues.region (block_width frame) + 1 ≡ spare old.queues.region (block_width frame)
  pub widths : KeepsOtherWidths old.queues.region new.queues.region (block_width frame)
  pub blocks : KeepsBlocks old.queues.region new.queues.region
  pub queues : length new.queues.queues ≡ length old.queues.queues
  pub spare_queues : new.queues.spare_queues ≡ old.queues.spare_queues
  pub held : KeepsHeld old.queues new.queues
  pub no_more : HoldsNoMore old.queues new.queues
  pub desk : new.desk ≡ old.desk
  pub turn : new.turn ≡ old.turn

-- The three steps are made, and none shows anything. Nobody has the turn then.
pub record MakesWait (core : Process) (old new : Store) : Type 0 where
  pub opened : View
  pub forked : View
  pub opens : next_view (view_with_turn core old) ≡ Moves opened Quiet
  pub forks : next_view opened ≡ Moves forked Quiet
  pub waits : next_view forked ≡ Moves (view_with_turn core new) Quiet
  pub nobody : new.turn ≡ turn.Nobody
  pub store : IsStore core new
  pub keeps : KeepsWords old.desk.heap new.desk.heap
  pub levels : length new.desk.values.items ≡ length old.desk.values.items
  pub queues : length new.queues.queues ≡ length old.queues.queues + 1
  pub no_more : HoldsNoMore old.queues new.queues
  pub no_loss : LosesNoQueue old.queues new.queues
  pub room : LosesNoRoom old.desk.heap.room new.desk.heap.room
