-- The frame of a node, read out of its block.
use Rattle.std.specs.Prelude.{◌≡◌, ◌≤◌, ℕ, List, map, length, drop}
use Rattle.pict_syntax.specs.declared.limits.TheConstants.{NARROW_LIMIT}
use Rattle.pict_core.specs.Term.{Process}
use Rattle.pict_code.specs.Instruction.{Node}
use Rattle.pict_blocks.specs.Framed.{gathered, node_words}
use Rattle.pict_blocks.specs.Writing.{OnlyWorks}
use Rattle.pict_blocks.specs.Blocks.{frame_values, IsNodeBlock}
use Rattle.pict_desk.specs.Known.{value_in, known}
use Rattle.pict_desk.specs.Pairs.{ArePairs}
use Rattle.pict_turns.specs.declared.store.Store.{Store}

-- Nothing has changed but work and the values of levels, each of which has the words of a value still.
pub record OnlyReads (old new : Store) : Type 0 where
  pub queues : OnlyWorks old.queues new.queues
  pub heap : new.desk.heap ≡ old.desk.heap
  pub pending : new.desk.pending ≡ old.desk.pending
  pub turn : new.turn ≡ old.turn
  pub levels : length new.desk.values.items ≡ length old.desk.values.items
  pub pairs : ArePairs new.desk.heap new.desk.values.items

-- The levels of the frame have the values that a block with these words behind its link holds, and the very words where it holds
-- those of each level.
pub record HasRead (old new : Store) (words frame : List ℕ) : Type 0 where
  pub values : frame_values (value_in new.desk.heap) (length frame) (drop 1 words) ≡ map (known new.desk.heap new.desk.values.items) frame
  pub same : length frame ≤ NARROW_LIMIT → drop 1 words ≡ gathered new.desk.values.items frame
  pub rest : OnlyReads old new

-- The levels of the node's frame have the values that its block holds, and the very words where it holds those of each level.
pub record HasReadNode (core : Process) (old new : Store) (number : ℕ) (words : List ℕ) : Type 0 where
  pub node : Node
  pub is : IsNodeBlock core new.desk.heap new.desk.values.items number node words
  pub same : length node.frame ≤ NARROW_LIMIT → words ≡ node_words new.desk.values.items number node.frame
  pub rest : OnlyReads old new
