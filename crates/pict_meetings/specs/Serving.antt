-- An input that waits at a channel serves a message.
use Rattle.std.specs.Prelude.{◌≡◌, ℕ, ◌+◌, Bool, List, ◌∷◌, Some, slice_get}
use Rattle.pict_core.specs.Term.{Process, Val}
use Rattle.pict_code.specs.Instruction.{CodePat, Node}
use Rattle.pict_code.specs.Nodes.{input_op}
use Rattle.pict_queue.specs.Contents.{contents}
use Rattle.pict_turns.specs.Reading.{HasReadNode}
use Rattle.pict_turns.specs.declared.store.Store.{Store}

-- the node with this number is an input with this pattern and this part
pub record IsInputWith (nodes : List Node) (number : ℕ) (replicated : Bool) (pattern : CodePat) (part : ℕ) : Type 0 where
  pub node : Node
  pub at : slice_get nodes number ≡ Some node
  pub chan : Val
  pub is : node.op ≡ input_op replicated chan pattern part

-- The levels of the node's frame have the values that the first block at the channel holds, which stays where it is. Nothing
-- else has changed but work and the values of levels.
pub record ReadsInput (core : Process) (old new : Store) (channel number : ℕ) : Type 0 where
  pub words : List ℕ
  pub others : List (List ℕ)
  pub waiting : contents old.queues (channel + 1) ≡ words ∷ others
  pub read : HasReadNode core old new number words
