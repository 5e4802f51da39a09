-- The nodes of a process.
use Rattle.std.specs.Prelude.{◌≡◌, ℕ, List, Some, map, slice_get}
use Rattle.pict_core.specs.Term.{Process}
use Rattle.pict_core.specs.Closed.{IsClosed}
use Rattle.pict_code.specs.Instruction.{Node}
use Rattle.pict_code.specs.Nodes.{nodes_of}
use Rattle.pict_code.specs.Plain.{plain_node}
use Rattle.pict_code.specs.ReadBack.{core_of}
use Rattle.pict_code.specs.declared.instruction.Node as written

-- the process of these nodes
abbrev pub core_in : List written.Node → Process
core_in code = core_of (map plain_node code)

-- these are the nodes of a closed process, `core_of nodes`
pub record IsCode (nodes : List Node) : Type 0 where
  pub closed : IsClosed (core_of nodes)
  pub nodes_are : nodes_of (core_of nodes) ≡ nodes

-- the node of this number has this frame
pub record HasFrame (nodes : List Node) (number : ℕ) (frame : List ℕ) : Type 0 where
  pub node : Node
  pub at : slice_get nodes number ≡ Some node
  pub is : node.frame ≡ frame
