-- Which codes machines run.
use Rattle.std.specs.Prelude.{◌≡◌, List}
use Rattle.pict_core.specs.Term.{Process}
use Rattle.pict_core.specs.Closed.{IsClosed}
use Rattle.pict_code.specs.Instruction.{Node}
use Rattle.pict_code.specs.Nodes.{nodes_of}
use Rattle.pict_code.specs.ReadBack.{core_of}
use Rattle.pict_desk.specs.Code.{IsCode}

-- The nodes of a closed process are a code, and it is the code of this process.
abbrev pub ClosedProcessesHaveCodes : Type 0
ClosedProcessesHaveCodes = (p : Process) (nodes : List Node) → IsClosed p → nodes ≡ nodes_of p → IsCode nodes × (core_of nodes ≡ p)
