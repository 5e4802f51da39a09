-- Laws of codes.
use Rattle.std.specs.Prelude.{◌≡◌, ℕ, Some, slice_get}
use Rattle.pict_core.specs.Term.{Process}
use Rattle.pict_core.specs.Closed.{IsClosed}
use Rattle.pict_code.specs.Nodes.{Place, places, nodes_of}
use Rattle.pict_code.specs.ReadBack.{core_of}
use Rattle.pict_code.specs.Standing.{IsNodeOf}

-- A process is read back from its nodes, so a code is that of one process only.
abbrev pub ProcessIsReadBack : Type 0
ProcessIsReadBack = (p : Process) → core_of (nodes_of p) ≡ p

-- Each node of a closed process, with values for its frame, stands for the part of its number.
abbrev pub NodesStand : Type 0
NodesStand = (core : Process) (number : ℕ) (p : Place) → IsClosed core → slice_get (places 0 core) number ≡ Some p → IsNodeOf core number p
