-- How many levels the frames of a process may have together.
use Rattle.std.specs.Prelude.{ℕ, ◌≤◌, List, length}
use Rattle.std.specs.List.{sum_by}
use Rattle.pict_core.specs.Term.{Process}
use Rattle.pict_code.specs.Instruction.{Node}
use Rattle.pict_code.specs.Nodes.{Place, places, nodes_of}

-- how many variables are bound around the parts of a process around which n are bound, those around each part counted
abbrev pub bound_around : ℕ → Process → ℕ
bound_around n p = sum_by (λ (part : Place). part.around) (places n p)

-- how many levels the frames of nodes have
abbrev pub levels_in : List Node → ℕ
levels_in nodes = sum_by (λ (node : Node). length node.frame) nodes

-- the frames of a process have no more
abbrev pub FramesAreFew : Type 0
FramesAreFew = (p : Process) → levels_in (nodes_of p) ≤ bound_around 0 p
