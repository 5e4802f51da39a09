-- What steps of a code cost at most, and how many blocks they make at most, whatever waits.
use Rattle.std.specs.Prelude.{ℕ, ◌≡◌, ◌≤◌, ◌+◌, ◌*◌, ◌⊎◌, max, List, [], ◌∷◌}
use Rattle.pict_core.specs.Term.{Process}
use Rattle.pict_code.specs.Instruction.{Node}
use Rattle.pict_code.specs.Nodes.{nodes_of}
use Rattle.pict_queue.specs.QueuesState.{QueuesState}
use Rattle.pict_region.specs.RegionState.{RegionState, blocks, LosesNoBlock}
use Rattle.pict_turns.specs.Cost.{instruction_size}
use Rattle.pict_turns.specs.Widths.{how_many, part_width}

-- the size of the largest of these instructions of a code, or that of an output of kept values, which is 4, if that is larger
abbrev pub largest : List Node → List Node → ℕ
largest nodes [] = 4
largest nodes (n ∷ ns) = max (instruction_size nodes n) (largest nodes ns)

-- the greatest cost of a step of this process' code: that of the largest instruction with a partner of the same size
abbrev pub greatest_cost : Process → ℕ
greatest_cost core = 64 * (largest (nodes_of core) (nodes_of core) + largest (nodes_of core) (nodes_of core))

-- half of it
abbrev pub half_cost : Process → ℕ
half_cost core = 64 * largest (nodes_of core) (nodes_of core)

-- This is the width of an output of kept values, or of a node of this process' code; a number without a node counts as a frame
-- without levels.
abbrev pub IsWidthIn : Process → ℕ → Type 0
IsWidthIn core width = (width ≡ 9) ⊎ ((number : ℕ) × (part_width (nodes_of core) number ≡ width))

-- how many blocks of these widths there are
abbrev pub total_blocks : RegionState → List ℕ → ℕ
total_blocks r [] = 0
total_blocks r (w ∷ ws) = blocks r w + total_blocks r ws

-- There are at most three blocks more for each of these steps, of all widths together: of any list of widths in which none stands
-- twice. There are none more of a width that the code doesn't have. None is lost.
pub record MakesFew (core : Process) (steps : ℕ) (old new : QueuesState) : Type 0 where
  pub least : LosesNoBlock old.region new.region
  pub few : (widths : List ℕ) → ((width : ℕ) → how_many width widths ≤ 1) → total_blocks new.region widths ≤ total_blocks old.region widths + 3 * steps
  pub others : (width : ℕ) → ¬ IsWidthIn core width → blocks new.region width ≤ blocks old.region width
