-- How many blocks of each width a step makes: no more than the blocks that it needs and that aren't free; and it loses none.
use Rattle.std.specs.Prelude.{◌≤◌, ◌+◌, ◌-◌, ◌==◌, ℕ, List, [], ◌∷◌, if◌then◌else◌, slice_get, option_map, unwrap_or}
use Rattle.pict_core.specs.Primitives.{Leaves, Nothing, Answer, Trap, Effect}
use Rattle.pict_code.specs.Instruction.{Node}
use Rattle.pict_region.specs.RegionState.{spare, blocks, LosesNoBlock}
use Rattle.pict_queue.specs.QueuesState.{QueuesState}
use Rattle.pict_blocks.specs.Parts.{block_width}

-- how many of these widths are this one
abbrev pub how_many : ℕ → List ℕ → ℕ
how_many width [] = 0
how_many width (w ∷ ws) = (if width == w then 1 else 0) + how_many width ws

-- Blocks were made only where fewer were free than blocks of these widths are needed, and then only as many as were wanting. None
-- was lost.
pub record MakesOnly (old new : QueuesState) (needed : List ℕ) : Type 0 where
  pub least : LosesNoBlock old.region new.region
  pub most : (width : ℕ) → blocks new.region width ≤ blocks old.region width + (how_many width needed - spare old.region width)

-- the width of a block for the frame of the node with this number
abbrev pub part_width : List Node → ℕ → ℕ
part_width nodes number = block_width (unwrap_or (option_map (λ (n : Node). n.frame) (slice_get nodes number)) [])

-- the widths of the blocks that an output to a primitive needs: that of an output of kept values where it answers
abbrev pub leaves_widths : Leaves → List ℕ
leaves_widths Nothing = []
leaves_widths (Answer k a) = 9 ∷ []
leaves_widths Trap = []

abbrev pub answer_widths : Effect → List ℕ
answer_widths e = leaves_widths e.leaves
