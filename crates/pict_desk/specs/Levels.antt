-- The levels that a code binds.
use Rattle.std.specs.Prelude.{ℕ, ◌+◌, max, List, [], ◌∷◌}
use Rattle.pict_code.specs.Instruction.{Op, Zero, Par, New, Out, In, Serve, If, Node}
use Rattle.pict_desk.specs.Binding.{levels_of}

-- one more than the greatest of these levels, or 0 where there is none
abbrev pub past : List ℕ → ℕ
past [] = 0
past (level ∷ levels) = max (level + 1) (past levels)

-- the levels that an instruction binds
abbrev pub bound_by : Op → List ℕ
bound_by Zero = []
bound_by (Par left right) = []
bound_by (New level part) = level ∷ []
bound_by (Out chan message at) = []
bound_by (In chan pattern part) = levels_of pattern
bound_by (Serve chan pattern part) = levels_of pattern
bound_by (If test left right) = []

-- One more than the greatest level that these nodes bind, or 0 where they bind none. In the code of a closed process that is
-- the greatest number of variables around a part.
abbrev pub levels_in : List Node → ℕ
levels_in [] = 0
levels_in (node ∷ nodes) = max (past (bound_by node.op)) (levels_in nodes)
