-- What a node stands for: with values for its frame, the process of its part.
use Rattle.std.specs.Prelude.{◌≡◌, ℕ, ◌==◌, ◌-◌, nat_lt, pos, List, [], ◌∷◌, map, Some, slice_get, if◌then◌else◌}
use Rattle.pict_core.specs.Term.{Val, Process, Var, Chan, Int}
use Rattle.pict_core.specs.Closed.{AllOver, IsUnder}
use Rattle.pict_core.specs.Substitution.{Replacement, replace}
use Rattle.pict_code.specs.Frames.{frame_of}
use Rattle.pict_code.specs.Nodes.{Place, places, node_of, nodes_of}

-- the value of a level in a frame with these values, one for each of its levels in their order
abbrev pub value_at : List ℕ → List Val → ℕ → Val
value_at [] vs level = Int (pos 0)
value_at (l ∷ ls) [] level = Int (pos 0)
value_at (l ∷ ls) (v ∷ vs) level = if level == l then v else value_at ls vs level

-- values for the n variables that are bound around; those inside move down by n
abbrev pub closing : ℕ → (ℕ → Val) → Replacement
closing n values = record { variable = λ level. if nat_lt level n then values level else Var (level - n); channel = Chan }

-- the part with its frame's values put in
abbrev pub with_frame : Place → List Val → Process
with_frame p vs = replace (closing p.around (value_at (frame_of p.around p.process) vs)) p.process

-- What the node of a part stands for, by its frame alone: whatever values the variables bound around the part have, the
-- frame's are enough to know the part with all of them put in. With closed values that is a closed process.
pub record StandsFor (p : Place) : Type 0 where
  pub enough : (values : ℕ → Val) → with_frame p (map values (frame_of p.around p.process)) ≡ replace (closing p.around values) p.process
  pub closed : (channels : ℕ) (vs : List Val) → AllOver 0 channels vs → IsUnder 0 channels (with_frame p vs)

-- the node of this number is that of this part
pub record IsNodeOf (core : Process) (number : ℕ) (p : Place) : Type 0 where
  pub node : slice_get (nodes_of core) number ≡ Some (node_of number p)
  pub stands : StandsFor p
