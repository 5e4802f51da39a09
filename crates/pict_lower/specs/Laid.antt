-- Nodes and sizes of places, laid from the last place to the first: the first place's stand at the end.
use Rattle.std.specs.Prelude.{◌≡◌, ℕ, ◌+◌, Bool, true, false, List, [], ◌++◌, map, reverse, slice_get, Option, None, Some, unwrap_or}
use Rattle.pict_core.specs.Term.{Process, Zero, Par, New, Out, In, If}
use Rattle.pict_code.specs.Instruction.{Node}
use Rattle.pict_code.specs.Nodes.{Place, nodes_from, size}
use Rattle.pict_code.specs.Plain.{plain_node}
use Rattle.pict_code.specs.declared.instruction.Node as code
use Rattle.pict_lower.specs.Parts.{parts_of, all_places}

-- these are the nodes and the sizes of these places, numbered from this number on
pub record IsLaid (number : ℕ) (ps : List Place) (laid : List code.Node) (counts : List ℕ) : Type 0 where
  pub nodes : reverse (map plain_node laid) ≡ nodes_from number ps
  pub sizes : reverse counts ≡ map (λ (p : Place). size p.process) ps

-- those of all that stands behind this place are laid
abbrev pub IsNext : ℕ → Place → List code.Node → List ℕ → Type 0
IsNext number p nodes sizes = (rest : List Place) × IsLaid (number + 1) (all_places (parts_of p ++ rest)) nodes sizes

abbrev pub has_first : Process → Bool
has_first Zero = false
has_first (Par p q) = true
has_first (New p) = true
has_first (Out chan message at) = false
has_first (In chan replicated pattern body) = true
has_first (If test p q) = true

abbrev pub has_second : Process → Bool
has_second Zero = false
has_second (Par p q) = true
has_second (New p) = false
has_second (Out chan message at) = false
has_second (In chan replicated pattern body) = false
has_second (If test p q) = true

abbrev pub frame_or_none : Option Node → List ℕ
frame_or_none None = []
frame_or_none (Some node) = node.frame

-- the frame and the size at an index, if it is wanted and there
abbrev pub frame_back : Bool → List Node → ℕ → List ℕ
frame_back false nodes i = []
frame_back true nodes i = frame_or_none (slice_get nodes i)

abbrev pub size_back : Bool → List ℕ → ℕ → ℕ
size_back false sizes i = 0
size_back true sizes i = unwrap_or (slice_get sizes i) 0
