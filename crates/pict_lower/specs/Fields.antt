-- Fields of patterns as lists: how many variables they bind, and their levels.
use Rattle.std.specs.Prelude.{ℕ, ◌+◌, List, [], ◌∷◌}
use Rattle.pict_syntax.specs.declared.name.Name.{Name}
use Rattle.pict_core.specs.Term.{Pat}
use Rattle.pict_core.specs.Closed.{binds}
use Rattle.pict_code.specs.Instruction.{CodePat}
use Rattle.pict_code.specs.Nodes.{leveled}

abbrev pub binds_each : List Pat → ℕ
binds_each [] = 0
binds_each (p ∷ ps) = binds p + binds_each ps

abbrev pub binds_each_labelled : List (Name × Pat) → ℕ
binds_each_labelled [] = 0
binds_each_labelled (f ∷ fs) = binds f.1 + binds_each_labelled fs

abbrev pub leveled_each : ℕ → List Pat → List CodePat
leveled_each level [] = []
leveled_each level (p ∷ ps) = leveled level p ∷ leveled_each (level + binds p) ps

abbrev pub leveled_each_labelled : ℕ → List (Name × Pat) → List (Name × CodePat)
leveled_each_labelled level [] = []
leveled_each_labelled level (f ∷ fs) = (f.0, leveled level f.1) ∷ leveled_each_labelled (level + binds f.1) fs
