-- Values side by side, each past the type variables of the others.
use Rattle.std.specs.Prelude.{◌≡◌, ◌≤◌, ℕ, ◌+◌, List, ◌++◌}
use Rattle.pict_types.specs.Renaming.{rename, moved}
use Rattle.pict_rules.specs.Environments.{rename_values}
use Rattle.pict_infer.specs.declared.known.Known.{Known}
use Rattle.pict_infer.specs.Knowing.{known_value, known_values, deepest}

-- a value where `more` variables are known past `base` others, and the same value past k variables between them
pub record IsMovedPast (base k more : ℕ) (v w : Known) : Type 0 where
  pub names : w.name.0 ≡ v.name.0
  pub types_ : (known_value (base + (k + more)) w).has ≡ rename (moved k more) (known_value (base + more) v).has
  pub placed : w.depth ≤ base + (k + more)

-- values under k variables and then those under `more` others, each past the other's variables
pub record AreSideBySide (base k more : ℕ) (outer inner all : List Known) : Type 0 where
  pub same : known_values (base + (k + more)) all
      ≡ rename_values (moved k more) (known_values (base + more) inner) ++ rename_values (moved more 0) (known_values (base + k) outer)
  pub placed : deepest all ≤ base + (k + more)

pub record AreJoined (base k : ℕ) (outer inner all : List Known) : Type 0 where
  pub each : (more : ℕ) → deepest inner ≤ base + more → AreSideBySide base k more outer inner all
