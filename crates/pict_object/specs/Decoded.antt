-- What decoding gives.
use Rattle.std.specs.Prelude.{ℕ, ◌≡◌, ◌⊎◌, List, take}
use Rattle.pict_syntax.specs.Names.{with_names}
use Rattle.pict_core.specs.Term.{Process}
use Rattle.pict_object.specs.Objects.{bare}
use Rattle.pict_object.specs.Cores.{IsObject}

-- these bytes are the object of no process, whatever its labels' numbers are
abbrev pub IsNoObject : List ℕ → Type 0
IsNoObject bytes = (names : List (List ℕ)) (p : Process) → ¬ IsObject names bytes p

-- The bytes are the object of this process, which has no places, and whose labels are numbered by the new names: these are the old
-- ones, and at their end the labels of the object that they lacked.
pub record IsDecoded (old new : List (List ℕ)) (bytes : List ℕ) (p : Process) : Type 0 where
  pub object : IsObject new bytes p
  pub without_places : bare p ≡ p
  pub names : new ≡ with_names old object.table

-- the bytes are an object, and the new names are the old ones and, at their end, those of its first labels that they lacked
pub record GainsFirst (bytes : List ℕ) (old new : List (List ℕ)) : Type 0 where
  pub others : List (List ℕ)
  pub process : Process
  pub object : IsObject others bytes process
  pub count : ℕ
  pub gained : new ≡ with_names old (take count object.table)

-- the names are the same, or have gained labels of the object that the bytes are
abbrev pub GainsLabels : List ℕ → List (List ℕ) → List (List ℕ) → Type 0
GainsLabels bytes old new = (new ≡ old) ⊎ GainsFirst bytes old new
