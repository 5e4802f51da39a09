-- The inside of the names around a place: their binders, the innermost last, and the level of each name's nearest one.
use Rattle.std.specs.Prelude.{◌≡◌, ℕ, nat_eq, List, [], ◌∷◌, Option, if◌then◌else◌}
use Rattle.std.specs.Ordering.{nat_cmp}
use Rattle.std.specs.BTreeMap.{BTreeMap, get}
use Rattle.pict_binders.specs.Names.{level_of}
use Rattle.pict_binders.specs.declared.nearest.Binder.{Binder}

-- the name has this level now, and every other name the one that it had
abbrev pub SetsLevel : BTreeMap ℕ ℕ → BTreeMap ℕ ℕ → ℕ → Option ℕ → Type 0
SetsLevel old new name level = (other : ℕ) → get nat_cmp new other ≡ (if nat_eq name other then level else get nat_cmp old other)

-- the names of the binders, innermost first, before these
abbrev pub names_onto : List ℕ → List Binder → List ℕ
names_onto around [] = around
names_onto around (b ∷ bs) = names_onto (b.name ∷ around) bs

abbrev pub names_of : List Binder → List ℕ
names_of binders = names_onto [] binders

-- each binder keeps the level that its name had around it
abbrev pub KeepOuter : List ℕ → List Binder → Type 0
KeepOuter around [] = Unit {0}
KeepOuter around (b ∷ bs) = (b.outer ≡ level_of around b.name) × KeepOuter (b.name ∷ around) bs

pub record StandsFor (binders : List Binder) (levels : BTreeMap ℕ ℕ) : Type 0 where
  pub table : (name : ℕ) → get nat_cmp levels name ≡ level_of (names_of binders) name
  pub outer : KeepOuter [] binders
