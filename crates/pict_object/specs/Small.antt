-- What the writing of an object needs, and when an object is too big.
use Rattle.std.specs.Prelude.{ℕ, ◌≡◌, ◌<◌, ◌-◌, ◌^◌, min, List, length}
use Rattle.std.specs.List.{AllByRecursion}
use Rattle.pict_syntax.specs.declared.name.Name.{Name}
use Rattle.pict_core.specs.Term.{Process}
use Rattle.pict_object.specs.Objects.{AreLabels, object_bytes}
use Rattle.pict_object.specs.Fits.{HasBytes}
use Rattle.pict_object.specs.Sizes.{Anywhere}
use Rattle.pict_object.specs.Collected.{texts_of, AreApart}

-- the counts of an object with this table have room in four bytes, and no label stands twice in the table
pub record IsSmall (names : List (List ℕ)) (table : List Name) (p : Process) : Type 0 where
  pub few : length table < 2 ^ 32
  pub short : AllByRecursion (λ text. length text < 2 ^ 32) (texts_of names table)
  pub fits : HasBytes Anywhere p
  pub apart : AreApart table

-- the object of the process has n bytes, held at the greatest number of 64 bits, and that is more than the limit
pub record IsTooBig (names : List (List ℕ)) (p : Process) (limit n : ℕ) : Type 0 where
  pub table : List (List ℕ)
  pub labels : AreLabels names p table
  pub size : n ≡ min (length (object_bytes names table p)) (2 ^ 64 - 1)
  pub more : limit < n
