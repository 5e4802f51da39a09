-- What the search for the values that a pattern binds has found.
use Rattle.std.specs.Prelude.{◌≡◌, Bool, true, false, List, ◌++◌, Option, Some, None, option_map}
use Rattle.pict_core.specs.Term.{Val}

-- the list grows by these, or the pattern doesn't fit
abbrev pub Extends : Bool → Option (List Val) → List Val → List Val → Type 0
Extends fits None old new = fits ≡ false
Extends fits (Some bound) old new = (fits ≡ true) × (new ≡ old ++ bound)

abbrev pub after : List Val → Option (List Val) → Option (List Val)
after found rest = option_map (λ ws. found ++ ws) rest

-- what is found so far, and what is left, give the whole
pub record Found (whole : Option (List Val)) (left : Option (List Val)) (old new : List Val) : Type 0 where
  pub found : List Val
  pub grown : new ≡ old ++ found
  pub same : whole ≡ after found left
