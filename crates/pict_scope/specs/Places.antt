-- A table of places in a list, by numbers.
use Rattle.std.specs.Prelude.{◌≡◌, ℕ, ◌+◌, nat_eq, List, length, get_or, drop, if◌then◌else◌}
use Rattle.std.specs.List.{position_or_len}
use Rattle.pict_scope.specs.declared.target.Target.{Target}
use Rattle.pict_scope.specs.declared.target.Target.TheVariants.{Prim, Binder}

-- the table has the place of each number of what is left of the list from here on. A number that isn't there has the list's length
pub record HasPlacesFrom (from : ℕ) (order table : List ℕ) : Type 0 where
  pub place : (n : ℕ) → get_or table n (length order) ≡ from + position_or_len (λ m. nat_eq n m) (drop from order)

-- the number has this place now, and every other number the one that it had
abbrev pub SetsPlace : ℕ → ℕ → ℕ → List ℕ → List ℕ → Type 0
SetsPlace none number place old new = (n : ℕ) → get_or new n none ≡ (if nat_eq n number then place else get_or old n none)

abbrev pub SamePlaces : ℕ → List ℕ → List ℕ → Type 0
SamePlaces none old new = (n : ℕ) → get_or new n none ≡ get_or old n none

-- what a target means, with a binder by its place in the table
abbrev pub placed : ℕ → List ℕ → Target → Target
placed none table (Prim p) = Prim p
placed none table (Binder n) = Binder (get_or table n none)
