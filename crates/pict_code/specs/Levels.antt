-- Lists of levels, as a device of the proof.
use Rattle.std.specs.Prelude.{ℕ, ◌+◌, ◌≤◌, ◌==◌, ◌||◌, Bool, false, List, [], ◌∷◌}

-- whether a level is in a list
abbrev pub has : ℕ → List ℕ → Bool
has level [] = false
has level (l ∷ ls) = level == l || has level ls

-- the levels increase, from this one on
abbrev pub Rises : ℕ → List ℕ → Type 0
Rises low [] = Unit {0}
Rises low (l ∷ ls) = (low ≤ l) × Rises (l + 1) ls
