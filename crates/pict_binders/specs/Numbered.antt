-- The inside of binders: the names, the innermost first, and the numbers, the innermost last.
use Rattle.std.specs.Prelude.{ℕ, nat_eq, List, [], ◌∷◌, length, map, get_or, Option, Some, None, if◌then◌else◌}
use Rattle.pict_binders.specs.declared.binders.Binder.{Binder}

abbrev pub numbered : List ℕ → List ℕ → List Binder
numbered numbers [] = []
numbered numbers (x ∷ xs) = record { name = x; number = get_or numbers (length xs) 0 } ∷ numbered numbers xs

abbrev pub names_of : List Binder → List ℕ
names_of bs = map (λ b. b.name) bs

-- the nearest binder of a name
abbrev pub nearest : List Binder → ℕ → Option ℕ
nearest [] n = None
nearest (b ∷ bs) n = if nat_eq b.name n then Some b.number else nearest bs n
