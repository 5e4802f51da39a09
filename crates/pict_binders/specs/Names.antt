-- Names that are bound around a place, the nearest first.
use Rattle.std.specs.Prelude.{ℕ, suc, nat_eq, List, [], ◌∷◌, length, Option, Some, None, if◌then◌else◌}
use Rattle.std.specs.Option.{option_map}

-- the level of the nearest binder of a name: the number of names that are bound around it
abbrev pub level_of : List ℕ → ℕ → Option ℕ
level_of [] name = None
level_of (x ∷ around) name = if nat_eq x name then Some (length around) else level_of around name

-- the place of the nearest binder of a name: the number of names that are bound inside it
abbrev pub place_of : List ℕ → ℕ → Option ℕ
place_of [] name = None
place_of (x ∷ around) name = if nat_eq x name then Some 0 else option_map suc (place_of around name)
