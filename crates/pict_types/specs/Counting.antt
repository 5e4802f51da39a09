-- How many variables stand among the entries of a context.
use Rattle.std.specs.Prelude.{ℕ, zero, suc, ◌+◌, List, [], ◌∷◌, length}
use Rattle.pict_types.specs.Entries.{PlainContext, variables, with_variable}

-- among the innermost so many entries
abbrev pub variables_inside : ℕ → PlainContext → ℕ
variables_inside zero c = 0
variables_inside (suc i) [] = 0
variables_inside (suc i) (e ∷ c) = length (with_variable e.what []) + variables_inside i c

-- around each entry, the innermost first
abbrev pub variables_around : PlainContext → List ℕ
variables_around [] = []
variables_around (e ∷ c) = length (variables c) ∷ variables_around c
