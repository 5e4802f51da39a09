-- Names and the entries of a context, by their places: the innermost has place 0.
use Rattle.std.specs.Prelude.{◌≡◌, ℕ, zero, suc, List, [], ◌∷◌, map, length, Option, Some, None}
use Rattle.pict_types.specs.Types.{Free, Below, Operator, Plain, Op}
use Rattle.pict_types.specs.Entries.{PlainWhat, Variable, Definition, PlainContext}

-- the names of the entries
abbrev pub entry_names : PlainContext → List ℕ
entry_names c = map (λ e. e.name) c

-- of how many arguments an entry is an operator; nothing where it is a type
abbrev pub arity : PlainWhat → Option ℕ
arity (Variable Free) = None
arity (Variable (Below t)) = None
arity (Variable (Operator ms)) = Some (length ms)
arity (Definition (Plain t)) = None
arity (Definition (Op n t)) = Some n

abbrev pub arity_at : PlainContext → ℕ → Option ℕ
arity_at [] i = None
arity_at (e ∷ c) zero = arity e.what
arity_at (e ∷ c) (suc i) = arity_at c i

-- the entry at this place means this
abbrev pub IsWhatAt : PlainContext → ℕ → PlainWhat → Type 0
IsWhatAt [] i w = ⊥
IsWhatAt (e ∷ c) zero w = e.what ≡ w
IsWhatAt (e ∷ c) (suc i) w = IsWhatAt c i w
