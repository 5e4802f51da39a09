-- Contexts as plain data: named type variables and definitions in scope, the innermost first.
use Rattle.std.specs.Prelude.{ℕ, Bool, true, false, not, List, [], ◌∷◌, map, length}
use Rattle.pict_types.specs.Types.{PlainBound, PlainArg, TypeContext}
use Rattle.pict_types.specs.Kinds.{BoundIsWellFormed, ArgIsWellFormed, kinds}
use Rattle.pict_types.specs.Measures.{held, weigh, weigh_variable, weights, rise, rise_variable, heights}
use Rattle.pict_types.specs.Mentions.{mentions}
use Rattle.pict_types.specs.Replacing.{type_in}

pub data PlainWhat : Type 0 where
  Variable : PlainBound → PlainWhat
  Definition : PlainArg → PlainWhat

pub record PlainEntry : Type 0 where
  pub name : ℕ
  pub what : PlainWhat

abbrev pub PlainContext : Type 0
PlainContext = List PlainEntry

abbrev pub with_variable : PlainWhat → TypeContext → TypeContext
with_variable (Variable b) c = b ∷ c
with_variable (Definition a) c = c

-- what is known of the type variables, the innermost first; definitions count no variable
abbrev pub variables : PlainContext → TypeContext
variables [] = []
variables (e ∷ c) = with_variable e.what (variables c)

-- a bound or a definition is well formed in the variables around it
abbrev pub EntryIsWellFormed : List (List ℕ) → TypeContext → PlainWhat → Type 0
EntryIsWellFormed ns c (Variable b) = BoundIsWellFormed ns (kinds c) b
EntryIsWellFormed ns c (Definition a) = ArgIsWellFormed ns (kinds c) a

abbrev pub EntriesAreWellFormed : List (List ℕ) → PlainContext → Type 0
EntriesAreWellFormed ns [] = Unit {0}
EntriesAreWellFormed ns (e ∷ c) = EntryIsWellFormed ns (variables c) e.what × EntriesAreWellFormed ns c

abbrev pub with_place : PlainWhat → ℕ → List ℕ → List ℕ
with_place (Variable b) n ns = n ∷ ns
with_place (Definition a) n ns = ns

-- the places of the variables among the entries, counted from the outermost, the innermost first
abbrev pub places : PlainContext → List ℕ
places [] = []
places (e ∷ c) = with_place e.what (length c) (places c)

-- the measures of the variables as a u64 holds them, the innermost first
abbrev pub held_weights : PlainContext → List ℕ
held_weights c = map held (weights (variables c))

abbrev pub held_heights : PlainContext → List ℕ
held_heights c = map held (heights (variables c))

-- what an entry weighs, from the weights of the variables around it: a variable, or the type that a definition stands for
abbrev pub weight_of_what : List ℕ → PlainWhat → ℕ
weight_of_what ws (Variable b) = weigh_variable ws b
weight_of_what ws (Definition a) = weigh ws (type_in a)

abbrev pub height_of_what : List ℕ → PlainWhat → ℕ
height_of_what hs (Variable b) = rise_variable hs b
height_of_what hs (Definition a) = rise hs (type_in a)

-- the measures of the entries as a u64 holds them, the innermost first
abbrev pub entry_weights : PlainContext → List ℕ
entry_weights [] = []
entry_weights (e ∷ c) = held (weight_of_what (weights (variables c)) e.what) ∷ entry_weights c

abbrev pub entry_heights : PlainContext → List ℕ
entry_heights [] = []
entry_heights (e ∷ c) = held (height_of_what (heights (variables c)) e.what) ∷ entry_heights c

-- an entry is the definition of a type that mentions no variable
abbrev pub is_closed : PlainWhat → Bool
is_closed (Variable b) = false
is_closed (Definition a) = not (mentions (λ i. true) (type_in a))

abbrev pub closed_entries : PlainContext → List Bool
closed_entries c = map (λ e. is_closed e.what) c
