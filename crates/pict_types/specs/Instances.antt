-- The arguments of a record: well formed, and how great.
use Rattle.std.specs.Prelude.{ℕ, max, List, [], ◌∷◌}
use Rattle.pict_types.specs.Types.{PlainArg, Plain, Op}
use Rattle.pict_types.specs.Kinds.{Kind, ArgIsWellFormed}
use Rattle.pict_types.specs.Measures.{size}

-- the greatest size of an argument, and of an operator's body
abbrev pub size_arg : PlainArg → ℕ
size_arg (Plain t) = size t
size_arg (Op n t) = size t

abbrev pub most_args : List PlainArg → ℕ
most_args [] = 0
most_args (a ∷ args) = max (size_arg a) (most_args args)

-- each argument is well formed
abbrev pub ArgsAreWellFormed : List (List ℕ) → List Kind → List PlainArg → Type 0
ArgsAreWellFormed ns ks [] = Unit {0}
ArgsAreWellFormed ns ks (a ∷ args) = ArgIsWellFormed ns ks a × ArgsAreWellFormed ns ks args
