-- The names of the primitives in programs.
use Rattle.std.specs.Prelude.{ℕ, List, [], ◌∷◌, Option, Some, None, if◌then◌else◌}
use Rattle.std.specs.Str.{bytes_eq}
use Rattle.pict_syntax.specs.declared.primitive.Primitive.{Primitive}
use Rattle.pict_syntax.specs.Primitives.{primitive_text, primitives}

-- the first of the list that has this name
abbrev pub first_named : List Primitive → List ℕ → Option Primitive
first_named [] text = None
first_named (p ∷ ps) text = if bytes_eq text (primitive_text p) then Some p else first_named ps text

-- the primitive of this name
abbrev pub primitive_named : List ℕ → Option Primitive
primitive_named text = first_named primitives text
