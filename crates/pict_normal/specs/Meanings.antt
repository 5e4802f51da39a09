-- What the entries of a context stand for: variable i is entry i, counted from the innermost.
use Rattle.std.specs.Prelude.{List, [], ◌∷◌}
use Rattle.pict_types.specs.Types.{Plain, Op}
use Rattle.pict_types.specs.Kinds.{Kind, proper, operator_of, kind_by}
use Rattle.pict_types.specs.Replacing.{Replacement, replacement_beyond, with_arg, no_replacement}
use Rattle.pict_types.specs.Entries.{PlainWhat, Variable, Definition, PlainContext}

-- a variable stays, and a definition is put for its place
abbrev pub with_what : PlainWhat → Replacement → Replacement
with_what (Variable b) s = replacement_beyond s
with_what (Definition a) s = with_arg a s

abbrev pub meanings : PlainContext → Replacement
meanings [] = no_replacement
meanings (e ∷ c) = with_what e.what (meanings c)

abbrev pub kind_of_what : PlainWhat → Kind
kind_of_what (Variable b) = kind_by b
kind_of_what (Definition (Plain t)) = proper
kind_of_what (Definition (Op n t)) = operator_of n

-- the kinds of the entries, the innermost first
abbrev pub entry_kinds : PlainContext → List Kind
entry_kinds [] = []
entry_kinds (e ∷ c) = kind_of_what e.what ∷ entry_kinds c
