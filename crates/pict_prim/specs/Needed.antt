-- What a primitive adds to a heap, by its argument.
use Rattle.std.specs.Prelude.{ℕ, ◌+◌, [], length, unwrap_or}
use Rattle.pict_syntax.specs.declared.primitive.Primitive.{Primitive}
use Rattle.pict_syntax.specs.declared.primitive.Primitive.TheVariants as primitive
use Rattle.pict_core.specs.Term.{Val, Labelled, Record, no_vals, more_vals}
use Rattle.pict_heap.specs.Fields.{text_bytes}
use Rattle.pict_prim.specs.declared.act.Need.{Need}

-- the number of bytes of a text, and 0 of any other value
abbrev pub text_length : Val → ℕ
text_length v = length (unwrap_or (text_bytes v) [])

-- the number of bytes of the first two fields of a record together
abbrev pub joined_length : Val → ℕ
joined_length (Record (more_vals v (more_vals w vs)) ls) = text_length v + text_length w
joined_length _ = 0

-- `pr` adds the empty record; `+$` one text, as long as both; `intstr` one text, for which there is to be room for the longest, of twenty
-- bytes. All others add nothing.
abbrev pub needed : Primitive → Val → Need
needed primitive.Pr argument = record { records = 1; fields = 0; texts = 0; bytes = 0 }
needed primitive.Join argument = record { records = 0; fields = 0; texts = 1; bytes = joined_length argument }
needed primitive.Intstr argument = record { records = 0; fields = 0; texts = 1; bytes = 20 }
needed _ argument = record { records = 0; fields = 0; texts = 0; bytes = 0 }

-- the record of three fields, with labels
abbrev pub of_three : Val → Val → Val → Labelled → Val
of_three v w k labels = Record (more_vals v (more_vals w (more_vals k no_vals))) labels
