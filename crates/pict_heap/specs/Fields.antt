-- What stands in a value: the fields of a record, the bytes of a text.
use Rattle.std.specs.Prelude.{ℕ, zero, suc, List, Option, Some, None}
use Rattle.pict_core.specs.Term.{Val, Vals, Labelled, Record, Text, no_vals, more_vals, no_labelled, more_labelled}
use Rattle.pict_core.specs.Matching.{field_at}

abbrev pub nth : Vals → ℕ → Option Val
nth no_vals i = None
nth (more_vals v vs) zero = Some v
nth (more_vals v vs) (suc i) = nth vs i

abbrev pub nth_labelled : Labelled → ℕ → Option (ℕ × Val)
nth_labelled no_labelled i = None
nth_labelled (more_labelled l v ls) zero = Some (l, v)
nth_labelled (more_labelled l v ls) (suc i) = nth_labelled ls i

abbrev pub count : Vals → ℕ
count no_vals = 0
count (more_vals v vs) = suc (count vs)

-- the positional field at an index, from 0, of a record
abbrev pub positional_field : Val → ℕ → Option Val
positional_field (Record vs ls) i = nth vs i
positional_field _ i = None

-- the field of a record with a label
abbrev pub labelled_field : Val → ℕ → Option Val
labelled_field (Record vs ls) label = field_at label ls
labelled_field _ label = None

-- the labelled field at an index, from 0, of a record
abbrev pub labelled_field_at : Val → ℕ → Option (ℕ × Val)
labelled_field_at (Record vs ls) i = nth_labelled ls i
labelled_field_at _ i = None

-- how many positional fields a record has
abbrev pub positional_count : Val → Option ℕ
positional_count (Record vs ls) = Some (count vs)
positional_count _ = None

-- the bytes of a text
abbrev pub text_bytes : Val → Option (List ℕ)
text_bytes (Text bytes) = Some bytes
text_bytes _ = None
