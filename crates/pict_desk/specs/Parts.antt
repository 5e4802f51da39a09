-- What the parts of a record pattern find in a record.
use Rattle.std.specs.Prelude.{ℕ, zero, suc, List, Option}
use Rattle.pict_core.specs.Term.{Val, Vals, no_vals, more_vals, Pats, LabelledPats}
use Rattle.pict_core.specs.Matching.{in_record, match_values, match_labelled}

abbrev pub positional_found : Pats → Val → Option (List Val)
positional_found ps v = in_record (λ vs ls. match_values ps vs) v

abbrev pub labelled_found : LabelledPats → Val → Option (List Val)
labelled_found ps v = in_record (λ vs ls. match_labelled ps ls) v

-- the positional fields from this place on
abbrev pub skip : ℕ → Vals → Vals
skip zero vs = vs
skip (suc i) no_vals = no_vals
skip (suc i) (more_vals v vs) = skip i vs

-- what positional patterns find in the fields of a record from this place on
abbrev pub found_from : ℕ → Pats → Val → Option (List Val)
found_from i ps v = in_record (λ vs ls. match_values ps (skip i vs)) v
