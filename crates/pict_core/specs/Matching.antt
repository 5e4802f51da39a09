-- Matching: the values that a pattern binds.
use Rattle.std.specs.Prelude.{ℕ, nat_eq, List, [], ◌∷◌, ◌++◌, Option, Some, None, option_and_then, option_map, if◌then◌else◌}
use Rattle.pict_core.specs.Term.{Val, Vals, Labelled, Record, no_vals, more_vals, no_labelled, more_labelled, Pat, Pats, LabelledPats, Bind, Any, RecordPat, no_pats, more_pats, no_labelled_pats, more_labelled_pats}

-- the field with this label: the first where it stands twice
abbrev pub field_at : ℕ → Labelled → Option Val
field_at label no_labelled = None
field_at label (more_labelled l v rest) = if nat_eq label l then Some v else field_at label rest

-- both lists, one after the other, where both are there
abbrev pub both : Option (List Val) → Option (List Val) → Option (List Val)
both a b = option_and_then (λ vs. option_map (λ ws. vs ++ ws) b) a

-- what f finds in the fields of a record; nothing in any other value, a variable included
abbrev pub in_record : (Vals → Labelled → Option (List Val)) → Val → Option (List Val)
in_record f (Record positional labelled) = f positional labelled
in_record f _ = None

abbrev pub at_head : (Val → Vals → Option (List Val)) → Vals → Option (List Val)
at_head f no_vals = None
at_head f (more_vals v vs) = f v vs

abbrev pub at_end : Vals → Option (List Val)
at_end no_vals = Some []
at_end (more_vals v vs) = None

-- A record pattern fits a record with as many positional fields and at least its labels.
-- What is bound stands in the pattern's order: positional fields first, then its labels, which stand in the order of their bytes.
abbrev mutual
  pub match_value : Pat → Val → Option (List Val)
  match_value Bind v = Some (v ∷ [])
  match_value Any v = Some []
  match_value (RecordPat positional labelled) v = in_record (λ vs ls. both (match_values positional vs) (match_labelled labelled ls)) v

  pub match_values : Pats → Vals → Option (List Val)
  match_values no_pats vs = at_end vs
  match_values (more_pats p ps) vs = at_head (λ v rest. both (match_value p v) (match_values ps rest)) vs

  pub match_labelled : LabelledPats → Labelled → Option (List Val)
  match_labelled no_labelled_pats ls = Some []
  match_labelled (more_labelled_pats label p ps) ls = both (option_and_then (match_value p) (field_at label ls)) (match_labelled ps ls)
