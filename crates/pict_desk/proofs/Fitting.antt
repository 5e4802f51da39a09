-- Patterns that fit a record: its fields are there, and fit.
use Rattle.std.proofs.Common.{ℕ, zero, suc, ◌+◌, ◌<◌, ◌≡◌, true, false, List, [], ◌∷◌, ◌++◌, length, map, drop, get_or, refl, sym, ap, ◌∙◌, arith, Option, Some, None, option_and_then}
use Rattle.std.specs.Option.{IsSome}
use Rattle.std.specs.List.{AllByRecursion}
use Rattle.pict_syntax.specs.declared.name.Name.{Name}
use Rattle.pict_core.specs.Term as term
use Rattle.pict_core.specs.Term.{Val, Vals, Labelled, no_vals, more_vals, Pat, Pats, LabelledPats}
use Rattle.pict_core.specs.Matching.{match_value, match_values, match_labelled, both, field_at, at_end}
use Rattle.pict_core.proofs.Matched.{from_place}
use Rattle.pict_code.specs.Instruction as plain
use Rattle.pict_code.specs.Plain.{plain_pat, plain_pat_field, pats_of, labelled_pats_of}
use Rattle.pict_code.specs.ReadBack.{unleveled, unleveled_all}
use Rattle.pict_code.specs.declared.pattern.CodePat.{CodePat}
use Rattle.pict_heap.specs.Fields.{count, nth, positional_count, positional_field, labelled_field}
use Rattle.pict_desk.proofs.SoFar.{both_second}
use Rattle.pict_desk.specs.Parts.{positional_found, labelled_found, skip, found_from}

not_some : false ≡ true → ⊥
not_some h = cc

-- ---- a record is its positional fields and its labels

pub both_found : (ps : Pats) (ls : LabelledPats) (v : Val) → match_value (term.RecordPat ps ls) v ≡ both (positional_found ps v) (labelled_found ls v)
both_found ps ls (term.Var n) = refl
both_found ps ls (term.Chan n) = refl
both_found ps ls (term.Int n) = refl
both_found ps ls (term.Char n) = refl
both_found ps ls (term.Boolean n) = refl
both_found ps ls (term.Text n) = refl
both_found ps ls (term.PrimitiveVal n) = refl
both_found ps ls (term.Record vs fs) = refl

-- ---- positional fields

as_many_fields : (ps : List plain.CodePat) (vs : Vals) → IsSome (match_values (unleveled_all (pats_of ps)) vs) → count vs ≡ length ps
as_many_fields [] no_vals h = refl
as_many_fields [] (more_vals v vs) h = absurd (not_some h)
as_many_fields (p ∷ ps) no_vals h = absurd (not_some h)
as_many_fields (p ∷ ps) (more_vals v vs) h = ap suc (as_many_fields ps vs (both_second (match_value (unleveled p) v) (match_values (unleveled_all (pats_of ps)) vs) h))

pub as_many : (ps : List plain.CodePat) (v : Val) → IsSome (positional_found (unleveled_all (pats_of ps)) v) → positional_count v ≡ Some (length ps)
as_many ps (term.Var n) h = absurd (not_some h)
as_many ps (term.Chan n) h = absurd (not_some h)
as_many ps (term.Int n) h = absurd (not_some h)
as_many ps (term.Char n) h = absurd (not_some h)
as_many ps (term.Boolean n) h = absurd (not_some h)
as_many ps (term.Text n) h = absurd (not_some h)
as_many ps (term.PrimitiveVal n) h = absurd (not_some h)
as_many ps (term.Record vs fs) h = ap Some (as_many_fields ps vs h)

-- the field that the next pattern takes
pub record TakesField (p : Pat) (ps : Pats) (v : Val) (i : ℕ) : Type 0 where
  pub field : Val
  pub is : positional_field v i ≡ Some field
  pub found : found_from i (term.more_pats p ps) v ≡ both (match_value p field) (found_from (i + 1) ps v)

record TakesNth (p : Pat) (ps : Pats) (vs : Vals) (i : ℕ) : Type 0 where
  field : Val
  is : nth vs i ≡ Some field
  found : match_values (term.more_pats p ps) (skip i vs) ≡ both (match_value p field) (match_values ps (skip (i + 1) vs))

takes_nth : (p : Pat) (ps : Pats) (vs : Vals) (i : ℕ) → IsSome (match_values (term.more_pats p ps) (skip i vs)) → TakesNth p ps vs i
takes_nth p ps no_vals zero h = absurd (not_some h)
takes_nth p ps no_vals (suc i) h = absurd (not_some h)
takes_nth p ps (more_vals v vs) zero h = record { field = v; is = refl; found = refl }
takes_nth p ps (more_vals v vs) (suc i) h =
    let t = takes_nth p ps vs i h in
    let e : suc i + 1 ≡ suc (i + 1) = omega arith in
    record { field = t.field; is = t.is; found = t.found ∙ ap (λ n. both (match_value p t.field) (match_values ps (skip n (more_vals v vs)))) (sym e) }

pub takes_field : (p : Pat) (ps : Pats) (v : Val) (i : ℕ) → IsSome (found_from i (term.more_pats p ps) v) → TakesField p ps v i
takes_field p ps (term.Var n) i h = absurd (not_some h)
takes_field p ps (term.Chan n) i h = absurd (not_some h)
takes_field p ps (term.Int n) i h = absurd (not_some h)
takes_field p ps (term.Char n) i h = absurd (not_some h)
takes_field p ps (term.Boolean n) i h = absurd (not_some h)
takes_field p ps (term.Text n) i h = absurd (not_some h)
takes_field p ps (term.PrimitiveVal n) i h = absurd (not_some h)
takes_field p ps (term.Record vs fs) i h = let t = takes_nth p ps vs i h in record { field = t.field; is = t.is; found = t.found }

nothing_left : (vs : Vals) → IsSome (at_end vs) → at_end vs ≡ Some []
nothing_left no_vals h = refl
nothing_left (more_vals v vs) h = absurd (not_some h)

pub no_field_left : (v : Val) (i : ℕ) → IsSome (found_from i term.no_pats v) → found_from i term.no_pats v ≡ Some []
no_field_left (term.Var n) i h = absurd (not_some h)
no_field_left (term.Chan n) i h = absurd (not_some h)
no_field_left (term.Int n) i h = absurd (not_some h)
no_field_left (term.Char n) i h = absurd (not_some h)
no_field_left (term.Boolean n) i h = absurd (not_some h)
no_field_left (term.Text n) i h = absurd (not_some h)
no_field_left (term.PrimitiveVal n) i h = absurd (not_some h)
no_field_left (term.Record vs fs) i h = nothing_left (skip i vs) h

-- ---- fields with labels

pub record TakesLabel (label : ℕ) (p : Pat) (ps : LabelledPats) (v : Val) : Type 0 where
  pub field : Val
  pub is : labelled_field v label ≡ Some field
  pub found : labelled_found (term.more_labelled_pats label p ps) v ≡ both (match_value p field) (labelled_found ps v)

taken_at : (label : ℕ) (p : Pat) (ps : LabelledPats) (vs : Vals) (fs : Labelled) (o : Option Val) → field_at label fs ≡ o
    → IsSome (both (option_and_then (match_value p) o) (match_labelled ps fs)) → TakesLabel label p ps (term.Record vs fs)
taken_at label p ps vs fs None e h = absurd (not_some h)
taken_at label p ps vs fs (Some w) e h = record { field = w; is = e; found = ap (λ o. both (option_and_then (match_value p) o) (match_labelled ps fs)) e }

pub takes_label : (label : ℕ) (p : Pat) (ps : LabelledPats) (v : Val) → IsSome (labelled_found (term.more_labelled_pats label p ps) v) → TakesLabel label p ps v
takes_label label p ps (term.Var n) h = absurd (not_some h)
takes_label label p ps (term.Chan n) h = absurd (not_some h)
takes_label label p ps (term.Int n) h = absurd (not_some h)
takes_label label p ps (term.Char n) h = absurd (not_some h)
takes_label label p ps (term.Boolean n) h = absurd (not_some h)
takes_label label p ps (term.Text n) h = absurd (not_some h)
takes_label label p ps (term.PrimitiveVal n) h = absurd (not_some h)
takes_label label p ps (term.Record vs fs) h = taken_at label p ps vs fs (field_at label fs) refl h

pub no_label_left : (v : Val) → IsSome (labelled_found term.no_labelled_pats v) → labelled_found term.no_labelled_pats v ≡ Some []
no_label_left (term.Var n) h = absurd (not_some h)
no_label_left (term.Chan n) h = absurd (not_some h)
no_label_left (term.Int n) h = absurd (not_some h)
no_label_left (term.Char n) h = absurd (not_some h)
no_label_left (term.Boolean n) h = absurd (not_some h)
no_label_left (term.Text n) h = absurd (not_some h)
no_label_left (term.PrimitiveVal n) h = absurd (not_some h)
no_label_left (term.Record vs fs) h = refl

-- ---- the patterns of a list from a place on

pub pats_from : (patterns : List CodePat) (i : ℕ) (p : CodePat) → i < length patterns → p ≡ get_or patterns i p
    → pats_of (map plain_pat (drop i patterns)) ≡ plain.more_pats (plain_pat p) (pats_of (map plain_pat (drop (i + 1) patterns)))
pats_from patterns i p h is = ap (λ l. pats_of (map plain_pat l)) (from_place patterns i p h is)

pub labelled_from : (patterns : List (Name × CodePat)) (i : ℕ) (p : Name × CodePat) → i < length patterns → p ≡ get_or patterns i p
    → labelled_pats_of (map plain_pat_field (drop i patterns)) ≡ plain.more_labelled_pats p.0.0 (plain_pat p.1) (labelled_pats_of (map plain_pat_field (drop (i + 1) patterns)))
labelled_from patterns i p h is = ap (λ l. labelled_pats_of (map plain_pat_field l)) (from_place patterns i p h is)

-- ---- levels of parts

pub inside_front : (n : ℕ) (xs ys : List ℕ) → AllByRecursion (λ level. level < n) (xs ++ ys) → AllByRecursion (λ level. level < n) xs
inside_front n [] ys h = tt
inside_front n (x ∷ xs) ys h = (h.0, inside_front n xs ys h.1)

pub inside_back : (n : ℕ) (xs ys : List ℕ) → AllByRecursion (λ level. level < n) (xs ++ ys) → AllByRecursion (λ level. level < n) ys
inside_back n [] ys h = h
inside_back n (x ∷ xs) ys h = inside_back n xs ys h.1
