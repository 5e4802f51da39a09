-- Whether the parts of a record pattern find what they bind.
use Rattle.std.proofs.Common.{ℕ, zero, suc, ◌+◌, ◌<◌, ◌≡◌, ◌≢◌, Bool, true, false, cond, List, [], ◌∷◌, length, map, drop, get_or, refl, sym, ap, ◌∙◌, arith, Option, Some, None, Vec, Global, add-one}
use Rattle.std.proofs.Math.Seq.{drop-cons}
use Rattle.std.proofs.Math.ListN.{drop_of_length-le}
use Rattle.pict_syntax.specs.declared.name.Name.{Name}
use Rattle.pict_core.specs.Term.{Val, Vals, Pat, Pats, LabelledPats, Var, Chan, Int, Char, Boolean, Text, PrimitiveVal, Record, no_vals, more_vals, more_pats, no_pats, RecordPat}
use Rattle.pict_core.specs.Matching.{match_value, match_values, both}
use Rattle.pict_code.specs.Plain.{plain_pat, plain_pat_field, pats_of, labelled_pats_of}
use Rattle.pict_code.specs.ReadBack.{unleveled, unleveled_all, unleveled_labelled}
use Rattle.pict_code.proofs.Lines.{plain_pat-Fields}
use Rattle.pict_code.specs.declared.pattern.CodePat.{CodePat}
use Rattle.pict_code.specs.declared.pattern.CodePat.TheVariants as pattern
use Rattle.pict_heap.specs.Fields.{nth, count, positional_field, positional_count}
use Rattle.pict_desk.specs.Parts.{positional_found, labelled_found, skip, found_from}
use Rattle.pict_shapes.specs.Fitting.{is_found}

pub both_found : (x y : Option (List Val)) → is_found (both x y) ≡ cond (is_found x) (is_found y) false
both_found None y = refl
both_found (Some vs) None = refl
both_found (Some vs) (Some ws) = refl

abbrev pub pats : List CodePat → Pats
pats ps = unleveled_all (pats_of (map plain_pat ps))

abbrev pub labels : List (Name × CodePat) → LabelledPats
labels ps = unleveled_labelled (labelled_pats_of (map plain_pat_field ps))

pub from_place : {A : Type 0} (xs : List A) (i : ℕ) (x : A) → i < length xs → x ≡ get_or xs i x → drop i xs ≡ x ∷ drop (i + 1) xs
from_place xs i x h a = drop-cons xs i x h ∙ ap (λ y. y ∷ drop (suc i) xs) (sym a) ∙ ap (λ n. x ∷ drop n xs) (sym (add-one i))

either_way : (b : Bool) → cond b false false ≡ false
either_way true = refl
either_way false = refl

some_number : (n m : ℕ) → Some n ≡ Some m → n ≡ m
some_number n m h = cc

some_value : (v w : Val) → Some w ≡ Some v → v ≡ w
some_value v w h = cc

one_more : (i : ℕ) → suc (i + 1) ≡ suc i + 1
one_more i = omega arith

-- ---- as many

pub uneven : (ps : List CodePat) (vs : Vals) → count vs ≢ length ps → is_found (match_values (pats ps) vs) ≡ false
uneven [] no_vals n = absurd (n refl)
uneven [] (more_vals v vs) n = refl
uneven (p ∷ ps) no_vals n = refl
uneven (p ∷ ps) (more_vals v vs) n =
    both_found (match_value (unleveled (plain_pat p)) v) (match_values (pats ps) vs)
    ∙ ap (λ b. cond (is_found (match_value (unleveled (plain_pat p)) v)) b false) (uneven ps vs (λ e. n (omega (arith, e)))) ∙ either_way (is_found (match_value (unleveled (plain_pat p)) v))

pub not_as_many : (v : Val) (ps : List CodePat) (n : ℕ) → Some n ≡ positional_count v → n ≢ length ps → false ≡ is_found (positional_found (pats ps) v)
not_as_many (Var x) ps n h d = refl
not_as_many (Chan x) ps n h d = refl
not_as_many (Int x) ps n h d = refl
not_as_many (Char x) ps n h d = refl
not_as_many (Boolean x) ps n h d = refl
not_as_many (Text x) ps n h d = refl
not_as_many (PrimitiveVal x) ps n h d = refl
not_as_many (Record vs ls) ps n h d = sym (uneven ps vs (λ e. d (some_number n (count vs) h ∙ e)))

-- ---- one field

next_field : (i : ℕ) (vs : Vals) (w : Val) → Some w ≡ nth vs i → skip i vs ≡ more_vals w (skip (i + 1) vs)
next_field i no_vals w h = cc
next_field zero (more_vals v vs) w h = ap (λ z. more_vals z vs) (some_value v w h)
next_field (suc i) (more_vals v vs) w h = next_field i vs w h ∙ ap (λ n. more_vals w (skip n (more_vals v vs))) (one_more i)

last_field : (i : ℕ) (vs : Vals) → None ≡ nth vs i → skip i vs ≡ no_vals
last_field zero no_vals h = refl
last_field (suc i) no_vals h = refl
last_field zero (more_vals v vs) h = cc
last_field (suc i) (more_vals v vs) h = last_field i vs h

pub field_step : (i : ℕ) (p : Pat) (ps : Pats) (v w : Val) → Some w ≡ positional_field v i → found_from i (more_pats p ps) v ≡ both (match_value p w) (found_from (i + 1) ps v)
field_step i p ps (Var x) w h = cc
field_step i p ps (Chan x) w h = cc
field_step i p ps (Int x) w h = cc
field_step i p ps (Char x) w h = cc
field_step i p ps (Boolean x) w h = cc
field_step i p ps (Text x) w h = cc
field_step i p ps (PrimitiveVal x) w h = cc
field_step i p ps (Record vs ls) w h = ap (match_values (more_pats p ps)) (next_field i vs w h)

pub field_none : (i : ℕ) (p : Pat) (ps : Pats) (v : Val) → None ≡ positional_field v i → found_from i (more_pats p ps) v ≡ None
field_none i p ps (Var x) h = refl
field_none i p ps (Chan x) h = refl
field_none i p ps (Int x) h = refl
field_none i p ps (Char x) h = refl
field_none i p ps (Boolean x) h = refl
field_none i p ps (Text x) h = refl
field_none i p ps (PrimitiveVal x) h = refl
field_none i p ps (Record vs ls) h = ap (match_values (more_pats p ps)) (last_field i vs h)

skip_all : (vs : Vals) (i : ℕ) → i ≡ count vs → skip i vs ≡ no_vals
skip_all no_vals zero h = refl
skip_all no_vals (suc i) h = refl
skip_all (more_vals v vs) zero h = absurd (omega (arith, h))
skip_all (more_vals v vs) (suc i) h = skip_all vs i (omega (arith, h))

pub at_the_end : (v : Val) (i n : ℕ) → Some n ≡ positional_count v → i ≡ n → is_found (found_from i no_pats v) ≡ true
at_the_end (Var x) i n h d = cc
at_the_end (Chan x) i n h d = cc
at_the_end (Int x) i n h d = cc
at_the_end (Char x) i n h d = cc
at_the_end (Boolean x) i n h d = cc
at_the_end (Text x) i n h d = cc
at_the_end (PrimitiveVal x) i n h d = cc
at_the_end (Record vs ls) i n h d = ap (λ z. is_found (match_values no_pats z)) (skip_all vs i (d ∙ some_number n (count vs) h))

module _ (v : Val) (ps : List CodePat) (i : ℕ) (p : CodePat) (low : i < length ps) (is : p ≡ get_or ps i p) where
  here : found_from i (pats (drop i ps)) v ≡ found_from i (more_pats (unleveled (plain_pat p)) (pats (drop (i + 1) ps))) v
  here = ap (λ l. found_from i (pats l) v) (from_place ps i p low is)

  pub field_there : (w : Val) → Some w ≡ positional_field v i → is_found (found_from i (pats (drop i ps)) v) ≡ cond (is_found (match_value (unleveled (plain_pat p)) w)) (is_found (found_from (i + 1) (pats (drop (i + 1) ps)) v)) false
  field_there w h = ap is_found (here ∙ field_step i (unleveled (plain_pat p)) (pats (drop (i + 1) ps)) v w h) ∙ both_found (match_value (unleveled (plain_pat p)) w) (found_from (i + 1) (pats (drop (i + 1) ps)) v)

  pub no_field_there : None ≡ positional_field v i → is_found (found_from i (pats (drop i ps)) v) ≡ false
  no_field_there h = ap is_found (here ∙ field_none i (unleveled (plain_pat p)) (pats (drop (i + 1) ps)) v h)

some_pattern : (ps : List CodePat) (i : ℕ) → i < length ps → (p : CodePat) × (p ≡ get_or ps i p)
some_pattern [] i h = absurd (omega arith)
some_pattern (p ∷ ps) zero h = (p, refl)
some_pattern (p ∷ ps) (suc i) h = some_pattern ps i (omega arith)

pub no_field_at : (v : Val) (ps : List CodePat) (i : ℕ) → i < length ps → None ≡ positional_field v i → is_found (found_from i (pats (drop i ps)) v) ≡ false
no_field_at v ps i low h = let x = some_pattern ps i low in no_field_there v ps i x.0 low x.1 h

pub all_fields : (v : Val) (ps : List CodePat) (i n : ℕ) → Some n ≡ positional_count v → n ≡ length ps → i ≡ length ps → is_found (found_from i (pats (drop i ps)) v) ≡ true
all_fields v ps i n h k e = ap (λ l. is_found (found_from i (pats l) v)) (drop_of_length-le ps (omega (arith, e))) ∙ at_the_end v i n h (e ∙ sym k)

-- ---- a record

pub record_found : (v : Val) (ps : Pats) (ls : LabelledPats) → is_found (both (positional_found ps v) (labelled_found ls v)) ≡ is_found (match_value (RecordPat ps ls) v)
record_found (Var x) ps ls = refl
record_found (Chan x) ps ls = refl
record_found (Int x) ps ls = refl
record_found (Char x) ps ls = refl
record_found (Boolean x) ps ls = refl
record_found (Text x) ps ls = refl
record_found (PrimitiveVal x) ps ls = refl
record_found (Record vs ws) ps ls = refl

pub pattern_found : (q : CodePat) (ps : Vec CodePat Global) (ls : Vec (Name × CodePat) Global) (ps' : List CodePat) (ls' : List (Name × CodePat)) → q ≡ pattern.Fields ps ls → ps' ≡ ps.items → ls' ≡ ls.items → (v : Val)
    → is_found (match_value (unleveled (plain_pat q)) v) ≡ cond (is_found (positional_found (pats ps') v)) (is_found (labelled_found (labels ls') v)) false
pattern_found q ps ls ps' ls' e f g v =
    ap (λ x. is_found (match_value (unleveled x) v)) (ap plain_pat e ∙ plain_pat-Fields ps ls)
    ∙ ap (λ l. is_found (match_value (RecordPat (pats l) (labels ls.items)) v)) (sym f)
    ∙ ap (λ l. is_found (match_value (RecordPat (pats ps') (labels l)) v)) (sym g)
    ∙ sym (record_found v (pats ps') (labels ls')) ∙ both_found (positional_found (pats ps') v) (labelled_found (labels ls') v)
