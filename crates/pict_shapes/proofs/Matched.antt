-- Whether the parts of a record pattern find what they bind in a record of operands.
use Rattle.std.proofs.Common.{ℕ, zero, suc, ◌+◌, ◌<◌, ◌≤◌, ◌≡◌, ◌≢◌, Bool, true, false, cond, List, [], ◌∷◌, length, map, drop, get_or, refl, sym, ap, ◌∙◌, Option, Some, None, Vec, Global, slice_get}
use Rattle.std.specs.Prelude.{nat_eq, option_and_then}
use Rattle.std.proofs.Math.ListN.{drop_of_length-le}
use Rattle.std.proofs.lemmas.Bool.{ne_eqb, eq-eqb}
use Rattle.pict_syntax.specs.declared.name.Name.{Name}
use Rattle.pict_core.specs.Closed.{IsDistinct, Lacks}
use Rattle.pict_core.specs.Matching.{match_value, match_values, match_labelled, field_at}
use Rattle.pict_core.specs.Plain.{plain_val, plain_field, labelled_of}
use Rattle.pict_core.specs.Substitution.{replace_labelled}
use Rattle.pict_core.specs.Term.{Val, Record}
use Rattle.pict_core.specs.declared.value.CoreVal.{CoreVal}
use Rattle.pict_core.specs.declared.value.CoreVal.TheVariants as value
use Rattle.pict_code.specs.Plain.{plain_pat}
use Rattle.pict_code.specs.ReadBack.{unleveled}
use Rattle.pict_code.specs.declared.pattern.CodePat.{CodePat}
use Rattle.pict_heap.specs.Fields.{count}
use Rattle.pict_heap.specs.HeapState.{HeapState}
use Rattle.pict_desk.specs.Arguments.{operand_in}
use Rattle.pict_desk.specs.Known.{known}
use Rattle.pict_desk.proofs.Making.{levels_replaced, vals_replaced, labelled_replaced}
use Rattle.pict_desk.proofs.Recording.{record_val}
use Rattle.pict_shapes.specs.Fitting.{is_found, values_in, fields_in, labels_in}
use Rattle.pict_shapes.proofs.Found.{pats, labels, both_found, from_place, uneven}

-- the label at a place
pub label_is : (fs : List (Name × CoreVal)) (place label : ℕ) (f : Name × CoreVal) → f ≡ get_or fs place f → slice_get (labels_in fs) place ≡ Some label → f.0.0 ≡ label
label_is [] place label f is e = cc
label_is (g ∷ gs) zero label f is e = let same : g.0.0 ≡ label = cc in ap (λ (x : Name × CoreVal). x.0.0) is ∙ same
label_is (g ∷ gs) (suc place) label f is e = label_is gs place label f is e

module _ (h : HeapState) (values : List (ℕ × ℕ)) where
  -- ---- operands that are fields

  pub record_in : (v : CoreVal) (p : Vec CoreVal Global) (l : Vec (Name × CoreVal) Global) (positional : List CoreVal) (labelled : List (Name × CoreVal)) → v ≡ value.Fields p l → positional ≡ p.items → labelled ≡ l.items
      → operand_in h values (plain_val v) ≡ Record (values_in h values positional) (fields_in h values labelled)
  record_in v p l positional labelled is e f =
      ap (operand_in h values) (record_val v p l positional labelled is e f)
      ∙ ap (λ vs. Record vs (replace_labelled (levels_replaced (known h values)) (labelled_of (map plain_field labelled)))) (sym (vals_replaced (known h values) positional))
      ∙ ap (λ ls. Record (values_in h values positional) ls) (sym (labelled_replaced (known h values) labelled))

  how_many : (operands : List CoreVal) → count (values_in h values operands) ≡ length operands
  how_many [] = refl
  how_many (v ∷ vs) = ap suc (how_many vs)

  pub not_even : (ps : List CodePat) (operands : List CoreVal) → length ps ≢ length operands → is_found (match_values (pats ps) (values_in h values operands)) ≡ false
  not_even ps operands n = uneven ps (values_in h values operands) (λ e. n (sym (sym (how_many operands) ∙ e)))

  pub all_there : (ps : List CodePat) (operands : List CoreVal) (i : ℕ) → length ps ≤ i → length operands ≤ i → is_found (match_values (pats (drop i ps)) (values_in h values (drop i operands))) ≡ true
  all_there ps operands i a b =
      ap (λ l. is_found (match_values (pats l) (values_in h values (drop i operands)))) (drop_of_length-le ps a)
      ∙ ap (λ l. is_found (match_values (pats []) (values_in h values l))) (drop_of_length-le operands b)

  -- ---- fields with labels

  lacks_at : (label other : ℕ) (fs : List (Name × CoreVal)) (place : ℕ) → Lacks label (labelled_of (map plain_field fs)) → slice_get (labels_in fs) place ≡ Some other → other ≢ label
  lacks_at label other [] place lacks e same = cc
  lacks_at label other (f ∷ fs) zero lacks e same = lacks.0 (let k : f.0.0 ≡ other = cc in sym (k ∙ same))
  lacks_at label other (f ∷ fs) (suc place) lacks e same = lacks_at label other fs place lacks.1 e same

  skipped : (b : Bool) (x y : Option Val) → b ≡ false → cond b x y ≡ y
  skipped true x y e = cc
  skipped false x y e = refl

  taken : (b : Bool) (x y : Option Val) → b ≡ true → cond b x y ≡ x
  taken true x y e = refl
  taken false x y e = cc

  found_at : (fs : List (Name × CoreVal)) (place label : ℕ) (f : Name × CoreVal) → IsDistinct (labelled_of (map plain_field fs)) → slice_get (labels_in fs) place ≡ Some label → f ≡ get_or fs place f
      → field_at label (fields_in h values fs) ≡ Some (operand_in h values (plain_val f.1))
  found_at [] place label f distinct e is = cc
  found_at (g ∷ gs) zero label f distinct e is =
      let same : label ≡ g.0.0 = cc in
      taken (nat_eq label g.0.0) (Some (operand_in h values (plain_val g.1))) (field_at label (fields_in h values gs)) (eq-eqb label g.0.0 same) ∙ ap (λ (x : Name × CoreVal). Some (operand_in h values (plain_val x.1))) (sym is)
  found_at (g ∷ gs) (suc place) label f distinct e is =
      skipped (nat_eq label g.0.0) (Some (operand_in h values (plain_val g.1))) (field_at label (fields_in h values gs)) (ne_eqb label g.0.0 (lacks_at g.0.0 label gs place distinct.0 e)) ∙ found_at gs place label f distinct.1 e is

  missing : (fs : List (Name × CoreVal)) (label : ℕ) → ((place : ℕ) → slice_get (labels_in fs) place ≢ Some label) → field_at label (fields_in h values fs) ≡ None
  missing [] label none = refl
  missing (f ∷ fs) label none =
      skipped (nat_eq label f.0.0) (Some (operand_in h values (plain_val f.1))) (field_at label (fields_in h values fs)) (ne_eqb label f.0.0 (λ e. none 0 (ap Some (sym e)))) ∙ missing fs label (λ place. none (suc place))

  module _ (ps : List (Name × CodePat)) (fs : List (Name × CoreVal)) (i : ℕ) (p : Name × CodePat) (low : i < length ps) (is : p ≡ get_or ps i p) where
    here : is_found (match_labelled (labels (drop i ps)) (fields_in h values fs))
        ≡ cond (is_found (option_and_then (match_value (unleveled (plain_pat p.1))) (field_at p.0.0 (fields_in h values fs)))) (is_found (match_labelled (labels (drop (i + 1) ps)) (fields_in h values fs))) false
    here =
        ap (λ l. is_found (match_labelled (labels l) (fields_in h values fs))) (from_place ps i p low is)
        ∙ both_found (option_and_then (match_value (unleveled (plain_pat p.1))) (field_at p.0.0 (fields_in h values fs))) (match_labelled (labels (drop (i + 1) ps)) (fields_in h values fs))

    pub label_there : (place : ℕ) (f : Name × CoreVal) → IsDistinct (labelled_of (map plain_field fs)) → slice_get (labels_in fs) place ≡ Some p.0.0 → f ≡ get_or fs place f
        → is_found (match_labelled (labels (drop i ps)) (fields_in h values fs))
        ≡ cond (is_found (match_value (unleveled (plain_pat p.1)) (operand_in h values (plain_val f.1)))) (is_found (match_labelled (labels (drop (i + 1) ps)) (fields_in h values fs))) false
    label_there place f distinct e at =
        here ∙ ap (λ o. cond (is_found (option_and_then (match_value (unleveled (plain_pat p.1))) o)) (is_found (match_labelled (labels (drop (i + 1) ps)) (fields_in h values fs))) false) (found_at fs place p.0.0 f distinct e at)

    pub no_label_there : ((place : ℕ) → slice_get (labels_in fs) place ≢ Some p.0.0) → is_found (match_labelled (labels (drop i ps)) (fields_in h values fs)) ≡ false
    no_label_there none =
        here ∙ ap (λ o. cond (is_found (option_and_then (match_value (unleveled (plain_pat p.1))) o)) (is_found (match_labelled (labels (drop (i + 1) ps)) (fields_in h values fs))) false) (missing fs p.0.0 none)

  pub labels_there : (ps : List (Name × CodePat)) (fs : List (Name × CoreVal)) (i : ℕ) → length ps ≤ i → is_found (match_labelled (labels (drop i ps)) (fields_in h values fs)) ≡ true
  labels_there ps fs i a = ap (λ l. is_found (match_labelled (labels l) (fields_in h values fs))) (drop_of_length-le ps a)
