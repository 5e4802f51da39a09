-- Two records, part by part.
use Rattle.std.proofs.Common.{◌≡◌, ◌≢◌, ℕ, ◌+◌, nat_eq, Bool, true, false, ◌&&◌, List, length, refl, sym, ◌∙◌, ap, arith}
use Rattle.std.specs.Prelude.{if◌then◌else◌}
use Rattle.std.proofs.lemmas.Bool.Decides.{nat_tests}
use Rattle.pict_types.specs.declared.types.Ty.{Ty}
use Rattle.pict_types.specs.declared.types.Bound.{Bound}
use Rattle.pict_types.specs.Types.{Fields, PlainTypes, PlainLabels, PlainBounds, TypeContext, under, count_types, count_bounds}
use Rattle.pict_types.specs.Kinds.{kinds_under}
use Rattle.pict_types.specs.Plain.{plain_types, plain_bounds}
use Rattle.pict_types.proofs.Rows.{count_bounds_length, count_types_length}
use Rattle.pict_rules.specs.Found.{Found, matched_types, matched_labels, matched_bounds}
use Rattle.pict_match.specs.Formed.{IsFormed, AreFormed, LabelsAreFormed}
use Rattle.pict_match.specs.Parts.{by_fields}
use Rattle.pict_match.proofs.Growing.{partly_none}

pub formed_positional : {names : List (List ℕ)} {bs : PlainBounds} {ps : PlainTypes} {ls : PlainLabels} → IsFormed names (Fields bs ps ls) → AreFormed names ps
formed_positional {bs = bs} f = record { kinds_ = kinds_under f.kinds_ bs; formed = f.formed.1.0 }

pub formed_labelled : {names : List (List ℕ)} {bs : PlainBounds} {ps : PlainTypes} {ls : PlainLabels} → IsFormed names (Fields bs ps ls) → LabelsAreFormed names ls
formed_labelled {bs = bs} f = record { kinds_ = kinds_under f.kinds_ bs; formed = f.formed.1.1 }

not_equal : (m n : ℕ) → m ≢ n → nat_eq m n ≡ false
not_equal m n h = grind (arith, nat_tests, h)

same_equal : (m : ℕ) → nat_eq m m ≡ true
same_equal m = grind (arith, nat_tests)

differ_by : (p q : Bool) (x f : Found) → p ≡ false → f ≡ (if p && q then x else f)
differ_by p q x f h = rw h refl

differ_too : (p q : Bool) (x f : Found) → q ≡ false → f ≡ (if p && q then x else f)
differ_too true q x f h = rw h refl
differ_too false q x f h = refl

agree_by : (p q : Bool) (x f : Found) → p ≡ true → q ≡ true → x ≡ (if p && q then x else f)
agree_by p q x f h k = rw (h, k) refl

module _ (c : TypeContext) (d : ℕ) (bs cs : List Bound) (ws us : List Ty) (ls ms : PlainLabels) (f : Found) where
  pub bounds_differ : length bs ≢ length cs → f ≡ by_fields c d (plain_bounds bs) (plain_types ws) ls (plain_bounds cs) (plain_types us) ms f
  bounds_differ h = differ_by (nat_eq (count_bounds (plain_bounds bs)) (count_bounds (plain_bounds cs))) _ _ f (not_equal _ _ (λ e. h (sym (count_bounds_length bs) ∙ e ∙ count_bounds_length cs)))

  pub types_differ : length ws ≢ length us → f ≡ by_fields c d (plain_bounds bs) (plain_types ws) ls (plain_bounds cs) (plain_types us) ms f
  types_differ h = differ_too (nat_eq (count_bounds (plain_bounds bs)) (count_bounds (plain_bounds cs))) (nat_eq (count_types (plain_types ws)) (count_types (plain_types us))) _ f (not_equal _ _ (λ e. h (sym (count_types_length ws) ∙ e ∙ count_types_length us)))

  -- all that the parts find
  pub records_total : (n : ℕ) → length bs ≡ length cs → length ws ≡ length us → n ≡ d + length bs → matched_labels (under c (plain_bounds cs)) n ls ms (matched_types (under c (plain_bounds cs)) n (plain_types ws) (plain_types us) (matched_bounds c d (plain_bounds bs) (plain_bounds cs) f)) ≡ by_fields c d (plain_bounds bs) (plain_types ws) ls (plain_bounds cs) (plain_types us) ms f
  records_total n p q m =
      let n_is : n ≡ d + count_bounds (plain_bounds bs) = m ∙ ap (λ x. d + x) (sym (count_bounds_length bs)) in
      ap (λ x. matched_labels (under c (plain_bounds cs)) x ls ms (matched_types (under c (plain_bounds cs)) x (plain_types ws) (plain_types us) (matched_bounds c d (plain_bounds bs) (plain_bounds cs) f))) n_is
      ∙ agree_by (nat_eq (count_bounds (plain_bounds bs)) (count_bounds (plain_bounds cs))) (nat_eq (count_types (plain_types ws)) (count_types (plain_types us))) _ f
      (rw (count_bounds_length bs ∙ p ∙ sym (count_bounds_length cs)) (same_equal (count_bounds (plain_bounds cs))))
      (rw (count_types_length ws ∙ q ∙ sym (count_types_length us)) (same_equal (count_types (plain_types us))))

pub ruleset record_rules = (partly_none, bounds_differ, types_differ)
