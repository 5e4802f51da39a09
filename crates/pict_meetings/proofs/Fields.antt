-- The fields of a record that isn't made are bound, each by the pattern at its place.
use Rattle.std.proofs.Common.{ℕ, zero, suc, ◌+◌, ◌<◌, ◌≡◌, List, [], ◌∷◌, length, map, drop, get_or, refl, sym, ap, ◌∙◌, subst, arith, rules, Some}
use Rattle.std.specs.Option.{IsSome}
use Rattle.std.specs.List.{AllByRecursion}
use Rattle.pict_core.specs.Matching.{match_value}
use Rattle.pict_core.specs.Plain.{vals_of}
use Rattle.pict_core.specs.Term.{Val, Vals, Record, no_labelled}
use Rattle.pict_code.specs.Instruction as plain
use Rattle.pict_code.specs.Levels.{Rises}
use Rattle.pict_code.specs.Plain.{plain_pat, pats_of}
use Rattle.pict_code.specs.ReadBack.{unleveled, unleveled_all, unleveled_labelled}
use Rattle.pict_code.specs.declared.pattern.CodePat.{CodePat, the_lemmas}
use Rattle.pict_code.specs.declared.pattern.CodePat.TheVariants as pattern
use Rattle.pict_heap.specs.Fields.{nth, count, positional_field}
use Rattle.pict_heap.specs.HeapState.{HeapState, value_of}
use Rattle.pict_desk.specs.Binding.{levels_of, levels_of_labelled, Binds, BindsPattern}
use Rattle.pict_desk.specs.Known.{value_in}
use Rattle.pict_desk.specs.Pairs.{IsPair}
use Rattle.pict_desk.specs.Parts.{positional_found, labelled_found}
use Rattle.pict_desk.proofs.Loops.{all_levels, fields_found, field_fits, field_inside, field_rises, field_bound, fields_bound, counted}
use Rattle.pict_desk.proofs.Pairs.{value_packed}
use Rattle.pict_desk.proofs.SoFar.{BindsSoFar}
use Rattle.pict_meetings.specs.Sent.{record_of_pairs}

-- ---- the fields, two words each

one_of : (P : ℕ × ℕ → Type 0) (pairs : List (ℕ × ℕ)) (i : ℕ) (pair : ℕ × ℕ) → i < length pairs → pair ≡ get_or pairs i (0, 0) → AllByRecursion P pairs → P pair
one_of P [] i pair low is all = absurd (omega (arith, low))
one_of P (x ∷ xs) zero pair low is all = subst P (sym is) all.0
one_of P (x ∷ xs) (suc i) pair low is all = one_of P xs i pair (omega (arith, low)) is all.1

nth_of : (h : HeapState) (pairs : List (ℕ × ℕ)) (i : ℕ) (pair : ℕ × ℕ) → i < length pairs → pair ≡ get_or pairs i (0, 0)
    → Some (value_in h pair.0 pair.1) ≡ nth (vals_of (map (λ (p : ℕ × ℕ). value_in h p.0 p.1) pairs)) i
nth_of h [] i pair low is = absurd (omega (arith, low))
nth_of h (x ∷ xs) zero pair low is = ap (λ (p : ℕ × ℕ). Some (value_in h p.0 p.1)) is
nth_of h (x ∷ xs) (suc i) pair low is = nth_of h xs i pair (omega (arith, low)) is

count_of : (h : HeapState) (pairs : List (ℕ × ℕ)) → length pairs ≡ count (vals_of (map (λ (p : ℕ × ℕ). value_in h p.0 p.1) pairs))
count_of h [] = refl
count_of h (x ∷ xs) = ap suc (count_of h xs)

module _ (h : HeapState) (pairs : List (ℕ × ℕ)) (patterns : List CodePat) (fits : IsSome (positional_found (unleveled_all (pats_of (map plain_pat patterns))) (record_of_pairs h pairs))) where
  pub many : length pairs ≡ length patterns
  many = counted (record_of_pairs h pairs) patterns (length pairs) (ap Some (count_of h pairs)) fits

  module _ (i : ℕ) (before now : List (ℕ × ℕ))
      (s : BindsSoFar h (all_levels patterns) (all_levels (drop i patterns)) (positional_found (unleveled_all (pats_of (map plain_pat patterns))) (record_of_pairs h pairs)) (fields_found i (drop i patterns) (record_of_pairs h pairs)) before now) where
    module _ (are : AllByRecursion (IsPair h) pairs) (p : CodePat) (pair : ℕ × ℕ) (low : i < length pairs) (pattern_is : p ≡ get_or patterns i p) (pair_is : pair ≡ get_or pairs i (0, 0)) where
      pub pair_there : IsPair h pair
      pair_there = one_of (IsPair h) pairs i pair low pair_is are

      low_pattern : i < length patterns
      low_pattern = let m = many in omega (arith, m, low)

      value : value_in h pair.0 pair.1 ≡ value_of h pair_there.word
      value = value_packed h pair_there.word pair pair_there.fits pair_there.packs

      there : Some (value_of h pair_there.word) ≡ positional_field (record_of_pairs h pairs) i
      there = ap Some (sym value) ∙ nth_of h pairs i pair low pair_is

      pub pair_fits : IsSome (match_value (unleveled (plain_pat p)) (value_in h pair.0 pair.1))
      pair_fits = subst (λ x. IsSome (match_value (unleveled (plain_pat p)) x)) (sym value) (field_fits h (record_of_pairs h pairs) patterns i before now fits s p low_pattern pattern_is pair_there.word there)

      pub pair_inside : (n : ℕ) → AllByRecursion (λ level. level < n) (all_levels patterns) → AllByRecursion (λ level. level < n) (levels_of (plain_pat p))
      pair_inside = field_inside h (record_of_pairs h pairs) patterns i before now fits s p low_pattern pattern_is

      pub pair_rises : Rises 0 (all_levels patterns) → Rises 0 (levels_of (plain_pat p))
      pair_rises = field_rises h (record_of_pairs h pairs) patterns i before now fits s p low_pattern pattern_is

      pub pair_bound : (next : List (ℕ × ℕ)) → Rises 0 (all_levels patterns) → BindsPattern h (plain_pat p) (value_in h pair.0 pair.1) now next
          → BindsSoFar h (all_levels patterns) (all_levels (drop (i + 1) patterns)) (positional_found (unleveled_all (pats_of (map plain_pat patterns))) (record_of_pairs h pairs)) (fields_found (i + 1) (drop (i + 1) patterns) (record_of_pairs h pairs)) before next
      pair_bound next rises b =
          field_bound h (record_of_pairs h pairs) patterns i before now fits s p low_pattern pattern_is pair_there.word there next rises
          (subst (λ x. Binds h (levels_of (plain_pat p)) (match_value (unleveled (plain_pat p)) x) now next) value b)

    pub all_bound : i ≡ length pairs → Binds h (all_levels patterns) (positional_found (unleveled_all (pats_of (map plain_pat patterns))) (record_of_pairs h pairs)) before now
    all_bound end = fields_bound h (record_of_pairs h pairs) patterns i before now fits s (end ∙ many)

-- ---- the pattern as a whole

-- a record without labels fits no pattern with labels
pub no_labels : (h : HeapState) (ls : plain.LabelledCodePats) (vs : Vals) (values : List (ℕ × ℕ)) → IsSome (labelled_found (unleveled_labelled ls) (Record vs no_labelled))
    → Binds h (levels_of_labelled ls) (labelled_found (unleveled_labelled ls) (Record vs no_labelled)) values values
no_labels h plain.no_labelled_pats vs values fits = record { bound = []; fits = refl; here = refl; others = λ level none. refl }
no_labels h (plain.more_labelled_pats label p ps) vs values fits = cc

plain_any : plain_pat pattern.Any ≡ plain.Any
plain_any = search (rules, the_lemmas)

-- what binds nothing leaves all levels
pub any_bound : (h : HeapState) (v : Val) (values : List (ℕ × ℕ)) → BindsPattern h (plain_pat pattern.Any) v values values
any_bound h v values = subst (λ q. BindsPattern h q v values values) (sym plain_any) (record { bound = []; fits = refl; here = refl; others = λ level none. refl })
