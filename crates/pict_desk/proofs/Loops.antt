-- The loops that bind the fields of a record: one field more, and all of them.
use Rattle.std.proofs.Common.{ℕ, zero, suc, ◌+◌, ◌<◌, ◌≡◌, List, [], ◌∷◌, ◌++◌, length, map, drop, get_or, refl, sym, ap, ◌∙◌, subst, arith, Option, Some, None, Vec, Global}
use Rattle.std.proofs.lemmas.List.{length-map}
use Rattle.std.proofs.Math.ListN.{drop_of_length-le}
use Rattle.std.specs.Option.{IsSome}
use Rattle.std.specs.List.{AllByRecursion}
use Rattle.pict_syntax.specs.declared.name.Name.{Name}
use Rattle.pict_core.specs.Term.{Val}
use Rattle.pict_core.specs.Matching.{match_value, both}
use Rattle.pict_code.specs.Levels.{Rises}
use Rattle.pict_code.specs.Plain.{plain_pat, plain_pat_field, pats_of, labelled_pats_of}
use Rattle.pict_code.specs.ReadBack.{unleveled, unleveled_all, unleveled_labelled}
use Rattle.pict_code.specs.Instruction as plain
use Rattle.pict_code.proofs.Lines.{plain_pat-Fields}
use Rattle.pict_code.specs.declared.pattern.CodePat.{CodePat}
use Rattle.pict_code.specs.declared.pattern.CodePat.TheVariants as pattern
use Rattle.pict_heap.specs.Fields.{positional_field, labelled_field, positional_count}
use Rattle.pict_heap.specs.HeapState.{HeapState, value_of}
use Rattle.pict_heap.specs.declared.word.Word.{Word}
use Rattle.pict_desk.specs.Binding.{levels_of, levels_of_all, levels_of_labelled, Binds, BindsPattern}
use Rattle.pict_desk.specs.Parts.{positional_found, labelled_found, found_from}
use Rattle.pict_desk.proofs.SoFar.{BindsSoFar, a_part_more, all_parts, rest_fits, both_first, both_second, rises_front, rises_back, two_parts}
use Rattle.pict_desk.proofs.Fitting.{as_many, both_found, TakesField, takes_field, no_field_left, TakesLabel, takes_label, pats_from, labelled_from, inside_front, inside_back}

-- what holds of all levels holds of those of the next part
module _ (h : HeapState) (all rest ls more_levels : List ℕ) (whole left : Option (List Val)) (before now : List (ℕ × ℕ)) (s : BindsSoFar h all rest whole left before now) (next : rest ≡ ls ++ more_levels) where
  pub next_inside : (n : ℕ) → AllByRecursion (λ level. level < n) all → AllByRecursion (λ level. level < n) ls
  next_inside n inside =
      inside_front n ls more_levels (subst (AllByRecursion (λ level. level < n)) next (inside_back n s.done rest (subst (AllByRecursion (λ level. level < n)) s.levels inside)))

  pub next_rises : Rises 0 all → Rises 0 ls
  next_rises rises = rises_front 0 ls more_levels (subst (Rises 0) next (rises_back s.done rest 0 (subst (Rises 0) s.levels rises)))

-- ---- positional fields

some_pattern : (ps : List CodePat) (i : ℕ) → i < length ps → (p : CodePat) × (p ≡ get_or ps i p)
some_pattern [] i h = absurd (omega arith)
some_pattern (p ∷ ps) zero h = (p, refl)
some_pattern (p ∷ ps) (suc i) h = some_pattern ps i (omega arith)

abbrev pub all_levels : List CodePat → List ℕ
all_levels patterns = levels_of_all (pats_of (map plain_pat patterns))

abbrev pub fields_found : ℕ → List CodePat → Val → Option (List Val)
fields_found i patterns v = found_from i (unleveled_all (pats_of (map plain_pat patterns))) v

module _ (h : HeapState) (v : Val) (patterns : List CodePat) (i : ℕ) (before now : List (ℕ × ℕ))
    (fits : IsSome (positional_found (unleveled_all (pats_of (map plain_pat patterns))) v))
    (s : BindsSoFar h (all_levels patterns) (all_levels (drop i patterns)) (positional_found (unleveled_all (pats_of (map plain_pat patterns))) v) (fields_found i (drop i patterns) v) before now) where
  left_found : IsSome (fields_found i (drop i patterns) v)
  left_found = rest_fits h _ _ _ _ before now s fits

  module _ (p : CodePat) (low : i < length patterns) (is : p ≡ get_or patterns i p) where
    taken : TakesField (unleveled (plain_pat p)) (unleveled_all (pats_of (map plain_pat (drop (i + 1) patterns)))) v i
    taken = takes_field _ _ v i (subst (λ ps. IsSome (found_from i (unleveled_all ps) v)) (pats_from patterns i p low is) left_found)

    levels_next : all_levels (drop i patterns) ≡ levels_of (plain_pat p) ++ all_levels (drop (i + 1) patterns)
    levels_next = ap levels_of_all (pats_from patterns i p low is)

    found_next : fields_found i (drop i patterns) v ≡ both (match_value (unleveled (plain_pat p)) taken.field) (fields_found (i + 1) (drop (i + 1) patterns) v)
    found_next = ap (λ ps. found_from i (unleveled_all ps) v) (pats_from patterns i p low is) ∙ taken.found

    field_there : None ≡ positional_field v i → ⊥
    field_there none = let e : None ≡ Some taken.field = none ∙ taken.is in cc

    pub field_inside : (n : ℕ) → AllByRecursion (λ level. level < n) (all_levels patterns) → AllByRecursion (λ level. level < n) (levels_of (plain_pat p))
    field_inside = next_inside h _ _ _ _ _ _ before now s levels_next

    pub field_rises : Rises 0 (all_levels patterns) → Rises 0 (levels_of (plain_pat p))
    field_rises = next_rises h _ _ _ _ _ _ before now s levels_next

    module _ (part : Word) (there : Some (value_of h part) ≡ positional_field v i) where
      same_field : taken.field ≡ value_of h part
      same_field = let e : Some (value_of h part) ≡ Some taken.field = there ∙ taken.is in cc

      pub field_fits : IsSome (match_value (unleveled (plain_pat p)) (value_of h part))
      field_fits = subst (λ x. IsSome (match_value (unleveled (plain_pat p)) x)) same_field (both_first _ _ (subst IsSome found_next left_found))

      pub field_bound : (next : List (ℕ × ℕ)) → Rises 0 (all_levels patterns) → Binds h (levels_of (plain_pat p)) (match_value (unleveled (plain_pat p)) (value_of h part)) now next
          → BindsSoFar h (all_levels patterns) (all_levels (drop (i + 1) patterns)) (positional_found (unleveled_all (pats_of (map plain_pat patterns))) v) (fields_found (i + 1) (drop (i + 1) patterns) v) before next
      field_bound next rises b =
          a_part_more h _ _ _ _ _ _ _ _ before now next rises s levels_next found_next (subst (λ x. Binds h (levels_of (plain_pat p)) (match_value (unleveled (plain_pat p)) x) now next) (sym same_field) b)

  -- the field for the next pattern is there
  pub no_field : i < length patterns → None ≡ positional_field v i → ⊥
  no_field low none = let x = some_pattern patterns i low in field_there x.0 low x.1 none

  pub fields_bound : i ≡ length patterns → Binds h (all_levels patterns) (positional_found (unleveled_all (pats_of (map plain_pat patterns))) v) before now
  fields_bound end =
      let none : drop i patterns ≡ [] = drop_of_length-le patterns (omega (arith, end)) in
      all_parts h _ _ _ _ before now s (ap all_levels none)
      (ap (λ ps. fields_found i ps v) none ∙ no_field_left v i (subst (λ ps. IsSome (fields_found i ps v)) none left_found))

-- ---- fields with labels

abbrev pub label_levels : List (Name × CodePat) → List ℕ
label_levels patterns = levels_of_labelled (labelled_pats_of (map plain_pat_field patterns))

abbrev pub labels_found : List (Name × CodePat) → Val → Option (List Val)
labels_found patterns v = labelled_found (unleveled_labelled (labelled_pats_of (map plain_pat_field patterns))) v

module _ (h : HeapState) (v : Val) (patterns : List (Name × CodePat)) (i : ℕ) (before now : List (ℕ × ℕ)) (fits : IsSome (labels_found patterns v))
    (s : BindsSoFar h (label_levels patterns) (label_levels (drop i patterns)) (labels_found patterns v) (labels_found (drop i patterns) v) before now) where
  labels_left : IsSome (labels_found (drop i patterns) v)
  labels_left = rest_fits h _ _ _ _ before now s fits

  module _ (p : Name × CodePat) (low : i < length patterns) (is : p ≡ get_or patterns i p) where
    label_taken : TakesLabel p.0.0 (unleveled (plain_pat p.1)) (unleveled_labelled (labelled_pats_of (map plain_pat_field (drop (i + 1) patterns)))) v
    label_taken = takes_label _ _ _ v (subst (λ ps. IsSome (labelled_found (unleveled_labelled ps) v)) (labelled_from patterns i p low is) labels_left)

    label_levels_next : label_levels (drop i patterns) ≡ levels_of (plain_pat p.1) ++ label_levels (drop (i + 1) patterns)
    label_levels_next = ap levels_of_labelled (labelled_from patterns i p low is)

    label_found_next : labels_found (drop i patterns) v ≡ both (match_value (unleveled (plain_pat p.1)) label_taken.field) (labels_found (drop (i + 1) patterns) v)
    label_found_next = ap (λ ps. labelled_found (unleveled_labelled ps) v) (labelled_from patterns i p low is) ∙ label_taken.found

    pub label_inside : (n : ℕ) → AllByRecursion (λ level. level < n) (label_levels patterns) → AllByRecursion (λ level. level < n) (levels_of (plain_pat p.1))
    label_inside = next_inside h _ _ _ _ _ _ before now s label_levels_next

    pub label_rises : Rises 0 (label_levels patterns) → Rises 0 (levels_of (plain_pat p.1))
    label_rises = next_rises h _ _ _ _ _ _ before now s label_levels_next

    module _ (part : Word) (there : Some (value_of h part) ≡ labelled_field v p.0.0) where
      same_label : label_taken.field ≡ value_of h part
      same_label = let e : Some (value_of h part) ≡ Some label_taken.field = there ∙ label_taken.is in cc

      pub label_fits : IsSome (match_value (unleveled (plain_pat p.1)) (value_of h part))
      label_fits = subst (λ x. IsSome (match_value (unleveled (plain_pat p.1)) x)) same_label (both_first _ _ (subst IsSome label_found_next labels_left))

      pub label_bound : (next : List (ℕ × ℕ)) → Rises 0 (label_levels patterns) → Binds h (levels_of (plain_pat p.1)) (match_value (unleveled (plain_pat p.1)) (value_of h part)) now next
          → BindsSoFar h (label_levels patterns) (label_levels (drop (i + 1) patterns)) (labels_found patterns v) (labels_found (drop (i + 1) patterns) v) before next
      label_bound next rises b =
          a_part_more h _ _ _ _ _ _ _ _ before now next rises s label_levels_next label_found_next (subst (λ x. Binds h (levels_of (plain_pat p.1)) (match_value (unleveled (plain_pat p.1)) x) now next) (sym same_label) b)

-- as many patterns as fields
pub counted : (v : Val) (patterns : List CodePat) (n : ℕ) → Some n ≡ positional_count v → IsSome (positional_found (unleveled_all (pats_of (map plain_pat patterns))) v) → n ≡ length patterns
counted v patterns n e fits =
    let f : Some n ≡ Some (length (map plain_pat patterns)) = e ∙ as_many (map plain_pat patterns) v fits in
    let g : n ≡ length (map plain_pat patterns) = cc in
    g ∙ length-map patterns plain_pat

-- ---- a record pattern is its two parts

pub record_pattern : (p : CodePat) (ps : Vec CodePat Global) (ls : Vec (Name × CodePat) Global) (positional : List CodePat) (labelled : List (Name × CodePat)) → p ≡ pattern.Fields ps ls
    → positional ≡ ps.items → labelled ≡ ls.items → plain_pat p ≡ plain.RecordPat (pats_of (map plain_pat positional)) (labelled_pats_of (map plain_pat_field labelled))
record_pattern p ps ls positional labelled is e f =
    ap plain_pat is ∙ plain_pat-Fields ps ls
    ∙ ap (λ l. plain.RecordPat (pats_of (map plain_pat l)) (labelled_pats_of (map plain_pat_field ls.items))) (sym e)
    ∙ ap (λ l. plain.RecordPat (pats_of (map plain_pat positional)) (labelled_pats_of (map plain_pat_field l))) (sym f)

module _ (v : Val) (p : plain.CodePat) (ps : plain.CodePats) (ls : plain.LabelledCodePats) (is : p ≡ plain.RecordPat ps ls) where
  found_both : match_value (unleveled p) v ≡ both (positional_found (unleveled_all ps) v) (labelled_found (unleveled_labelled ls) v)
  found_both = ap (λ q. match_value (unleveled q) v) is ∙ both_found (unleveled_all ps) (unleveled_labelled ls) v

  pub first_fits : IsSome (match_value (unleveled p) v) → IsSome (positional_found (unleveled_all ps) v)
  first_fits fits = both_first _ (labelled_found (unleveled_labelled ls) v) (subst IsSome found_both fits)

  pub second_fits : IsSome (match_value (unleveled p) v) → IsSome (labelled_found (unleveled_labelled ls) v)
  second_fits fits = both_second (positional_found (unleveled_all ps) v) _ (subst IsSome found_both fits)

  pub first_inside : (n : ℕ) → AllByRecursion (λ level. level < n) (levels_of p) → AllByRecursion (λ level. level < n) (levels_of_all ps)
  first_inside n inside = inside_front n (levels_of_all ps) (levels_of_labelled ls) (subst (λ q. AllByRecursion (λ level. level < n) (levels_of q)) is inside)

  pub second_inside : (n : ℕ) → AllByRecursion (λ level. level < n) (levels_of p) → AllByRecursion (λ level. level < n) (levels_of_labelled ls)
  second_inside n inside = inside_back n (levels_of_all ps) (levels_of_labelled ls) (subst (λ q. AllByRecursion (λ level. level < n) (levels_of q)) is inside)

  pub first_rises : Rises 0 (levels_of p) → Rises 0 (levels_of_all ps)
  first_rises rises = rises_front 0 (levels_of_all ps) (levels_of_labelled ls) (subst (λ q. Rises 0 (levels_of q)) is rises)

  pub second_rises : Rises 0 (levels_of p) → Rises 0 (levels_of_labelled ls)
  second_rises rises = rises_back (levels_of_all ps) (levels_of_labelled ls) 0 (subst (λ q. Rises 0 (levels_of q)) is rises)

  pub record_bound : (h : HeapState) (before mid last : List (ℕ × ℕ)) → Rises 0 (levels_of p) → Binds h (levels_of_all ps) (positional_found (unleveled_all ps) v) before mid
      → Binds h (levels_of_labelled ls) (labelled_found (unleveled_labelled ls) v) mid last → BindsPattern h p v before last
  record_bound h before mid last rises first second =
      subst (λ q. BindsPattern h q v before last) (sym is)
      (subst (λ o. Binds h (levels_of_all ps ++ levels_of_labelled ls) o before last) (sym (both_found (unleveled_all ps) (unleveled_labelled ls) v))
      (two_parts h (levels_of_all ps) (levels_of_labelled ls) _ _ before mid last (subst (λ q. Rises 0 (levels_of q)) is rises) first second))
