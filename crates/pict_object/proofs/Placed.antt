-- The places of labels: what is put at a number, and that the same places give the same bytes.
use Rattle.std.proofs.Common.{ℕ, ◌+◌, ◌≡◌, ◌<◌, inl, inr, List, [], ◌∷◌, ◌++◌, length, get_or, refl, sym, ◌∙◌, ap, ap₂, arith, slice_index_or, slice_set}
use Rattle.std.specs.List.{AllByRecursion}
use Rattle.std.proofs.lemmas.Option.{unwrap_or-slice_get}
use Rattle.std.proofs.lemmas.List.{get_or-map, get_or-set_same, get_or-set_other}
use Rattle.std.proofs.lemmas.Bool.{cases_lt}
use Rattle.pict_syntax.specs.declared.name.Name.{Name}
use Rattle.pict_core.specs.Term.{Val, Vals, Labelled, Pat, Pats, LabelledPats, Bind, Any, RecordPat, no_pats, more_pats, no_labelled_pats, more_labelled_pats, Process, Var, Chan, Int, Char, Boolean, Text, PrimitiveVal, Record, no_vals, more_vals, no_labelled, more_labelled, Zero, Par, New, Out, In, If}
use Rattle.pict_object.specs.Objects.{count_bytes, value_bytes, values_bytes, labelled_bytes, pattern_bytes, patterns_bytes, labelled_patterns_bytes, process_bytes, input_byte, how_many_vals, how_many_labelled, how_many_pats, how_many_labelled_pats, labels_of, labels_of_value, labels_of_values, labels_of_labelled, labels_of_pattern, labels_of_patterns, labels_of_labelled_patterns}
use Rattle.pict_object.specs.Sizes.{place_at}
use Rattle.pict_object.specs.Collected.{number_at, AreApart}

pub number_here : (table : List Name) (k : ℕ) (d : Name) → k < length table → number_at table k ≡ (slice_index_or table k d).0
number_here table k d h = get_or-map (λ label. label.0) table k d 0 h

-- a label's place is put at its number
pub filled : (places : List ℕ) (table : List Name) (k : ℕ) (d : Name) → AreApart table → k < length table → (slice_index_or table k d).0 < length places
    → ((j : ℕ) → j < k → place_at places (number_at table j) ≡ j)
    → (j : ℕ) → j < k + 1 → place_at (slice_set places (slice_index_or table k d).0 k) (number_at table j) ≡ j
filled places table k d apart h room before j less =
    unwrap_or-slice_get (slice_set places (slice_index_or table k d).0 k) (number_at table j) 0 ∙ elim (cases_lt j k) [
      | inr m ↦ let e : j ≡ k = omega (arith, m, less) in ap (λ n. get_or (slice_set places (slice_index_or table k d).0 k) n 0) (ap (number_at table) e ∙ number_here table k d h) ∙ get_or-set_same places (slice_index_or table k d).0 k 0 room ∙ sym e
      | inl l ↦ get_or-set_other places (slice_index_or table k d).0 (number_at table j) k 0
          (λ e. let same : j ≡ k = apart j k (omega (arith, l, h)) h (e ∙ sym (number_here table k d h)) in omega (arith, same, l))
          ∙ sym (unwrap_or-slice_get places (number_at table j) 0) ∙ before j l
    ]

pub all_front : {A : Type 0} (P : A → Type 0) (xs ys : List A) → AllByRecursion P (xs ++ ys) → AllByRecursion P xs
all_front P [] ys h = tt
all_front P (x ∷ xs) ys h = (h.0, all_front P xs ys h.1)

pub all_back : {A : Type 0} (P : A → Type 0) (xs ys : List A) → AllByRecursion P (xs ++ ys) → AllByRecursion P ys
all_back P [] ys h = h
all_back P (x ∷ xs) ys h = all_back P xs ys h.1

-- the same places of the labels that occur
module _ (f g : ℕ → ℕ) where
  abbrev Same : List ℕ → Type 0
  Same labels = AllByRecursion (λ label. f label ≡ g label) labels

  front : (xs ys : List ℕ) → Same (xs ++ ys) → Same xs
  front xs ys h = all_front (λ label. f label ≡ g label) xs ys h

  back : (xs ys : List ℕ) → Same (xs ++ ys) → Same ys
  back xs ys h = all_back (λ label. f label ≡ g label) xs ys h

  mutual
    same_value : (v : Val) → Same (labels_of_value v) → value_bytes f v ≡ value_bytes g v
    same_value (Var level) h = refl
    same_value (Chan number) h = refl
    same_value (Int n) h = refl
    same_value (Char byte) h = refl
    same_value (Boolean b) h = refl
    same_value (Text bytes) h = refl
    same_value (PrimitiveVal p) h = refl
    same_value (Record vs ls) h = ap₂ (λ a b. 0x17 ∷ (count_bytes (how_many_vals vs) ++ (a ++ (count_bytes (how_many_labelled ls) ++ b)))) (same_values vs (front (labels_of_values vs) (labels_of_labelled ls) h)) (same_labelled ls (back (labels_of_values vs) (labels_of_labelled ls) h))

    same_values : (vs : Vals) → Same (labels_of_values vs) → values_bytes f vs ≡ values_bytes g vs
    same_values no_vals h = refl
    same_values (more_vals v vs) h = ap₂ (λ a b. a ++ b) (same_value v (front (labels_of_value v) (labels_of_values vs) h)) (same_values vs (back (labels_of_value v) (labels_of_values vs) h))

    same_labelled : (ls : Labelled) → Same (labels_of_labelled ls) → labelled_bytes f ls ≡ labelled_bytes g ls
    same_labelled no_labelled h = refl
    same_labelled (more_labelled label v ls) h =
        ap (λ n. count_bytes n ++ (value_bytes f v ++ labelled_bytes f ls)) h.0
        ∙ ap₂ (λ a b. count_bytes (g label) ++ (a ++ b)) (same_value v (front (labels_of_value v) (labels_of_labelled ls) h.1)) (same_labelled ls (back (labels_of_value v) (labels_of_labelled ls) h.1))

  mutual
    same_pattern : (p : Pat) → Same (labels_of_pattern p) → pattern_bytes f p ≡ pattern_bytes g p
    same_pattern Bind h = refl
    same_pattern Any h = refl
    same_pattern (RecordPat ps ls) h = ap₂ (λ a b. 0x22 ∷ (count_bytes (how_many_pats ps) ++ (a ++ (count_bytes (how_many_labelled_pats ls) ++ b)))) (same_patterns ps (front (labels_of_patterns ps) (labels_of_labelled_patterns ls) h)) (same_labelled_patterns ls (back (labels_of_patterns ps) (labels_of_labelled_patterns ls) h))

    same_patterns : (ps : Pats) → Same (labels_of_patterns ps) → patterns_bytes f ps ≡ patterns_bytes g ps
    same_patterns no_pats h = refl
    same_patterns (more_pats p ps) h = ap₂ (λ a b. a ++ b) (same_pattern p (front (labels_of_pattern p) (labels_of_patterns ps) h)) (same_patterns ps (back (labels_of_pattern p) (labels_of_patterns ps) h))

    same_labelled_patterns : (ls : LabelledPats) → Same (labels_of_labelled_patterns ls) → labelled_patterns_bytes f ls ≡ labelled_patterns_bytes g ls
    same_labelled_patterns no_labelled_pats h = refl
    same_labelled_patterns (more_labelled_pats label p ls) h =
        ap (λ n. count_bytes n ++ (pattern_bytes f p ++ labelled_patterns_bytes f ls)) h.0
        ∙ ap₂ (λ a b. count_bytes (g label) ++ (a ++ b)) (same_pattern p (front (labels_of_pattern p) (labels_of_labelled_patterns ls) h.1)) (same_labelled_patterns ls (back (labels_of_pattern p) (labels_of_labelled_patterns ls) h.1))

  pub same_bytes : (p : Process) → Same (labels_of p) → process_bytes f p ≡ process_bytes g p
  same_bytes Zero h = refl
  same_bytes (Par p q) h = ap₂ (λ a b. 1 ∷ (a ++ b)) (same_bytes p (front (labels_of p) (labels_of q) h)) (same_bytes q (back (labels_of p) (labels_of q) h))
  same_bytes (New p) h = ap (λ a. 2 ∷ a) (same_bytes p h)
  same_bytes (Out chan message at) h = ap₂ (λ a b. 3 ∷ (a ++ b)) (same_value chan (front (labels_of_value chan) (labels_of_value message) h)) (same_value message (back (labels_of_value chan) (labels_of_value message) h))
  same_bytes (In chan replicated pattern body) h =
      let rest = back (labels_of_value chan) (labels_of_pattern pattern ++ labels_of body) h in
      ap (λ a. input_byte replicated ∷ (a ++ (pattern_bytes f pattern ++ process_bytes f body))) (same_value chan (front (labels_of_value chan) (labels_of_pattern pattern ++ labels_of body) h))
      ∙ ap₂ (λ a b. input_byte replicated ∷ (value_bytes g chan ++ (a ++ b))) (same_pattern pattern (front (labels_of_pattern pattern) (labels_of body) rest)) (same_bytes body (back (labels_of_pattern pattern) (labels_of body) rest))
  same_bytes (If test p q) h =
      let rest = back (labels_of_value test) (labels_of p ++ labels_of q) h in
      ap (λ a. 6 ∷ (a ++ (process_bytes f p ++ process_bytes f q))) (same_value test (front (labels_of_value test) (labels_of p ++ labels_of q) h))
      ∙ ap₂ (λ a b. 6 ∷ (value_bytes g test ++ (a ++ b))) (same_bytes p (front (labels_of p) (labels_of q) rest)) (same_bytes q (back (labels_of p) (labels_of q) rest))
