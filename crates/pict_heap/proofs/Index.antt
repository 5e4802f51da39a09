-- Fields in the order of their labels: a label is found in them where it is found in the fields as given.
use Rattle.std.proofs.Common.{◌≡◌, ◌≢◌, ℕ, zero, suc, ◌<◌, ◌≤◌, true, false, cond, eqb, List, [], ◌∷◌, ◌++◌, length, map, take, drop, get_or, Some, None, Less, Equal, Greater, refl, sym, ◌∙◌, ap, subst, ⊎_elim, arith}
use Rattle.std.specs.List.{IsDistinct, Contains}
use Rattle.std.specs.List.Sorted.{IsPermutation, IsNonDecreasingBy, IsPartitionPoint}
use Rattle.std.specs.Ordering.{nat_cmp, ordering_index}
use Rattle.std.specs.FinMap.{nat_cmp-IsAntisymmetric}
use Rattle.std.proofs.lemmas.Bool.Decides.{nat_tests}
use Rattle.std.proofs.lemmas.Bool.{eqb-true, eqb-false, eq-eqb, ne_eqb, cases_eq, cases_lt, le-ltb}
use Rattle.std.proofs.lemmas.List.{get_or_default, get_or-map, length-map, take-append-drop, drop_at, take_at}
use Rattle.std.proofs.lemmas.List.Sorted.{IsNonDecreasingBy-from_default, Contains-permutation, IsPermutation-sym, IsPermutation-map, length_permutation}
use Rattle.std.proofs.lemmas.Map.Keys.{apart_from_distinct, IsDistinct-IsPermutation}
use Rattle.pict_syntax.specs.declared.name.Name.{Name}
use Rattle.pict_heap.specs.HeapState.{word_with_label}
use Rattle.pict_heap.specs.Layout.{label_of, no_field, AreRising, AreSorted}
use Rattle.pict_heap.specs.declared.word.Word.{Word}

abbrev Field : Type 0
Field = Name × Word

field : ℕ → Word → Field
field label w = (record { 0 = label }, w)

same_field : (f : Field) (label : ℕ) (w : Word) → label_of f ≡ label → f.1 ≡ w → f ≡ field label w
unfolding field
same_field f label w e e' = ap (λ n. field n f.1) e ∙ ap (field label) e'

-- where a field with the label stands
record Stands (fields : List Field) (label : ℕ) (w : Word) : Type 0 where
  place : ℕ
  inside : place < length fields
  is : get_or fields place no_field ≡ field label w

position : (label : ℕ) (fields : List Field) (w : Word) → word_with_label label fields ≡ Some w → Stands fields label w
position label [] w found = cc
position label (f ∷ fields) w found =
    elim (eqb label f.0.0) as (λ b. eqb label f.0.0 ≡ b → cond b (Some f.1) (word_with_label label fields) ≡ Some w → Stands (f ∷ fields) label w) [
      | true ↦ λ e here.
          let word : f.1 ≡ w = cc in
          record { place = 0; inside = omega arith; is = same_field f label w (sym (eqb-true label f.0.0 e)) word }
      | false ↦ λ e later.
          let p = position label fields w later in
          record { place = suc p.place; inside = omega (arith, p.inside); is = p.is }
    ] refl found

rising_tail : (f : Field) (fields : List Field) → AreRising (f ∷ fields) → AreRising fields
rising_tail f fields rising i j before inside = rising (suc i) (suc j) (omega (arith, before)) (omega (arith, inside))

pub at_rising : (fields : List Field) → AreRising fields → (j : ℕ) → j < length fields
    → word_with_label (label_of (get_or fields j no_field)) fields ≡ Some (get_or fields j no_field).1
at_rising [] rising j inside = absurd (omega arith)
at_rising (f ∷ fields) rising zero inside = rw (eq-eqb f.0.0 f.0.0 refl) refl
at_rising (f ∷ fields) rising (suc j) inside =
    let above : label_of f < label_of (get_or fields j no_field) = rising 0 (suc j) (omega arith) inside in
    rw (ne_eqb (label_of (get_or fields j no_field)) f.0.0 (λ e. omega (arith, e, above))) (at_rising fields (rising_tail f fields rising) j (omega (arith, inside)))

some_there : (fields : List Field) (i label : ℕ) → i < length fields → label_of (get_or fields i no_field) ≡ label → word_with_label label fields ≡ None → ⊥
some_there [] i label inside is none = omega arith
some_there (f ∷ fields) zero label inside is none =
    let found : word_with_label label (f ∷ fields) ≡ Some f.1 = rw (eq-eqb label f.0.0 (sym is)) refl in cc
some_there (f ∷ fields) (suc i) label inside is none =
    elim (eqb label f.0.0) as (λ b. cond b (Some f.1) (word_with_label label fields) ≡ None → ⊥) [
      | true ↦ λ e. cc
      | false ↦ λ e. some_there fields i label (omega (arith, inside)) is e
    ] none

pub none_there : (fields : List Field) (label : ℕ) → ((i : ℕ) → i < length fields → label_of (get_or fields i no_field) ≢ label) → word_with_label label fields ≡ None
none_there [] label apart = refl
none_there (f ∷ fields) label apart =
    rw (ne_eqb label f.0.0 (λ e. apart 0 (omega arith) (sym e))) (none_there fields label (λ i inside. apart (suc i) (omega (arith, inside))))

rising_from : (fields : List Field) → IsNonDecreasingBy label_of fields → IsDistinct eqb (map label_of fields) → AreRising fields
rising_from fields up distinct i j before inside =
    let lengths : length (map label_of fields) ≡ length fields = length-map fields label_of in
    let apart = apart_from_distinct eqb (map label_of fields) i j 0 distinct before (omega (arith, lengths, inside)) in
    let at_i = get_or-map label_of fields i no_field 0 (omega (arith, before, inside)) in
    let at_j = get_or-map label_of fields j no_field 0 inside in
    let ne : label_of (get_or fields i no_field) ≢ label_of (get_or fields j no_field) =
    λ e. eqb-false (get_or (map label_of fields) i 0) (get_or (map label_of fields) j 0) apart (at_i ∙ e ∙ sym at_j) in
    omega (arith, up i j no_field (omega (arith, before)) inside, ne)

contains : (fields : List Field) (label : ℕ) (w : Word) → Stands fields label w → Contains fields (field label w)
contains fields label w s = (s.place, s.inside, get_or_default fields s.place (field label w) no_field s.inside ∙ s.is)

eqb_flips : (x y : ℕ) → eqb x y ≡ eqb y x
eqb_flips x y = elim (eqb y x) as (λ b. eqb y x ≡ b → eqb x y ≡ b) [
  | true ↦ λ e. eq-eqb x y (sym (eqb-true y x e))
  | false ↦ λ e. ne_eqb x y (λ same. eqb-false y x e (sym same))
] refl

pub sorted_same : (fields sorted : List Field) → IsDistinct eqb (map label_of fields) → IsPermutation fields sorted → IsNonDecreasingBy label_of sorted → AreSorted fields sorted
unfolding field
sorted_same fields sorted distinct permutation up =
    let rising : AreRising sorted = rising_from sorted up
    (IsDistinct-IsPermutation eqb eqb_flips (map label_of fields) (map label_of sorted) (IsPermutation-map label_of fields sorted permutation) distinct) in
    record {
      rising = rising;
      same = λ label. elim (word_with_label label fields) as (λ found. word_with_label label fields ≡ found → word_with_label label sorted ≡ found) [
        | None ↦ λ none. elim (word_with_label label sorted) as (λ other. word_with_label label sorted ≡ other → other ≡ None) [
          | None ↦ λ e. refl
          | Some w ↦ λ some.
              let there = Contains-permutation sorted fields (field label w) (IsPermutation-sym fields sorted permutation) (contains sorted label w (position label sorted w some)) in
              let is : get_or fields there.0 no_field ≡ field label w = get_or_default fields there.0 no_field (field label w) there.1 ∙ there.2 in
              absurd (some_there fields there.0 label there.1 (ap label_of is) none)
        ] refl
        | Some w ↦ λ some.
            let there = Contains-permutation fields sorted (field label w) permutation (contains fields label w (position label fields w some)) in
            let is : get_or sorted there.0 no_field ≡ field label w = get_or_default sorted there.0 no_field (field label w) there.1 ∙ there.2 in
            sym (ap (λ f. word_with_label (label_of f) sorted) is) ∙ at_rising sorted rising there.0 there.1 ∙ ap (λ f. Some f.1) is
      ] refl;
    }

-- what a binary search finds among labels that rise
pub key_found : (fields : List Field) (place label : ℕ) → AreRising fields → place < length fields
    → nat_cmp (label_of (get_or fields place no_field)) label ≡ Equal → Some (get_or fields place no_field).1 ≡ word_with_label label fields
key_found fields place label rising inside equal =
    let same : label_of (get_or fields place no_field) ≡ label = nat_cmp-IsAntisymmetric (label_of (get_or fields place no_field)) label equal in
    sym (at_rising fields rising place inside) ∙ ap (λ l. word_with_label l fields) same

comparisons_rise : (fields : List Field) (label : ℕ) → AreRising fields → IsNonDecreasingBy (λ f. ordering_index (nat_cmp (label_of f) label)) fields
comparisons_rise fields label rising = IsNonDecreasingBy-from_default (λ f. ordering_index (nat_cmp (label_of f) label)) fields no_field (λ i j le inside.
    let keys_rise : label_of (get_or fields i no_field) ≤ label_of (get_or fields j no_field) =
    ⊎_elim (λ same. omega (arith, ap (λ n. label_of (get_or fields n no_field)) same))
    (λ ne. let before : i < j = omega (arith, le, ne) in omega (arith, rising i j before inside))
    (cases_eq i j) in
    indexes_rise (label_of (get_or fields i no_field)) (label_of (get_or fields j no_field)) label keys_rise)
  where
    indexes_rise : (m n k : ℕ) → m ≤ n → ordering_index (nat_cmp m k) ≤ ordering_index (nat_cmp n k)
    indexes_rise m n k le = grind (arith, nat_tests)

pub none_between : (fields : List Field) (place label : ℕ) → AreRising fields
    → (IsNonDecreasingBy (λ f. ordering_index (nat_cmp (label_of f) label)) fields
    → IsPartitionPoint (λ f. nat_cmp (label_of f) label ≡ Less) (λ f. nat_cmp (label_of f) label ≡ Greater) fields place)
    → None ≡ word_with_label label fields
none_between fields place label rising parted =
    let parts = parted (comparisons_rise fields label rising) in
    sym (none_there fields label (λ i inside same. ⊎_elim
    (λ below. unequal (label_of (get_or fields i no_field)) label same (λ e. cc (parts.0 i no_field (omega arith) below)))
    (λ above. unequal (label_of (get_or fields i no_field)) label same (λ e. cc (parts.1 i no_field above inside)))
    (cases_lt i place)))
  where
    unequal : (m n : ℕ) → m ≡ n → (nat_cmp m n ≡ Equal → ⊥) → ⊥
    unequal m n same apart = apart (rw same (rw (le-ltb n n (omega arith), eq-eqb n n refl) refl))

-- the end of a list after new fields were put there and sorted
pub record SortsTail (old new fields : List Field) (start : ℕ) : Type 0 where
  pub whole : new ≡ old ++ drop start new
  pub in_order : AreSorted fields (drop start new)
  pub as_many : length (drop start new) ≡ length fields

pub tail_sorted : (old new fields : List Field) (start : ℕ) → start ≡ length old → take start new ≡ take start (old ++ fields)
    → IsPermutation (drop start (old ++ fields)) (drop start new) → IsNonDecreasingBy label_of (drop start new) → IsDistinct eqb (map label_of fields)
    → SortsTail old new fields start
tail_sorted old new fields start start_is before permutation up distinct =
    let given : drop start (old ++ fields) ≡ fields = drop_at old fields start (sym start_is) in
    let moved : IsPermutation fields (drop start new) = subst (λ fs. IsPermutation fs (drop start new)) given permutation in
    record {
      whole = sym (take-append-drop start new) ∙ ap (λ fs. fs ++ drop start new) (before ∙ take_at old fields start (sym start_is));
      in_order = sorted_same fields (drop start new) distinct moved up;
      as_many = length_permutation fields (drop start new) moved;
    }
