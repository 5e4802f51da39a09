-- Labels are numbered in turn, and used ones are marked.
use Rattle.std.proofs.Common.{◌≡◌, ℕ, zero, suc, ◌+◌, ◌<◌, ◌≤◌, nat_eq, Bool, true, false, ◌||◌, inl, inr, List, [], ◌∷◌, ◌++◌, length, take, get_or, set, Some, refl, sym, ◌∙◌, ap, subst, slice_get, arith, length-append, add-one}
use Rattle.std.specs.Borrow.{Bor}
use Rattle.std.specs.List.{list_any}
use Rattle.std.proofs.lemmas.Bool.{cases_lt, cases_eq, ne_eqb, eq-eqb}
use Rattle.std.proofs.Math.ListN.{get_or-map}
use Rattle.std.proofs.lemmas.List.{length-map, get_or_append_left, get_or_push, get_or-set_same, get_or-set_other}
use Rattle.pict_syntax.specs.declared.name.Name.{Name}
use Rattle.pict_syntax.specs.Names.{with_name, with_names}
use Rattle.pict_syntax.proofs.NamesLemmas.{with_grows}
use Rattle.pict_lex.proofs.StepLemmas.{with_names_last}
use Rattle.pict_lex.proofs.LexLemmas.{one_name}
use Rattle.pict_object.specs.Reading.{label_in, no_label}
use Rattle.pict_object.specs.Heads.{lent}

-- ---- texts that are lent

pub many_lent : (texts : List (Bor (List ℕ))) → length (lent texts) ≡ length texts
many_lent texts = length-map texts (λ text. text.now)

abbrev nothing_lent : Bor (List ℕ)
nothing_lent = record { ref_ptr = (0, 0); now = [] }

pub lent_at : (texts : List (Bor (List ℕ))) (i : ℕ) → (get_or texts i nothing_lent).now ≡ get_or (lent texts) i []
lent_at texts i = sym (get_or-map (λ (text : Bor (List ℕ)). text.now) texts i nothing_lent)

-- ---- own numbers

-- ---- marks

or_true : (b : Bool) → (b || true) ≡ true
or_true true = refl
or_true false = refl

pub marked : (used : List Bool) (place : ℕ) (rest : List ℕ) (k : ℕ) → place < length used → k < length used
    → (get_or (set used place true) k false || list_any (nat_eq k) rest) ≡ (get_or used k false || list_any (nat_eq k) (place ∷ rest))
marked used place rest k p h = elim (cases_eq k place) [
  | inl e ↦
      ap (λ z. get_or (set used place true) z false || list_any (nat_eq k) rest) e ∙ ap (λ z. z || list_any (nat_eq k) rest) (get_or-set_same used place true false p)
      ∙ sym (ap (λ z. get_or used k false || (z || list_any (nat_eq k) rest)) (eq-eqb k place e) ∙ or_true (get_or used k false))
  | inr n ↦
      ap (λ z. z || list_any (nat_eq k) rest) (get_or-set_other used place k true false n)
      ∙ sym (ap (λ z. get_or used k false || (z || list_any (nat_eq k) rest)) (ne_eqb k place n))
]

pub unmarked : (used : List Bool) (place : ℕ) (rest : List ℕ) (k : ℕ) → length used ≤ place → k < length used
    → (get_or used k false || list_any (nat_eq k) rest) ≡ (get_or used k false || list_any (nat_eq k) (place ∷ rest))
unmarked used place rest k p h =
    sym (ap (λ z. get_or used k false || (z || list_any (nat_eq k) rest)) (ne_eqb k place (λ e. omega (arith, p, h, e))))

-- ---- numbers of labels

kept : {A : Type 0} (xs ys : List A) (n : ℕ) (x : A) → slice_get xs n ≡ Some x → slice_get (xs ++ ys) n ≡ Some x
kept [] ys n x h = absurd cc
kept (y ∷ xs) ys zero x h = h
kept (y ∷ xs) ys (suc n) x h = kept xs ys n x h

kept_name : (names : List (List ℕ)) (text : List ℕ) (n : ℕ) (x : List ℕ) → slice_get names n ≡ Some x → slice_get (with_name names text) n ≡ Some x
kept_name names text n x h = let g = with_grows names text in subst (λ z. slice_get z n ≡ Some x) (sym g.1) (kept names g.0 n x h)

-- so many labels are numbered
pub record IsSoFar (old now table : List (List ℕ)) (labels : List Name) (i : ℕ) : Type 0 where
  pub names : now ≡ with_names old (take i table)
  pub room : length now ≤ length old + i
  pub many : length labels ≡ i
  pub stand : (k : ℕ) → k < i → slice_get now (label_in labels k).0 ≡ Some (get_or table k [])

take_more : {A : Type 0} (xs : List A) (i : ℕ) (d : A) → i < length xs → take (suc i) xs ≡ take i xs ++ (get_or xs i d ∷ [])
take_more [] i d h = absurd (omega (arith, h))
take_more (x ∷ xs) zero d h = refl
take_more (x ∷ xs) (suc i) d h = ap (λ z. x ∷ z) (take_more xs i d (omega (arith, h)))

pub names_more : (old names new table : List (List ℕ)) (labels : List Name) (i : ℕ) (text : List ℕ) → IsSoFar old names table labels i → i < length table → text ≡ get_or table i [] → new ≡ with_name names text → new ≡ with_names old (take (i + 1) table)
names_more old names new table labels i text s h is e =
    e ∙ ap (λ z. with_name z text) s.names ∙ ap (λ z. with_names (with_names old (take i table)) (z ∷ [])) is ∙ sym (with_names_last old (take i table) (get_or table i [] ∷ []))
    ∙ ap (λ z. with_names old z) (sym (take_more table i [] h)) ∙ ap (λ m. with_names old (take m table)) (sym (add-one i))

pub one_more : (old names new table : List (List ℕ)) (labels more : List Name) (i : ℕ) (text : List ℕ) (label : Name) → IsSoFar old names table labels i → i < length table → text ≡ get_or table i [] → new ≡ with_name names text
    → slice_get new label.0 ≡ Some text → more ≡ labels ++ label ∷ [] → IsSoFar old new table more (i + 1)
one_more old names new table labels more i text label s h is e stands pushed =
    let size = one_name names text in
    let grown = ap length e in
    let len = length-append labels (label ∷ []) in
    let longer = ap length pushed in
    record {
      names = names_more old names new table labels i text s h is e;
      room = omega (arith, s.room, size, grown);
      many = omega (arith, s.many, len, longer);
      stand = λ k l. elim (cases_lt k i) [
        | inl less ↦
            subst (λ z. slice_get new (label_in z k).0 ≡ Some (get_or table k [])) (sym pushed)
            (subst (λ z. slice_get new z.0 ≡ Some (get_or table k [])) (sym (get_or_append_left labels (label ∷ []) no_label k (omega (arith, less, s.many))))
            (subst (λ z. slice_get z (label_in labels k).0 ≡ Some (get_or table k [])) (sym e) (kept_name names text (label_in labels k).0 (get_or table k []) (s.stand k less))))
        | inr last ↦
            let at : k ≡ i = omega (arith, last, l) in
            subst (λ z. slice_get new (label_in z k).0 ≡ Some (get_or table k [])) (sym pushed)
            (subst (λ m. slice_get new (label_in (labels ++ label ∷ []) m).0 ≡ Some (get_or table m [])) (sym at)
            (subst (λ z. slice_get new z.0 ≡ Some (get_or table i [])) (sym (get_or_push labels label no_label i s.many)) (stands ∙ ap Some is)))
      ];
    }
