-- Types that are alike have one normal form.
use Rattle.std.proofs.Common.{◌≡◌, ℕ, nat_eq, Bool, true, false, if◌then◌else◌, List, [], ◌∷◌, Option, Some, refl, sym, ◌∙◌, ap, ap₂, subst}
use Rattle.std.specs.Ordering.{is_lt}
use Rattle.pict_syntax.specs.Labels.{label_cmp, StandsBefore}
use Rattle.pict_syntax.proofs.LabelLemmas.{label_order, less_is, stands_after, never_before_itself}
use Rattle.pict_syntax.specs.declared.id.Id.{Id}
use Rattle.pict_syntax.specs.Trees.{TypeTree, Bound, TypeTrees, TypeBinders, LabelledTypes}
use Rattle.pict_scope.specs.DistinctLabels.{HasDistinctLabels, TypesHaveDistinctLabels, AreDistinct, IsNewLabel, BindersHaveDistinctLabels, BoundHasDistinctLabels}
use Rattle.pict_types.specs.Types.{Both, Read, Write, Respond, PlainType, PlainLabels, no_label, labels, PlainBound, Free, Chan, Fields, Rec}
use Rattle.pict_types.specs.Replacing.{bound_by, apply_head}
use Rattle.pict_types.specs.Entries.{PlainWhat, Variable, PlainContext}
use Rattle.pict_normal.specs.Normal.{Meaning, of_entry, behind_entry, meaning, meant_type, meant_head, and_type as put_type, and_bound, with_labelled_type, kind_bound, entry_of, normal, normal_types, normal_labels, normal_binders, normal_bound, under_binders}
use Rattle.pict_alike.specs.Alike.{Pairs, Meet, SameName, Inserts, at_end, before, IsAlike, tops, ints, chars, strings, bools, uses, boths, reads, writes, responds, records, applied, recs, AreAlike, no_more, and_type, LabelsAlike, no_labels, and_label, BindersAlike, no_more_binders, and_binder, BoundsAlike, no_bounds, two_bounds}
use Rattle.pict_alike.specs.Laws.{AlikeIsEqual}

-- ---- names

-- two contexts, whose innermost entries have the names of the pairs and are the same but for these
abbrev Paired : Pairs → PlainContext → PlainContext → Type 0
Paired [] c d = c ≡ d
Paired (p ∷ ps) [] d = ⊥
Paired (p ∷ ps) (e ∷ c) [] = ⊥
Paired (p ∷ ps) (e ∷ c) (f ∷ d) = (e.name ≡ p.0) × (f.name ≡ p.1) × (e.what ≡ f.what) × Paired ps c d

abbrev some : Meaning → Option Meaning
some m = Some m

same_meaning : (ps : Pairs) (c d : PlainContext) (n m : ℕ) → Paired ps c d → SameName ps n m → meaning c n ≡ meaning d m
same_meaning [] c d n m h k = ap₂ meaning h k
same_meaning (p ∷ ps) [] d n m h k = absurd h
same_meaning (p ∷ ps) (e ∷ c) [] n m h k = absurd h
same_meaning (p ∷ ps) (e ∷ c) (f ∷ d) n m h k =
    ap (λ x. if nat_eq x n then some (of_entry e.what) else behind_entry e.what (meaning c n)) h.0
    ∙ (go (nat_eq p.0 n) (nat_eq p.1 m) (same_meaning ps c d n m h.3) k
    ∙ sym (ap (λ x. if nat_eq x m then some (of_entry f.what) else behind_entry f.what (meaning d m)) h.1))
  where
    go : (a b : Bool) → (SameName ps n m → meaning c n ≡ meaning d m) → Meet a b (SameName ps n m)
        → (if a then some (of_entry e.what) else behind_entry e.what (meaning c n)) ≡ (if b then some (of_entry f.what) else behind_entry f.what (meaning d m))
    go true true r j = ap (λ w. some (of_entry w)) h.2
    go true false r j = absurd j
    go false true r j = absurd j
    go false false r j = ap₂ behind_entry h.2 (r j)

-- ---- labels

-- of two labels exactly one stands before the other
abbrev comes : List (List ℕ) → ℕ → ℕ → Bool
comes ns l m = is_lt (label_cmp ns l m)

is_before : (ns : List (List ℕ)) (l m : ℕ) → comes ns l m ≡ true → StandsBefore ns l m
is_before ns l m h = less_is (label_cmp ns l m) h

comes_of : (ns : List (List ℕ)) (l m : ℕ) → StandsBefore ns l m → comes ns l m ≡ true
comes_of ns l m h = ap is_lt h

other_comes : (ns : List (List ℕ)) (l m : ℕ) → (l ≡ m → ⊥) → comes ns l m ≡ false → comes ns m l ≡ true
other_comes ns l m d h = comes_of ns m l (stands_after ns l m (label_cmp ns l m) refl h d)

never_both : (ns : List (List ℕ)) (l m : ℕ) → comes ns l m ≡ true → comes ns m l ≡ true → ⊥
never_both ns l m h k = never_before_itself ns l ((label_order ns).trans l m l (is_before ns l m h) (is_before ns m l k))

tested : (b : Bool) {P : Type 0} → (b ≡ true → P) → (b ≡ false → P) → P
tested true f g = f refl
tested false f g = g refl

comes_not : (ns : List (List ℕ)) (l m : ℕ) → comes ns l m ≡ true → comes ns m l ≡ false
comes_not ns l m h = tested (comes ns m l) (λ k. absurd (never_both ns l m h k)) (λ k. k)

-- what stands before a label, behind which another doesn't come, stands before that
comes_far : (ns : List (List ℕ)) (l m n : ℕ) → comes ns l n ≡ true → comes ns m n ≡ false → (m ≡ l → ⊥) → comes ns m l ≡ false
comes_far ns l m n h k d = tested (comes ns m l)
    (λ j. absurd (let e : comes ns m n ≡ true = comes_of ns m n ((label_order ns).trans m l n (is_before ns m l j) (is_before ns l n h)) in let f : true ≡ false = sym e ∙ k in cc))
    (λ j. j)

abbrev put_if : Bool → PlainLabels → PlainLabels → PlainLabels
put_if b x y = if b then x else y

-- two labels may be put in any order
exchanged : (ns : List (List ℕ)) (l m : ℕ) (u v : PlainType) (ls : PlainLabels) → (l ≡ m → ⊥) → with_labelled_type ns l u (with_labelled_type ns m v ls) ≡ with_labelled_type ns m v (with_labelled_type ns l u ls)
exchanged ns l m u v no_label d = tested (comes ns l m)
    (λ h. ap (λ b. put_if b (labels l u (labels m v no_label)) (labels m v (labels l u no_label))) h ∙ sym (ap (λ b. put_if b (labels m v (labels l u no_label)) (labels l u (labels m v no_label))) (comes_not ns l m h)))
    (λ h. ap (λ b. put_if b (labels l u (labels m v no_label)) (labels m v (labels l u no_label))) h ∙ sym (ap (λ b. put_if b (labels m v (labels l u no_label)) (labels l u (labels m v no_label))) (other_comes ns l m d h)))
exchanged ns l m u v (labels n t ls) d =
    tested (comes ns l n)
    (λ h. tested (comes ns m n) (λ k. both h k) (λ k. first h k))
    (λ h. tested (comes ns m n) (λ k. second h k) (λ k. none h k (exchanged ns l m u v ls d)))
  where
    rest : PlainLabels
    rest = labels n t ls

    -- each put before the rest, or behind its first
    put_l : (b : Bool) → comes ns l n ≡ b → with_labelled_type ns l u (labels n t ls) ≡ put_if b (labels l u (labels n t ls)) (labels n t (with_labelled_type ns l u ls))
    put_l b h = ap (λ x. put_if x (labels l u (labels n t ls)) (labels n t (with_labelled_type ns l u ls))) h

    put_m : (b : Bool) → comes ns m n ≡ b → with_labelled_type ns m v (labels n t ls) ≡ put_if b (labels m v (labels n t ls)) (labels n t (with_labelled_type ns m v ls))
    put_m b h = ap (λ x. put_if x (labels m v (labels n t ls)) (labels n t (with_labelled_type ns m v ls))) h

    -- l before a list that begins with m, and the other way round
    l_on_m : (xs : PlainLabels) (b : Bool) → comes ns l m ≡ b → with_labelled_type ns l u (labels m v xs) ≡ put_if b (labels l u (labels m v xs)) (labels m v (with_labelled_type ns l u xs))
    l_on_m xs b h = ap (λ x. put_if x (labels l u (labels m v xs)) (labels m v (with_labelled_type ns l u xs))) h

    m_on_l : (xs : PlainLabels) (b : Bool) → comes ns m l ≡ b → with_labelled_type ns m v (labels l u xs) ≡ put_if b (labels m v (labels l u xs)) (labels l u (with_labelled_type ns m v xs))
    m_on_l xs b h = ap (λ x. put_if x (labels m v (labels l u xs)) (labels l u (with_labelled_type ns m v xs))) h

    both : comes ns l n ≡ true → comes ns m n ≡ true → with_labelled_type ns l u (with_labelled_type ns m v (labels n t ls)) ≡ with_labelled_type ns m v (with_labelled_type ns l u (labels n t ls))
    both h k = tested (comes ns l m)
        (λ j. ap (with_labelled_type ns l u) (put_m true k) ∙ (l_on_m (labels n t ls) true j
        ∙ (ap (labels l u) (sym (put_m true k)) ∙ (sym (m_on_l (labels n t ls) false (comes_not ns l m j)) ∙ ap (with_labelled_type ns m v) (sym (put_l true h))))))
        (λ j. ap (with_labelled_type ns l u) (put_m true k) ∙ (l_on_m (labels n t ls) false j
        ∙ (ap (labels m v) (put_l true h) ∙ (sym (m_on_l (labels n t ls) true (other_comes ns l m d j)) ∙ ap (with_labelled_type ns m v) (sym (put_l true h))))))

    first : comes ns l n ≡ true → comes ns m n ≡ false → with_labelled_type ns l u (with_labelled_type ns m v (labels n t ls)) ≡ with_labelled_type ns m v (with_labelled_type ns l u (labels n t ls))
    first h k =
        ap (with_labelled_type ns l u) (put_m false k)
        ∙ (ap (λ x. put_if x (labels l u (labels n t (with_labelled_type ns m v ls))) (labels n t (with_labelled_type ns l u (with_labelled_type ns m v ls)))) h
        ∙ (ap (labels l u) (sym (put_m false k)) ∙ (sym (m_on_l (labels n t ls) false (comes_far ns l m n h k (λ e. d (sym e)))) ∙ ap (with_labelled_type ns m v) (sym (put_l true h)))))

    second : comes ns l n ≡ false → comes ns m n ≡ true → with_labelled_type ns l u (with_labelled_type ns m v (labels n t ls)) ≡ with_labelled_type ns m v (with_labelled_type ns l u (labels n t ls))
    second h k =
        ap (with_labelled_type ns l u) (put_m true k)
        ∙ (l_on_m (labels n t ls) false (comes_far ns m l n k h d)
        ∙ (ap (labels m v) (put_l false h)
        ∙ (sym (ap (λ x. put_if x (labels m v (labels n t (with_labelled_type ns l u ls))) (labels n t (with_labelled_type ns m v (with_labelled_type ns l u ls)))) k)
        ∙ ap (with_labelled_type ns m v) (sym (put_l false h)))))

    none : comes ns l n ≡ false → comes ns m n ≡ false → with_labelled_type ns l u (with_labelled_type ns m v ls) ≡ with_labelled_type ns m v (with_labelled_type ns l u ls)
        → with_labelled_type ns l u (with_labelled_type ns m v (labels n t ls)) ≡ with_labelled_type ns m v (with_labelled_type ns l u (labels n t ls))
    none h k e =
        ap (with_labelled_type ns l u) (put_m false k)
        ∙ (ap (λ x. put_if x (labels l u (labels n t (with_labelled_type ns m v ls))) (labels n t (with_labelled_type ns l u (with_labelled_type ns m v ls)))) h
        ∙ (ap (labels n t) e
        ∙ (sym (ap (λ x. put_if x (labels m v (labels n t (with_labelled_type ns l u ls))) (labels n t (with_labelled_type ns m v (with_labelled_type ns l u ls)))) k)
        ∙ ap (with_labelled_type ns m v) (sym (put_l false h)))))

-- a field that is put somewhere is put last
inserted : (ns : List (List ℕ)) (c : PlainContext) {m : Id} {u : TypeTree} {ms all : LabelledTypes} → Inserts m u ms all → IsNewLabel m.name.0 ms → normal_labels ns c all ≡ with_labelled_type ns m.name.0 (normal ns c u) (normal_labels ns c ms)
inserted ns c at_end h = refl
inserted ns c (before {l = m} {k = k} {t = u} {u = v} {ls = ms} i) h =
    ap (with_labelled_type ns k.name.0 (normal ns c v)) (inserted ns c i h.0)
    ∙ exchanged ns k.name.0 m.name.0 (normal ns c v) (normal ns c u) (normal_labels ns c ms) (λ e. h.1 (sym e))

-- a label that is new in the one is new in the other
new_with : {m : Id} {u : TypeTree} {ms all : LabelledTypes} (n : ℕ) → Inserts m u ms all → IsNewLabel n ms → (n ≡ m.name.0 → ⊥) → IsNewLabel n all
new_with n at_end h d = (h, d)
new_with n (before i) h d = (new_with n i h.0 d, h.1)

new_alike : {ps : Pairs} {ls ms : LabelledTypes} (n : ℕ) → LabelsAlike ps ls ms → IsNewLabel n ls → IsNewLabel n ms
new_alike n no_labels h = tt
new_alike n (and_label a t e i) h = new_with n i (new_alike n a h.0) (λ f. h.1 (f ∙ sym e))

-- ---- types

abbrev variable_of : PlainBound → PlainWhat
variable_of b = Variable b

record Below (ns : List (List ℕ)) (qs : Pairs) (c d : PlainContext) (bs cs : TypeBinders) : Type 0 where
  same : normal_binders ns c bs ≡ normal_binders ns d cs
  paired : Paired qs (under_binders ns c bs) (under_binders ns d cs)

mutual
  equal : (ns : List (List ℕ)) {ps : Pairs} (c d : PlainContext) {t u : TypeTree} → Paired ps c d → IsAlike ps t u → HasDistinctLabels t → normal ns c t ≡ normal ns d u
  equal ns c d p tops h = refl
  equal ns c d p ints h = refl
  equal ns c d p chars h = refl
  equal ns c d p strings h = refl
  equal ns c d p bools h = refl
  equal ns {ps = ps} c d p (uses {n = n} {m = m} k) h = ap meant_type (same_meaning ps c d n.0 m.0 p k)
  equal ns c d p (boths a) h = ap (Chan Both) (equal ns c d p a h)
  equal ns c d p (reads a) h = ap (Chan Read) (equal ns c d p a h)
  equal ns c d p (writes a) h = ap (Chan Write) (equal ns c d p a h)
  equal ns c d p (responds a) h = ap (Chan Respond) (equal ns c d p a h)
  equal ns c d p (records {bs = bs} {cs = cs} {ts = ts} {us = us} {ls = ls} {ms = ms} a b l) h =
      let x = equal_binders ns c d p a h.0 in
      let i = equal_types ns (under_binders ns c bs) (under_binders ns d cs) x.paired b h.1.0 in
      let j = equal_labels ns (under_binders ns c bs) (under_binders ns d cs) x.paired l h.1.1 in
      ap (λ z. Fields z (normal_types ns (under_binders ns c bs) ts) (normal_labels ns (under_binders ns c bs) ls)) x.same
      ∙ (ap (λ z. Fields (normal_binders ns d cs) z (normal_labels ns (under_binders ns c bs) ls)) i
      ∙ ap (λ z. Fields (normal_binders ns d cs) (normal_types ns (under_binders ns d cs) us) z) j)
  equal ns {ps = ps} c d p (applied {x = x} {y = y} k a) h = ap₂ (λ m z. apply_head (meant_head m) z) (same_meaning ps c d x.name.0 y.name.0 p k) (equal_types ns c d p a h)
  equal ns c d p (recs {x = x} {y = y} a) h = ap Rec (equal ns (entry_of x Free ∷ c) (entry_of y Free ∷ d) (refl, refl, refl, p) a h)

  equal_types : (ns : List (List ℕ)) {ps : Pairs} (c d : PlainContext) {ts us : TypeTrees} → Paired ps c d → AreAlike ps ts us → TypesHaveDistinctLabels ts → normal_types ns c ts ≡ normal_types ns d us
  equal_types ns c d p no_more h = refl
  equal_types ns c d p (and_type a t) h = ap₂ put_type (equal_types ns c d p a h.0) (equal ns c d p t h.1)

  equal_labels : (ns : List (List ℕ)) {ps : Pairs} (c d : PlainContext) {ls ms : LabelledTypes} → Paired ps c d → LabelsAlike ps ls ms → AreDistinct ls → normal_labels ns c ls ≡ normal_labels ns d ms
  equal_labels ns c d p no_labels h = refl
  equal_labels ns c d p (and_label {ls = ls} {ms = ms} {l = l} {m = m} {t = t} {u = u} a b e i) h =
      ap₂ (λ x y. with_labelled_type ns l.name.0 x y) (equal ns c d p b h.1.1) (equal_labels ns c d p a h.0)
      ∙ (ap (λ n. with_labelled_type ns n (normal ns d u) (normal_labels ns d ms)) e
      ∙ sym (inserted ns d i (subst (λ n. IsNewLabel n ms) e (new_alike l.name.0 a h.1.0))))

  equal_binders : (ns : List (List ℕ)) {ps qs : Pairs} (c d : PlainContext) {bs cs : TypeBinders} → Paired ps c d → BindersAlike ps bs cs qs → BindersHaveDistinctLabels bs → Below ns qs c d bs cs
  equal_binders ns c d p no_more_binders h = record { same = refl; paired = p }
  equal_binders ns c d p (and_binder {bs = bs} {cs = cs} {k = k} a b) h =
      let x = equal_binders ns c d p a h.0 in
      let i = ap (kind_bound k) (equal_bounds ns (under_binders ns c bs) (under_binders ns d cs) x.paired b h.1) in
      record { same = ap₂ and_bound x.same i; paired = (refl, refl, ap variable_of i, x.paired) }

  equal_bounds : (ns : List (List ℕ)) {ps : Pairs} (c d : PlainContext) {b e : Bound} → Paired ps c d → BoundsAlike ps b e → BoundHasDistinctLabels b → normal_bound ns c b ≡ normal_bound ns d e
  equal_bounds ns c d p no_bounds h = refl
  equal_bounds ns c d p (two_bounds a) h = ap bound_by (equal ns c d p a h)

pub alike_is_equal : AlikeIsEqual
alike_is_equal ns c t u a h = equal ns c c refl a h
