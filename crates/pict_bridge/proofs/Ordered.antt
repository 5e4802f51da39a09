-- Labelled items in the order of their labels.
use Rattle.std.proofs.Common.{◌≡◌, ◌≢◌, ℕ, Bool, true, false, List, [], ◌∷◌, ◌++◌, map, refl, sym, ap, Some, nat_eq}
use Rattle.std.specs.Prelude.{if◌then◌else◌}
use Rattle.std.specs.Ordering.{is_lt}
use Rattle.std.proofs.lemmas.Bool.{eq-eqb, ne_eqb}
use Rattle.pict_syntax.specs.Labels.{label_cmp, with_label, with_labels, in_label_order}
use Rattle.pict_types.specs.Types.{PlainType, PlainLabels, no_label, labels, type_at}
use Rattle.pict_normal.specs.Normal.{with_labelled_type}
use Rattle.pict_rules.specs.Regular.{Lacks}
use Rattle.pict_bridge.proofs.FieldsOpen.{Each}

-- one more item at the end
put_last : {A : Type 0} (names : List (List ℕ)) (sorted xs : List (ℕ × A)) (l : ℕ) (a : A) → with_labels names sorted (xs ++ (l, a) ∷ []) ≡ with_label names l a (with_labels names sorted xs)
put_last names sorted [] l a = refl
put_last names sorted (x ∷ xs) l a = put_last names (with_label names x.0 x.1 sorted) xs l a

pub ordered_last : {A : Type 0} (names : List (List ℕ)) (xs : List (ℕ × A)) (l : ℕ) (a : A) → in_label_order names (xs ++ (l, a) ∷ []) ≡ with_label names l a (in_label_order names xs)
ordered_last names xs l a = put_last names [] xs l a

-- what is done to each item is done in order
abbrev pub to_each : {A B : Type 0} → (A → B) → List (ℕ × A) → List (ℕ × B)
to_each f xs = map (λ x. (x.0, f x.1)) xs

pub put_each : {A B : Type 0} (f : A → B) (names : List (List ℕ)) (l : ℕ) (a : A) (xs : List (ℕ × A)) → to_each f (with_label names l a xs) ≡ with_label names l (f a) (to_each f xs)
put_each f names l a [] = refl
put_each f names l a (x ∷ xs) = go (is_lt (label_cmp names l x.0)) (put_each f names l a xs)
  where
    go : (b : Bool) → to_each f (with_label names l a xs) ≡ with_label names l (f a) (to_each f xs) → to_each f (if b then (l, a) ∷ x ∷ xs else x ∷ with_label names l a xs) ≡ (if b then (l, f a) ∷ (x.0, f x.1) ∷ to_each f xs else (x.0, f x.1) ∷ with_label names l (f a) (to_each f xs))
    go true h = refl
    go false h = ap (λ ys. (x.0, f x.1) ∷ ys) h

-- what holds of the item and of the others holds of all
pub each_put : {A : Type 0} (P : (ℕ × A) → Type 0) (names : List (List ℕ)) (l : ℕ) (a : A) (xs : List (ℕ × A)) → P (l, a) → Each P xs → Each P (with_label names l a xs)
each_put P names l a [] h k = (h, tt)
each_put P names l a (x ∷ xs) h k = go (is_lt (label_cmp names l x.0)) (each_put P names l a xs h k.1)
  where
    go : (b : Bool) → Each P (with_label names l a xs) → Each P (if b then (l, a) ∷ x ∷ xs else x ∷ with_label names l a xs)
    go true r = (h, k)
    go false r = (k.0, r)

-- and the other way round
pub put_each_of : {A : Type 0} (P : (ℕ × A) → Type 0) (names : List (List ℕ)) (l : ℕ) (a : A) (xs : List (ℕ × A)) → Each P (with_label names l a xs) → P (l, a) × Each P xs
put_each_of P names l a [] h = h
put_each_of P names l a (x ∷ xs) h = go (is_lt (label_cmp names l x.0)) (put_each_of P names l a xs) h
  where
    go : (b : Bool) → (Each P (with_label names l a xs) → P (l, a) × Each P xs) → Each P (if b then (l, a) ∷ x ∷ xs else x ∷ with_label names l a xs) → P (l, a) × (P x × Each P xs)
    go true r k = k
    go false r k = let z = r k.1 in (z.0, (k.0, z.1))

-- no label stands twice
abbrev pub LabelsOnce : {A : Type 0} → List (ℕ × A) → Type 0
LabelsOnce [] = Unit {0}
LabelsOnce (x ∷ xs) = Each (λ y. x.0 ≢ y.0) xs × LabelsOnce xs

pub once_put : {A : Type 0} (names : List (List ℕ)) (l : ℕ) (a : A) (xs : List (ℕ × A)) → Each (λ y. l ≢ y.0) xs → LabelsOnce xs → LabelsOnce (with_label names l a xs)
once_put names l a [] h k = (tt, tt)
once_put {A = A} names l a (x ∷ xs) h k = go (is_lt (label_cmp names l x.0)) (once_put names l a xs h.1 k.1)
  where
    other : x.0 ≢ l
    other e = h.0 (sym e)

    go : (b : Bool) → LabelsOnce (with_label names l a xs) → LabelsOnce (if b then (l, a) ∷ x ∷ xs else x ∷ with_label names l a xs)
    go true r = (h, k)
    go false r = (each_put (λ (y : ℕ × A). x.0 ≢ y.0) names l a xs other k.0, r)

-- ---- types at labels

pub type_at_new : (ns : List (List ℕ)) (l : ℕ) (t : PlainType) (ms : PlainLabels) → Lacks ms l → type_at l (with_labelled_type ns l t ms) ≡ Some t
type_at_new ns l t no_label h = let e : nat_eq l l ≡ true = eq-eqb l l refl in rw e refl
type_at_new ns l t (labels m u ms) h = go (is_lt (label_cmp ns l m)) (type_at_new ns l t ms h.1)
  where
    go : (b : Bool) → type_at l (with_labelled_type ns l t ms) ≡ Some t → type_at l (if b then labels l t (labels m u ms) else labels m u (with_labelled_type ns l t ms)) ≡ Some t
    go true r = let e : nat_eq l l ≡ true = eq-eqb l l refl in rw e refl
    go false r = let e : nat_eq l m ≡ false = ne_eqb l m h.0 in rw e r

pub type_at_other : (ns : List (List ℕ)) (l k : ℕ) (t : PlainType) (ms : PlainLabels) → l ≢ k → type_at l (with_labelled_type ns k t ms) ≡ type_at l ms
type_at_other ns l k t no_label h = let e : nat_eq l k ≡ false = ne_eqb l k h in rw e refl
type_at_other ns l k t (labels m u ms) h = go (is_lt (label_cmp ns k m)) (type_at_other ns l k t ms h)
  where
    go : (b : Bool) → type_at l (with_labelled_type ns k t ms) ≡ type_at l ms → type_at l (if b then labels k t (labels m u ms) else labels m u (with_labelled_type ns k t ms)) ≡ type_at l (labels m u ms)
    go true r = let e : nat_eq l k ≡ false = ne_eqb l k h in rw e refl
    go false r = ap (λ z. if nat_eq l m then Some u else z) r
