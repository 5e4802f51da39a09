-- The type at a label, found among labels that stand in order.
use Rattle.std.proofs.Common.{◌≡◌, ◌<◌, ◌≤◌, ℕ, zero, suc, nat_eq, Bool, true, false, if◌then◌else◌, nat_lt, List, [], ◌∷◌, length, get_or, Some, None, refl, sym, ◌∙◌, ap, subst, arith, eqb-true, ltb-true, ltb-false, eq-eqb}
use Rattle.std.proofs.lemmas.Bool.{eqb-false, ne_eqb}
use Rattle.std.specs.List.Sorted.{IsNonDecreasingBy, IsPartitionPoint}
use Rattle.std.specs.Ordering.{ordering_index, ordering_reverse}
use Rattle.std.specs.declared.cmp.Ordering.{Ordering}
use Rattle.std.specs.declared.cmp.Ordering.TheVariants.{Less, Equal, Greater}
use Rattle.pict_syntax.specs.declared.name.Name.{Name}
use Rattle.pict_syntax.specs.Labels.{label_cmp, StandsBefore}
use Rattle.pict_syntax.proofs.LabelLemmas.{label_order, equal_labels, other_label, never_before_itself}
use Rattle.pict_types.specs.declared.types.Ty.{Ty}
use Rattle.pict_types.specs.Types.{PlainLabels, no_label, labels, type_at}
use Rattle.pict_types.specs.Kinds.{Kind, StandsBeforeAll, LabelsAreWellFormed}
use Rattle.pict_types.specs.Plain.{plain, plain_labels}
use Rattle.pict_infer.specs.Ordering.{AreInOrder}

-- the labels of a well formed record type stand in order
pub formed_in_order : (ns : List (List ℕ)) (ks : List Kind) (ls : PlainLabels) → LabelsAreWellFormed ns ks ls → AreInOrder ns ls
formed_in_order ns ks no_label h = tt
formed_in_order ns ks (labels l t ls) h = (h.0, formed_in_order ns ks ls h.1.1)

first_before : (ns : List (List ℕ)) (m k : ℕ) (fs : List (Name × Ty)) (d : Name × Ty) → StandsBeforeAll ns m (plain_labels fs) → k < length fs → StandsBefore ns m (get_or fs k d).0.0
first_before ns m k [] d h l = absurd (omega (arith, l))
first_before ns m zero (f ∷ fs) d h l = h.0
first_before ns m (suc k) (f ∷ fs) d h l = first_before ns m k fs d h.1 (omega (arith, l))

before_later : (ns : List (List ℕ)) (i j : ℕ) (fs : List (Name × Ty)) (d : Name × Ty) → AreInOrder ns (plain_labels fs) → i < j → j < length fs → StandsBefore ns (get_or fs i d).0.0 (get_or fs j d).0.0
before_later ns i j [] d h l n = absurd (omega (arith, n))
before_later ns i zero (f ∷ fs) d h l n = absurd (omega (arith, l))
before_later ns zero (suc j) (f ∷ fs) d h l n = first_before ns f.0.0 j fs d h.0 (omega (arith, n))
before_later ns (suc i) (suc j) (f ∷ fs) d h l n = before_later ns i j fs d h.1 (omega (arith, l)) (omega (arith, n))

-- an earlier label comes no later
rising : (ns : List (List ℕ)) (l m n : ℕ) → StandsBefore ns m n → ordering_index (label_cmp ns m l) ≤ ordering_index (label_cmp ns n l)
rising ns l m n h = go (label_cmp ns m l) (label_cmp ns n l) refl refl
  where
    first : label_cmp ns n l ≡ Less → label_cmp ns m l ≡ Less
    first e = (label_order ns).trans m n l h e

    same : label_cmp ns n l ≡ Equal → label_cmp ns m l ≡ Less
    same e = subst (λ k. StandsBefore ns m k) (equal_labels ns n l e) h

    go : (o p : Ordering) → label_cmp ns m l ≡ o → label_cmp ns n l ≡ p → ordering_index o ≤ ordering_index p
    go Less p e f = omega arith
    go Equal Less e f = let c : Equal ≡ Less = sym e ∙ first f in cc
    go Equal Equal e f = omega arith
    go Equal Greater e f = omega arith
    go Greater Less e f = let c : Greater ≡ Less = sym e ∙ first f in cc
    go Greater Equal e f = let c : Greater ≡ Less = sym e ∙ same f in cc
    go Greater Greater e f = omega arith

pub labels_rise : (ns : List (List ℕ)) (l : ℕ) (fs : List (Name × Ty)) → AreInOrder ns (plain_labels fs) → IsNonDecreasingBy (λ (f : Name × Ty). ordering_index (label_cmp ns f.0.0 l)) fs
labels_rise ns l fs h i j d le n = go (nat_eq i j) refl
  where
    at : ℕ → ℕ
    at k = ordering_index (label_cmp ns (get_or fs k d).0.0 l)

    go : (b : Bool) → nat_eq i j ≡ b → at i ≤ at j
    go true e = let s : at i ≡ at j = ap at (eqb-true i j e) in omega arith
    go false e = let different : i ≡ j → ⊥ = eqb-false i j e in rising ns l (get_or fs i d).0.0 (get_or fs j d).0.0 (before_later ns i j fs d h (omega (arith, le, different)) n)

-- no field has the label
pub no_label_at : (l : ℕ) (fs : List (Name × Ty)) → ((k : ℕ) (d : Name × Ty) → k < length fs → (get_or fs k d).0.0 ≡ l → ⊥) → type_at l (plain_labels fs) ≡ None
no_label_at l [] h = refl
no_label_at l (f ∷ fs) h =
    ap (λ b. if b then Some (plain f.1) else type_at l (plain_labels fs)) (ne_eqb l f.0.0 (λ same. h 0 f (omega arith) (sym same)))
    ∙ no_label_at l fs (λ k d n. h (suc k) d (omega (arith, n)))

-- and one has it
pub label_at : (ns : List (List ℕ)) (l i : ℕ) (fs : List (Name × Ty)) (d : Name × Ty) → AreInOrder ns (plain_labels fs) → i < length fs → (get_or fs i d).0.0 ≡ l → type_at l (plain_labels fs) ≡ Some (plain (get_or fs i d).1)
label_at ns l i [] d h n e = absurd (omega (arith, n))
label_at ns l zero (f ∷ fs) d h n e = ap (λ b. if b then Some (plain f.1) else type_at l (plain_labels fs)) (eq-eqb l f.0.0 (sym e))
label_at ns l (suc i) (f ∷ fs) d h n e =
    let inside : i < length fs = omega (arith, n) in
    let before : StandsBefore ns f.0.0 l = subst (λ m. StandsBefore ns f.0.0 m) e (first_before ns f.0.0 i fs d h.0 inside) in
    ap (λ b. if b then Some (plain f.1) else type_at l (plain_labels fs)) (ne_eqb l f.0.0 (other_label ns f.0.0 l before))
    ∙ label_at ns l i fs d h.1 inside e

-- no field has it where those before a place come before it, and those from there on after it
pub label_absent : (ns : List (List ℕ)) (l at : ℕ) (fs : List (Name × Ty)) → IsPartitionPoint (λ (f : Name × Ty). label_cmp ns f.0.0 l ≡ Less) (λ (f : Name × Ty). label_cmp ns f.0.0 l ≡ Greater) fs at
    → type_at l (plain_labels fs) ≡ None
label_absent ns l at fs p = no_label_at l fs (λ k d n e. go k d n e (nat_lt k at) refl)
  where
    go : (k : ℕ) (d : Name × Ty) → k < length fs → (get_or fs k d).0.0 ≡ l → (b : Bool) → nat_lt k at ≡ b → ⊥
    go k d n e true t = never_before_itself ns l (subst (λ m. label_cmp ns m l ≡ Less) e (p.0 k d (omega arith) (ltb-true k at t)))
    go k d n e false t =
        let after : label_cmp ns l l ≡ Greater = subst (λ m. label_cmp ns m l ≡ Greater) e (p.1 k d (ltb-false k at t) n) in
        never_before_itself ns l ((label_order ns).antisymm l l ∙ ap ordering_reverse after)
