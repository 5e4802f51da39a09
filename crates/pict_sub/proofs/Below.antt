-- The parts of records: what each weighs, that it is well formed, and where a row ends.
use Rattle.std.proofs.Common.{◌≡◌, ◌≢◌, ℕ, suc, ◌+◌, ◌≤◌, ◌<◌, List, [], ◌∷◌, length, drop, length-drop, refl, sym, ◌∙◌, ap, ap₂, subst, subst₂, ◌↔◌, ◌⊎◌, inl, inr, Bool, Result, Ok, Err, arith}
use Rattle.std.specs.Prelude.{IfOk, IsTrue, nat_eq}
use Rattle.std.proofs.lemmas.Bool.{cases_lt, eq-eqb, eqb-true}
use Rattle.pict_syntax.specs.declared.name.Name.{Name}
use Rattle.pict_types.specs.declared.types.Ty.{Ty}
use Rattle.pict_types.specs.Types.{PlainType, Fields, PlainTypes, PlainLabels, no_label, labels, PlainBounds, TypeContext, under}
use Rattle.pict_types.specs.Kinds.{Kind, IsWellFormed, AreWellFormed, LabelsAreWellFormed, ContextIsWellFormed, kinds}
use Rattle.pict_types.specs.Measures.{weigh_types, weigh_labels, weigh_bounds, weights, weight_of}
use Rattle.pict_types.specs.Plain.{plain, plain_types, plain_labels}
use Rattle.pict_sub.specs.Subtyping.{IsSubtype, AreSubtypes, HasLabels, has_none}
use Rattle.pict_types.proofs.Rows.{labels_end, count_types_length}
use Rattle.pict_sub.proofs.Inversion.{as_many, records, label_other, label_alike, no_label_left, types_rules}
use Rattle.pict_types.proofs.Contexts.{weigh_record, kinds_under_is, formed_under}
use Rattle.pict_types.proofs.Sizes.{weight_positive}

pub types_below_length : (c : TypeContext) (xs ys : List Ty) → AreSubtypes c (plain_types xs) (plain_types ys) → length xs ≡ length ys
types_below_length c xs ys d = sym (count_types_length xs) ∙ as_many d ∙ count_types_length ys

-- what is well formed where the fields of a record stand
pub record IsReady (ns : List (List ℕ)) (c : TypeContext) (bs : PlainBounds) (ps : PlainTypes) (ls : PlainLabels) : Type 0 where
  pub context : ContextIsWellFormed ns (under c bs)
  pub rows : AreWellFormed ns (kinds (under c bs)) ps
  pub labelled : LabelsAreWellFormed ns (kinds (under c bs)) ls

pub ready : (ns : List (List ℕ)) (c : TypeContext) (bs : PlainBounds) (ps : PlainTypes) (ls : PlainLabels) → ContextIsWellFormed ns c → IsWellFormed ns (kinds c) (Fields bs ps ls) → IsReady ns c bs ps ls
ready ns c bs ps ls w f = record {
  context = formed_under ns c bs w f.0;
  rows = subst (λ k. AreWellFormed ns k ps) (sym (kinds_under_is c bs)) f.1.0;
  labelled = subst (λ k. LabelsAreWellFormed ns k ls) (sym (kinds_under_is c bs)) f.1.1;
}

-- one label further in two rows, where X says what the rows from here on do
pub pass_label : {X : Type 0} (ns : List (List ℕ)) (ks : List Kind) (c : TypeContext) {A B : PlainLabels} (A' B' : PlainLabels) (m l : ℕ) (s t : PlainType) → A ≡ labels m s A' → B ≡ labels l t B' → m ≢ l → LabelsAreWellFormed ns ks A → LabelsAreWellFormed ns ks B → (X ↔ HasLabels c A B) → (X ↔ HasLabels c A' B)
pass_label ns ks c A' B' m l s t p q ne f g e =
    let f2 = subst (LabelsAreWellFormed ns ks) p f in
    let g2 = subst (LabelsAreWellFormed ns ks) q g in
    let step = label_other ns c m l s t A' B' ne f2.0 g2.0 in
    (λ x. subst (HasLabels c A') (sym q) (step.0 (subst₂ (HasLabels c) p q (e.0 x))), λ y. e.1 (subst₂ (HasLabels c) (sym p) (sym q) (step.1 (subst (HasLabels c A') q y))))

meet_label : {X : Type 0} (ns : List (List ℕ)) (ks : List Kind) (c : TypeContext) {A B : PlainLabels} (A' B' : PlainLabels) (m l : ℕ) (s t : PlainType) → A ≡ labels m s A' → B ≡ labels l t B' → m ≡ l → LabelsAreWellFormed ns ks A → LabelsAreWellFormed ns ks B → (X ↔ HasLabels c A B) → (X ↔ (IsSubtype c s t × HasLabels c A' B'))
meet_label ns ks c {A = A} {B = B} A' B' m l s t p q same f g e =
    let q2 : B ≡ labels m t B' = q ∙ ap (λ n. labels n t B') (sym same) in
    let f2 = subst (LabelsAreWellFormed ns ks) p f in
    let g2 = subst (LabelsAreWellFormed ns ks) q2 g in
    let step = label_alike ns c m s t A' B' f2.0 g2.0 in
    (λ x. step.0 (subst₂ (HasLabels c) p q2 (e.0 x)), λ y. e.1 (subst₂ (HasLabels c) (sym p) (sym q2) (step.1 y)))

pub take_label : {X : Type 0} (ns : List (List ℕ)) (ks : List Kind) (c : TypeContext) {A B : PlainLabels} (A' B' : PlainLabels) (m l : ℕ) (s t : PlainType) → A ≡ labels m s A' → B ≡ labels l t B' → m ≡ l → LabelsAreWellFormed ns ks A → LabelsAreWellFormed ns ks B → IsSubtype c s t → (X ↔ HasLabels c A B) → (X ↔ HasLabels c A' B')
take_label ns ks c A' B' m l s t p q same f g d e =
    let k = meet_label ns ks c A' B' m l s t p q same f g e in
    (λ x. (k.0 x).1, λ y. k.1 (d, y))

pub miss_label : {X : Type 0} (ns : List (List ℕ)) (ks : List Kind) (c : TypeContext) {A B : PlainLabels} (A' B' : PlainLabels) (m l : ℕ) (s t : PlainType) → A ≡ labels m s A' → B ≡ labels l t B' → m ≡ l → LabelsAreWellFormed ns ks A → LabelsAreWellFormed ns ks B → (IsSubtype c s t → ⊥) → (X ↔ HasLabels c A B) → X → ⊥
miss_label ns ks c A' B' m l s t p q same f g n e x =
    let k = meet_label ns ks c A' B' m l s t p q same f g e in
    n (k.0 x).0

pub end_labels : {X : Type 0} (c : TypeContext) {A B : PlainLabels} → B ≡ no_label → (X ↔ HasLabels c A B) → X
end_labels c {A = A} q e = e.1 (subst (HasLabels c A) (sym q) has_none)

pub lack_labels : {X : Type 0} (c : TypeContext) {A B : PlainLabels} (B' : PlainLabels) (l : ℕ) (t : PlainType) → A ≡ no_label → B ≡ labels l t B' → (X ↔ HasLabels c A B) → X → ⊥
lack_labels c B' l t p q e x = no_label_left c l t B' (subst₂ (HasLabels c) p q (e.0 x))

-- the same of parts that are read in another way
pub ready_as : (ns : List (List ℕ)) (c : TypeContext) (xs bs : PlainBounds) (ps' ps : PlainTypes) (ls' ls : PlainLabels) → xs ≡ bs → ps' ≡ ps → ls' ≡ ls → ContextIsWellFormed ns c → IsWellFormed ns (kinds c) (Fields bs ps ls) → IsReady ns c xs ps' ls'
ready_as ns c xs bs ps' ps ls' ls e f g w k =
    let r = ready ns c bs ps ls w k in
    let r1 = subst (λ x. IsReady ns c x ps ls) (sym e) r in
    let r2 = subst (λ x. IsReady ns c xs x ls) (sym f) r1 in
    subst (λ x. IsReady ns c xs ps' x) (sym g) r2

pub weigh_as : (c : TypeContext) (xs bs : PlainBounds) (ps' ps : PlainTypes) (ls' ls : PlainLabels) → xs ≡ bs → ps' ≡ ps → ls' ≡ ls → weight_of c (Fields bs ps ls) ≡ suc (weigh_bounds (weights c) xs + (weigh_types (weights (under c xs)) ps' + weigh_labels (weights (under c xs)) ls'))
weigh_as c xs bs ps' ps ls' ls e f g =
    weigh_record c bs ps ls
    ∙ ap (λ x. suc (weigh_bounds (weights c) x + (weigh_types (weights (under c x)) ps + weigh_labels (weights (under c x)) ls))) (sym e)
    ∙ ap (λ x. suc (weigh_bounds (weights c) xs + (weigh_types (weights (under c xs)) x + weigh_labels (weights (under c xs)) ls))) (sym f)
    ∙ ap (λ x. suc (weigh_bounds (weights c) xs + (weigh_types (weights (under c xs)) ps' + weigh_labels (weights (under c xs)) x))) (sym g)

pub parts_as : (ns : List (List ℕ)) (ks : List Kind) (c : TypeContext) (xs bs cs : PlainBounds) (ps' ps qs' qs : PlainTypes) (ls' ls ms' ms : PlainLabels) → xs ≡ bs → bs ≡ cs → ps' ≡ ps → qs' ≡ qs → ls' ≡ ls → ms' ≡ ms → LabelsAreWellFormed ns ks ls → IsSubtype c (Fields bs ps ls) (Fields cs qs ms) ↔ (AreSubtypes (under c xs) ps' qs' × HasLabels (under c xs) ls' ms')
parts_as ns ks c xs bs cs ps' ps qs' qs ls' ls ms' ms e b f g h k w =
    let r = records ns ks c bs cs ps qs ls ms w in
    let rows : AreSubtypes (under c bs) ps qs ≡ AreSubtypes (under c xs) ps' qs' = ap₂ (λ x y. AreSubtypes (under c x) y qs) (sym e) (sym f) ∙ ap (λ x. AreSubtypes (under c xs) ps' x) (sym g) in
    let labelled : HasLabels (under c bs) ls ms ≡ HasLabels (under c xs) ls' ms' = ap₂ (λ x y. HasLabels (under c x) y ms) (sym e) (sym h) ∙ ap (λ x. HasLabels (under c xs) ls' x) (sym k) in
    (λ d. let p = r.0 d in (subst (λ x. x) rows p.fields, subst (λ x. x) labelled p.labelled), λ p. r.1 (record { alike = b; fields = subst (λ x. x) (sym rows) p.0; labelled = subst (λ x. x) (sym labelled) p.1 }))

pub other_fields : (ns : List (List ℕ)) (ks : List Kind) (c : TypeContext) (bs cs : PlainBounds) (ps qs : PlainTypes) (ls ms : PlainLabels) → LabelsAreWellFormed ns ks ls → (bs ≡ cs → ⊥) → IsSubtype c (Fields bs ps ls) (Fields cs qs ms) → ⊥
other_fields ns ks c bs cs ps qs ls ms w n d = n ((records ns ks c bs cs ps qs ls ms w).0 d).alike

-- where the first half holds, the second decides
pub second_decides : {E : Type 0} {A B X : Type 0} (r : Result Bool E) → A → (X ↔ (A × B)) → IfOk r (λ yes. IsTrue yes ↔ B) → IfOk r (λ yes. IsTrue yes ↔ X)
second_decides (Ok b) a e h = (λ y. e.1 (a, h.0 y), λ x. h.1 (e.0 x).1)
second_decides (Err e) a k h = h

-- at the end of the smaller row the greater has to be at its end too
pub all_found : {X : Type 0} (c : TypeContext) (xs ys : List (Name × Ty)) (i j : ℕ) → length xs ≤ i → j ≤ length ys → (X ↔ HasLabels c (plain_labels (drop i xs)) (plain_labels (drop j ys))) → IsTrue (nat_eq j (length ys)) ↔ X
all_found {X = X} c xs ys i j h k e = go (cases_lt j (length ys))
  where
    no_first : (zs : List (Name × Ty)) → drop j ys ≡ zs → 1 ≤ length (drop j ys) → X → ⊥
    no_first [] q n x = let z : length (drop j ys) ≡ 0 = ap length q in omega arith
    no_first (z ∷ zs) q n x = lack_labels c (plain_labels zs) z.0.0 (plain z.1) (labels_end xs i h) (ap plain_labels q) e x

    go : (j < length ys) ⊎ (length ys ≤ j) → IsTrue (nat_eq j (length ys)) ↔ X
    go (inl m) =
        let n : 1 ≤ length (drop j ys) = omega (arith, length-drop j ys) in
        (λ t. absurd (let q : j ≡ length ys = eqb-true j (length ys) t in omega arith), λ x. absurd (no_first (drop j ys) refl n x))
    go (inr m) =
        let q : j ≡ length ys = omega arith in
        (λ t. end_labels c (labels_end ys j m) e, λ x. eq-eqb j (length ys) q)

pub ruleset rows_rules = (types_below_length, weight_positive, types_rules)
