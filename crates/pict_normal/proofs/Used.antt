-- What is put for a parameter stands in the body where the parameter is used, and nowhere else.
use Rattle.std.proofs.Common.{◌≡◌, ℕ, zero, suc, ◌+◌, ◌≤◌, ◌<◌, List, ◌∷◌, get_or, Bool, true, false, Option, Some, None, refl, sym, ◌∙◌, ap, ap₂, subst, arith}
use Rattle.std.specs.Prelude.{nat_eq, nat_lt, not, ◌||◌, ◌&&◌}
use borrow.Author.Tests.{ltb-true}
use Rattle.std.proofs.lemmas.Bool.{le-ltb, lt-ltb, ltb-false, eqb-true, eq-eqb}
use Rattle.pict_types.specs.Types.{PlainType, Top, Int, Char, Str, Boolean, Var, Apply, Chan, Fields, Rec, PlainTypes, no_type, types, PlainLabels, no_label, labels, PlainBound, Free, Below, Operator, PlainBounds, no_bound, bounds, count_bounds, count_types}
use Rattle.pict_types.specs.Renaming.{rename}
use Rattle.pict_types.specs.Filling.{moved_by, put_for}
use Rattle.pict_types.specs.Replacing.{bound_by, Filling, next_variable, apply_variable, filling_beyond, filling_beyond_all, fill, fill_types, fill_labels, fill_bounds, fill_bound, with_type, with_types}
use Rattle.pict_types.specs.Measures.{weigh, weigh_types, weigh_labels, weigh_bounds, weigh_variable, weights_under}
use Rattle.pict_types.proofs.MeasuredAlike.{is_head}
use Rattle.pict_types.proofs.Renumbered.{weigh_renamed}
use Rattle.pict_normal.specs.Made.{counted, only_used, used_as, weight_used}
use Rattle.pict_normal.specs.Uses.{takes_arguments, uses, uses_types, uses_labels, uses_bound, uses_bounds}
use Rattle.pict_normal.proofs.Applied.{count_used}
use Rattle.pict_types.proofs.Congruent.{three}
use Rattle.pict_types.proofs.Within.{bound_weight}

or_left : (a b : Bool) → a ≡ true → (a || b) ≡ true
or_left a b e = ap (λ x. x || b) e

or_right : (a b : Bool) → b ≡ true → (a || b) ≡ true
or_right true b e = refl
or_right false b e = e

pub and_cases : (a b : Bool) → (a && b) ≡ true → (a ≡ true) × (b ≡ true)
and_cases true b e = (refl, e)
and_cases false b e = absurd (cc)

takes_parameter : (n d j : ℕ) → d ≤ j → j < d + n → takes_arguments n d j ≡ false
takes_parameter n d j p q = ap₂ (λ x y. x || not y) (le-ltb j d p) (lt-ltb j (d + n) q)

takes_other : (n d j : ℕ) → takes_arguments n d j ≡ true → d ≤ j → j < d + n → ⊥
takes_other n d j e p q = let f = takes_parameter n d j p q in cc

not_taken : (a b : Bool) → (a || not b) ≡ false → (a ≡ false) × (b ≡ true)
not_taken true b e = absurd (cc)
not_taken false true e = (refl, refl)
not_taken false false e = absurd (cc)

takes_none : (n d j : ℕ) → takes_arguments n d j ≡ false → (d ≤ j) × (j < d + n)
takes_none n d j e =
    let h = not_taken (nat_lt j d) (nat_lt j (d + n)) e in
    (ltb-false j d h.0, ltb-true j (d + n) h.1)

-- the two fillings put the same for the parameters that are used, behind d binders
pub record SameUsed (n d : ℕ) (used : ℕ → Bool) (s r : Filling) : Type 0 where
  pub types_ : (j : ℕ) → ((i : ℕ) → i < n → j ≡ d + i → used i ≡ true) → s.type_for j ≡ r.type_for j
  pub heads_ : (j : ℕ) → s.head_for j ≡ r.head_for j
  pub none : (j : ℕ) → d ≤ j → j < d + n → s.head_for j ≡ None

fewer : {n d : ℕ} {used : ℕ → Bool} {s r : Filling} (test : ℕ → Bool) → ((i : ℕ) → test i ≡ true → used i ≡ true) → SameUsed n d used s r → SameUsed n d test s r
fewer test f h = record { types_ = λ j p. h.types_ j (λ i l e. f i (p i l e)); heads_ = h.heads_; none = h.none }

same_beyond : {n d : ℕ} {used : ℕ → Bool} {s r : Filling} → SameUsed n d used s r → SameUsed n (d + 1) used (filling_beyond s) (filling_beyond r)
same_beyond {n = n} {d = d} {used = used} {s = s} {r = r} h = record { types_ = go; heads_ = go2; none = go3 }
  where
    go : (j : ℕ) → ((i : ℕ) → i < n → j ≡ d + 1 + i → used i ≡ true) → (filling_beyond s).type_for j ≡ (filling_beyond r).type_for j
    go zero p = refl
    go (suc j) p = ap (rename suc) (h.types_ j (λ i l e. p i l (omega (arith, e))))

    go2 : (j : ℕ) → (filling_beyond s).head_for j ≡ (filling_beyond r).head_for j
    go2 zero = refl
    go2 (suc j) = ap next_variable (h.heads_ j)

    go3 : (j : ℕ) → d + 1 ≤ j → j < d + 1 + n → (filling_beyond s).head_for j ≡ None
    go3 zero p q = absurd (omega arith)
    go3 (suc j) p q = ap next_variable (h.none j (omega arith) (omega arith))

same_under : (bs : PlainBounds) {n d : ℕ} {used : ℕ → Bool} {s r : Filling} (k : ℕ) → k ≡ d + count_bounds bs → SameUsed n d used s r → SameUsed n k used (filling_beyond_all bs s) (filling_beyond_all bs r)
same_under no_bound {n = n} {d = d} {used = used} {s = s} {r = r} k e h =
    let same : d ≡ k = omega arith in
    subst (λ x. SameUsed n x used s r) same h
same_under (bounds b bs) k e h = same_under bs k (omega arith) (same_beyond h)

applied_same : {n d : ℕ} {used : ℕ → Bool} {s r : Filling} (j : ℕ) (us vs : PlainTypes) → SameUsed n d used s r → (takes_arguments n d j ≡ true → us ≡ vs) → apply_variable (s.head_for j) us ≡ apply_variable (r.head_for j) vs
applied_same {n = n} {d = d} {s = s} {r = r} j us vs h f = go (takes_arguments n d j) refl
  where
    go : (b : Bool) → takes_arguments n d j ≡ b → apply_variable (s.head_for j) us ≡ apply_variable (r.head_for j) vs
    go true e = ap₂ apply_variable (h.heads_ j) (f e)
    go false e =
        let p = takes_none n d j e in
        let none : s.head_for j ≡ None = h.none j p.0 p.1 in
        ap (λ o. apply_variable o us) none ∙ sym (ap (λ o. apply_variable o vs) (sym (h.heads_ j) ∙ none))

mutual
  pub fill_same : {n d : ℕ} {s r : Filling} (t : PlainType) → SameUsed n d (λ i. uses n d i t) s r → fill s t ≡ fill r t
  fill_same Top h = refl
  fill_same Int h = refl
  fill_same Char h = refl
  fill_same Str h = refl
  fill_same Boolean h = refl
  fill_same {n = n} {d = d} (Var j) h = h.types_ j (λ i l e. eq-eqb j (d + i) e)
  fill_same {n = n} {d = d} {s = s} {r = r} (Apply j ts) h =
      applied_same j (fill_types s ts) (fill_types r ts) h (λ takes. fill_types_same ts (fewer (λ i. uses_types n d i ts) (λ i e. ap₂ (λ x y. x && y) takes e) h))
  fill_same (Chan m t) h = ap (Chan m) (fill_same t h)
  fill_same {n = n} {d = d} {s = s} {r = r} (Fields bs ps ls) h =
      let k = d + count_bounds bs in
      three Fields
      (fill_bounds_same bs (fewer (λ i. uses_bounds n d i bs) (λ i e. or_left (uses_bounds n d i bs) (uses_types n k i ps || uses_labels n k i ls) e) h))
      (fill_types_same ps (same_under bs k refl (fewer (λ i. uses_types n k i ps) (λ i e. or_right (uses_bounds n d i bs) (uses_types n k i ps || uses_labels n k i ls) (or_left (uses_types n k i ps) (uses_labels n k i ls) e)) h)))
      (fill_labels_same ls (same_under bs k refl (fewer (λ i. uses_labels n k i ls) (λ i e. or_right (uses_bounds n d i bs) (uses_types n k i ps || uses_labels n k i ls) (or_right (uses_types n k i ps) (uses_labels n k i ls) e)) h)))
  fill_same (Rec t) h = ap Rec (fill_same t (same_beyond h))

  fill_types_same : {n d : ℕ} {s r : Filling} (t : PlainTypes) → SameUsed n d (λ i. uses_types n d i t) s r → fill_types s t ≡ fill_types r t
  fill_types_same no_type h = refl
  fill_types_same {n = n} {d = d} (types t ts) h =
      ap₂ types
      (fill_same t (fewer (λ i. uses n d i t) (λ i e. or_left (uses n d i t) (uses_types n d i ts) e) h))
      (fill_types_same ts (fewer (λ i. uses_types n d i ts) (λ i e. or_right (uses n d i t) (uses_types n d i ts) e) h))

  fill_labels_same : {n d : ℕ} {s r : Filling} (t : PlainLabels) → SameUsed n d (λ i. uses_labels n d i t) s r → fill_labels s t ≡ fill_labels r t
  fill_labels_same no_label h = refl
  fill_labels_same {n = n} {d = d} (labels l t ts) h =
      ap₂ (labels l)
      (fill_same t (fewer (λ i. uses n d i t) (λ i e. or_left (uses n d i t) (uses_labels n d i ts) e) h))
      (fill_labels_same ts (fewer (λ i. uses_labels n d i ts) (λ i e. or_right (uses n d i t) (uses_labels n d i ts) e) h))

  fill_bounds_same : {n d : ℕ} {s r : Filling} (t : PlainBounds) → SameUsed n d (λ i. uses_bounds n d i t) s r → fill_bounds s t ≡ fill_bounds r t
  fill_bounds_same no_bound h = refl
  fill_bounds_same {n = n} {d = d} (bounds b bs) h =
      ap₂ bounds
      (fill_bound_same b (fewer (λ i. uses_bound n d i b) (λ i e. or_left (uses_bound n d i b) (uses_bounds n (d + 1) i bs) e) h))
      (fill_bounds_same bs (same_beyond (fewer (λ i. uses_bounds n (d + 1) i bs) (λ i e. or_right (uses_bound n d i b) (uses_bounds n (d + 1) i bs) e) h)))

  fill_bound_same : {n d : ℕ} {s r : Filling} (b : PlainBound) → SameUsed n d (λ i. uses_bound n d i b) s r → fill_bound s b ≡ fill_bound r b
  fill_bound_same Free h = refl
  fill_bound_same (Below t) h = ap bound_by (fill_same t h)
  fill_bound_same (Operator n) h = refl

-- the sum of the weights of those parameters that pass a test
abbrev sum_of : (ℕ → Bool) → (ℕ → ℕ) → ℕ → ℕ
sum_of f w zero = 0
sum_of f w (suc n) = counted (f n) (w n) + sum_of f w n

sum_none : (f : ℕ → Bool) (w : ℕ → ℕ) (n : ℕ) → ((i : ℕ) → i < n → f i ≡ false) → sum_of f w n ≡ 0
sum_none f w zero h = refl
sum_none f w (suc n) h =
    let e : counted (f n) (w n) ≡ 0 = ap (λ b. counted b (w n)) (h n (omega arith)) in
    omega (arith, e, sum_none f w n (λ i l. h i (omega arith)))

sum_same : (f g : ℕ → Bool) (w : ℕ → ℕ) (n : ℕ) → ((i : ℕ) → i < n → f i ≡ g i) → sum_of f w n ≡ sum_of g w n
sum_same f g w zero h = refl
sum_same f g w (suc n) h =
    let e : counted (f n) (w n) ≡ counted (g n) (w n) = ap (λ b. counted b (w n)) (h n (omega arith)) in
    omega (arith, e, sum_same f g w n (λ i l. h i (omega arith)))

counted_or : (a b : Bool) (x : ℕ) → counted (a || b) x ≤ counted a x + counted b x
counted_or true b x = omega arith
counted_or false b x = omega arith

sum_or : (f g : ℕ → Bool) (w : ℕ → ℕ) (n : ℕ) → sum_of (λ i. f i || g i) w n ≤ sum_of f w n + sum_of g w n
sum_or f g w zero = omega arith
sum_or f g w (suc n) = omega (arith, counted_or (f n) (g n) (w n), sum_or f g w n)

sum_where : (b : Bool) (f : ℕ → Bool) (w : ℕ → ℕ) (n v : ℕ) → (b ≡ true → sum_of f w n ≤ v) → sum_of (λ i. b && f i) w n ≤ v
sum_where true f w n v h = h refl
sum_where false f w n v h = omega (arith, sum_none (λ i. false) w n (λ i l. refl))

-- a variable is one parameter at most
sum_one : (d j v : ℕ) (w : ℕ → ℕ) (n : ℕ) → ((i : ℕ) → i < n → j ≡ d + i → w i ≤ v) → sum_of (λ i. nat_eq j (d + i)) w n ≤ v
sum_one d j v w zero h = omega arith
sum_one d j v w (suc n) h = go (sum_one d j v w n (λ i l e. h i (omega (arith, l)) e)) (nat_eq j (d + n)) refl
  where
    other : j ≡ d + n → (i : ℕ) → i < n → (b : Bool) → nat_eq j (d + i) ≡ b → b ≡ false
    other e i l true q = absurd (omega (arith, eqb-true j (d + i) q, e, l))
    other e i l false q = refl

    go : sum_of (λ i. nat_eq j (d + i)) w n ≤ v → (b : Bool) → nat_eq j (d + n) ≡ b → counted b (w n) + sum_of (λ i. nat_eq j (d + i)) w n ≤ v
    go less true q =
        let e : j ≡ d + n = eqb-true j (d + n) q in
        omega (arith, h n (omega arith) e, sum_none (λ i. nat_eq j (d + i)) w n (λ i l. other e i l (nat_eq j (d + i)) refl))
    go less false q = omega (arith, less)

-- what is put for each parameter weighs at least so much
pub record Weighing (n d : ℕ) (w : ℕ → ℕ) (ws : List ℕ) (s : Filling) : Type 0 where
  pub weighs : (i j : ℕ) → i < n → j ≡ d + i → w i ≤ weigh ws (s.type_for j)
  pub heads : (j : ℕ) → (d ≤ j → j < d + n → ⊥) → is_head (s.head_for j) ≡ true

next_head : (o : Option ℕ) → is_head o ≡ true → is_head (next_variable o) ≡ true
next_head None e = e
next_head (Some i) e = refl

weighing_beyond : {n d : ℕ} {w : ℕ → ℕ} {ws : List ℕ} {s : Filling} (x : ℕ) → Weighing n d w ws s → Weighing n (d + 1) w (x ∷ ws) (filling_beyond s)
weighing_beyond {n = n} {d = d} {w = w} {ws = ws} {s = s} x h = record { weighs = go; heads = go2 }
  where
    go : (i j : ℕ) → i < n → j ≡ d + 1 + i → w i ≤ weigh (x ∷ ws) ((filling_beyond s).type_for j)
    go i zero l e = absurd (omega arith)
    go i (suc j) l e =
        let a : weigh (x ∷ ws) (rename suc (s.type_for j)) ≡ weigh ws (s.type_for j) = weigh_renamed (record { each = λ k. refl }) (s.type_for j) in
        omega (arith, a, h.weighs i j l (omega arith))

    go2 : (j : ℕ) → (d + 1 ≤ j → j < d + 1 + n → ⊥) → is_head ((filling_beyond s).head_for j) ≡ true
    go2 zero p = refl
    go2 (suc j) p = next_head (s.head_for j) (h.heads j (λ a b. p (omega arith) (omega arith)))

weighing_under : (bs : PlainBounds) {n d : ℕ} {w : ℕ → ℕ} {ws : List ℕ} {s : Filling} (k : ℕ) → k ≡ d + count_bounds bs → Weighing n d w ws s → Weighing n k w (weights_under ws (fill_bounds s bs)) (filling_beyond_all bs s)
weighing_under no_bound {n = n} {d = d} {w = w} {ws = ws} {s = s} k e h =
    let same : d ≡ k = omega arith in
    subst (λ x. Weighing n x w ws s) same h
weighing_under (bounds b bs) {ws = ws} {s = s} k e h = weighing_under bs k (omega arith) (weighing_beyond (weigh_variable ws (fill_bound s b)) h)

applied_weight : (ws : List ℕ) (w : ℕ) (o : Option ℕ) (us : PlainTypes) → is_head o ≡ true → w ≤ weigh_types ws us → w ≤ weigh ws (apply_variable o us)
applied_weight ws w None us e h = absurd (cc)
applied_weight ws w (Some j) us e h = omega arith

nothing_used : (w : ℕ → ℕ) (n v : ℕ) → sum_of (λ i. false) w n ≤ v
nothing_used w n v = omega (arith, sum_none (λ i. false) w n (λ i l. refl))

mutual
  pub fill_weighs : {n d : ℕ} {w : ℕ → ℕ} {ws : List ℕ} {s : Filling} (t : PlainType) → Weighing n d w ws s → sum_of (λ i. uses n d i t) w n ≤ weigh ws (fill s t)
  fill_weighs {n = n} {w = w} Top h = nothing_used w n 1
  fill_weighs {n = n} {w = w} Int h = nothing_used w n 1
  fill_weighs {n = n} {w = w} Char h = nothing_used w n 1
  fill_weighs {n = n} {w = w} Str h = nothing_used w n 1
  fill_weighs {n = n} {w = w} Boolean h = nothing_used w n 1
  fill_weighs {n = n} {d = d} {w = w} {ws = ws} {s = s} (Var j) h = sum_one d j (weigh ws (s.type_for j)) w n (λ i l e. h.weighs i j l e)
  fill_weighs {n = n} {d = d} {w = w} {ws = ws} {s = s} (Apply j ts) h =
      sum_where (takes_arguments n d j) (λ i. uses_types n d i ts) w n (weigh ws (apply_variable (s.head_for j) (fill_types s ts)))
      (λ takes. applied_weight ws (sum_of (λ i. uses_types n d i ts) w n) (s.head_for j) (fill_types s ts) (h.heads j (takes_other n d j takes)) (fill_types_weigh ts h))
  fill_weighs (Chan m t) h = omega (arith, fill_weighs t h)
  fill_weighs {n = n} {d = d} {w = w} (Fields bs ps ls) h =
      let k = d + count_bounds bs in
      omega (
        arith,
        sum_or (λ i. uses_bounds n d i bs) (λ i. uses_types n k i ps || uses_labels n k i ls) w n,
        sum_or (λ i. uses_types n k i ps) (λ i. uses_labels n k i ls) w n,
        fill_bounds_weigh bs h,
        fill_types_weigh ps (weighing_under bs k refl h),
        fill_labels_weigh ls (weighing_under bs k refl h),
      )
  fill_weighs (Rec t) h = omega (arith, fill_weighs t (weighing_beyond 1 h))

  fill_types_weigh : {n d : ℕ} {w : ℕ → ℕ} {ws : List ℕ} {s : Filling} (t : PlainTypes) → Weighing n d w ws s → sum_of (λ i. uses_types n d i t) w n ≤ weigh_types ws (fill_types s t)
  fill_types_weigh {n = n} {w = w} no_type h = nothing_used w n 0
  fill_types_weigh {n = n} {d = d} {w = w} (types t ts) h =
      omega (arith, sum_or (λ i. uses n d i t) (λ i. uses_types n d i ts) w n, fill_weighs t h, fill_types_weigh ts h)

  fill_labels_weigh : {n d : ℕ} {w : ℕ → ℕ} {ws : List ℕ} {s : Filling} (t : PlainLabels) → Weighing n d w ws s → sum_of (λ i. uses_labels n d i t) w n ≤ weigh_labels ws (fill_labels s t)
  fill_labels_weigh {n = n} {w = w} no_label h = nothing_used w n 0
  fill_labels_weigh {n = n} {d = d} {w = w} (labels l t ts) h =
      omega (arith, sum_or (λ i. uses n d i t) (λ i. uses_labels n d i ts) w n, fill_weighs t h, fill_labels_weigh ts h)

  fill_bounds_weigh : {n d : ℕ} {w : ℕ → ℕ} {ws : List ℕ} {s : Filling} (t : PlainBounds) → Weighing n d w ws s → sum_of (λ i. uses_bounds n d i t) w n ≤ weigh_bounds ws (fill_bounds s t)
  fill_bounds_weigh {n = n} {w = w} no_bound h = nothing_used w n 0
  fill_bounds_weigh {n = n} {d = d} {w = w} {ws = ws} {s = s} (bounds b bs) h =
      omega (arith, sum_or (λ i. uses_bound n d i b) (λ i. uses_bounds n (d + 1) i bs) w n, fill_bound_weighs b h, fill_bounds_weigh bs (weighing_beyond (weigh_variable ws (fill_bound s b)) h))

  fill_bound_weighs : {n d : ℕ} {w : ℕ → ℕ} {ws : List ℕ} {s : Filling} (b : PlainBound) → Weighing n d w ws s → sum_of (λ i. uses_bound n d i b) w n ≤ weigh_variable ws (fill_bound s b)
  fill_bound_weighs {n = n} {w = w} Free h = nothing_used w n 1
  fill_bound_weighs {ws = ws} {s = s} (Below t) h =
      let b = weigh_variable ws (bound_by (fill s t)) in
      omega (arith, fill_weighs t h, bound_weight ws (fill s t) b (omega arith))
  fill_bound_weighs {n = n} {w = w} (Operator k) h = nothing_used w n 1

-- the arguments in their places
args_none : (us : PlainTypes) (s : Filling) (k : ℕ) → ((j : ℕ) → j < k → s.head_for j ≡ None) → (j : ℕ) → j < k + count_types us → (with_types (count_types us) us s).head_for j ≡ None
args_none no_type s k f j l = f j (omega arith)
args_none (types u us) s k f j l = args_none us (with_type u s) (k + 1) go j (omega arith)
  where
    go : (j : ℕ) → j < k + 1 → (with_type u s).head_for j ≡ None
    go zero l = refl
    go (suc j) l = f j (omega arith)

args_heads : (us : PlainTypes) (s : Filling) (k : ℕ) → ((j : ℕ) → k ≤ j → is_head (s.head_for j) ≡ true) → (j : ℕ) → k + count_types us ≤ j → is_head ((with_types (count_types us) us s).head_for j) ≡ true
args_heads no_type s k f j l = f j (omega arith)
args_heads (types u us) s k f j l = args_heads us (with_type u s) (k + 1) go j (omega arith)
  where
    go : (j : ℕ) → k + 1 ≤ j → is_head ((with_type u s).head_for j) ≡ true
    go zero l = absurd (omega arith)
    go (suc j) l = f j (omega arith)

arg_at : (us : PlainTypes) (s : Filling) (j i : ℕ) → i ≡ j + count_types us → (with_types (count_types us) us s).type_for i ≡ s.type_for j
arg_at no_type s j i e = let h : i ≡ j = omega arith in ap s.type_for h
arg_at (types u us) s j i e = arg_at us (with_type u s) (suc j) i (omega arith)

same_heads : (used : List Bool) (us : PlainTypes) (s r : Filling) → ((j : ℕ) → s.head_for j ≡ r.head_for j) → (j : ℕ) → (with_types (count_types us) us s).head_for j ≡ (with_types (count_types us) (only_used used us) r).head_for j
same_heads used no_type s r f j = f j
same_heads used (types u us) s r f j = same_heads used us (with_type u s) (with_type (used_as (get_or used (count_types us) false) u) r) go j
  where
    go : (j : ℕ) → (with_type u s).head_for j ≡ (with_type (used_as (get_or used (count_types us) false) u) r).head_for j
    go zero = refl
    go (suc j) = f j

same_types : (used : List Bool) (us : PlainTypes) (s r : Filling) (P : ℕ → Type 0) → ((v : ℕ) → P v → v < count_types us → get_or used v false ≡ true) → ((j : ℕ) → P (j + count_types us) → s.type_for j ≡ r.type_for j) → (j : ℕ) → P j → (with_types (count_types us) us s).type_for j ≡ (with_types (count_types us) (only_used used us) r).type_for j
same_types used no_type s r P g f j p = let e : j ≡ j + 0 = omega arith in f j (subst P e p)
same_types used (types u us) s r P g f j p =
    same_types used us (with_type u s) (with_type (used_as (get_or used (count_types us) false) u) r) P (λ v q l. g v q (omega arith)) go j p
  where
    go : (j : ℕ) → P (j + count_types us) → (with_type u s).type_for j ≡ (with_type (used_as (get_or used (count_types us) false) u) r).type_for j
    go zero q =
        let n : 0 + count_types us ≡ count_types us = omega arith in
        let m : get_or used (count_types us) false ≡ true = g (count_types us) (subst P n q) (omega arith) in
        sym (ap (λ b. used_as b u) m)
    go (suc j) q = let e : suc j + count_types us ≡ j + suc (count_types us) = omega arith in f j (subst P e q)

-- the marks tell which parameters are used
abbrev pub AreTheUsed : List Bool → ℕ → PlainType → Type 0
AreTheUsed used n t = (i : ℕ) → i < n → get_or used i false ≡ uses n 0 i t

-- the body doesn't change where the other arguments are left out
pub only_used_same : (used : List Bool) (us : PlainTypes) (by : ℕ) (t : PlainType) → AreTheUsed used (count_types us) t → fill (put_for (only_used used us) by) t ≡ fill (put_for us by) t
only_used_same used us by t h =
    let n = count_types us in
    let P : ℕ → Type 0 = λ j. j < n → get_or used j false ≡ true in
    let same : SameUsed n 0 (λ i. uses n 0 i t) (with_types n us (moved_by by)) (with_types n (only_used used us) (moved_by by)) = record {
      types_ = λ j p. same_types used us (moved_by by) (moved_by by) P (λ v q l. q l) (λ k q. refl) j (λ l. h j l ∙ p j l (omega arith));
      heads_ = same_heads used us (moved_by by) (moved_by by) (λ k. refl);
      none = λ j p q. args_none us (moved_by by) 0 (λ k l. absurd (omega (arith, l))) j (omega arith);
    } in
    ap (λ k. fill (with_types k (only_used used us) (moved_by by)) t) (count_used used us) ∙ sym (fill_same t same)

sum_of_args : (ws : List ℕ) (used : List Bool) (us : PlainTypes) (s : Filling) → weight_used ws used us ≡ sum_of (λ i. get_or used i false) (λ i. weigh ws ((with_types (count_types us) us s).type_for i)) (count_types us)
sum_of_args ws used no_type s = refl
sum_of_args ws used (types u us) s =
    let n = count_types us in
    let at : weigh ws u ≡ weigh ws ((with_types n us (with_type u s)).type_for n) = sym (ap (weigh ws) (arg_at us (with_type u s) 0 n (omega arith))) in
    ap₂ (λ x y. counted (get_or used n false) x + y) at (sum_of_args ws used us (with_type u s))

-- the arguments that are used weigh no more together than the body with them
pub used_weigh : (ws : List ℕ) (used : List Bool) (us : PlainTypes) (by : ℕ) (t : PlainType) → AreTheUsed used (count_types us) t → weight_used ws used us ≤ weigh ws (fill (put_for us by) t)
used_weigh ws used us by t h =
    let n = count_types us in
    let s = put_for us by in
    let w : ℕ → ℕ = λ i. weigh ws (s.type_for i) in
    let all : Weighing n 0 w ws s = record {
      weighs = λ i j l e. let same : j ≡ i = omega (arith, e) in omega (arith, ap (λ y. weigh ws (s.type_for y)) same);
      heads = λ j p. args_heads us (moved_by by) 0 (λ k l. refl) j (far j n p);
    } in
    omega (arith, sum_of_args ws used us (moved_by by), sum_same (λ i. get_or used i false) (λ i. uses n 0 i t) w n h, fill_weighs t all)
  where
    far : (j n : ℕ) → (0 ≤ j → j < 0 + n → ⊥) → 0 + n ≤ j
    far j n p = go (nat_lt j n) refl
      where
        go : (b : Bool) → nat_lt j n ≡ b → 0 + n ≤ j
        go true e = absurd (p (omega arith) (omega (arith, ltb-true j n e)))
        go false e = omega (arith, ltb-false j n e)
