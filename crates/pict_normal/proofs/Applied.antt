-- The body of an operator with its arguments measures what it does with their measures, and is the same where arguments
-- that are too high are left out.
use Rattle.pict_syntax.specs.declared.limits.TheConstants.{HEIGHT_LIMIT, WEIGHT_LIMIT}
use Rattle.std.proofs.Common.{◌≡◌, ℕ, zero, suc, ◌+◌, ◌≤◌, List, [], ◌∷◌, ◌++◌, length, reverse, Bool, refl, sym, ◌∙◌, ap, subst, arith, append_assoc}
use Rattle.std.specs.Prelude.{if◌then◌else◌}
use Rattle.std.proofs.lemmas.Bool.{le-ltb}
use Rattle.std.proofs.lemmas.List.{reverse-append}
use Rattle.pict_types.specs.Types.{PlainType, Top, Int, Char, Str, Boolean, Var, Apply, Chan, Fields, Rec, PlainTypes, no_type, types, count_types}
use Rattle.pict_types.specs.Replacing.{Filling, fill, with_type, with_types}
use Rattle.pict_types.specs.Filling.{moved_by, put_for}
use Rattle.pict_types.specs.Measures.{held, measure_at, weigh, rise}
use Rattle.pict_types.specs.Types.{is_top}
use Rattle.pict_normal.specs.Made.{kept_as, kept_of, built_as, built_of, weigh_each, rise_each, only_used}
use Rattle.pict_types.proofs.Held.{Alike, alike, HeldAlike, alike_more, weigh_held, rise_held}
use Rattle.pict_types.proofs.MeasuredAlike.{TopsAlike, WeighAlike, RiseAlike, is_head, weigh_filled, rise_filled}
use Rattle.pict_types.proofs.Within.{SameWithin, fill_within}

pub count_kept : (us : PlainTypes) → count_types (kept_of us) ≡ count_types us
count_kept no_type = refl
count_kept (types u us) = ap suc (count_kept us)

pub count_built : (hs : List ℕ) (us : PlainTypes) → count_types (built_of hs us) ≡ count_types us
count_built hs no_type = refl
count_built hs (types u us) = ap suc (count_built hs us)

pub count_used : (used : List Bool) (us : PlainTypes) → count_types (only_used used us) ≡ count_types us
count_used used no_type = refl
count_used used (types u us) = ap suc (count_used used us)

pub weigh_each_length : (ws : List ℕ) (us : PlainTypes) → length (weigh_each ws us) ≡ count_types us
weigh_each_length ws no_type = refl
weigh_each_length ws (types u us) = ap suc (weigh_each_length ws us)

-- the measures of the arguments, the innermost first, before others
abbrev weights_with : List ℕ → PlainTypes → List ℕ → List ℕ
weights_with ws no_type vs = vs
weights_with ws (types u us) vs = weights_with ws us (weigh ws u ∷ vs)

abbrev heights_with : List ℕ → PlainTypes → List ℕ → List ℕ
heights_with hs no_type vs = vs
heights_with hs (types u us) vs = heights_with hs us (rise hs u ∷ vs)

turned : (x : ℕ) (xs vs : List ℕ) → reverse (x ∷ xs) ++ vs ≡ reverse xs ++ x ∷ vs
turned x xs vs = ap (λ y. y ++ vs) (reverse-append (x ∷ []) xs) ∙ append_assoc (reverse xs) (x ∷ []) vs

held_twice : (n : ℕ) → Alike (held n) n
held_twice n = record { same = omega arith }

weights_alike : (ws : List ℕ) (us : PlainTypes) (vs xs : List ℕ) → HeldAlike vs xs → HeldAlike (reverse (weigh_each ws us) ++ vs) (weights_with ws us xs)
weights_alike ws no_type vs xs h = h
weights_alike ws (types u us) vs xs h =
    subst (λ y. HeldAlike y (weights_with ws us (weigh ws u ∷ xs))) (sym (turned (weigh ws u) (weigh_each ws us) vs))
    (weights_alike ws us (weigh ws u ∷ vs) (weigh ws u ∷ xs) (alike_more alike h))

heights_alike : (hs : List ℕ) (us : PlainTypes) (vs xs : List ℕ) → HeldAlike vs xs → HeldAlike (reverse (rise_each hs us) ++ vs) (heights_with hs us xs)
heights_alike hs no_type vs xs h = h
heights_alike hs (types u us) vs xs h =
    subst (λ y. HeldAlike y (heights_with hs us (rise hs u ∷ xs))) (sym (turned (held (rise hs u)) (rise_each hs us) vs))
    (heights_alike hs us (held (rise hs u) ∷ vs) (rise hs u ∷ xs) (alike_more (held_twice (rise hs u)) h))

weight_behind : (ws : List ℕ) (us : PlainTypes) (vs : List ℕ) (i j : ℕ) → j ≡ i + count_types us → measure_at (weights_with ws us vs) j ≡ measure_at vs i
weight_behind ws no_type vs i j e = let h : j ≡ i = omega arith in ap (measure_at vs) h
weight_behind ws (types u us) vs i j e = weight_behind ws us (weigh ws u ∷ vs) (suc i) j (omega arith)

height_behind : (hs : List ℕ) (us : PlainTypes) (vs : List ℕ) (i j : ℕ) → j ≡ i + count_types us → measure_at (heights_with hs us vs) j ≡ measure_at vs i
height_behind hs no_type vs i j e = let h : j ≡ i = omega arith in ap (measure_at vs) h
height_behind hs (types u us) vs i j e = height_behind hs us (rise hs u ∷ vs) (suc i) j (omega arith)

-- what stays of an argument is Top where the argument is, and measures as much
top_kept : (u : PlainType) (n : ℕ) → is_top u ≡ is_top (kept_as u n)
top_kept Top n = refl
top_kept Int n = refl
top_kept Char n = refl
top_kept Str n = refl
top_kept Boolean n = refl
top_kept (Var i) n = refl
top_kept (Apply i ts) n = refl
top_kept (Chan m t) n = refl
top_kept (Fields bs ps ls) n = refl
top_kept (Rec t) n = refl

weight_kept : (ws vs : List ℕ) (u : PlainType) (n : ℕ) → measure_at vs n ≡ weigh ws u → weigh ws u ≡ weigh vs (kept_as u n)
weight_kept ws vs Top n h = refl
weight_kept ws vs Int n h = sym h
weight_kept ws vs Char n h = sym h
weight_kept ws vs Str n h = sym h
weight_kept ws vs Boolean n h = sym h
weight_kept ws vs (Var i) n h = sym h
weight_kept ws vs (Apply i ts) n h = sym h
weight_kept ws vs (Chan m t) n h = sym h
weight_kept ws vs (Fields bs ps ls) n h = sym h
weight_kept ws vs (Rec t) n h = sym h

height_kept : (hs vs : List ℕ) (u : PlainType) (n : ℕ) → measure_at vs n ≡ rise hs u → rise hs u ≡ rise vs (kept_as u n)
height_kept hs vs Top n h = refl
height_kept hs vs Int n h = sym h
height_kept hs vs Char n h = sym h
height_kept hs vs Str n h = sym h
height_kept hs vs Boolean n h = sym h
height_kept hs vs (Var i) n h = sym h
height_kept hs vs (Apply i ts) n h = sym h
height_kept hs vs (Chan m t) n h = sym h
height_kept hs vs (Fields bs ps ls) n h = sym h
height_kept hs vs (Rec t) n h = sym h

tops_with : {s r : Filling} (t u : PlainType) → is_top t ≡ is_top u → TopsAlike s r → TopsAlike (with_type t s) (with_type u r)
tops_with {s = s} {r = r} t u e h = record { tops = go; heads = go2 }
  where
    go : (i : ℕ) → is_top ((with_type t s).type_for i) ≡ is_top ((with_type u r).type_for i)
    go zero = e
    go (suc i) = h.tops i

    go2 : (i : ℕ) → is_head ((with_type t s).head_for i) ≡ is_head ((with_type u r).head_for i)
    go2 zero = refl
    go2 (suc i) = h.heads i

weigh_with : {vs ws : List ℕ} {s r : Filling} (t u : PlainType) → is_top t ≡ is_top u → weigh vs t ≡ weigh ws u → WeighAlike vs ws s r → WeighAlike vs ws (with_type t s) (with_type u r)
weigh_with {vs = vs} {ws = ws} {s = s} {r = r} t u e k h = record { weights = go; alike = tops_with t u e h.alike }
  where
    go : (i : ℕ) → weigh vs ((with_type t s).type_for i) ≡ weigh ws ((with_type u r).type_for i)
    go zero = k
    go (suc i) = h.weights i

rise_with : {vs ws : List ℕ} {s r : Filling} (t u : PlainType) → is_top t ≡ is_top u → rise vs t ≡ rise ws u → RiseAlike vs ws s r → RiseAlike vs ws (with_type t s) (with_type u r)
rise_with {vs = vs} {ws = ws} {s = s} {r = r} t u e k h = record { heights = go; alike = tops_with t u e h.alike }
  where
    go : (i : ℕ) → rise vs ((with_type t s).type_for i) ≡ rise ws ((with_type u r).type_for i)
    go zero = k
    go (suc i) = h.heights i

weigh_args : (ws vs : List ℕ) (us : PlainTypes) {s r : Filling} → WeighAlike ws (weights_with ws us vs) s r → WeighAlike ws (weights_with ws us vs) (with_types (count_types us) us s) (with_types (count_types us) (kept_of us) r)
weigh_args ws vs no_type h = h
weigh_args ws vs (types u us) h =
    let all = weights_with ws us (weigh ws u ∷ vs) in
    let k = weight_kept ws all u (count_types us) (weight_behind ws us (weigh ws u ∷ vs) 0 (count_types us) (omega arith)) in
    weigh_args ws (weigh ws u ∷ vs) us (weigh_with u (kept_as u (count_types us)) (top_kept u (count_types us)) k h)

rise_args : (hs vs : List ℕ) (us : PlainTypes) {s r : Filling} → RiseAlike hs (heights_with hs us vs) s r → RiseAlike hs (heights_with hs us vs) (with_types (count_types us) us s) (with_types (count_types us) (kept_of us) r)
rise_args hs vs no_type h = h
rise_args hs vs (types u us) h =
    let all = heights_with hs us (rise hs u ∷ vs) in
    let k = height_kept hs all u (count_types us) (height_behind hs us (rise hs u ∷ vs) 0 (count_types us) (omega arith)) in
    rise_args hs (rise hs u ∷ vs) us (rise_with u (kept_as u (count_types us)) (top_kept u (count_types us)) k h)

-- the outer variables, by more binders behind in ws than the parameters
pub record Behind (ws vs : List ℕ) (by : ℕ) : Type 0 where
  pub each : (i : ℕ) → measure_at ws (i + by) ≡ measure_at vs i

pub body_weighs : (ws vs : List ℕ) (by : ℕ) (us : PlainTypes) (t : PlainType) → Behind ws vs by → held (weigh (reverse (weigh_each ws us) ++ vs) (fill (put_for (kept_of us) (count_types us)) t)) ≡ held (weigh ws (fill (put_for us by) t))
body_weighs ws vs by us t h =
    let same : HeldAlike vs vs = record { each = λ i. alike } in
    let first = (weigh_held (weights_alike ws us vs vs same) (fill (put_for (kept_of us) (count_types us)) t)).same in
    let n = count_kept us in
    let base : WeighAlike ws (weights_with ws us vs) (moved_by by) (moved_by (count_types us)) = record { weights = λ i. h.each i ∙ sym (weight_behind ws us vs i (i + count_types us) refl); alike = record { tops = λ i. refl; heads = λ i. refl } } in
    let all = weigh_filled (weigh_args ws vs us base) t in
    first
    ∙ ap (λ k. held (weigh (weights_with ws us vs) (fill (with_types k (kept_of us) (moved_by (count_types us))) t))) n
    ∙ ap held (sym all)

pub body_rises : (hs vs : List ℕ) (by : ℕ) (us : PlainTypes) (t : PlainType) → Behind hs vs by → held (rise (reverse (rise_each hs us) ++ vs) (fill (put_for (kept_of us) (count_types us)) t)) ≡ held (rise hs (fill (put_for us by) t))
body_rises hs vs by us t h =
    let same : HeldAlike vs vs = record { each = λ i. alike } in
    let first = (rise_held (heights_alike hs us vs vs same) (fill (put_for (kept_of us) (count_types us)) t)).same in
    let n = count_kept us in
    let base : RiseAlike hs (heights_with hs us vs) (moved_by by) (moved_by (count_types us)) = record { heights = λ i. h.each i ∙ sym (height_behind hs us vs i (i + count_types us) refl); alike = record { tops = λ i. refl; heads = λ i. refl } } in
    let all = rise_filled (rise_args hs vs us base) t in
    first
    ∙ ap (λ k. held (rise (heights_with hs us vs) (fill (with_types k (kept_of us) (moved_by (count_types us))) t))) n
    ∙ ap held (sym all)

-- an argument that is not too high is not left out
built_within : (hs : List ℕ) (u : PlainType) → rise hs u ≤ HEIGHT_LIMIT → u ≡ built_as hs u
built_within hs u q = sym (ap (λ x. if x then Top else u) (le-ltb HEIGHT_LIMIT (rise hs u) q))

within_with : {ws hs : List ℕ} {s r : Filling} (u : PlainType) → SameWithin WEIGHT_LIMIT HEIGHT_LIMIT ws hs s r → SameWithin WEIGHT_LIMIT HEIGHT_LIMIT ws hs (with_type u s) (with_type (built_as hs u) r)
within_with {ws = ws} {hs = hs} {s = s} {r = r} u h = record { types_ = go; heads_ = go2 }
  where
    go : (i : ℕ) → weigh ws ((with_type u s).type_for i) ≤ WEIGHT_LIMIT → rise hs ((with_type u s).type_for i) ≤ HEIGHT_LIMIT → (with_type u s).type_for i ≡ (with_type (built_as hs u) r).type_for i
    go zero p q = built_within hs u q
    go (suc i) p q = h.types_ i p q

    go2 : (i : ℕ) → (with_type u s).head_for i ≡ (with_type (built_as hs u) r).head_for i
    go2 zero = refl
    go2 (suc i) = h.heads_ i

within_args : (ws hs : List ℕ) (us : PlainTypes) {s r : Filling} → SameWithin WEIGHT_LIMIT HEIGHT_LIMIT ws hs s r → SameWithin WEIGHT_LIMIT HEIGHT_LIMIT ws hs (with_types (count_types us) us s) (with_types (count_types us) (built_of hs us) r)
within_args ws hs no_type h = h
within_args ws hs (types u us) h = within_args ws hs us (within_with u h)

pub body_built : (ws hs : List ℕ) (by : ℕ) (us : PlainTypes) (t : PlainType) → weigh ws (fill (put_for us by) t) ≤ WEIGHT_LIMIT → rise hs (fill (put_for us by) t) ≤ HEIGHT_LIMIT → fill (put_for us by) t ≡ fill (put_for (built_of hs us) by) t
body_built ws hs by us t p q =
    let base : SameWithin WEIGHT_LIMIT HEIGHT_LIMIT ws hs (moved_by by) (moved_by by) = record { types_ = λ i x y. refl; heads_ = λ i. refl } in
    fill_within (within_args ws hs us base) t p q
    ∙ ap (λ k. fill (with_types k (built_of hs us) (moved_by by)) t) (sym (count_built hs us))
