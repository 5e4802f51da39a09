-- A part that passes a limit is not in a type within the limits.
use Rattle.std.proofs.Common.{◌≡◌, ℕ, zero, suc, ◌≤◌, List, ◌∷◌, Option, Some, None, refl, ◌∙◌, ap, ap₂, arith}
use Rattle.pict_types.specs.Types.{PlainType, Top, Int, Char, Str, Boolean, Var, Apply, Chan, Fields, Rec, PlainTypes, no_type, types, PlainLabels, no_label, labels, PlainBound, Free, Below, Operator, PlainBounds, no_bound, bounds}
use Rattle.pict_types.specs.Renaming.{rename}
use Rattle.pict_types.specs.Replacing.{bound_by, Filling, next_variable, apply_variable, filling_beyond, filling_beyond_all, fill, fill_types, fill_labels, fill_bounds, fill_bound}
use Rattle.pict_types.specs.Measures.{weigh, weigh_types, weigh_labels, weigh_bounds, weigh_variable, weights_under, rise, rise_types, rise_labels, rise_bounds, rise_variable, heights_under}
use Rattle.pict_types.proofs.Renumbered.{weigh_renamed, rise_renamed}
use Rattle.pict_types.proofs.Congruent.{three}

-- a variable with the bound that a type makes measures no less than the type
pub bound_weight : (ws : List ℕ) (t : PlainType) (n : ℕ) → weigh_variable ws (bound_by t) ≤ n → weigh ws t ≤ n
bound_weight ws Top n h = h
bound_weight ws Int n h = omega arith
bound_weight ws Char n h = omega arith
bound_weight ws Str n h = omega arith
bound_weight ws Boolean n h = omega arith
bound_weight ws (Var i) n h = omega arith
bound_weight ws (Apply i ts) n h = omega arith
bound_weight ws (Chan m t) n h = omega arith
bound_weight ws (Fields bs ps ls) n h = omega arith
bound_weight ws (Rec t) n h = omega arith

bound_height : (ws : List ℕ) (t : PlainType) (n : ℕ) → rise_variable ws (bound_by t) ≤ n → rise ws t ≤ n
bound_height ws Top n h = h
bound_height ws Int n h = omega arith
bound_height ws Char n h = omega arith
bound_height ws Str n h = omega arith
bound_height ws Boolean n h = omega arith
bound_height ws (Var i) n h = omega arith
bound_height ws (Apply i ts) n h = omega arith
bound_height ws (Chan m t) n h = omega arith
bound_height ws (Fields bs ps ls) n h = omega arith
bound_height ws (Rec t) n h = omega arith

-- the two fillings put the same wherever the first puts what is within the limits w and h
pub record SameWithin (w h : ℕ) (ws hs : List ℕ) (s r : Filling) : Type 0 where
  pub types_ : (i : ℕ) → weigh ws (s.type_for i) ≤ w → rise hs (s.type_for i) ≤ h → s.type_for i ≡ r.type_for i
  pub heads_ : (i : ℕ) → s.head_for i ≡ r.head_for i

within_beyond : {w h : ℕ} {ws hs : List ℕ} {s r : Filling} (x y : ℕ) → SameWithin w h ws hs s r → SameWithin w h (x ∷ ws) (y ∷ hs) (filling_beyond s) (filling_beyond r)
within_beyond {w = w} {h = h} {ws = ws} {hs = hs} {s = s} {r = r} x y e = record { types_ = go; heads_ = go2 }
  where
    go : (i : ℕ) → weigh (x ∷ ws) ((filling_beyond s).type_for i) ≤ w → rise (y ∷ hs) ((filling_beyond s).type_for i) ≤ h → (filling_beyond s).type_for i ≡ (filling_beyond r).type_for i
    go zero p q = refl
    go (suc i) p q =
        let a : weigh (x ∷ ws) (rename suc (s.type_for i)) ≡ weigh ws (s.type_for i) = weigh_renamed (record { each = λ j. refl }) (s.type_for i) in
        let b : rise (y ∷ hs) (rename suc (s.type_for i)) ≡ rise hs (s.type_for i) = rise_renamed (record { each = λ j. refl }) (s.type_for i) in
        ap (rename suc) (e.types_ i (omega arith) (omega arith))

    go2 : (i : ℕ) → (filling_beyond s).head_for i ≡ (filling_beyond r).head_for i
    go2 zero = refl
    go2 (suc i) = ap next_variable (e.heads_ i)

within_under : (bs : PlainBounds) {w h : ℕ} {ws hs : List ℕ} {s r : Filling} → SameWithin w h ws hs s r → SameWithin w h (weights_under ws (fill_bounds s bs)) (heights_under hs (fill_bounds s bs)) (filling_beyond_all bs s) (filling_beyond_all bs r)
within_under no_bound e = e
within_under (bounds b bs) {ws = ws} {hs = hs} {s = s} e =
    within_under bs (within_beyond (weigh_variable ws (fill_bound s b)) (rise_variable hs (fill_bound s b)) e)

applied_within : (w h : ℕ) (ws hs : List ℕ) (o : Option ℕ) (us vs : PlainTypes) → (weigh_types ws us ≤ w → rise_types hs us ≤ h → us ≡ vs) → weigh ws (apply_variable o us) ≤ w → rise hs (apply_variable o us) ≤ h → apply_variable o us ≡ apply_variable o vs
applied_within w h ws hs None us vs k p q = refl
applied_within w h ws hs (Some i) us vs k p q = ap (Apply i) (k (omega arith) (omega arith))

mutual
  pub fill_within : {w h : ℕ} {ws hs : List ℕ} {s r : Filling} → SameWithin w h ws hs s r → (t : PlainType) → weigh ws (fill s t) ≤ w → rise hs (fill s t) ≤ h → fill s t ≡ fill r t
  fill_within e Top p q = refl
  fill_within e Int p q = refl
  fill_within e Char p q = refl
  fill_within e Str p q = refl
  fill_within e Boolean p q = refl
  fill_within e (Var i) p q = e.types_ i p q
  fill_within {w = w} {h = h} {ws = ws} {hs = hs} {s = s} {r = r} e (Apply i ts) p q =
      applied_within w h ws hs (s.head_for i) (fill_types s ts) (fill_types r ts) (λ a b. fill_types_within e ts a b) p q
      ∙ ap (λ o. apply_variable o (fill_types r ts)) (e.heads_ i)
  fill_within e (Chan m t) p q = ap (Chan m) (fill_within e t (omega arith) (omega arith))
  fill_within e (Fields bs ps ls) p q =
      three Fields (fill_bounds_within e bs (omega arith) (omega arith)) (fill_types_within (within_under bs e) ps (omega arith) (omega arith)) (fill_labels_within (within_under bs e) ls (omega arith) (omega arith))
  fill_within e (Rec t) p q = ap Rec (fill_within (within_beyond 1 1 e) t (omega arith) (omega arith))

  fill_types_within : {w h : ℕ} {ws hs : List ℕ} {s r : Filling} → SameWithin w h ws hs s r → (t : PlainTypes) → weigh_types ws (fill_types s t) ≤ w → rise_types hs (fill_types s t) ≤ h → fill_types s t ≡ fill_types r t
  fill_types_within e no_type p q = refl
  fill_types_within e (types t ts) p q = ap₂ types (fill_within e t (omega arith) (omega arith)) (fill_types_within e ts (omega arith) (omega arith))

  fill_labels_within : {w h : ℕ} {ws hs : List ℕ} {s r : Filling} → SameWithin w h ws hs s r → (t : PlainLabels) → weigh_labels ws (fill_labels s t) ≤ w → rise_labels hs (fill_labels s t) ≤ h → fill_labels s t ≡ fill_labels r t
  fill_labels_within e no_label p q = refl
  fill_labels_within e (labels l t ts) p q = ap₂ (labels l) (fill_within e t (omega arith) (omega arith)) (fill_labels_within e ts (omega arith) (omega arith))

  fill_bounds_within : {w h : ℕ} {ws hs : List ℕ} {s r : Filling} → SameWithin w h ws hs s r → (t : PlainBounds) → weigh_bounds ws (fill_bounds s t) ≤ w → rise_bounds hs (fill_bounds s t) ≤ h → fill_bounds s t ≡ fill_bounds r t
  fill_bounds_within e no_bound p q = refl
  fill_bounds_within {ws = ws} {hs = hs} {s = s} e (bounds b bs) p q =
      ap₂ bounds (fill_bound_within e b (omega arith) (omega arith)) (fill_bounds_within (within_beyond (weigh_variable ws (fill_bound s b)) (rise_variable hs (fill_bound s b)) e) bs (omega arith) (omega arith))

  fill_bound_within : {w h : ℕ} {ws hs : List ℕ} {s r : Filling} → SameWithin w h ws hs s r → (b : PlainBound) → weigh_variable ws (fill_bound s b) ≤ w → rise_variable hs (fill_bound s b) ≤ h → fill_bound s b ≡ fill_bound r b
  fill_bound_within e Free p q = refl
  fill_bound_within {w = w} {h = h} {ws = ws} {hs = hs} {s = s} e (Below t) p q =
      ap bound_by (fill_within e t (bound_weight ws (fill s t) w p) (bound_height hs (fill s t) h q))
  fill_bound_within e (Operator n) p q = refl
