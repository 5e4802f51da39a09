-- Renumbering variables keeps measures.
use Rattle.std.proofs.Common.{◌≡◌, ℕ, zero, suc, ◌+◌, max, List, ◌∷◌, refl, ap, ap₂}
use Rattle.pict_types.specs.Types.{PlainType, Top, Int, Char, Str, Boolean, Var, Apply, Chan, Fields, Rec, PlainTypes, no_type, types, PlainLabels, no_label, labels, PlainBound, Free, Below, Operator, PlainBounds, no_bound, bounds}
use Rattle.pict_types.specs.Renaming.{beyond, beyond_all, rename, rename_types, rename_labels, rename_bounds, rename_bound}
use Rattle.pict_types.specs.Measures.{measure_at, weigh, weigh_types, weigh_labels, weigh_bounds, weigh_variable, weights_under, rise, rise_types, rise_labels, rise_bounds, rise_variable, heights_under}
use Rattle.pict_types.proofs.Congruent.{sum3, max3}

-- the measures vs, read through f, are ws
pub record Reads (f : ℕ → ℕ) (vs ws : List ℕ) : Type 0 where
  pub each : (i : ℕ) → measure_at vs (f i) ≡ measure_at ws i

pub reads_beyond : {f : ℕ → ℕ} {x y : ℕ} {vs ws : List ℕ} → x ≡ y → Reads f vs ws → Reads (beyond f) (x ∷ vs) (y ∷ ws)
reads_beyond {f = f} {x = x} {y = y} {vs = vs} {ws = ws} e h = record { each = go }
  where
    go : (i : ℕ) → measure_at (x ∷ vs) (beyond f i) ≡ measure_at (y ∷ ws) i
    go zero = e
    go (suc i) = h.each i

mutual
  pub weigh_renamed : {f : ℕ → ℕ} {vs ws : List ℕ} → Reads f vs ws → (t : PlainType) → weigh vs (rename f t) ≡ weigh ws t
  weigh_renamed h Top = refl
  weigh_renamed h Int = refl
  weigh_renamed h Char = refl
  weigh_renamed h Str = refl
  weigh_renamed h Boolean = refl
  weigh_renamed h (Var i) = h.each i
  weigh_renamed h (Apply i ts) = ap suc (weigh_types_renamed h ts)
  weigh_renamed h (Chan m t) = ap suc (weigh_renamed h t)
  weigh_renamed h (Fields bs ps ls) =
      sum3 (weigh_bounds_renamed h bs) (weigh_types_renamed (weights_under_renamed h bs) ps) (weigh_labels_renamed (weights_under_renamed h bs) ls)
  weigh_renamed h (Rec t) = ap suc (weigh_renamed (reads_beyond refl h) t)

  weigh_types_renamed : {f : ℕ → ℕ} {vs ws : List ℕ} → Reads f vs ws → (t : PlainTypes) → weigh_types vs (rename_types f t) ≡ weigh_types ws t
  weigh_types_renamed h no_type = refl
  weigh_types_renamed h (types t ts) = ap₂ (λ x y. x + y) (weigh_renamed h t) (weigh_types_renamed h ts)

  weigh_labels_renamed : {f : ℕ → ℕ} {vs ws : List ℕ} → Reads f vs ws → (t : PlainLabels) → weigh_labels vs (rename_labels f t) ≡ weigh_labels ws t
  weigh_labels_renamed h no_label = refl
  weigh_labels_renamed h (labels l t ts) = ap₂ (λ x y. x + y) (weigh_renamed h t) (weigh_labels_renamed h ts)

  weigh_bounds_renamed : {f : ℕ → ℕ} {vs ws : List ℕ} → Reads f vs ws → (t : PlainBounds) → weigh_bounds vs (rename_bounds f t) ≡ weigh_bounds ws t
  weigh_bounds_renamed h no_bound = refl
  weigh_bounds_renamed h (bounds b bs) =
      ap₂ (λ x y. x + y) (weigh_variable_renamed h b) (weigh_bounds_renamed (reads_beyond (weigh_variable_renamed h b) h) bs)

  weights_under_renamed : {f : ℕ → ℕ} {vs ws : List ℕ} → Reads f vs ws → (t : PlainBounds) → Reads (beyond_all t f) (weights_under vs (rename_bounds f t)) (weights_under ws t)
  weights_under_renamed h no_bound = h
  weights_under_renamed h (bounds b bs) = weights_under_renamed (reads_beyond (weigh_variable_renamed h b) h) bs

  pub weigh_variable_renamed : {f : ℕ → ℕ} {vs ws : List ℕ} → Reads f vs ws → (b : PlainBound) → weigh_variable vs (rename_bound f b) ≡ weigh_variable ws b
  weigh_variable_renamed h Free = refl
  weigh_variable_renamed h (Below t) = ap suc (weigh_renamed h t)
  weigh_variable_renamed h (Operator n) = refl

mutual
  pub rise_renamed : {f : ℕ → ℕ} {vs ws : List ℕ} → Reads f vs ws → (t : PlainType) → rise vs (rename f t) ≡ rise ws t
  rise_renamed h Top = refl
  rise_renamed h Int = refl
  rise_renamed h Char = refl
  rise_renamed h Str = refl
  rise_renamed h Boolean = refl
  rise_renamed h (Var i) = h.each i
  rise_renamed h (Apply i ts) = ap suc (rise_types_renamed h ts)
  rise_renamed h (Chan m t) = ap suc (rise_renamed h t)
  rise_renamed h (Fields bs ps ls) =
      max3 (rise_bounds_renamed h bs) (rise_types_renamed (heights_under_renamed h bs) ps) (rise_labels_renamed (heights_under_renamed h bs) ls)
  rise_renamed h (Rec t) = ap suc (rise_renamed (reads_beyond refl h) t)

  rise_types_renamed : {f : ℕ → ℕ} {vs ws : List ℕ} → Reads f vs ws → (t : PlainTypes) → rise_types vs (rename_types f t) ≡ rise_types ws t
  rise_types_renamed h no_type = refl
  rise_types_renamed h (types t ts) = ap₂ (λ x y. max x y) (rise_renamed h t) (rise_types_renamed h ts)

  rise_labels_renamed : {f : ℕ → ℕ} {vs ws : List ℕ} → Reads f vs ws → (t : PlainLabels) → rise_labels vs (rename_labels f t) ≡ rise_labels ws t
  rise_labels_renamed h no_label = refl
  rise_labels_renamed h (labels l t ts) = ap₂ (λ x y. max x y) (rise_renamed h t) (rise_labels_renamed h ts)

  rise_bounds_renamed : {f : ℕ → ℕ} {vs ws : List ℕ} → Reads f vs ws → (t : PlainBounds) → rise_bounds vs (rename_bounds f t) ≡ rise_bounds ws t
  rise_bounds_renamed h no_bound = refl
  rise_bounds_renamed h (bounds b bs) =
      ap₂ (λ x y. max x y) (rise_variable_renamed h b) (rise_bounds_renamed (reads_beyond (rise_variable_renamed h b) h) bs)

  heights_under_renamed : {f : ℕ → ℕ} {vs ws : List ℕ} → Reads f vs ws → (t : PlainBounds) → Reads (beyond_all t f) (heights_under vs (rename_bounds f t)) (heights_under ws t)
  heights_under_renamed h no_bound = h
  heights_under_renamed h (bounds b bs) = heights_under_renamed (reads_beyond (rise_variable_renamed h b) h) bs

  rise_variable_renamed : {f : ℕ → ℕ} {vs ws : List ℕ} → Reads f vs ws → (b : PlainBound) → rise_variable vs (rename_bound f b) ≡ rise_variable ws b
  rise_variable_renamed h Free = refl
  rise_variable_renamed h (Below t) = ap suc (rise_renamed h t)
  rise_variable_renamed h (Operator n) = refl
