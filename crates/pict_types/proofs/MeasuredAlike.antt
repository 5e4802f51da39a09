-- Types filled with what measures alike, and is Top where the other is, measure alike.
use Rattle.std.proofs.Common.{◌≡◌, ℕ, zero, suc, ◌+◌, max, List, ◌∷◌, Bool, true, false, Option, Some, None, refl, sym, ◌∙◌, ap, ap₂}
use Rattle.std.specs.Prelude.{if◌then◌else◌}
use Rattle.pict_types.specs.Types.{PlainType, Top, Int, Char, Str, Boolean, Var, Apply, Chan, Fields, Rec, PlainTypes, no_type, types, PlainLabels, no_label, labels, PlainBound, Free, Below, Operator, PlainBounds, no_bound, bounds}
use Rattle.pict_types.specs.Replacing.{bound_by, Filling, next_variable, apply_variable, filling_beyond, filling_beyond_all, fill, fill_types, fill_labels, fill_bounds, fill_bound}
use Rattle.pict_types.specs.Measures.{weigh, weigh_types, weigh_labels, weigh_bounds, weigh_variable, weights_under, rise, rise_types, rise_labels, rise_bounds, rise_variable, heights_under}
use Rattle.pict_types.specs.Types.{is_top}
use Rattle.pict_types.proofs.Renumbered.{weigh_renamed, rise_renamed}
use Rattle.pict_types.proofs.Congruent.{sum3, max3}
use Rattle.pict_types.proofs.Renamed.{top_renamed}

abbrev pub is_head : Option ℕ → Bool
is_head None = false
is_head (Some i) = true

head_further : (o : Option ℕ) → is_head (next_variable o) ≡ is_head o
head_further None = refl
head_further (Some i) = refl

-- a variable with the bound that a type makes
weigh_bound_by : (ws : List ℕ) (t : PlainType) → weigh_variable ws (bound_by t) ≡ (if is_top t then 1 else suc (weigh ws t))
weigh_bound_by ws Top = refl
weigh_bound_by ws Int = refl
weigh_bound_by ws Char = refl
weigh_bound_by ws Str = refl
weigh_bound_by ws Boolean = refl
weigh_bound_by ws (Var i) = refl
weigh_bound_by ws (Apply i ts) = refl
weigh_bound_by ws (Chan m t) = refl
weigh_bound_by ws (Fields bs ps ls) = refl
weigh_bound_by ws (Rec t) = refl

rise_bound_by : (ws : List ℕ) (t : PlainType) → rise_variable ws (bound_by t) ≡ (if is_top t then 1 else suc (rise ws t))
rise_bound_by ws Top = refl
rise_bound_by ws Int = refl
rise_bound_by ws Char = refl
rise_bound_by ws Str = refl
rise_bound_by ws Boolean = refl
rise_bound_by ws (Var i) = refl
rise_bound_by ws (Apply i ts) = refl
rise_bound_by ws (Chan m t) = refl
rise_bound_by ws (Fields bs ps ls) = refl
rise_bound_by ws (Rec t) = refl

-- in both fillings the same variables become Top, and the same operator variables stay
pub record TopsAlike (s r : Filling) : Type 0 where
  pub tops : (i : ℕ) → is_top (s.type_for i) ≡ is_top (r.type_for i)
  pub heads : (i : ℕ) → is_head (s.head_for i) ≡ is_head (r.head_for i)

tops_beyond : {s r : Filling} → TopsAlike s r → TopsAlike (filling_beyond s) (filling_beyond r)
tops_beyond {s = s} {r = r} h = record { tops = go; heads = go2 }
  where
    go : (i : ℕ) → is_top ((filling_beyond s).type_for i) ≡ is_top ((filling_beyond r).type_for i)
    go zero = refl
    go (suc i) = top_renamed suc (s.type_for i) ∙ h.tops i ∙ sym (top_renamed suc (r.type_for i))

    go2 : (i : ℕ) → is_head ((filling_beyond s).head_for i) ≡ is_head ((filling_beyond r).head_for i)
    go2 zero = refl
    go2 (suc i) = head_further (s.head_for i) ∙ h.heads i ∙ sym (head_further (r.head_for i))

top_applied : (o : Option ℕ) (us : PlainTypes) → is_top (apply_variable o us) ≡ (if is_head o then false else true)
top_applied None us = refl
top_applied (Some i) us = refl

pub top_filled : {s r : Filling} → TopsAlike s r → (t : PlainType) → is_top (fill s t) ≡ is_top (fill r t)
top_filled h Top = refl
top_filled h Int = refl
top_filled h Char = refl
top_filled h Str = refl
top_filled h Boolean = refl
top_filled h (Var i) = h.tops i
top_filled {s = s} {r = r} h (Apply i ts) =
    top_applied (s.head_for i) (fill_types s ts) ∙ ap (λ b. if b then false else true) (h.heads i) ∙ sym (top_applied (r.head_for i) (fill_types r ts))
top_filled h (Chan m t) = refl
top_filled h (Fields bs ps ls) = refl
top_filled h (Rec t) = refl

-- and variables become types that weigh alike
pub record WeighAlike (vs ws : List ℕ) (s r : Filling) : Type 0 where
  pub weights : (i : ℕ) → weigh vs (s.type_for i) ≡ weigh ws (r.type_for i)
  pub alike : TopsAlike s r

weigh_beyond : {x y : ℕ} {vs ws : List ℕ} {s r : Filling} → x ≡ y → WeighAlike vs ws s r → WeighAlike (x ∷ vs) (y ∷ ws) (filling_beyond s) (filling_beyond r)
weigh_beyond {x = x} {y = y} {vs = vs} {ws = ws} {s = s} {r = r} e h = record { weights = go; alike = tops_beyond h.alike }
  where
    go : (i : ℕ) → weigh (x ∷ vs) ((filling_beyond s).type_for i) ≡ weigh (y ∷ ws) ((filling_beyond r).type_for i)
    go zero = e
    go (suc i) =
        weigh_renamed (record { each = λ j. refl }) (s.type_for i) ∙ h.weights i ∙ sym (weigh_renamed (record { each = λ j. refl }) (r.type_for i))

weigh_applied : (ws : List ℕ) (o : Option ℕ) (us : PlainTypes) → weigh ws (apply_variable o us) ≡ (if is_head o then suc (weigh_types ws us) else 1)
weigh_applied ws None us = refl
weigh_applied ws (Some i) us = refl

mutual
  pub weigh_filled : {vs ws : List ℕ} {s r : Filling} → WeighAlike vs ws s r → (t : PlainType) → weigh vs (fill s t) ≡ weigh ws (fill r t)
  weigh_filled h Top = refl
  weigh_filled h Int = refl
  weigh_filled h Char = refl
  weigh_filled h Str = refl
  weigh_filled h Boolean = refl
  weigh_filled h (Var i) = h.weights i
  weigh_filled {vs = vs} {ws = ws} {s = s} {r = r} h (Apply i ts) =
      weigh_applied vs (s.head_for i) (fill_types s ts)
      ∙ ap₂ (λ b n. if b then suc n else 1) (h.alike.heads i) (weigh_types_filled h ts)
      ∙ sym (weigh_applied ws (r.head_for i) (fill_types r ts))
  weigh_filled h (Chan m t) = ap suc (weigh_filled h t)
  weigh_filled h (Fields bs ps ls) =
      sum3 (weigh_bounds_filled h bs) (weigh_types_filled (weigh_under h bs) ps) (weigh_labels_filled (weigh_under h bs) ls)
  weigh_filled h (Rec t) = ap suc (weigh_filled (weigh_beyond refl h) t)

  weigh_types_filled : {vs ws : List ℕ} {s r : Filling} → WeighAlike vs ws s r → (t : PlainTypes) → weigh_types vs (fill_types s t) ≡ weigh_types ws (fill_types r t)
  weigh_types_filled h no_type = refl
  weigh_types_filled h (types t ts) = ap₂ (λ x y. x + y) (weigh_filled h t) (weigh_types_filled h ts)

  weigh_labels_filled : {vs ws : List ℕ} {s r : Filling} → WeighAlike vs ws s r → (t : PlainLabels) → weigh_labels vs (fill_labels s t) ≡ weigh_labels ws (fill_labels r t)
  weigh_labels_filled h no_label = refl
  weigh_labels_filled h (labels l t ts) = ap₂ (λ x y. x + y) (weigh_filled h t) (weigh_labels_filled h ts)

  weigh_bounds_filled : {vs ws : List ℕ} {s r : Filling} → WeighAlike vs ws s r → (t : PlainBounds) → weigh_bounds vs (fill_bounds s t) ≡ weigh_bounds ws (fill_bounds r t)
  weigh_bounds_filled h no_bound = refl
  weigh_bounds_filled h (bounds b bs) =
      ap₂ (λ x y. x + y) (weigh_variable_filled h b) (weigh_bounds_filled (weigh_beyond (weigh_variable_filled h b) h) bs)

  weigh_under : {vs ws : List ℕ} {s r : Filling} → WeighAlike vs ws s r → (t : PlainBounds) → WeighAlike (weights_under vs (fill_bounds s t)) (weights_under ws (fill_bounds r t)) (filling_beyond_all t s) (filling_beyond_all t r)
  weigh_under h no_bound = h
  weigh_under h (bounds b bs) = weigh_under (weigh_beyond (weigh_variable_filled h b) h) bs

  weigh_variable_filled : {vs ws : List ℕ} {s r : Filling} → WeighAlike vs ws s r → (b : PlainBound) → weigh_variable vs (fill_bound s b) ≡ weigh_variable ws (fill_bound r b)
  weigh_variable_filled h Free = refl
  weigh_variable_filled {vs = vs} {ws = ws} {s = s} {r = r} h (Below t) =
      weigh_bound_by vs (fill s t)
      ∙ ap₂ (λ b n. if b then 1 else suc n) (top_filled h.alike t) (weigh_filled h t)
      ∙ sym (weigh_bound_by ws (fill r t))
  weigh_variable_filled h (Operator n) = refl

-- and types that are as high
pub record RiseAlike (vs ws : List ℕ) (s r : Filling) : Type 0 where
  pub heights : (i : ℕ) → rise vs (s.type_for i) ≡ rise ws (r.type_for i)
  pub alike : TopsAlike s r

rise_beyond : {x y : ℕ} {vs ws : List ℕ} {s r : Filling} → x ≡ y → RiseAlike vs ws s r → RiseAlike (x ∷ vs) (y ∷ ws) (filling_beyond s) (filling_beyond r)
rise_beyond {x = x} {y = y} {vs = vs} {ws = ws} {s = s} {r = r} e h = record { heights = go; alike = tops_beyond h.alike }
  where
    go : (i : ℕ) → rise (x ∷ vs) ((filling_beyond s).type_for i) ≡ rise (y ∷ ws) ((filling_beyond r).type_for i)
    go zero = e
    go (suc i) =
        rise_renamed (record { each = λ j. refl }) (s.type_for i) ∙ h.heights i ∙ sym (rise_renamed (record { each = λ j. refl }) (r.type_for i))

rise_applied : (ws : List ℕ) (o : Option ℕ) (us : PlainTypes) → rise ws (apply_variable o us) ≡ (if is_head o then suc (rise_types ws us) else 1)
rise_applied ws None us = refl
rise_applied ws (Some i) us = refl

mutual
  pub rise_filled : {vs ws : List ℕ} {s r : Filling} → RiseAlike vs ws s r → (t : PlainType) → rise vs (fill s t) ≡ rise ws (fill r t)
  rise_filled h Top = refl
  rise_filled h Int = refl
  rise_filled h Char = refl
  rise_filled h Str = refl
  rise_filled h Boolean = refl
  rise_filled h (Var i) = h.heights i
  rise_filled {vs = vs} {ws = ws} {s = s} {r = r} h (Apply i ts) =
      rise_applied vs (s.head_for i) (fill_types s ts)
      ∙ ap₂ (λ b n. if b then suc n else 1) (h.alike.heads i) (rise_types_filled h ts)
      ∙ sym (rise_applied ws (r.head_for i) (fill_types r ts))
  rise_filled h (Chan m t) = ap suc (rise_filled h t)
  rise_filled h (Fields bs ps ls) =
      max3 (rise_bounds_filled h bs) (rise_types_filled (rise_under h bs) ps) (rise_labels_filled (rise_under h bs) ls)
  rise_filled h (Rec t) = ap suc (rise_filled (rise_beyond refl h) t)

  rise_types_filled : {vs ws : List ℕ} {s r : Filling} → RiseAlike vs ws s r → (t : PlainTypes) → rise_types vs (fill_types s t) ≡ rise_types ws (fill_types r t)
  rise_types_filled h no_type = refl
  rise_types_filled h (types t ts) = ap₂ (λ x y. max x y) (rise_filled h t) (rise_types_filled h ts)

  rise_labels_filled : {vs ws : List ℕ} {s r : Filling} → RiseAlike vs ws s r → (t : PlainLabels) → rise_labels vs (fill_labels s t) ≡ rise_labels ws (fill_labels r t)
  rise_labels_filled h no_label = refl
  rise_labels_filled h (labels l t ts) = ap₂ (λ x y. max x y) (rise_filled h t) (rise_labels_filled h ts)

  rise_bounds_filled : {vs ws : List ℕ} {s r : Filling} → RiseAlike vs ws s r → (t : PlainBounds) → rise_bounds vs (fill_bounds s t) ≡ rise_bounds ws (fill_bounds r t)
  rise_bounds_filled h no_bound = refl
  rise_bounds_filled h (bounds b bs) =
      ap₂ (λ x y. max x y) (rise_variable_filled h b) (rise_bounds_filled (rise_beyond (rise_variable_filled h b) h) bs)

  rise_under : {vs ws : List ℕ} {s r : Filling} → RiseAlike vs ws s r → (t : PlainBounds) → RiseAlike (heights_under vs (fill_bounds s t)) (heights_under ws (fill_bounds r t)) (filling_beyond_all t s) (filling_beyond_all t r)
  rise_under h no_bound = h
  rise_under h (bounds b bs) = rise_under (rise_beyond (rise_variable_filled h b) h) bs

  rise_variable_filled : {vs ws : List ℕ} {s r : Filling} → RiseAlike vs ws s r → (b : PlainBound) → rise_variable vs (fill_bound s b) ≡ rise_variable ws (fill_bound r b)
  rise_variable_filled h Free = refl
  rise_variable_filled {vs = vs} {ws = ws} {s = s} {r = r} h (Below t) =
      rise_bound_by vs (fill s t)
      ∙ ap₂ (λ b n. if b then 1 else suc n) (top_filled h.alike t) (rise_filled h t)
      ∙ sym (rise_bound_by ws (fill r t))
  rise_variable_filled h (Operator n) = refl
