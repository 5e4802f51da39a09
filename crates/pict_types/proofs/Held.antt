-- Measures that are held at the greatest u64 on the way are those held at the end.
use Rattle.std.proofs.Common.{◌≡◌, ℕ, zero, suc, ◌+◌, max, List, ◌∷◌, refl, ◌∙◌, ap, arith}
use Rattle.pict_types.specs.Types.{PlainType, Top, Int, Char, Str, Boolean, Var, Apply, Chan, Fields, Rec, PlainTypes, no_type, types, PlainLabels, no_label, labels, PlainBound, Free, Below, Operator, PlainBounds, no_bound, bounds}
use Rattle.pict_types.specs.Measures.{held, measure_at, weigh, weigh_types, weigh_labels, weigh_bounds, weigh_variable, weights_under, rise, rise_types, rise_labels, rise_bounds, rise_variable, heights_under}
use Rattle.pict_types.specs.Around.{weigh_parts, rise_parts}

-- two numbers that a u64 holds alike
pub record Alike (a b : ℕ) : Type 0 where
  pub same : held a ≡ held b

pub alike : {a : ℕ} → Alike a a
alike = record { same = refl }

alike_suc : {a b : ℕ} → Alike a b → Alike (suc a) (suc b)
alike_suc e = record { same = omega (arith, e.same) }

alike_sum : {a b c d : ℕ} → Alike a c → Alike b d → Alike (a + b) (c + d)
alike_sum e f = record { same = omega (arith, e.same, f.same) }

alike_max : {a b c d : ℕ} → Alike a c → Alike b d → Alike (max a b) (max c d)
alike_max e f = record { same = omega (arith, e.same, f.same) }

-- the two lists give each variable the same, as far as a u64 holds it
pub record HeldAlike (vs ws : List ℕ) : Type 0 where
  pub each : (i : ℕ) → Alike (measure_at vs i) (measure_at ws i)

pub alike_more : {x y : ℕ} {vs ws : List ℕ} → Alike x y → HeldAlike vs ws → HeldAlike (x ∷ vs) (y ∷ ws)
alike_more {x = x} {y = y} {vs = vs} {ws = ws} e h = record { each = go }
  where
    go : (i : ℕ) → Alike (measure_at (x ∷ vs) i) (measure_at (y ∷ ws) i)
    go zero = e
    go (suc i) = h.each i

pub alike_same : (ws : List ℕ) → HeldAlike ws ws
alike_same ws = record { each = λ i. alike }

mutual
  pub weigh_held : {vs ws : List ℕ} → HeldAlike vs ws → (t : PlainType) → Alike (weigh vs t) (weigh ws t)
  weigh_held h Top = alike
  weigh_held h Int = alike
  weigh_held h Char = alike
  weigh_held h Str = alike
  weigh_held h Boolean = alike
  weigh_held h (Var i) = h.each i
  weigh_held h (Apply i ts) = alike_suc (weigh_types_held h ts)
  weigh_held h (Chan m t) = alike_suc (weigh_held h t)
  weigh_held h (Fields bs ps ls) =
      alike_suc (alike_sum (alike_sum (weigh_bounds_held h bs) (weigh_types_held (weights_under_held h bs) ps)) (weigh_labels_held (weights_under_held h bs) ls))
  weigh_held h (Rec t) = alike_suc (weigh_held (alike_more alike h) t)

  pub weigh_types_held : {vs ws : List ℕ} → HeldAlike vs ws → (t : PlainTypes) → Alike (weigh_types vs t) (weigh_types ws t)
  weigh_types_held h no_type = alike
  weigh_types_held h (types t ts) = alike_sum (weigh_held h t) (weigh_types_held h ts)

  pub weigh_labels_held : {vs ws : List ℕ} → HeldAlike vs ws → (t : PlainLabels) → Alike (weigh_labels vs t) (weigh_labels ws t)
  weigh_labels_held h no_label = alike
  weigh_labels_held h (labels l t ts) = alike_sum (weigh_held h t) (weigh_labels_held h ts)

  pub weigh_bounds_held : {vs ws : List ℕ} → HeldAlike vs ws → (t : PlainBounds) → Alike (weigh_bounds vs t) (weigh_bounds ws t)
  weigh_bounds_held h no_bound = alike
  weigh_bounds_held h (bounds b bs) =
      alike_sum (weigh_variable_held h b) (weigh_bounds_held (alike_more (weigh_variable_held h b) h) bs)

  pub weights_under_held : {vs ws : List ℕ} → HeldAlike vs ws → (t : PlainBounds) → HeldAlike (weights_under vs t) (weights_under ws t)
  weights_under_held h no_bound = h
  weights_under_held h (bounds b bs) = weights_under_held (alike_more (weigh_variable_held h b) h) bs

  pub weigh_variable_held : {vs ws : List ℕ} → HeldAlike vs ws → (b : PlainBound) → Alike (weigh_variable vs b) (weigh_variable ws b)
  weigh_variable_held h Free = alike
  weigh_variable_held h (Below t) = alike_suc (weigh_held h t)
  weigh_variable_held h (Operator n) = alike

mutual
  pub rise_held : {vs ws : List ℕ} → HeldAlike vs ws → (t : PlainType) → Alike (rise vs t) (rise ws t)
  rise_held h Top = alike
  rise_held h Int = alike
  rise_held h Char = alike
  rise_held h Str = alike
  rise_held h Boolean = alike
  rise_held h (Var i) = h.each i
  rise_held h (Apply i ts) = alike_suc (rise_types_held h ts)
  rise_held h (Chan m t) = alike_suc (rise_held h t)
  rise_held h (Fields bs ps ls) =
      alike_suc (alike_max (rise_bounds_held h bs) (alike_max (rise_types_held (heights_under_held h bs) ps) (rise_labels_held (heights_under_held h bs) ls)))
  rise_held h (Rec t) = alike_suc (rise_held (alike_more alike h) t)

  pub rise_types_held : {vs ws : List ℕ} → HeldAlike vs ws → (t : PlainTypes) → Alike (rise_types vs t) (rise_types ws t)
  rise_types_held h no_type = alike
  rise_types_held h (types t ts) = alike_max (rise_held h t) (rise_types_held h ts)

  pub rise_labels_held : {vs ws : List ℕ} → HeldAlike vs ws → (t : PlainLabels) → Alike (rise_labels vs t) (rise_labels ws t)
  rise_labels_held h no_label = alike
  rise_labels_held h (labels l t ts) = alike_max (rise_held h t) (rise_labels_held h ts)

  pub rise_bounds_held : {vs ws : List ℕ} → HeldAlike vs ws → (t : PlainBounds) → Alike (rise_bounds vs t) (rise_bounds ws t)
  rise_bounds_held h no_bound = alike
  rise_bounds_held h (bounds b bs) =
      alike_max (rise_variable_held h b) (rise_bounds_held (alike_more (rise_variable_held h b) h) bs)

  pub heights_under_held : {vs ws : List ℕ} → HeldAlike vs ws → (t : PlainBounds) → HeldAlike (heights_under vs t) (heights_under ws t)
  heights_under_held h no_bound = h
  heights_under_held h (bounds b bs) = heights_under_held (alike_more (rise_variable_held h b) h) bs

  pub rise_variable_held : {vs ws : List ℕ} → HeldAlike vs ws → (b : PlainBound) → Alike (rise_variable vs b) (rise_variable ws b)
  rise_variable_held h Free = alike
  rise_variable_held h (Below t) = alike_suc (rise_held h t)
  rise_variable_held h (Operator n) = alike

sum_step : (a m w : ℕ) {x y : ℕ} → m ≡ held w → Alike x y → held (held (a + m) + x) ≡ held (a + (w + y))
sum_step a m w e h = omega (arith, e, h.same)

max_step : (a m w : ℕ) {x y : ℕ} → m ≡ held w → Alike x y → held (max (max a m) x) ≡ held (max a (max w y))
max_step a m w e h = omega (arith, e, h.same)

pub held_alike : (m w : ℕ) → m ≡ held w → Alike m w
held_alike m w e = record { same = omega (arith, e) }

-- one type field further: it counts held, and stands held in front
pub weigh_parts_step : (a m : ℕ) (ws : List ℕ) (b : PlainBound) (bs : PlainBounds) (ps : PlainTypes) (ls : PlainLabels) → m ≡ held (weigh_variable ws b) → held (held (a + m) + weigh_parts (m ∷ ws) bs ps ls) ≡ held (a + weigh_parts ws (bounds b bs) ps ls)
weigh_parts_step a m ws b bs ps ls e =
    let x : HeldAlike (m ∷ ws) (weigh_variable ws b ∷ ws) = alike_more (held_alike m (weigh_variable ws b) e) (alike_same ws) in
    let y : Alike (weigh_parts (m ∷ ws) bs ps ls) (weigh_parts (weigh_variable ws b ∷ ws) bs ps ls) =
    alike_sum (weigh_bounds_held x bs) (alike_sum (weigh_types_held (weights_under_held x bs) ps) (weigh_labels_held (weights_under_held x bs) ls)) in
    sum_step a m (weigh_variable ws b) e y ∙ ap held (omega arith)

pub rise_parts_step : (a m : ℕ) (hs : List ℕ) (b : PlainBound) (bs : PlainBounds) (ps : PlainTypes) (ls : PlainLabels) → m ≡ held (rise_variable hs b) → held (max (max a m) (rise_parts (m ∷ hs) bs ps ls)) ≡ held (max a (rise_parts hs (bounds b bs) ps ls))
rise_parts_step a m hs b bs ps ls e =
    let x : HeldAlike (m ∷ hs) (rise_variable hs b ∷ hs) = alike_more (held_alike m (rise_variable hs b) e) (alike_same hs) in
    let y : Alike (rise_parts (m ∷ hs) bs ps ls) (rise_parts (rise_variable hs b ∷ hs) bs ps ls) =
    alike_max (rise_bounds_held x bs) (alike_max (rise_types_held (heights_under_held x bs) ps) (rise_labels_held (heights_under_held x bs) ls)) in
    max_step a m (rise_variable hs b) e y ∙ ap held (ap (max a) (max_regroup (rise_variable hs b) (rise_bounds (rise_variable hs b ∷ hs) bs) (max (rise_types (heights_under (rise_variable hs b ∷ hs) bs) ps) (rise_labels (heights_under (rise_variable hs b ∷ hs) bs) ls))))
  where
    max_regroup : (u v w : ℕ) → max u (max v w) ≡ max (max u v) w
    max_regroup u v w = omega arith
