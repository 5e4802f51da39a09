-- No type weighs less than its size, and the variables of a well formed type are not past its weight.
use Rattle.std.proofs.Common.{ℕ, zero, suc, ◌+◌, ◌≤◌, List, [], ◌∷◌, length, arith}
use Rattle.pict_types.specs.Types.{PlainType, Top, Int, Char, Str, Boolean, Var, Apply, Chan, Fields, Rec, PlainTypes, no_type, types, PlainLabels, no_label, labels, PlainBound, Free, Below, Operator, PlainBounds, no_bound, bounds, TypeContext, count_types}
use Rattle.pict_types.specs.Kinds.{Kind, proper, operator_of, kind_by, kinds_under, IsWellFormed, AreWellFormed, LabelsAreWellFormed, BoundsAreWellFormed}
use Rattle.pict_types.specs.Measures.{measure_at, weigh, weigh_types, weigh_labels, weigh_bounds, weigh_variable, weights_under, weights, weight_of, size, size_types, size_labels, size_bounds, size_bound}
use Rattle.pict_types.specs.Room.{reach, reach_types, reach_labels, reach_bounds}
use Rattle.pict_types.proofs.Reaching.{kind_below}

-- no variable weighs 0
pub record Positive (ws : List ℕ) : Type 0 where
  pub each : (i : ℕ) → 1 ≤ measure_at ws i

pub variable_positive : (ws : List ℕ) (b : PlainBound) → 1 ≤ weigh_variable ws b
variable_positive ws Free = omega arith
variable_positive ws (Below t) = omega arith
variable_positive ws (Operator n) = omega arith

pub positive_more : (x : ℕ) (ws : List ℕ) → 1 ≤ x → Positive ws → Positive (x ∷ ws)
positive_more x ws h p = record { each = go }
  where
    go : (i : ℕ) → 1 ≤ measure_at (x ∷ ws) i
    go zero = h
    go (suc i) = p.each i

pub positive_under : (ws : List ℕ) (bs : PlainBounds) → Positive ws → Positive (weights_under ws bs)
positive_under ws no_bound p = p
positive_under ws (bounds b bs) p = positive_under (weigh_variable ws b ∷ ws) bs (positive_more (weigh_variable ws b) ws (variable_positive ws b) p)

pub positive_weights : (c : TypeContext) → Positive (weights c)
positive_weights [] = record { each = λ i. omega arith }
positive_weights (b ∷ c) = positive_more (weigh_variable (weights c) b) (weights c) (variable_positive (weights c) b) (positive_weights c)

mutual
  -- no type weighs less than its size
  pub size_weigh : (ws : List ℕ) (t : PlainType) → Positive ws → size t ≤ weigh ws t
  size_weigh ws Top p = omega arith
  size_weigh ws Int p = omega arith
  size_weigh ws Char p = omega arith
  size_weigh ws Str p = omega arith
  size_weigh ws Boolean p = omega arith
  size_weigh ws (Var i) p = p.each i
  size_weigh ws (Apply i ts) p = omega (arith, size_weigh_types ws ts p)
  size_weigh ws (Chan m t) p = omega (arith, size_weigh ws t p)
  size_weigh ws (Fields bs ps ls) p =
      omega (arith, size_weigh_bounds ws bs p, size_weigh_types (weights_under ws bs) ps (positive_under ws bs p), size_weigh_labels (weights_under ws bs) ls (positive_under ws bs p))
  size_weigh ws (Rec t) p = omega (arith, size_weigh (1 ∷ ws) t (positive_more 1 ws (omega arith) p))

  size_weigh_types : (ws : List ℕ) (t : PlainTypes) → Positive ws → size_types t ≤ weigh_types ws t
  size_weigh_types ws no_type p = omega arith
  size_weigh_types ws (types t ts) p = omega (arith, size_weigh ws t p, size_weigh_types ws ts p)

  size_weigh_labels : (ws : List ℕ) (t : PlainLabels) → Positive ws → size_labels t ≤ weigh_labels ws t
  size_weigh_labels ws no_label p = omega arith
  size_weigh_labels ws (labels l t ts) p = omega (arith, size_weigh ws t p, size_weigh_labels ws ts p)

  pub size_weigh_bounds : (ws : List ℕ) (t : PlainBounds) → Positive ws → size_bounds t ≤ weigh_bounds ws t
  size_weigh_bounds ws no_bound p = omega arith
  size_weigh_bounds ws (bounds b bs) p =
      omega (arith, size_weigh_bound ws b p, size_weigh_bounds (weigh_variable ws b ∷ ws) bs (positive_more (weigh_variable ws b) ws (variable_positive ws b) p))

  size_weigh_bound : (ws : List ℕ) (b : PlainBound) → Positive ws → size_bound b ≤ weigh_variable ws b
  size_weigh_bound ws Free p = omega arith
  size_weigh_bound ws (Below t) p = omega (arith, size_weigh ws t p)
  size_weigh_bound ws (Operator n) p = omega arith

pub size_positive : (t : PlainType) → 1 ≤ size t
size_positive Top = omega arith
size_positive Int = omega arith
size_positive Char = omega arith
size_positive Str = omega arith
size_positive Boolean = omega arith
size_positive (Var i) = omega arith
size_positive (Apply i ts) = omega arith
size_positive (Chan m t) = omega arith
size_positive (Fields bs ps ls) = omega arith
size_positive (Rec t) = omega arith

under_length : (ks : List Kind) (ws : List ℕ) (bs : PlainBounds) → length (kinds_under ks bs) ≤ length ks + weigh_bounds ws bs
under_length ks ws no_bound = omega arith
under_length ks ws (bounds b bs) = omega (arith, under_length (kind_by b ∷ ks) (weigh_variable ws b ∷ ws) bs, variable_positive ws b)

mutual
  -- no variable of a well formed type is past those in scope and the weight of the type
  pub reach_weighed : (ns : List (List ℕ)) (ks : List Kind) (ws : List ℕ) (t : PlainType) → IsWellFormed ns ks t → reach t ≤ length ks + weigh ws t
  reach_weighed ns ks ws Top w = omega arith
  reach_weighed ns ks ws Int w = omega arith
  reach_weighed ns ks ws Char w = omega arith
  reach_weighed ns ks ws Str w = omega arith
  reach_weighed ns ks ws Boolean w = omega arith
  reach_weighed ns ks ws (Var i) w = omega (arith, kind_below ks i proper w)
  reach_weighed ns ks ws (Apply i ts) w = omega (arith, kind_below ks i (operator_of (count_types ts)) w.0, reach_types_weighed ns ks ws ts w.1)
  reach_weighed ns ks ws (Chan m t) w = omega (arith, reach_weighed ns ks ws t w)
  reach_weighed ns ks ws (Fields bs ps ls) w =
      omega (arith, under_length ks ws bs, reach_bounds_weighed ns ks ws bs w.0, reach_types_weighed ns (kinds_under ks bs) (weights_under ws bs) ps w.1.0, reach_labels_weighed ns (kinds_under ks bs) (weights_under ws bs) ls w.1.1)
  reach_weighed ns ks ws (Rec t) w = omega (arith, reach_weighed ns (proper ∷ ks) (1 ∷ ws) t w)

  reach_types_weighed : (ns : List (List ℕ)) (ks : List Kind) (ws : List ℕ) (ts : PlainTypes) → AreWellFormed ns ks ts → reach_types ts ≤ length ks + weigh_types ws ts
  reach_types_weighed ns ks ws no_type w = omega arith
  reach_types_weighed ns ks ws (types t ts) w = omega (arith, reach_weighed ns ks ws t w.0, reach_types_weighed ns ks ws ts w.1)

  reach_labels_weighed : (ns : List (List ℕ)) (ks : List Kind) (ws : List ℕ) (ls : PlainLabels) → LabelsAreWellFormed ns ks ls → reach_labels ls ≤ length ks + weigh_labels ws ls
  reach_labels_weighed ns ks ws no_label w = omega arith
  reach_labels_weighed ns ks ws (labels l t ls) w = omega (arith, reach_weighed ns ks ws t w.1.0, reach_labels_weighed ns ks ws ls w.1.1)

  reach_bounds_weighed : (ns : List (List ℕ)) (ks : List Kind) (ws : List ℕ) (bs : PlainBounds) → BoundsAreWellFormed ns ks bs → reach_bounds bs ≤ length ks + weigh_bounds ws bs
  reach_bounds_weighed ns ks ws no_bound w = omega arith
  reach_bounds_weighed ns ks ws (bounds Free bs) w = omega (arith, reach_bounds_weighed ns (proper ∷ ks) (weigh_variable ws Free ∷ ws) bs w.1)
  reach_bounds_weighed ns ks ws (bounds (Below t) bs) w = omega (arith, reach_weighed ns ks ws t w.0.1, reach_bounds_weighed ns (proper ∷ ks) (weigh_variable ws (Below t) ∷ ws) bs w.1)
  reach_bounds_weighed ns ks ws (bounds (Operator n) bs) w = omega (arith, reach_bounds_weighed ns (operator_of (length n) ∷ ks) (weigh_variable ws (Operator n) ∷ ws) bs w.1)

-- the same in a context
pub size_weight : (c : TypeContext) (t : PlainType) → size t ≤ weight_of c t
size_weight c t = size_weigh (weights c) t (positive_weights c)

pub size_weight_bounds : (c : TypeContext) (bs : PlainBounds) → size_bounds bs ≤ weigh_bounds (weights c) bs
size_weight_bounds c bs = size_weigh_bounds (weights c) bs (positive_weights c)

pub weight_positive : (c : TypeContext) (t : PlainType) → 1 ≤ weight_of c t
weight_positive c t = omega (arith, size_weight c t, size_positive t)

pub ruleset weight_rules = (weight_positive, size_weight)
