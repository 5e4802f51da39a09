-- One more than the greatest variable that is written in a type.
use Rattle.std.specs.Prelude.{ℕ, suc, max}
use Rattle.pict_types.specs.Types.{PlainType, Top, Int, Char, Str, Boolean, Var, Apply, Chan, Fields, Rec, PlainTypes, no_type, types, PlainLabels, no_label, labels, PlainBound, Free, Below, Operator, PlainBounds, no_bound, bounds}

abbrev mutual
  -- each variable in the type, as it is written, is below this number
  pub reach : PlainType → ℕ
  reach Top = 0
  reach Int = 0
  reach Char = 0
  reach Str = 0
  reach Boolean = 0
  reach (Var i) = suc i
  reach (Apply i ts) = max (suc i) (reach_types ts)
  reach (Chan m t) = reach t
  reach (Fields bs ps ls) = max (reach_bounds bs) (max (reach_types ps) (reach_labels ls))
  reach (Rec t) = reach t

  pub reach_types : PlainTypes → ℕ
  reach_types no_type = 0
  reach_types (types t ts) = max (reach t) (reach_types ts)

  pub reach_labels : PlainLabels → ℕ
  reach_labels no_label = 0
  reach_labels (labels l t ls) = max (reach t) (reach_labels ls)

  pub reach_bounds : PlainBounds → ℕ
  reach_bounds no_bound = 0
  reach_bounds (bounds b bs) = max (reach_bound b) (reach_bounds bs)

  pub reach_bound : PlainBound → ℕ
  reach_bound Free = 0
  reach_bound (Below t) = reach t
  reach_bound (Operator ms) = 0
