-- The weight and the height of a type, which follow the bounds of variables, and its size, which does not.
use Rattle.std.specs.Prelude.{ℕ, zero, suc, ◌+◌, ◌-◌, ◌^◌, max, min, List, [], ◌∷◌}
use Rattle.pict_types.specs.Types.{PlainType, Top, Int, Char, Str, Boolean, Var, Apply, Chan, Fields, Rec, PlainTypes, no_type, types, PlainLabels, no_label, labels, PlainBound, Free, Below, Operator, PlainBounds, no_bound, bounds, TypeContext}

-- the measure of a variable, from the measures of all, the innermost first
abbrev pub measure_at : List ℕ → ℕ → ℕ
measure_at [] i = 1
measure_at (w ∷ ws) zero = w
measure_at (w ∷ ws) (suc i) = measure_at ws i

abbrev mutual
  -- the weight of a type, from the weights of the variables: every node counts 1, and a variable what it weighs
  pub weigh : List ℕ → PlainType → ℕ
  weigh ws Top = 1
  weigh ws Int = 1
  weigh ws Char = 1
  weigh ws Str = 1
  weigh ws Boolean = 1
  weigh ws (Var i) = measure_at ws i
  weigh ws (Apply i ts) = suc (weigh_types ws ts)
  weigh ws (Chan m t) = suc (weigh ws t)
  weigh ws (Fields bs ps ls) =
      suc (weigh_bounds ws bs + weigh_types (weights_under ws bs) ps + weigh_labels (weights_under ws bs) ls)
  weigh ws (Rec t) = suc (weigh (1 ∷ ws) t)

  pub weigh_types : List ℕ → PlainTypes → ℕ
  weigh_types ws no_type = 0
  weigh_types ws (types t ts) = weigh ws t + weigh_types ws ts

  pub weigh_labels : List ℕ → PlainLabels → ℕ
  weigh_labels ws no_label = 0
  weigh_labels ws (labels l t ls) = weigh ws t + weigh_labels ws ls

  -- type fields: 1 for each, and the weight of its bound
  pub weigh_bounds : List ℕ → PlainBounds → ℕ
  weigh_bounds ws no_bound = 0
  weigh_bounds ws (bounds b bs) = weigh_variable ws b + weigh_bounds (weigh_variable ws b ∷ ws) bs

  pub weights_under : List ℕ → PlainBounds → List ℕ
  weights_under ws no_bound = ws
  weights_under ws (bounds b bs) = weights_under (weigh_variable ws b ∷ ws) bs

  -- a variable with this bound, and a type field with it
  pub weigh_variable : List ℕ → PlainBound → ℕ
  weigh_variable ws Free = 1
  weigh_variable ws (Below t) = suc (weigh ws t)
  weigh_variable ws (Operator ms) = 1

-- the weights of the variables of a context
abbrev pub weights : TypeContext → List ℕ
weights [] = []
weights (b ∷ c) = weigh_variable (weights c) b ∷ weights c

abbrev pub weight_of : TypeContext → PlainType → ℕ
weight_of c t = weigh (weights c) t

abbrev mutual
  -- the height of a type, from the heights of the variables: a leaf is 1, and a node one more than its highest part
  pub rise : List ℕ → PlainType → ℕ
  rise hs Top = 1
  rise hs Int = 1
  rise hs Char = 1
  rise hs Str = 1
  rise hs Boolean = 1
  rise hs (Var i) = measure_at hs i
  rise hs (Apply i ts) = suc (rise_types hs ts)
  rise hs (Chan m t) = suc (rise hs t)
  rise hs (Fields bs ps ls) =
      suc (max (rise_bounds hs bs) (max (rise_types (heights_under hs bs) ps) (rise_labels (heights_under hs bs) ls)))
  rise hs (Rec t) = suc (rise (1 ∷ hs) t)

  pub rise_types : List ℕ → PlainTypes → ℕ
  rise_types hs no_type = 0
  rise_types hs (types t ts) = max (rise hs t) (rise_types hs ts)

  pub rise_labels : List ℕ → PlainLabels → ℕ
  rise_labels hs no_label = 0
  rise_labels hs (labels l t ls) = max (rise hs t) (rise_labels hs ls)

  pub rise_bounds : List ℕ → PlainBounds → ℕ
  rise_bounds hs no_bound = 0
  rise_bounds hs (bounds b bs) = max (rise_variable hs b) (rise_bounds (rise_variable hs b ∷ hs) bs)

  pub heights_under : List ℕ → PlainBounds → List ℕ
  heights_under hs no_bound = hs
  heights_under hs (bounds b bs) = heights_under (rise_variable hs b ∷ hs) bs

  -- a variable with this bound, and a type field with it
  pub rise_variable : List ℕ → PlainBound → ℕ
  rise_variable hs Free = 1
  rise_variable hs (Below t) = suc (rise hs t)
  rise_variable hs (Operator ms) = 1

abbrev pub heights : TypeContext → List ℕ
heights [] = []
heights (b ∷ c) = rise_variable (heights c) b ∷ heights c

abbrev pub height_of : TypeContext → PlainType → ℕ
height_of c t = rise (heights c) t

-- a number as a u64 holds it: numbers past the greatest are the greatest
abbrev pub held : ℕ → ℕ
held n = min n (2 ^ 64 - 1)

-- how many nodes and type fields a type has; bounds are not followed
abbrev mutual
  pub size : PlainType → ℕ
  size Top = 1
  size Int = 1
  size Char = 1
  size Str = 1
  size Boolean = 1
  size (Var i) = 1
  size (Apply i ts) = suc (size_types ts)
  size (Chan m t) = suc (size t)
  size (Fields bs ps ls) = suc (size_bounds bs + size_types ps + size_labels ls)
  size (Rec t) = suc (size t)

  pub size_types : PlainTypes → ℕ
  size_types no_type = 0
  size_types (types t ts) = size t + size_types ts

  pub size_labels : PlainLabels → ℕ
  size_labels no_label = 0
  size_labels (labels l t ls) = size t + size_labels ls

  pub size_bounds : PlainBounds → ℕ
  size_bounds no_bound = 0
  size_bounds (bounds b bs) = size_bound b + size_bounds bs

  pub size_bound : PlainBound → ℕ
  size_bound Free = 1
  size_bound (Below t) = suc (size t)
  size_bound (Operator ms) = 1
