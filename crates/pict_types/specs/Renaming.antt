-- Types with their free variables renumbered, and the bound of a variable in its whole context.
use Rattle.std.specs.Prelude.{ℕ, zero, suc, ◌+◌, [], ◌∷◌}
use Rattle.pict_types.specs.Types.{PlainType, Top, Int, Char, Str, Boolean, Var, Apply, Chan, Fields, Rec, PlainTypes, no_type, types, PlainLabels, no_label, labels, PlainBound, Free, Below, Operator, PlainBounds, no_bound, bounds, TypeContext}

-- a renumbering of variables, under one more binder
abbrev pub beyond : (ℕ → ℕ) → ℕ → ℕ
beyond f zero = zero
beyond f (suc i) = suc (f i)

-- and under the type fields of a record
abbrev pub beyond_all : PlainBounds → (ℕ → ℕ) → ℕ → ℕ
beyond_all no_bound f = f
beyond_all (bounds b bs) f = beyond_all bs (beyond f)

abbrev mutual
  -- each free variable i becomes f i
  pub rename : (ℕ → ℕ) → PlainType → PlainType
  rename f Top = Top
  rename f Int = Int
  rename f Char = Char
  rename f Str = Str
  rename f Boolean = Boolean
  rename f (Var i) = Var (f i)
  rename f (Apply i ts) = Apply (f i) (rename_types f ts)
  rename f (Chan m t) = Chan m (rename f t)
  rename f (Fields bs ps ls) =
      Fields (rename_bounds f bs) (rename_types (beyond_all bs f) ps) (rename_labels (beyond_all bs f) ls)
  rename f (Rec t) = Rec (rename (beyond f) t)

  pub rename_types : (ℕ → ℕ) → PlainTypes → PlainTypes
  rename_types f no_type = no_type
  rename_types f (types t ts) = types (rename f t) (rename_types f ts)

  pub rename_labels : (ℕ → ℕ) → PlainLabels → PlainLabels
  rename_labels f no_label = no_label
  rename_labels f (labels l t ls) = labels l (rename f t) (rename_labels f ls)

  pub rename_bound : (ℕ → ℕ) → PlainBound → PlainBound
  rename_bound f Free = Free
  rename_bound f (Below t) = Below (rename f t)
  rename_bound f (Operator ms) = Operator ms

  pub rename_bounds : (ℕ → ℕ) → PlainBounds → PlainBounds
  rename_bounds f no_bound = no_bound
  rename_bounds f (bounds b bs) = bounds (rename_bound f b) (rename_bounds (beyond f) bs)

-- and under so many binders
abbrev pub beyond_times : ℕ → (ℕ → ℕ) → ℕ → ℕ
beyond_times zero f = f
beyond_times (suc d) f = beyond (beyond_times d f)

abbrev pub plus : ℕ → ℕ → ℕ
plus k i = i + k

-- k more variables stand between a use and its binder; the d innermost variables stay
abbrev pub moved : ℕ → ℕ → ℕ → ℕ
moved k d = beyond_times d (plus k)

-- what is known of variable i, as it was written when the variable was pushed
abbrev pub bound_at : TypeContext → ℕ → PlainBound
bound_at [] i = Free
bound_at (b ∷ c) zero = b
bound_at (b ∷ c) (suc i) = bound_at c i

-- the same, written in the whole context
abbrev pub bound_of : TypeContext → ℕ → PlainBound
bound_of c i = rename_bound (moved (suc i) 0) (bound_at c i)
