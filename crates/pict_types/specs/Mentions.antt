-- Which variables a type mentions, and types without variables that they don't mention.
use Rattle.std.specs.Prelude.{◌≡◌, ℕ, zero, suc, Bool, true, false, ◌||◌, ◌-◌, nat_lt}
use Rattle.pict_types.specs.Types.{PlainType, Top, Int, Char, Str, Boolean, Var, Apply, Chan, Fields, Rec, PlainTypes, no_type, types, PlainLabels, no_label, labels, PlainBound, Free, Below, Operator, PlainBounds, no_bound, bounds}
use Rattle.pict_types.specs.Renaming.{rename}

-- some variables, seen under one more binder, and under the type fields of a record
abbrev pub outside : (ℕ → Bool) → ℕ → Bool
outside p zero = false
outside p (suc i) = p i

abbrev pub outside_all : PlainBounds → (ℕ → Bool) → ℕ → Bool
outside_all no_bound p = p
outside_all (bounds b bs) p = outside_all bs (outside p)

-- and under so many binders
abbrev pub outside_times : ℕ → (ℕ → Bool) → ℕ → Bool
outside_times zero p = p
outside_times (suc d) p = outside (outside_times d p)

abbrev mutual
  -- the type mentions one of the variables
  pub mentions : (ℕ → Bool) → PlainType → Bool
  mentions p Top = false
  mentions p Int = false
  mentions p Char = false
  mentions p Str = false
  mentions p Boolean = false
  mentions p (Var i) = p i
  mentions p (Apply i ts) = p i || mentions_types p ts
  mentions p (Chan m t) = mentions p t
  mentions p (Fields bs ps ls) = mentions_bounds p bs || (mentions_types (outside_all bs p) ps || mentions_labels (outside_all bs p) ls)
  mentions p (Rec t) = mentions (outside p) t

  pub mentions_types : (ℕ → Bool) → PlainTypes → Bool
  mentions_types p no_type = false
  mentions_types p (types t ts) = mentions p t || mentions_types p ts

  pub mentions_labels : (ℕ → Bool) → PlainLabels → Bool
  mentions_labels p no_label = false
  mentions_labels p (labels l t ls) = mentions p t || mentions_labels p ls

  pub mentions_bound : (ℕ → Bool) → PlainBound → Bool
  mentions_bound p Free = false
  mentions_bound p (Below t) = mentions p t
  mentions_bound p (Operator ms) = false

  pub mentions_bounds : (ℕ → Bool) → PlainBounds → Bool
  mentions_bounds p no_bound = false
  mentions_bounds p (bounds b bs) = mentions_bound p b || mentions_bounds (outside p) bs

-- one of the n innermost variables
abbrev pub mentions_innermost : ℕ → PlainType → Bool
mentions_innermost n t = mentions (λ i. nat_lt i n) t

-- a type that mentions none of the n innermost variables, without them
abbrev pub lowered : ℕ → PlainType → PlainType
lowered n t = rename (λ i. i - n) t

-- the type mentions no variable
abbrev pub IsClosed : PlainType → Type 0
IsClosed t = mentions (λ i. true) t ≡ false
