-- Which parameters of an operator stand in its body.
use Rattle.std.specs.Prelude.{◌≡◌, ℕ, ◌+◌, ◌<◌, nat_eq, nat_lt, Bool, false, not, ◌&&◌, ◌||◌, List, length, get_or}
use Rattle.pict_types.specs.Types.{PlainType, Top, Int, Char, Str, Boolean, Var, Apply, Chan, Fields, Rec, PlainTypes, no_type, types, PlainLabels, no_label, labels, PlainBound, Free, Below, Operator, PlainBounds, no_bound, bounds, count_bounds}

-- variable j takes arguments, being none of the n parameters behind d binders
abbrev pub takes_arguments : ℕ → ℕ → ℕ → Bool
takes_arguments n d j = nat_lt j d || not (nat_lt j (d + n))

abbrev mutual
  -- parameter i of n stands in a type, behind d binders
  pub uses : ℕ → ℕ → ℕ → PlainType → Bool
  uses n d i Top = false
  uses n d i Int = false
  uses n d i Char = false
  uses n d i Str = false
  uses n d i Boolean = false
  uses n d i (Var j) = nat_eq j (d + i)
  uses n d i (Apply j ts) = takes_arguments n d j && uses_types n d i ts
  uses n d i (Chan m t) = uses n d i t
  uses n d i (Fields bs ps ls) =
      uses_bounds n d i bs || (uses_types n (d + count_bounds bs) i ps || uses_labels n (d + count_bounds bs) i ls)
  uses n d i (Rec t) = uses n (d + 1) i t

  pub uses_types : ℕ → ℕ → ℕ → PlainTypes → Bool
  uses_types n d i no_type = false
  uses_types n d i (types t ts) = uses n d i t || uses_types n d i ts

  pub uses_labels : ℕ → ℕ → ℕ → PlainLabels → Bool
  uses_labels n d i no_label = false
  uses_labels n d i (labels l t ls) = uses n d i t || uses_labels n d i ls

  pub uses_bound : ℕ → ℕ → ℕ → PlainBound → Bool
  uses_bound n d i Free = false
  uses_bound n d i (Below t) = uses n d i t
  uses_bound n d i (Operator k) = false

  pub uses_bounds : ℕ → ℕ → ℕ → PlainBounds → Bool
  uses_bounds n d i no_bound = false
  uses_bounds n d i (bounds b bs) = uses_bound n d i b || uses_bounds n (d + 1) i bs

-- the parameters that are marked are those that were, and those of which the test holds
pub record AreMarked (test : ℕ → Bool) (before after : List Bool) : Type 0 where
  pub each : (i : ℕ) → i < length before → get_or after i false ≡ (get_or before i false || test i)
