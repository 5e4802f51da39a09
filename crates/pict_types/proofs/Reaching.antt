-- The variables of a well formed type.
use Rattle.std.proofs.Common.{◌≡◌, ℕ, zero, suc, ◌+◌, ◌≤◌, ◌<◌, List, [], ◌∷◌, length, get_or, Some, refl, ap, arith}
use Rattle.pict_types.specs.Types.{PlainType, Top, Int, Char, Str, Boolean, Var, Apply, Chan, Fields, Rec, PlainTypes, no_type, types, PlainLabels, no_label, labels, Free, Below, Operator, PlainBounds, no_bound, bounds, TypeContext, count_types}
use Rattle.pict_types.specs.Kinds.{Kind, proper, operator_of, kind_by, kinds, kinds_under, kind_at, IsWellFormed, AreWellFormed, LabelsAreWellFormed, BoundsAreWellFormed, ArgIsWellFormed}
use Rattle.pict_types.specs.declared.types.Arg.{Arg}
use Rattle.pict_types.specs.Plain.{plain_arg, plain_args}
use Rattle.pict_types.specs.Instances.{ArgsAreWellFormed, most_args, size_arg}
use Rattle.pict_types.specs.Room.{reach, reach_types, reach_labels, reach_bounds}
use Rattle.pict_types.specs.Measures.{size, size_types, size_labels, size_bounds}
use Rattle.pict_types.proofs.Rows.{size_bound_positive}

pub kind_below : (ks : List Kind) (i : ℕ) (k : Kind) → kind_at ks i ≡ Some k → i < length ks
kind_below [] i k h = absurd (cc)
kind_below (j ∷ ks) zero k h = omega arith
kind_below (j ∷ ks) (suc i) k h = omega (arith, kind_below ks i k h)

pub kinds_length : (c : TypeContext) → length (kinds c) ≡ length c
kinds_length [] = refl
kinds_length (b ∷ c) = ap suc (kinds_length c)

under_length : (ks : List Kind) (bs : PlainBounds) → length (kinds_under ks bs) ≤ length ks + size_bounds bs
under_length ks no_bound = omega arith
under_length ks (bounds b bs) = omega (arith, under_length (kind_by b ∷ ks) bs, size_bound_positive b)

mutual
  -- no variable of a well formed type is past those in scope and the binders around it
  pub reach_formed : (ns : List (List ℕ)) (ks : List Kind) (t : PlainType) → IsWellFormed ns ks t → reach t ≤ length ks + size t
  reach_formed ns ks Top w = omega arith
  reach_formed ns ks Int w = omega arith
  reach_formed ns ks Char w = omega arith
  reach_formed ns ks Str w = omega arith
  reach_formed ns ks Boolean w = omega arith
  reach_formed ns ks (Var i) w = omega (arith, kind_below ks i proper w)
  reach_formed ns ks (Apply i ts) w = omega (arith, kind_below ks i (operator_of (count_types ts)) w.0, reach_types_formed ns ks ts w.1)
  reach_formed ns ks (Chan m t) w = omega (arith, reach_formed ns ks t w)
  reach_formed ns ks (Fields bs ps ls) w =
      omega (arith, under_length ks bs, reach_bounds_formed ns ks bs w.0, reach_types_formed ns (kinds_under ks bs) ps w.1.0, reach_labels_formed ns (kinds_under ks bs) ls w.1.1)
  reach_formed ns ks (Rec t) w = omega (arith, reach_formed ns (proper ∷ ks) t w)

  pub reach_types_formed : (ns : List (List ℕ)) (ks : List Kind) (ts : PlainTypes) → AreWellFormed ns ks ts → reach_types ts ≤ length ks + size_types ts
  reach_types_formed ns ks no_type w = omega arith
  reach_types_formed ns ks (types t ts) w = omega (arith, reach_formed ns ks t w.0, reach_types_formed ns ks ts w.1)

  pub reach_labels_formed : (ns : List (List ℕ)) (ks : List Kind) (ls : PlainLabels) → LabelsAreWellFormed ns ks ls → reach_labels ls ≤ length ks + size_labels ls
  reach_labels_formed ns ks no_label w = omega arith
  reach_labels_formed ns ks (labels l t ls) w = omega (arith, reach_formed ns ks t w.1.0, reach_labels_formed ns ks ls w.1.1)

  pub reach_bounds_formed : (ns : List (List ℕ)) (ks : List Kind) (bs : PlainBounds) → BoundsAreWellFormed ns ks bs → reach_bounds bs ≤ length ks + size_bounds bs
  reach_bounds_formed ns ks no_bound w = omega arith
  reach_bounds_formed ns ks (bounds Free bs) w = omega (arith, reach_bounds_formed ns (proper ∷ ks) bs w.1)
  reach_bounds_formed ns ks (bounds (Below t) bs) w = omega (arith, reach_formed ns ks t w.0.1, reach_bounds_formed ns (proper ∷ ks) bs w.1)
  reach_bounds_formed ns ks (bounds (Operator n) bs) w = omega (arith, reach_bounds_formed ns (operator_of (length n) ∷ ks) bs w.1)

-- each argument is well formed, and none is greater than the greatest
pub args_formed : (ns : List (List ℕ)) (ks : List Kind) (xs : List Arg) (i : ℕ) (d : Arg) → i < length xs → ArgsAreWellFormed ns ks (plain_args xs) → ArgIsWellFormed ns ks (plain_arg (get_or xs i d))
args_formed ns ks [] i d h w = absurd (omega arith)
args_formed ns ks (x ∷ xs) zero d h w = w.0
args_formed ns ks (x ∷ xs) (suc i) d h w = args_formed ns ks xs i d (omega arith) w.1

pub args_size : (xs : List Arg) (i : ℕ) (d : Arg) → i < length xs → size_arg (plain_arg (get_or xs i d)) ≤ most_args (plain_args xs)
args_size [] i d h = absurd (omega arith)
args_size (x ∷ xs) zero d h = omega arith
args_size (x ∷ xs) (suc i) d h = omega (arith, args_size xs i d (omega arith))
