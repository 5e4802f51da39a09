-- There is one way only for a type to be well formed.
use Rattle.std.specs.Prelude.{◌≡◌, ℕ, List, [], ◌∷◌, Option, Some, None, false, refl}
use Rattle.std.specs.Coded.{Coded, Coded-set, coded_ℕ, coded_bool, coded_option, code_by, ×_prop, Unit-prop}
use Rattle.std.specs.Ordering.{Ordering-set}
use Rattle.pict_types.specs.Types.{PlainType, Top, Int, Char, Str, Boolean, Var, Apply, Chan, Fields, Rec, PlainTypes, no_type, types, PlainLabels, no_label, labels, PlainBound, Free, Below, Operator, PlainBounds, no_bound, bounds, Plain, Op, TypeContext, count_types, is_top}
use Rattle.pict_types.specs.Kinds.{Kind, proper, operator_of, kind_by, kinds, kinds_under, kind_at, StandsBeforeAll, IsWellFormed, AreWellFormed, LabelsAreWellFormed, BoundsAreWellFormed, BoundIsWellFormed, with_parameters}
use Rattle.pict_types.specs.Entries.{PlainWhat, Variable, Definition, PlainContext, variables, EntryIsWellFormed, EntriesAreWellFormed}

-- a kind as the number of its arguments, and none for types
abbrev arguments_of : Kind → Option ℕ
arguments_of proper = None
arguments_of (operator_of n) = Some n

abbrev kind_of : Option ℕ → Kind
kind_of None = proper
kind_of (Some n) = operator_of n

kind_again : (k : Kind) → kind_of (arguments_of k) ≡ k
kind_again proper = refl
kind_again (operator_of n) = refl

abbrev kind_code : Coded Kind
kind_code = code_by (Option ℕ) (coded_option coded_ℕ) arguments_of kind_of kind_again

kind_prop : (ks : List Kind) (i : ℕ) (k : Kind) → IsProp (kind_at ks i ≡ Some k)
kind_prop ks i k = Coded-set (coded_option kind_code) (kind_at ks i) (Some k)

before_prop : (ns : List (List ℕ)) (l : ℕ) (ls : PlainLabels) → IsProp (StandsBeforeAll ns l ls)
before_prop ns l no_label = Unit-prop
before_prop ns l (labels m t ls) = ×_prop (Ordering-set _ _) (before_prop ns l ls)

mutual
  pub type_prop : (ns : List (List ℕ)) (ks : List Kind) (t : PlainType) → IsProp (IsWellFormed ns ks t)
  type_prop ns ks Top = Unit-prop
  type_prop ns ks Int = Unit-prop
  type_prop ns ks Char = Unit-prop
  type_prop ns ks Str = Unit-prop
  type_prop ns ks Boolean = Unit-prop
  type_prop ns ks (Var i) = kind_prop ks i proper
  type_prop ns ks (Apply i ts) = ×_prop (kind_prop ks i (operator_of (count_types ts))) (types_prop ns ks ts)
  type_prop ns ks (Chan m t) = type_prop ns ks t
  type_prop ns ks (Fields bs ps ls) =
      ×_prop (bounds_prop ns ks bs) (×_prop (types_prop ns (kinds_under ks bs) ps) (labels_prop ns (kinds_under ks bs) ls))
  type_prop ns ks (Rec t) = type_prop ns (proper ∷ ks) t

  types_prop : (ns : List (List ℕ)) (ks : List Kind) (ts : PlainTypes) → IsProp (AreWellFormed ns ks ts)
  types_prop ns ks no_type = Unit-prop
  types_prop ns ks (types t ts) = ×_prop (type_prop ns ks t) (types_prop ns ks ts)

  labels_prop : (ns : List (List ℕ)) (ks : List Kind) (ls : PlainLabels) → IsProp (LabelsAreWellFormed ns ks ls)
  labels_prop ns ks no_label = Unit-prop
  labels_prop ns ks (labels l t ls) =
      ×_prop (before_prop ns l ls) (×_prop (type_prop ns ks t) (labels_prop ns ks ls))

  bounds_prop : (ns : List (List ℕ)) (ks : List Kind) (bs : PlainBounds) → IsProp (BoundsAreWellFormed ns ks bs)
  bounds_prop ns ks no_bound = Unit-prop
  bounds_prop ns ks (bounds b bs) = ×_prop (bound_prop ns ks b) (bounds_prop ns (kind_by b ∷ ks) bs)

  bound_prop : (ns : List (List ℕ)) (ks : List Kind) (b : PlainBound) → IsProp (BoundIsWellFormed ns ks b)
  bound_prop ns ks Free = Unit-prop
  bound_prop ns ks (Below t) = ×_prop (Coded-set coded_bool (is_top t) false) (type_prop ns ks t)
  bound_prop ns ks (Operator ms) = Unit-prop

entry_prop : (ns : List (List ℕ)) (c : TypeContext) (w : PlainWhat) → IsProp (EntryIsWellFormed ns c w)
entry_prop ns c (Variable b) = bound_prop ns (kinds c) b
entry_prop ns c (Definition (Plain t)) = type_prop ns (kinds c) t
entry_prop ns c (Definition (Op n t)) = type_prop ns (with_parameters n (kinds c)) t

pub entries_prop : (ns : List (List ℕ)) (c : PlainContext) → IsProp (EntriesAreWellFormed ns c)
entries_prop ns [] = Unit-prop
entries_prop ns (e ∷ c) = ×_prop (entry_prop ns (variables c) e.what) (entries_prop ns c)
