-- Well formed types: each variable has a binder and stands as its kind wants, labels are distinct and in order, and no
-- bound is Top.
use Rattle.std.specs.Prelude.{◌≡◌, ℕ, zero, suc, List, [], ◌∷◌, length, Option, Some, None}
use Rattle.pict_syntax.specs.Labels.{StandsBefore}
use Rattle.pict_types.specs.Types.{PlainType, Top, Int, Char, Str, Boolean, Var, Apply, Chan, Fields, Rec, PlainTypes, no_type, types, PlainLabels, no_label, labels, PlainBound, Free, Below, Operator, PlainBounds, no_bound, bounds, PlainArg, Plain, Op, TypeContext, count_types, IsNotTop}

-- types, and operators of so many arguments
pub data Kind : Type 0 where
  proper : Kind
  operator_of : ℕ → Kind

abbrev pub kind_by : PlainBound → Kind
kind_by Free = proper
kind_by (Below t) = proper
kind_by (Operator ms) = operator_of (length ms)

-- the kinds of the variables of a context, the innermost first
abbrev pub kinds : TypeContext → List Kind
kinds [] = []
kinds (b ∷ c) = kind_by b ∷ kinds c

-- and of those with the type fields of a record
abbrev pub kinds_under : List Kind → PlainBounds → List Kind
kinds_under ks no_bound = ks
kinds_under ks (bounds b bs) = kinds_under (kind_by b ∷ ks) bs

abbrev pub kind_at : List Kind → ℕ → Option Kind
kind_at [] i = None
kind_at (k ∷ ks) zero = Some k
kind_at (k ∷ ks) (suc i) = kind_at ks i

-- one label comes before each of these
abbrev pub StandsBeforeAll : List (List ℕ) → ℕ → PlainLabels → Type 0
StandsBeforeAll ns l no_label = Unit {0}
StandsBeforeAll ns l (labels m t ls) = StandsBefore ns l m × StandsBeforeAll ns l ls

abbrev mutual
  -- the type is well formed where the variables have these kinds
  pub IsWellFormed : List (List ℕ) → List Kind → PlainType → Type 0
  IsWellFormed ns ks Top = Unit {0}
  IsWellFormed ns ks Int = Unit {0}
  IsWellFormed ns ks Char = Unit {0}
  IsWellFormed ns ks Str = Unit {0}
  IsWellFormed ns ks Boolean = Unit {0}
  IsWellFormed ns ks (Var i) = kind_at ks i ≡ Some proper
  IsWellFormed ns ks (Apply i ts) = (kind_at ks i ≡ Some (operator_of (count_types ts))) × AreWellFormed ns ks ts
  IsWellFormed ns ks (Chan m t) = IsWellFormed ns ks t
  IsWellFormed ns ks (Fields bs ps ls) =
      BoundsAreWellFormed ns ks bs × (AreWellFormed ns (kinds_under ks bs) ps × LabelsAreWellFormed ns (kinds_under ks bs) ls)
  IsWellFormed ns ks (Rec t) = IsWellFormed ns (proper ∷ ks) t

  pub AreWellFormed : List (List ℕ) → List Kind → PlainTypes → Type 0
  AreWellFormed ns ks no_type = Unit {0}
  AreWellFormed ns ks (types t ts) = IsWellFormed ns ks t × AreWellFormed ns ks ts

  -- the labels are distinct and in order, and the types well formed
  pub LabelsAreWellFormed : List (List ℕ) → List Kind → PlainLabels → Type 0
  LabelsAreWellFormed ns ks no_label = Unit {0}
  LabelsAreWellFormed ns ks (labels l t ls) = StandsBeforeAll ns l ls × (IsWellFormed ns ks t × LabelsAreWellFormed ns ks ls)

  pub BoundsAreWellFormed : List (List ℕ) → List Kind → PlainBounds → Type 0
  BoundsAreWellFormed ns ks no_bound = Unit {0}
  BoundsAreWellFormed ns ks (bounds b bs) = BoundIsWellFormed ns ks b × BoundsAreWellFormed ns (kind_by b ∷ ks) bs

  -- a bound Top is none
  pub BoundIsWellFormed : List (List ℕ) → List Kind → PlainBound → Type 0
  BoundIsWellFormed ns ks Free = Unit {0}
  BoundIsWellFormed ns ks (Below t) = IsNotTop t × IsWellFormed ns ks t
  BoundIsWellFormed ns ks (Operator ms) = Unit {0}

-- the kinds with those of the n parameters of an operator
abbrev pub with_parameters : ℕ → List Kind → List Kind
with_parameters zero ks = ks
with_parameters (suc n) ks = proper ∷ with_parameters n ks

abbrev pub ArgIsWellFormed : List (List ℕ) → List Kind → PlainArg → Type 0
ArgIsWellFormed ns ks (Plain t) = IsWellFormed ns ks t
ArgIsWellFormed ns ks (Op n t) = IsWellFormed ns (with_parameters n ks) t

-- each bound is well formed in the variables after it
abbrev pub ContextIsWellFormed : List (List ℕ) → TypeContext → Type 0
ContextIsWellFormed ns [] = Unit {0}
ContextIsWellFormed ns (b ∷ c) = BoundIsWellFormed ns (kinds c) b × ContextIsWellFormed ns c
