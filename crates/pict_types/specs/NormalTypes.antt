-- Types in which no bound is Top: a bound Top is none, so no type in normal form has one.
use Rattle.std.specs.Prelude.{ℕ, List, [], ◌∷◌}
use Rattle.pict_types.specs.Types.{PlainType, Top, Int, Char, Str, Boolean, Var, Apply, Chan, Fields, Rec, PlainTypes, no_type, types, PlainLabels, no_label, labels, PlainBound, Free, Below, Operator, PlainBounds, no_bound, bounds, PlainArg, Plain, Op, TypeContext, IsNotTop}
use Rattle.pict_types.specs.Replacing.{Head, variable, operator, nothing, Filling, Replacement}

abbrev mutual
  pub IsNormal : PlainType → Type 0
  IsNormal Top = Unit {0}
  IsNormal Int = Unit {0}
  IsNormal Char = Unit {0}
  IsNormal Str = Unit {0}
  IsNormal Boolean = Unit {0}
  IsNormal (Var i) = Unit {0}
  IsNormal (Apply i ts) = AreNormal ts
  IsNormal (Chan m t) = IsNormal t
  IsNormal (Fields bs ps ls) = BoundsAreNormal bs × (AreNormal ps × LabelsAreNormal ls)
  IsNormal (Rec t) = IsNormal t

  pub AreNormal : PlainTypes → Type 0
  AreNormal no_type = Unit {0}
  AreNormal (types t ts) = IsNormal t × AreNormal ts

  pub LabelsAreNormal : PlainLabels → Type 0
  LabelsAreNormal no_label = Unit {0}
  LabelsAreNormal (labels l t ls) = IsNormal t × LabelsAreNormal ls

  pub BoundIsNormal : PlainBound → Type 0
  BoundIsNormal Free = Unit {0}
  BoundIsNormal (Below t) = IsNotTop t × IsNormal t
  BoundIsNormal (Operator ms) = Unit {0}

  pub BoundsAreNormal : PlainBounds → Type 0
  BoundsAreNormal no_bound = Unit {0}
  BoundsAreNormal (bounds b bs) = BoundIsNormal b × BoundsAreNormal bs

abbrev pub ArgIsNormal : PlainArg → Type 0
ArgIsNormal (Plain t) = IsNormal t
ArgIsNormal (Op n t) = IsNormal t

abbrev pub ArgsAreNormal : List PlainArg → Type 0
ArgsAreNormal [] = Unit {0}
ArgsAreNormal (a ∷ args) = ArgIsNormal a × ArgsAreNormal args

-- no bound of the context is Top, nor any bound within one
abbrev pub ContextIsNormal : TypeContext → Type 0
ContextIsNormal [] = Unit {0}
ContextIsNormal (b ∷ c) = BoundIsNormal b × ContextIsNormal c

abbrev pub HeadIsNormal : Head → Type 0
HeadIsNormal (variable i) = Unit {0}
HeadIsNormal (operator n t) = IsNormal t
HeadIsNormal nothing = Unit {0}

-- what is put for variables is normal
pub record FillsNormal (s : Filling) : Type 0 where
  pub types_ : (i : ℕ) → IsNormal (s.type_for i)

pub record ReplacesNormal (r : Replacement) : Type 0 where
  pub types_ : (i : ℕ) → IsNormal (r.type_of i)
  pub heads_ : (i : ℕ) → HeadIsNormal (r.head_of i)
