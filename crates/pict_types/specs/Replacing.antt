-- Types and operators put for type variables.
use Rattle.std.specs.Prelude.{◌≡◌, ℕ, zero, suc, List, [], ◌∷◌, length, Option, Some, None}
use Rattle.std.specs.Option.{option_map}
use Rattle.pict_types.specs.Types.{PlainType, Top, Int, Char, Str, Boolean, Var, Apply, Chan, Fields, Rec, PlainTypes, no_type, types, PlainLabels, no_label, labels, PlainBound, Free, Below, Operator, PlainBounds, no_bound, bounds, PlainArg, Plain, Op}
use Rattle.pict_types.specs.Renaming.{beyond_times, rename}

-- the bound that a type makes: Top is none
abbrev pub bound_by : PlainType → PlainBound
bound_by Top = Free
bound_by Int = Below Int
bound_by Char = Below Char
bound_by Str = Below Str
bound_by Boolean = Below Boolean
bound_by (Var i) = Below (Var i)
bound_by (Apply i ts) = Below (Apply i ts)
bound_by (Chan m t) = Below (Chan m t)
bound_by (Fields bs ps ls) = Below (Fields bs ps ls)
bound_by (Rec t) = Below (Rec t)

-- types for type variables, and variables for operator variables; none where a type stands, which takes no arguments
pub record Filling : Type 0 where
  pub type_for : ℕ → PlainType
  pub head_for : ℕ → Option ℕ

abbrev pub type_beyond : (ℕ → PlainType) → ℕ → PlainType
type_beyond f zero = Var zero
type_beyond f (suc i) = rename suc (f i)

abbrev pub next_variable : Option ℕ → Option ℕ
next_variable o = option_map suc o

abbrev pub variable_beyond : (ℕ → Option ℕ) → ℕ → Option ℕ
variable_beyond f zero = Some zero
variable_beyond f (suc i) = next_variable (f i)

-- a filling under one more binder, and under the type fields of a record
abbrev pub filling_beyond : Filling → Filling
filling_beyond s = record { type_for = type_beyond s.type_for; head_for = variable_beyond s.head_for }

abbrev pub filling_beyond_all : PlainBounds → Filling → Filling
filling_beyond_all no_bound s = s
filling_beyond_all (bounds b bs) s = filling_beyond_all bs (filling_beyond s)

-- an applied variable; a type takes no arguments, and Top is in the place of what has no meaning
abbrev pub apply_variable : Option ℕ → PlainTypes → PlainType
apply_variable None us = Top
apply_variable (Some i) us = Apply i us

abbrev mutual
  pub fill : Filling → PlainType → PlainType
  fill s Top = Top
  fill s Int = Int
  fill s Char = Char
  fill s Str = Str
  fill s Boolean = Boolean
  fill s (Var i) = s.type_for i
  fill s (Apply i ts) = apply_variable (s.head_for i) (fill_types s ts)
  fill s (Chan m t) = Chan m (fill s t)
  fill s (Fields bs ps ls) =
      Fields (fill_bounds s bs) (fill_types (filling_beyond_all bs s) ps) (fill_labels (filling_beyond_all bs s) ls)
  fill s (Rec t) = Rec (fill (filling_beyond s) t)

  pub fill_types : Filling → PlainTypes → PlainTypes
  fill_types s no_type = no_type
  fill_types s (types t ts) = types (fill s t) (fill_types s ts)

  pub fill_labels : Filling → PlainLabels → PlainLabels
  fill_labels s no_label = no_label
  fill_labels s (labels l t ls) = labels l (fill s t) (fill_labels s ls)

  pub fill_bound : Filling → PlainBound → PlainBound
  fill_bound s Free = Free
  fill_bound s (Below t) = bound_by (fill s t)
  fill_bound s (Operator ms) = Operator ms

  pub fill_bounds : Filling → PlainBounds → PlainBounds
  fill_bounds s no_bound = no_bound
  fill_bounds s (bounds b bs) = bounds (fill_bound s b) (fill_bounds (filling_beyond s) bs)

-- one more type in front
abbrev pub first_type : PlainType → (ℕ → PlainType) → ℕ → PlainType
first_type t f zero = t
first_type t f (suc i) = f i

abbrev pub first_head : (ℕ → Option ℕ) → ℕ → Option ℕ
first_head f zero = None
first_head f (suc i) = f i

abbrev pub with_type : PlainType → Filling → Filling
with_type t s = record { type_for = first_type t s.type_for; head_for = first_head s.head_for }

-- types for the n innermost variables, the last one for variable 0; the other variables lose them. Top is in the
-- place of a type that lacks
abbrev pub with_types : ℕ → PlainTypes → Filling → Filling
with_types zero us s = s
with_types (suc n) no_type s = with_types n no_type (with_type Top s)
with_types (suc n) (types t ts) s = with_types n ts (with_type t s)

abbrev pub no_filling : Filling
no_filling = record { type_for = Var; head_for = Some }

-- the body of an operator of n parameters with these arguments
abbrev pub applied : ℕ → PlainType → PlainTypes → PlainType
applied n t us = fill (with_types n us no_filling) t

-- what stands for an applied variable: a variable, an operator of so many parameters with its body, or a type, which
-- takes no arguments
pub data Head : Type 0 where
  variable : ℕ → Head
  operator : ℕ → PlainType → Head
  nothing : Head

-- an applied variable, where this stands for it
abbrev pub apply_head : Head → PlainTypes → PlainType
apply_head (variable i) us = Apply i us
apply_head (operator n t) us = applied n t us
apply_head nothing us = Top

-- types for type variables, and variables or operators for operator variables
pub record Replacement : Type 0 where
  pub type_of : ℕ → PlainType
  pub head_of : ℕ → Head

abbrev pub rename_head : (ℕ → ℕ) → Head → Head
rename_head f (variable i) = variable (f i)
rename_head f (operator n t) = operator n (rename (beyond_times n f) t)
rename_head f nothing = nothing

abbrev pub head_beyond : (ℕ → Head) → ℕ → Head
head_beyond f zero = variable zero
head_beyond f (suc i) = rename_head suc (f i)

-- a replacement under one more binder, and under the type fields of a record
abbrev pub replacement_beyond : Replacement → Replacement
replacement_beyond s = record { type_of = type_beyond s.type_of; head_of = head_beyond s.head_of }

abbrev pub replacement_beyond_all : PlainBounds → Replacement → Replacement
replacement_beyond_all no_bound s = s
replacement_beyond_all (bounds b bs) s = replacement_beyond_all bs (replacement_beyond s)

-- and under so many binders
abbrev pub replacement_past : ℕ → Replacement → Replacement
replacement_past zero s = s
replacement_past (suc d) s = replacement_beyond (replacement_past d s)

abbrev mutual
  pub replace : Replacement → PlainType → PlainType
  replace s Top = Top
  replace s Int = Int
  replace s Char = Char
  replace s Str = Str
  replace s Boolean = Boolean
  replace s (Var i) = s.type_of i
  replace s (Apply i ts) = apply_head (s.head_of i) (replace_types s ts)
  replace s (Chan m t) = Chan m (replace s t)
  replace s (Fields bs ps ls) =
      Fields (replace_bounds s bs) (replace_types (replacement_beyond_all bs s) ps) (replace_labels (replacement_beyond_all bs s) ls)
  replace s (Rec t) = Rec (replace (replacement_beyond s) t)

  pub replace_types : Replacement → PlainTypes → PlainTypes
  replace_types s no_type = no_type
  replace_types s (types t ts) = types (replace s t) (replace_types s ts)

  pub replace_labels : Replacement → PlainLabels → PlainLabels
  replace_labels s no_label = no_label
  replace_labels s (labels l t ls) = labels l (replace s t) (replace_labels s ls)

  -- a bound that becomes Top is none
  pub replace_bound : Replacement → PlainBound → PlainBound
  replace_bound s Free = Free
  replace_bound s (Below t) = bound_by (replace s t)
  replace_bound s (Operator ms) = Operator ms

  pub replace_bounds : Replacement → PlainBounds → PlainBounds
  replace_bounds s no_bound = no_bound
  replace_bounds s (bounds b bs) = bounds (replace_bound s b) (replace_bounds (replacement_beyond s) bs)

-- one more argument in front. No type stands for an operator variable, and no operator for a type variable
abbrev pub type_in : PlainArg → PlainType
type_in (Plain t) = t
type_in (Op n t) = Top

abbrev pub head_in : PlainArg → Head
head_in (Plain t) = nothing
head_in (Op n t) = operator n t

abbrev pub head_first : Head → (ℕ → Head) → ℕ → Head
head_first h f zero = h
head_first h f (suc i) = f i

abbrev pub with_arg : PlainArg → Replacement → Replacement
with_arg a s = record { type_of = first_type (type_in a) s.type_of; head_of = head_first (head_in a) s.head_of }

-- these arguments for the innermost variables, the last one for variable 0; the other variables lose them
abbrev pub with_args : List PlainArg → Replacement → Replacement
with_args [] s = s
with_args (a ∷ args) s = with_args args (with_arg a s)

abbrev pub no_replacement : Replacement
no_replacement = record { type_of = Var; head_of = variable }

abbrev pub arguments : List PlainArg → Replacement
arguments args = with_args args no_replacement

-- the fields of a record with these arguments for its type fields
abbrev pub instance_of : List PlainArg → PlainTypes → PlainLabels → PlainType
instance_of args ps ls = Fields no_bound (replace_types (arguments args) ps) (replace_labels (arguments args) ls)

-- the body t of a recursive type with the whole for its variable
abbrev pub unfolding_of : PlainType → PlainType
unfolding_of t = replace (arguments (Plain (Rec t) ∷ [])) t

-- an argument is of its type field's kind
abbrev pub IsOfKind : PlainArg → PlainBound → Type 0
IsOfKind (Plain t) Free = Unit {0}
IsOfKind (Plain t) (Below b) = Unit {0}
IsOfKind (Plain t) (Operator ms) = ⊥
IsOfKind (Op m t) Free = ⊥
IsOfKind (Op m t) (Below b) = ⊥
IsOfKind (Op m t) (Operator ms) = m ≡ length ms

-- there are as many arguments as type fields, each of its field's kind
abbrev pub FitTheirFields : List PlainArg → PlainBounds → Type 0
FitTheirFields [] no_bound = Unit {0}
FitTheirFields [] (bounds b bs) = ⊥
FitTheirFields (a ∷ args) no_bound = ⊥
FitTheirFields (a ∷ args) (bounds b bs) = IsOfKind a b × FitTheirFields args bs
