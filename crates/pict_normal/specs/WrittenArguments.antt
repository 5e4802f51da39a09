-- Written types as arguments: types, and operators by their bare names.
use Rattle.std.specs.Prelude.{ℕ, zero, suc, ◌+◌, List, Option, Some, None}
use Rattle.pict_syntax.specs.Trees.{TypeTree, use_type}
use Rattle.pict_syntax.specs.Stops.{Stop}
use Rattle.pict_types.specs.Types.{PlainType, Top, Var, Apply, PlainTypes, no_type, types, PlainArg, Plain, Op}
use Rattle.pict_types.specs.Replacing.{Head, variable, operator, nothing}
use Rattle.pict_types.specs.Entries.{PlainContext}
use Rattle.pict_normal.specs.Normal.{Meaning, a_type, an_operator, meaning, normal, kind_stop}

-- the parameters of an operator, the last one for variable 0
abbrev pub parameters : ℕ → PlainTypes
parameters zero = no_type
parameters (suc n) = types (Var n) (parameters n)

-- the body of an operator of n parameters: a variable is applied to them, and a definition has its own
abbrev pub body_of : ℕ → Head → PlainType
body_of n (variable i) = Apply (i + n) (parameters n)
body_of n (operator m t) = t
body_of n nothing = Top

-- what a bare name means
abbrev pub named : PlainContext → TypeTree → Option Meaning
named c (use_type s n) = meaning c n.0
named c _ = None

-- the operator that is meant, and else the type
abbrev pub arg_meant : Option Meaning → PlainType → PlainArg
arg_meant None t = Plain t
arg_meant (Some (a_type u)) t = Plain t
arg_meant (Some (an_operator n h)) t = Op n (body_of n h)

-- the bare name of an operator is that operator, and every other written type its normal form
abbrev pub normal_arg : List (List ℕ) → PlainContext → TypeTree → PlainArg
normal_arg ns c t = arg_meant (named c t) (normal ns c t)

-- an operator is no type, and isn't refused; else the type's own refusal counts
abbrev pub stop_meant : Option Meaning → Option Stop → Option Stop
stop_meant None o = o
stop_meant (Some (a_type t)) o = o
stop_meant (Some (an_operator n h)) o = None

abbrev pub arg_stop : List (List ℕ) → PlainContext → TypeTree → Option Stop
arg_stop ns c t = stop_meant (named c t) (kind_stop ns c t)
