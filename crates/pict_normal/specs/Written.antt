-- What is written in a context, what it stands for there, and the kinds under arguments.
use Rattle.std.specs.Prelude.{List, [], ◌∷◌, Option}
use Rattle.pict_syntax.specs.Trees.{TypeTree}
use Rattle.pict_syntax.specs.Stops.{Stop}
use Rattle.pict_types.specs.declared.context.Context.{Context}
use Rattle.pict_types.specs.declared.types.Record.{Record}
use Rattle.pict_types.specs.Types.{PlainType, PlainArg, Plain, Op, TypeContext}
use Rattle.pict_types.specs.Instances.{ArgsAreWellFormed}
use Rattle.pict_types.specs.Kinds.{Kind, proper, operator_of, kinds, IsWellFormed, ArgIsWellFormed}
use Rattle.pict_types.specs.Plain.{plain_types, plain_labels}
use Rattle.pict_types.specs.PlainContext.{names_of, plain_context, type_context}
use Rattle.pict_types.specs.Replacing.{arguments, instance_of, replace}
use Rattle.pict_types.specs.WithinLimits.{IsWithinLimits}
use Rattle.pict_normal.specs.Normal.{kind_stop, normal}
use Rattle.pict_normal.specs.WrittenArguments.{arg_stop, normal_arg}

-- arguments and rows of arguments that are well formed in the variables of a context
abbrev pub ArgIsWrittenIn : Context → PlainArg → Type 0
ArgIsWrittenIn c a = ArgIsWellFormed (names_of c) (kinds (type_context c)) a

abbrev pub ArgsAreWrittenIn : Context → List PlainArg → Type 0
ArgsAreWrittenIn c args = ArgsAreWellFormed (names_of c) (kinds (type_context c)) args

-- the normal form of a written type there, and its refusal
abbrev pub normal_in : Context → TypeTree → PlainType
normal_in c t = normal (names_of c) (plain_context c) t

abbrev pub stop_in : Context → TypeTree → Option Stop
stop_in c t = kind_stop (names_of c) (plain_context c) t

-- the same of a written argument
abbrev pub normal_arg_in : Context → TypeTree → PlainArg
normal_arg_in c t = normal_arg (names_of c) (plain_context c) t

abbrev pub arg_stop_in : Context → TypeTree → Option Stop
arg_stop_in c t = arg_stop (names_of c) (plain_context c) t

-- an argument that is a type is within the limits; an operator is no type, and isn't measured
abbrev pub ArgIsWithinLimits : TypeContext → PlainArg → Type 0
ArgIsWithinLimits c (Plain t) = IsWithinLimits c t
ArgIsWithinLimits c (Op n t) = Unit {0}

abbrev pub kind_of_arg : PlainArg → Kind
kind_of_arg (Plain t) = proper
kind_of_arg (Op n t) = operator_of n

-- the kinds with those of the arguments, the last one for variable 0
abbrev pub kinds_with : List PlainArg → List Kind → List Kind
kinds_with [] ks = ks
kinds_with (a ∷ args) ks = kinds_with args (kind_of_arg a ∷ ks)

-- a type that is written in a context and under type fields of these arguments' kinds
abbrev pub IsWrittenUnder : Context → List PlainArg → PlainType → Type 0
IsWrittenUnder c args t = IsWellFormed (names_of c) (kinds_with args (kinds (type_context c))) t

-- a type with the arguments put for its innermost variables, the last one for variable 0
abbrev pub type_with : List PlainArg → PlainType → PlainType
type_with args t = replace (arguments args) t

-- the fields of a record with the arguments put for its type fields
abbrev pub record_with : List PlainArg → Record → PlainType
record_with args r = instance_of args (plain_types r.positional.items) (plain_labels r.labelled.items)
