-- What is well formed under the type fields of a record, by what is found for them or put in.
use Rattle.std.specs.Prelude.{List}
use Rattle.pict_types.specs.declared.types.Ty.{Ty}
use Rattle.pict_types.specs.declared.types.Bound.{Bound}
use Rattle.pict_types.specs.Types.{PlainType, PlainBound, PlainBounds, PlainArg}
use Rattle.pict_types.specs.Kinds.{ArgIsWellFormed, BoundIsWellFormed, BoundsAreWellFormed, IsWellFormed}
use Rattle.pict_types.specs.Instances.{ArgsAreWellFormed}
use Rattle.pict_types.specs.Plain.{plain}
use Rattle.pict_normal.specs.Written.{kinds_with}
use Rattle.pict_match.specs.declared.found.Found.{Found}
use Rattle.pict_rules.specs.Environments.{Environment}
use Rattle.pict_rules.specs.Regular.{kinds_in, kinds_within}
use Rattle.pict_lines.specs.Reading.{found_for}

-- the type of a field, under type fields with these bounds and what is found for them
abbrev pub IsFieldIn : Environment → List Bound → Found → Ty → Type 0
IsFieldIn e bs f t = IsWellFormed e.names (kinds_within (kinds_in e) (found_for bs f)) (plain t)

-- a type and a bound under type fields that take these arguments
abbrev pub IsTypeUnder : Environment → List PlainArg → PlainType → Type 0
IsTypeUnder e args t = IsWellFormed e.names (kinds_with args (kinds_in e)) t

abbrev pub IsBoundUnder : Environment → List PlainArg → PlainBound → Type 0
IsBoundUnder e args b = BoundIsWellFormed e.names (kinds_with args (kinds_in e)) b

-- arguments, and the bounds of type fields
abbrev pub IsArgIn : Environment → PlainArg → Type 0
IsArgIn e a = ArgIsWellFormed e.names (kinds_in e) a

abbrev pub AreArgsIn : Environment → List PlainArg → Type 0
AreArgsIn e args = ArgsAreWellFormed e.names (kinds_in e) args

abbrev pub AreBoundsIn : Environment → PlainBounds → Type 0
AreBoundsIn e bs = BoundsAreWellFormed e.names (kinds_in e) bs
