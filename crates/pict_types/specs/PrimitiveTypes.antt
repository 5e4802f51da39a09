-- What each primitive takes, and its type.
use Rattle.pict_syntax.specs.declared.primitive.Primitive.{Primitive}
use Rattle.pict_syntax.specs.declared.primitive.ValueKind.{ValueKind}
use Rattle.pict_syntax.specs.declared.primitive.ValueKind.TheVariants as kind
use Rattle.pict_syntax.specs.declared.primitive.Operands.{Operands}
use Rattle.pict_syntax.specs.declared.primitive.Operands.TheVariants.{Alone, One, Two}
use Rattle.pict_syntax.specs.Primitives.{operands_of}
use Rattle.pict_types.specs.Types.{Respond, PlainType, Int, Char, Str, Boolean, Chan, Fields, no_type, types, no_label, no_bound}

-- [S /R]: one operand and a channel for the answer
abbrev pub one_operand : PlainType → PlainType → PlainType
one_operand s r = Fields no_bound (types s (types (Chan Respond r) no_type)) no_label

-- [S T /R]: two operands and a channel for the answer
abbrev pub two_operands : PlainType → PlainType → PlainType → PlainType
two_operands s t r = Fields no_bound (types s (types t (types (Chan Respond r) no_type))) no_label

-- the record type without fields, []
abbrev pub empty_record : PlainType
empty_record = Fields no_bound no_type no_label

abbrev pub of_kind : ValueKind → PlainType
of_kind kind.Int = Int
of_kind kind.Char = Char
of_kind kind.Bool = Boolean
of_kind kind.Text = Str
of_kind kind.Empty = empty_record

abbrev pub taken : Operands → PlainType
taken (Alone s) = of_kind s
taken (One s r) = one_operand (of_kind s) (of_kind r)
taken (Two s t r) = two_operands (of_kind s) (of_kind t) (of_kind r)

-- what the primitives take
abbrev pub takes : Primitive → PlainType
takes p = taken (operands_of p)

-- a primitive that takes values of T has the type /T
abbrev pub type_of : Primitive → PlainType
type_of p = Chan Respond (takes p)
