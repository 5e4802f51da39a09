-- The shapes of the arguments of primitives.
use Rattle.std.specs.Prelude.{◌≡◌, ◌&&◌, Bool, true, false, Option, Some, None}
use Rattle.pict_syntax.specs.declared.primitive.Primitive.{Primitive}
use Rattle.pict_syntax.specs.declared.primitive.ValueKind.{ValueKind}
use Rattle.pict_syntax.specs.declared.primitive.ValueKind.TheVariants as kind
use Rattle.pict_syntax.specs.declared.primitive.Operands.{Operands}
use Rattle.pict_syntax.specs.declared.primitive.Operands.TheVariants.{Alone, One, Two}
use Rattle.pict_syntax.specs.Primitives.{operands_of}
use Rattle.pict_core.specs.Term.{Val, Int, Char, Boolean, Text, Record, no_vals, more_vals}
use Rattle.pict_core.specs.Primitives.{Effect, effect_of}

-- The value is of the kind. No primitive takes the record without fields as an operand.
abbrev pub is_kind : ValueKind → Val → Bool
is_kind kind.Int (Int n) = true
is_kind kind.Char (Char byte) = true
is_kind kind.Bool (Boolean b) = true
is_kind kind.Text (Text bytes) = true
is_kind _ _ = false

-- The value is one that a primitive with these operands takes: where it answers may be any value.
abbrev pub has_operands : Operands → Val → Bool
has_operands (Alone a) v = is_kind a v
has_operands (One a r) (Record (more_vals v (more_vals k no_vals)) ls) = is_kind a v
has_operands (Two a b r) (Record (more_vals v (more_vals w (more_vals k no_vals))) ls) = is_kind a v && is_kind b w
has_operands _ _ = false

abbrev pub is_effect : Option Effect → Bool
is_effect None = false
is_effect (Some e) = true

-- A primitive takes exactly the values with its operands.
abbrev pub PrimitivesTakeShapes : Type 0
PrimitivesTakeShapes = (p : Primitive) (v : Val) → is_effect (effect_of p v) ≡ has_operands (operands_of p) v
