-- What a primitive does to the operands that it takes.
use Rattle.std.specs.Prelude.{ℤ, Option, None}
use Rattle.std.specs.Fmt.{signed_decimal}
use Rattle.pict_syntax.specs.declared.primitive.Primitive.{Primitive}
use Rattle.pict_syntax.specs.declared.primitive.Primitive.TheVariants as primitive
use Rattle.pict_core.specs.Term.{Val, Int, Record, no_vals, more_vals, no_labelled}
use Rattle.pict_core.specs.Primitives.{Effect, effect_of, prints, at_int, at_text}

-- the effect on an argument that is no record
abbrev pub simple_effect : Primitive → Val → Option Effect
simple_effect primitive.Print v = at_text v prints
simple_effect primitive.Printi v = at_int v (λ n. prints (signed_decimal n))
simple_effect _ v = None

-- the effect on one operand, answered at k
abbrev pub one_effect : Primitive → Val → Val → Option Effect
one_effect p v k = effect_of p (Record (more_vals v (more_vals k no_vals)) no_labelled)

-- the effect on two operands, answered at k
abbrev pub two_effect : Primitive → Val → Val → Val → Option Effect
two_effect p v w k = effect_of p (Record (more_vals v (more_vals w (more_vals k no_vals))) no_labelled)

-- the effect on two numbers
abbrev pub int_effect : Primitive → ℤ → ℤ → Val → Option Effect
int_effect p a b k = two_effect p (Int a) (Int b) k

-- `+` and `-`
abbrev pub IsSum : Primitive → Type 0
IsSum primitive.Add = Unit {0}
IsSum primitive.Subtract = Unit {0}
IsSum _ = ⊥

-- `*`, `div` and `mod`
abbrev pub IsProduct : Primitive → Type 0
IsProduct primitive.Multiply = Unit {0}
IsProduct primitive.Divide = Unit {0}
IsProduct primitive.Remainder = Unit {0}
IsProduct _ = ⊥

-- `>>` and `>=`
abbrev pub IsGreater : Primitive → Type 0
IsGreater primitive.Greater = Unit {0}
IsGreater primitive.AtLeast = Unit {0}
IsGreater _ = ⊥

-- the comparisons of two numbers
abbrev pub IsComparison : Primitive → Type 0
IsComparison primitive.Equal = Unit {0}
IsComparison primitive.Less = Unit {0}
IsComparison primitive.AtMost = Unit {0}
IsComparison p = IsGreater p
