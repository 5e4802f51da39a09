-- The shape of a type.
use Rattle.pict_types.specs.Types.{PlainType, Top, Int, Char, Str, Boolean, Var, Apply, Chan, Fields, Rec}

pub data Shape : Type 0 where
  top variable applied_ channel record_ other : Shape

abbrev pub shape_of : PlainType → Shape
shape_of Top = top
shape_of Int = other
shape_of Char = other
shape_of Str = other
shape_of Boolean = other
shape_of (Var i) = variable
shape_of (Apply i ts) = applied_
shape_of (Chan m t) = channel
shape_of (Fields bs ps ls) = record_
shape_of (Rec t) = other
