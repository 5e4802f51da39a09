-- The shape of a primitive's argument, by the one table of what each primitive takes.
use Rattle.std.specs.Prelude.{IsSome, ◌↔◌}
use Rattle.pict_syntax.specs.declared.primitive.Primitive.{Primitive}
use Rattle.pict_types.specs.Types.{PlainType, Int, Char, Str, Boolean, Chan, Fields, PlainTypes, no_type, types}
use Rattle.pict_types.specs.PrimitiveTypes.{takes}
use Rattle.pict_core.specs.Term as core
use Rattle.pict_core.specs.Term.{Val, Vals, Record, no_vals, more_vals}
use Rattle.pict_core.specs.Primitives.{effect_of}

-- Literals of the base types, and records of as many positional fields. Where a channel is taken any value may stand, and
-- labels count nothing.
abbrev mutual
  pub HasShape : PlainType → Val → Type 0
  HasShape Int (core.Int n) = Unit {0}
  HasShape Char (core.Char byte) = Unit {0}
  HasShape Str (core.Text bytes) = Unit {0}
  HasShape Boolean (core.Boolean b) = Unit {0}
  HasShape (Chan m t) v = Unit {0}
  HasShape (Fields bs ps ls) (Record vs ws) = HaveShapes ps vs
  HasShape _ _ = ⊥

  pub HaveShapes : PlainTypes → Vals → Type 0
  HaveShapes no_type no_vals = Unit {0}
  HaveShapes (types t ts) (more_vals v vs) = HasShape t v × HaveShapes ts vs
  HaveShapes _ _ = ⊥

-- A primitive has an effect on exactly the values of the shape that it takes.
abbrev pub EffectsAreByShape : Type 0
EffectsAreByShape = (p : Primitive) (v : Val) → IsSome (effect_of p v) ↔ HasShape (takes p) v
