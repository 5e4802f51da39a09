-- The limits of types.
use Rattle.std.specs.Prelude.{◌≤◌, ◌<◌}
use Rattle.pict_syntax.specs.declared.limits.TheConstants.{HEIGHT_LIMIT, WEIGHT_LIMIT}
use Rattle.pict_types.specs.Types.{PlainType, TypeContext}
use Rattle.pict_types.specs.Measures.{weight_of, height_of}

-- the type weighs at most the greatest weight and is at most the greatest height
abbrev pub IsWithinLimits : TypeContext → PlainType → Type 0
IsWithinLimits c t = (weight_of c t ≤ WEIGHT_LIMIT) × (height_of c t ≤ HEIGHT_LIMIT)

abbrev pub IsTooHeavy : TypeContext → PlainType → Type 0
IsTooHeavy c t = WEIGHT_LIMIT < weight_of c t

-- the type is too high, and not too heavy
abbrev pub IsTooHigh : TypeContext → PlainType → Type 0
IsTooHigh c t = (weight_of c t ≤ WEIGHT_LIMIT) × (HEIGHT_LIMIT < height_of c t)
