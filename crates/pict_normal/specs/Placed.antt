-- What is made of types with what is put into them, under binders with these measures.
use Rattle.std.specs.Prelude.{List}
use Rattle.pict_types.specs.declared.measure.Measures.{Measures}
use Rattle.pict_normal.specs.declared.arguments.Arguments.{Arguments}
use Rattle.pict_normal.specs.declared.made.Made.{Made}
use Rattle.pict_normal.specs.declared.made.MadeBound.{MadeBound}
use Rattle.pict_normal.specs.declared.puts.Puts.{Puts}
use Rattle.pict_types.specs.Types.{PlainType, PlainTypes, PlainLabels, PlainBound, PlainBounds}
use Rattle.pict_types.specs.Replacing.{replace, replace_types, replace_labels, replace_bound, replace_bounds}
use Rattle.pict_normal.specs.Made.{IsMade, IsMadeBound, AreArguments}
use Rattle.pict_normal.specs.Putting.{heights_in, replacement_in, weights_in}

abbrev pub replaced : Puts → List Measures → PlainType → PlainType
replaced p ms t = replace (replacement_in p ms) t

abbrev pub replaced_types : Puts → List Measures → PlainTypes → PlainTypes
replaced_types p ms ts = replace_types (replacement_in p ms) ts

abbrev pub replaced_labels : Puts → List Measures → PlainLabels → PlainLabels
replaced_labels p ms ls = replace_labels (replacement_in p ms) ls

abbrev pub replaced_bound : Puts → List Measures → PlainBound → PlainBound
replaced_bound p ms b = replace_bound (replacement_in p ms) b

abbrev pub replaced_bounds : Puts → List Measures → PlainBounds → PlainBounds
replaced_bounds p ms bs = replace_bounds (replacement_in p ms) bs

-- types, bounds and arguments with their measures there
abbrev pub IsMadeIn : Puts → List Measures → Made → PlainType → Type 0
IsMadeIn p ms m t = IsMade (weights_in p ms) (heights_in p ms) m t

abbrev pub IsMadeBoundIn : Puts → List Measures → MadeBound → PlainBound → Type 0
IsMadeBoundIn p ms m b = IsMadeBound (weights_in p ms) (heights_in p ms) m b

abbrev pub AreArgumentsIn : Puts → List Measures → Arguments → PlainTypes → Type 0
AreArgumentsIn p ms a us = AreArguments (weights_in p ms) (heights_in p ms) a us
