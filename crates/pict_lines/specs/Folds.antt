-- A fold's types as the rules see them.
use Rattle.pict_types.specs.Types.{PlainTypes, no_type, types}
use Rattle.pict_types.specs.Plain.{plain}
use Rattle.pict_lines.specs.declared.folds.Fold.{Fold}

abbrev pub annotated_types : Fold → PlainTypes
annotated_types f = types (plain f.folded) (types (plain f.unfolding) no_type)
