-- Parts of the code's types as the rules see them.
use Rattle.std.specs.Prelude.{List, Option, None, Some}
use Rattle.pict_types.specs.declared.types.Ty.{Ty}
use Rattle.pict_types.specs.declared.types.Bound.{Bound}
use Rattle.pict_types.specs.Types.{PlainBound, Plain}
use Rattle.pict_types.specs.Plain.{plain, plain_bounds}
use Rattle.pict_match.specs.declared.found.Found.{Found}
use Rattle.pict_match.specs.PlainFound.{found_of}
use Rattle.pict_rules.specs.Found as rules

-- what is found for type fields with these bounds
abbrev pub found_for : List Bound → Found → rules.Found
found_for bs f = found_of (plain_bounds bs) f

-- what stands for one type field with this bound
abbrev pub slot : PlainBound → Option Ty → rules.Slot
slot b None = rules.open_slot b
slot b (Some t) = rules.filled (Plain (plain t))
