-- What becomes of a variable that is renumbered, and of what is left where nothing is made.
use Rattle.std.specs.Prelude.{ℕ, ◌-◌, Option, Some, None}
use Rattle.pict_types.specs.declared.renumber.Renumbering.{Renumbering}
use Rattle.pict_types.specs.declared.renumber.Renumbering.TheVariants.{Up, Down}
use Rattle.pict_types.specs.declared.types.Ty.{Ty}
use Rattle.pict_types.specs.declared.types.Record.{Record}
use Rattle.pict_types.specs.declared.types.Bound.{Bound}
use Rattle.pict_types.specs.Plain.{plain, plain_bound, plain_record}
use Rattle.pict_types.specs.Renaming.{plus}
use Rattle.pict_types.specs.Types.{PlainType, PlainBound}

abbrev pub renumbered : Renumbering → ℕ → ℕ
renumbered (Up k) = plus k
renumbered (Down k) = λ i. i - k

-- what is made, or what is left where nothing is
abbrev pub changed : Option Ty → PlainType → PlainType
changed None t = t
changed (Some u) t = plain u

abbrev pub changed_record : Option Record → PlainType → PlainType
changed_record None t = t
changed_record (Some r) t = plain_record r

abbrev pub changed_bound : Option Bound → PlainBound → PlainBound
changed_bound None b = b
changed_bound (Some d) b = plain_bound d
