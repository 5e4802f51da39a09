-- The plain values of entries.
use Rattle.std.specs.Prelude.{List, map, reverse}
use Rattle.pict_types.specs.declared.context.Entry.{Entry}
use Rattle.pict_types.specs.declared.context.What.{What}
use Rattle.pict_types.specs.declared.context.What.TheVariants.{Variable as Variable_, Definition as Definition_}
use Rattle.pict_types.specs.Entries.{PlainWhat, Variable, Definition, PlainEntry, PlainContext}
use Rattle.pict_types.specs.Plain.{plain_bound, plain_arg}

abbrev pub plain_what : What → PlainWhat
plain_what (Variable_ b) = Variable (plain_bound b)
plain_what (Definition_ a) = Definition (plain_arg a)

abbrev pub plain_entry : Entry → PlainEntry
plain_entry e = record { name = e.name.0; what = plain_what e.what }

-- a list of entries, the innermost last
abbrev pub plain_entries : List Entry → PlainContext
plain_entries es = reverse (map plain_entry es)
