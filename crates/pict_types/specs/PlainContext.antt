-- A context as the list of its entries, and the list of names that it borrows.
use Rattle.std.specs.Prelude.{ℕ, List}
use Rattle.pict_types.specs.declared.context.Context.{Context}
use Rattle.pict_types.specs.Entries.{PlainContext, variables}
use Rattle.pict_types.specs.PlainEntries.{plain_entries}
use Rattle.pict_types.specs.Kinds.{kinds, IsWellFormed}
use Rattle.pict_types.specs.Types.{PlainType, TypeContext}

-- the entries, the innermost first
abbrev pub plain_context : Context → PlainContext
plain_context c = plain_entries c.entries.items

-- what is known of the type variables, the innermost first
abbrev pub type_context : Context → TypeContext
type_context c = variables (plain_context c)

abbrev pub names_of : Context → List (List ℕ)
names_of c = c.names.now

-- the type is well formed in the variables of the context
abbrev pub IsWrittenIn : Context → PlainType → Type 0
IsWrittenIn c t = IsWellFormed (names_of c) (kinds (type_context c)) t
