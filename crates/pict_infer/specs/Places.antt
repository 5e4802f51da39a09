-- The environment of a context alone, without values, since patterns use none; and contexts with variables inside.
use Rattle.std.specs.Prelude.{◌≡◌, ℕ, List, [], ◌++◌, length}
use Rattle.pict_types.specs.declared.context.Context.{Context}
use Rattle.pict_types.specs.Entries.{PlainContext}
use Rattle.pict_types.specs.PlainContext.{names_of, plain_context}
use Rattle.pict_rules.specs.Environments.{Environment, KnownType, entries_of}

abbrev pub environment_in : Context → Environment
environment_in c = record { names = names_of c; context = plain_context c; values = [] }

-- past so many entries there are type variables alone
pub record IsUnderVariables (left : ℕ) (c : PlainContext) : Type 0 where
  pub own : List KnownType
  pub outer : PlainContext
  pub all : c ≡ entries_of own ++ outer
  pub count : left ≡ length outer
