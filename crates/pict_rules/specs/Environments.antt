-- What is known at a place: type variables and definitions, and values with their types; and what a pattern adds to it.
use Rattle.std.specs.Prelude.{ℕ, ◌-◌, nat_eq, if◌then◌else◌, List, [], ◌∷◌, ◌++◌, map, length, Option, Some, None}
use Rattle.std.specs.Option.{option_map}
use Rattle.pict_syntax.specs.declared.id.Id.{Id}
use Rattle.pict_syntax.specs.Names.{text_of}
use Rattle.pict_types.specs.Types.{PlainType, Top, PlainBound, PlainBounds, no_bound, PlainArg, TypeContext}
use Rattle.pict_types.specs.Renaming.{rename, rename_bound, moved}
use Rattle.pict_types.specs.Entries.{Variable, Definition, PlainContext, variables}
use Rattle.pict_normal.specs.Normal.{and_bound}
use Rattle.pict_types.specs.PrimitiveTypes.{type_of}
use Rattle.pict_scope.specs.PrimitiveNames.{primitive_named}

-- the type with k more variables between it and its context
abbrev pub shifted_by : ℕ → PlainType → PlainType
shifted_by k t = rename (moved k 0) t

-- a value's name with its type
pub record KnownValue : Type 0 where
  pub name : ℕ
  pub has : PlainType

-- every type is written in all the type variables of the context; what is nearest stands first. With it go the texts of all names
pub record Environment : Type 0 where
  pub names : List (List ℕ)
  pub context : PlainContext
  pub values : List KnownValue

-- a type variable's name with what is known of it
pub record KnownType : Type 0 where
  pub name : ℕ
  pub bound : PlainBound

-- type variables, the innermost first, and values, the nearest first, whose types are written in them
pub record Extension : Type 0 where
  pub binders : List KnownType
  pub values : List KnownValue

abbrev pub context_of : Environment → TypeContext
context_of e = variables e.context

abbrev pub opened : Extension → ℕ
opened x = length x.binders

abbrev pub no_extension : Extension
no_extension = record { binders = []; values = [] }

abbrev pub one_value : Id → PlainType → Extension
one_value x t = record { binders = []; values = record { name = x.name.0; has = t } ∷ [] }

abbrev pub only_types : List KnownType → Extension
only_types bs = record { binders = bs; values = [] }

abbrev pub rename_values : (ℕ → ℕ) → List KnownValue → List KnownValue
rename_values f vs = map (λ v. record { name = v.name; has = rename f v.has }) vs

-- binders with k more variables between them and their context
abbrev pub moved_binders : ℕ → List KnownType → List KnownType
moved_binders k [] = []
moved_binders k (b ∷ bs) = record { name = b.name; bound = rename_bound (moved k (length bs)) b.bound } ∷ moved_binders k bs

-- what two patterns side by side add: each is written in what stands around both, and the second is put inside the first
abbrev pub joined_extensions : Extension → Extension → Extension
joined_extensions x y = record {
  binders = moved_binders (opened x) y.binders ++ x.binders;
  values = rename_values (moved (opened x) (opened y)) y.values ++ rename_values (moved (opened y) 0) x.values;
}

-- type variables, and an extension within them
abbrev pub within : List KnownType → Extension → Extension
within bs x = record { binders = x.binders ++ bs; values = x.values }

abbrev pub entries_of : List KnownType → PlainContext
entries_of bs = map (λ b. record { name = b.name; what = Variable b.bound }) bs

abbrev pub extended : Environment → Extension → Environment
extended e x = record {
  names = e.names;
  context = entries_of x.binders ++ e.context;
  values = x.values ++ rename_values (moved (opened x) 0) e.values;
}

abbrev pub defined : Environment → Id → PlainArg → Environment
defined e x a = record { names = e.names; context = record { name = x.name.0; what = Definition a } ∷ e.context; values = e.values }

-- the type fields that these variables make
abbrev pub bounds_of : List KnownType → PlainBounds
bounds_of [] = no_bound
bounds_of (b ∷ bs) = and_bound (bounds_of bs) b.bound

-- how many variables an environment has more than another
abbrev pub opened_since : Environment → Environment → ℕ
opened_since e d = length (context_of d) - length (context_of e)

abbrev pub known_type : List KnownValue → ℕ → Option PlainType
known_type [] n = None
known_type (v ∷ vs) n = if nat_eq v.name n then Some v.has else known_type vs n

-- Top is in the place of what has no binder
abbrev pub type_or_top : Option PlainType → PlainType
type_or_top None = Top
type_or_top (Some t) = t

-- the type of the primitive of this name
abbrev pub primitive_type : List ℕ → Option PlainType
primitive_type text = option_map type_of (primitive_named text)

abbrev pub type_or_primitive : Option PlainType → List ℕ → PlainType
type_or_primitive None text = type_or_top (primitive_type text)
type_or_primitive (Some t) text = t

-- a use: the type of its nearest binder, or else of the primitive
abbrev pub type_of_use : Environment → ℕ → PlainType
type_of_use e n = type_or_primitive (known_type e.values n) (text_of e.names n)

-- before anything is declared
abbrev pub no_environment : List (List ℕ) → Environment
no_environment names = record { names = names; context = []; values = [] }
