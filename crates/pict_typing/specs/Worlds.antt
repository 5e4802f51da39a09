-- What core terms are typed in: types of variables and of channels, and the type variables that these mention.
use Rattle.std.specs.Prelude.{◌≡◌, ℕ, true, List, [], ◌∷◌, ◌++◌, map}
use Rattle.pict_types.specs.Types.{PlainType, PlainTypes, PlainLabels, Fields, PlainBound, Below, Operator, PlainBounds, PlainArg, Plain, Op, TypeContext}
use Rattle.pict_types.specs.Variance.{varies}
use Rattle.pict_types.specs.Renaming.{rename, moved}
use Rattle.pict_types.specs.Replacing.{replace, arguments, IsOfKind}
use Rattle.pict_types.specs.Kinds.{IsWellFormed, ArgIsWellFormed, kinds}
use Rattle.pict_sub.specs.Subtyping.{IsSubtype}

-- The type variables are open ones, each with what is known of it, the innermost first: patterns made them when they
-- opened packages. The types of the variables are written in them. The types of messages are closed.
pub record World : Type 0 where
  -- the texts of the names, by which the labels of types are in order
  pub names : List (List ℕ)
  -- for each channel, by its number, the type T of its messages: the channel has ^T
  pub messages : List PlainType
  pub type_variables : TypeContext
  -- for each variable, by its level, its type
  pub variables : List PlainType

-- A type of core typing is a well formed one, of any size.
abbrev pub IsTypeIn : List (List ℕ) → TypeContext → PlainType → Type 0
IsTypeIn names c t = IsWellFormed names (kinds c) t

abbrev pub IsType : World → PlainType → Type 0
IsType w t = IsTypeIn w.names w.type_variables t

-- ---- worlds

-- a type under n more type variables
abbrev pub shifted : ℕ → PlainType → PlainType
shifted n t = rename (moved n 0) t

-- channels with messages of these types, and no variable
abbrev pub over : List (List ℕ) → List PlainType → World
over names messages = record { names = names; messages = messages; type_variables = []; variables = [] }

-- one more variable
abbrev pub with_variable : PlainType → World → World
with_variable t w = record w { variables = w.variables ++ t ∷ [] }

-- n more type variables, which make d of those of w, and variables of these types, which are written in d
abbrev pub opened : TypeContext → ℕ → List PlainType → World → World
opened d n ts w = record w { type_variables = d; variables = map (shifted n) w.variables ++ ts }

-- ---- arguments of packages

-- the argument is below the bound of a type field, or varies as its marks say; a field without either takes any
abbrev pub IsBelow : TypeContext → PlainBound → PlainArg → Type 0
IsBelow c (Below b) (Plain t) = IsSubtype c t b
IsBelow c (Operator ms) (Op n t) = varies c (Op n t) ms ≡ true
IsBelow c b a = Unit {0}

-- the argument may stand for a type field with this bound
pub record MayStandFor (w : World) (b : PlainBound) (a : PlainArg) : Type 0 where
  pub formed : ArgIsWellFormed w.names (kinds w.type_variables) a
  pub of_kind : IsOfKind a b
  pub below : IsBelow w.type_variables b a

-- a record type with this argument put for its first type field
abbrev pub with_first : PlainArg → PlainBounds → PlainTypes → PlainLabels → PlainType
with_first a bs ps ls = replace (arguments (a ∷ [])) (Fields bs ps ls)
