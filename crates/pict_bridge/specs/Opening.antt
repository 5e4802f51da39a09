-- What the rules add for a pattern, and what core typing opens for its core pattern.
use Rattle.std.specs.Prelude.{◌≡◌, ℕ, ◌+◌, List, map, length, slice_get, Option, Some}
use Rattle.pict_types.specs.Types.{PlainType, TypeContext}
use Rattle.pict_types.specs.Renaming.{rename}
use Rattle.pict_typing.specs.Erasing.{erased}
use Rattle.pict_bridge.specs.Embedding.{erased_context, Embeds}
use Rattle.pict_rules.specs.Environments.{Environment, Extension, context_of, known_type, extended, opened}

-- what a type of a program is in the core: each / is !, and its variables are renumbered
abbrev pub meaning : (ℕ → ℕ) → PlainType → PlainType
meaning f t = rename f (erased t)

-- the names of variables, in order, of which some have none
abbrev pub Slots : Type 0
Slots = List (Option ℕ)

-- some variables have names
abbrev pub named : List ℕ → Slots
named ns = map (λ n. Some n) ns

-- what is opened: the core context after it, how many type variables it has more, and the types of the variables
abbrev pub Opening : Type 1
Opening = TypeContext → ℕ → List PlainType → Type 0

-- the name m is that of one of the variables, which have these types; it has the meaning of t
pub record IsBoundAs (slots : Slots) (ts : List PlainType) (g : ℕ → ℕ) (m : ℕ) (t : PlainType) : Type 0 where
  pub place : ℕ
  pub named_ : slice_get slots place ≡ Some (Some m)
  pub typed : slice_get ts place ≡ Some (meaning g t)

-- Of the environment e, whose type variables f takes to those of a core context, the rules make what x adds to it. In
-- the core n type variables are opened, which make d of the context, and the variables with these names have types ts.
pub record IsExtensionPlaced (e : Environment) (f : ℕ → ℕ) (d : TypeContext) (n : ℕ) (slots : Slots) (ts : List PlainType) (x : Extension) : Type 0 where
  pub later : ℕ → ℕ
  pub embeds : Embeds later (erased_context (context_of (extended e x))) d
  pub extends_ : (i : ℕ) → later (i + opened x) ≡ f i + n
  pub each : (m : ℕ) (t : PlainType) → known_type x.values m ≡ Some t → IsBoundAs slots ts later m t

-- what the rules add is what is opened so
pub record AddsWhatIsOpened (e : Environment) (x : Extension) (f : ℕ → ℕ) (slots : Slots) (opening : Opening) : Type 0 where
  pub context : TypeContext
  pub more : ℕ
  pub types_ : List PlainType
  pub opens : opening context more types_
  pub as_many : length slots ≡ length types_
  pub placed : IsExtensionPlaced e f context more slots types_ x
