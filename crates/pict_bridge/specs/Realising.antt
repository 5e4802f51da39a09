-- Core worlds and core values for what is known at a place of a program.
use Rattle.std.specs.Prelude.{◌≡◌, ℕ, List, Some, None}
use Rattle.pict_syntax.specs.Trees.{Val}
use Rattle.pict_types.specs.Types.{PlainType}
use Rattle.pict_core.specs.Term as core
use Rattle.pict_rules.specs.Environments.{Environment, context_of, known_type}
use Rattle.pict_translation.specs.Simple.{Around, value_at, simple}
use Rattle.pict_translation.specs.Translation.{sending}
use Rattle.pict_typing.specs.Worlds.{World}
use Rattle.pict_typing.specs.Values.{HasType}
use Rattle.pict_typing.specs.Processes.{AreClosedTypes}
use Rattle.pict_bridge.specs.Embedding.{erased_context, Embeds}
use Rattle.pict_bridge.specs.Opening.{meaning}
use Rattle.pict_bridge.specs.Standing.{Sends, OnItsWay}

-- these values for the names around a place
abbrev pub around : Environment → List (ℕ × core.Val) → Around
around e vs = record { names = e.names; values = vs }

-- a known name has a core value, which has the meaning of the name's type
pub record IsRealised (f : ℕ → ℕ) (vs : List (ℕ × core.Val)) (w : World) (n : ℕ) (t : PlainType) : Type 0 where
  pub value : core.Val
  pub is : value_at vs n ≡ Some value
  pub has_ : HasType w value (meaning f t)

-- The type variables of e go by f to those of the world, with the meanings of their bounds; each name that is known has a
-- core value of its type's meaning, and no other name has one.
pub record Realises (e : Environment) (vs : List (ℕ × core.Val)) (f : ℕ → ℕ) (w : World) : Type 0 where
  pub world_names : w.names ≡ e.names
  pub closed : AreClosedTypes w.names w.messages
  pub embeds : Embeds f (erased_context (context_of e)) w.type_variables
  pub known : (n : ℕ) (t : PlainType) → known_type e.values n ≡ Some t → IsRealised f vs w n t
  pub unknown : (n : ℕ) → known_type e.values n ≡ None → value_at vs n ≡ None

-- the value is on its way at this type, and may be sent at it
pub record IsSent (w : World) (t : PlainType) (a : Around) (v : Val) : Type 0 where
  pub on_its_way : OnItsWay w t (simple a v) (sending a v)
  pub sends : Sends w t (sending a v)
