-- The laws of core typing, each the contract of a public function that does nothing.
use Rattle.std.specs.Prelude.{◌≡◌, ◌⊎◌, ℕ, Bool, List, [], slice_get, Some}
use Rattle.pict_syntax.specs.declared.primitive.Primitive.{Primitive}
use Rattle.pict_types.specs.Types.{Read, Write, Respond, PlainType, Boolean, Chan, TypeContext}
use Rattle.pict_types.specs.Replacing.{Replacement}
use Rattle.pict_types.specs.PrimitiveTypes.{takes}
use Rattle.pict_core.specs.Term as core
use Rattle.pict_core.specs.Term.{Val, Pat, Process}
use Rattle.pict_core.specs.Matching.{match_value}
use Rattle.pict_core.specs.Substitution.{substitute}
use Rattle.pict_core.specs.Primitives.{Effect, effect_of}
use Rattle.pict_core.specs.Configuration.{Configuration, AreClosed}
use Rattle.pict_typing.specs.Erasing.{erased}
use Rattle.pict_typing.specs.Worlds.{World, over, IsTypeIn, opened}
use Rattle.pict_typing.specs.Values.{HasType, HaveInOrder}
use Rattle.pict_typing.specs.Opening.{Opens}
use Rattle.pict_typing.specs.Processes.{IsTyped, AreClosedTypes, IsWellTyped}
use Rattle.pict_typing.specs.Instantiating.{Instantiates, instantiated}

-- Typing is kept where types and operators, of their kinds and within their bounds, are put for type variables.
abbrev pub TypesPutKeepTyping : Type 0
TypesPutKeepTyping =
    (w : World) (r : Replacement) (d : TypeContext) (p : Process)
    → AreClosedTypes w.names w.messages → Instantiates w.names r w.type_variables d → IsTyped w p → IsTyped (instantiated r d w) p

-- Typing is kept where closed values are put for variables of their types.
abbrev pub ValuesPutKeepTyping : Type 0
ValuesPutKeepTyping =
    (names : List (List ℕ)) (messages : List PlainType) (vs : List Val) (ts : List PlainType) (p : Process)
    → AreClosedTypes names messages → HaveInOrder names messages vs ts → IsTyped (record (over names messages) { variables = ts }) p
    → IsTyped (over names messages) (substitute 0 vs p)

-- The processes of a well typed configuration are closed and name its channels alone, and no label stands twice in a
-- record.
abbrev pub TypedAreClosed : Type 0
TypedAreClosed = (names : List (List ℕ)) (C : Configuration) → IsWellTyped names C → AreClosed C.channels C.entries

-- ---- closed values by their types

-- A closed value that has Bool is a truth value.
abbrev pub ConditionsAreTruthValues : Type 0
ConditionsAreTruthValues =
    (names : List (List ℕ)) (messages : List PlainType) (v : Val)
    → AreClosedTypes names messages → HasType (over names messages) v Boolean → (b : Bool) × (v ≡ core.Boolean b)

-- each closed value that has the first type has the second
abbrev pub GoesTo : List (List ℕ) → List PlainType → PlainType → PlainType → Type 0
GoesTo names messages s t = (v : Val) → HasType (over names messages) v s → HasType (over names messages) v t

-- A closed value that has ?T is a channel, and its messages have T.
abbrev pub ReceiversAreChannels : Type 0
ReceiversAreChannels =
    (names : List (List ℕ)) (messages : List PlainType) (v : Val) (t : PlainType)
    → AreClosedTypes names messages → IsTypeIn names [] t → HasType (over names messages) v (Chan Read t)
    → (c : ℕ) × (m : PlainType) × (v ≡ core.Chan c) × (slice_get messages c ≡ Some m) × GoesTo names messages m t

-- A closed value that has !T is a channel whose messages may be values of T, or a primitive that takes them.
abbrev pub SendersAreChannelsOrPrimitives : Type 0
SendersAreChannelsOrPrimitives =
    (names : List (List ℕ)) (messages : List PlainType) (v : Val) (t : PlainType)
    → AreClosedTypes names messages → IsTypeIn names [] t → HasType (over names messages) v (Chan Write t)
    → ((c : ℕ) × (m : PlainType) × (v ≡ core.Chan c) × (slice_get messages c ≡ Some m) × GoesTo names messages t m)
    ⊎ ((p : Primitive) × (v ≡ core.PrimitiveVal p) × GoesTo names messages t (erased (takes p)))

-- No closed value has a type /T.
abbrev pub NothingResponds : Type 0
NothingResponds =
    (names : List (List ℕ)) (messages : List PlainType) (v : Val) (t : PlainType)
    → AreClosedTypes names messages → HasType (over names messages) v (Chan Respond t) → ⊥

-- A primitive has an effect on each closed value of the type that it takes.
abbrev pub PrimitivesAct : Type 0
PrimitivesAct =
    (names : List (List ℕ)) (messages : List PlainType) (p : Primitive) (v : Val)
    → AreClosedTypes names messages → HasType (over names messages) v (erased (takes p)) → (e : Effect) × (effect_of p v ≡ Some e)

-- ---- messages

-- the pattern fits the message, and the body with what it binds is typed
pub record IsReceived (names : List (List ℕ)) (messages : List PlainType) (pattern_ : Pat) (message : Val) (body : Process) : Type 0 where
  pub bound : List Val
  pub is : match_value pattern_ message ≡ Some bound
  pub typed : IsTyped (over names messages) (substitute 0 bound body)

-- A pattern that opens a closed type fits each closed value of this type, and a body typed with what the pattern opens
-- is typed once what it binds is put in.
abbrev pub MessagesAreReceived : Type 0
MessagesAreReceived =
    (names : List (List ℕ)) (messages : List PlainType) (pattern_ : Pat) (t : PlainType) (d : TypeContext) (n : ℕ) (ts : List PlainType)
    → (message : Val) (body : Process) → AreClosedTypes names messages → IsTypeIn names [] t → HasType (over names messages) message t
    → Opens names [] pattern_ t d n ts → IsTyped (opened d n ts (over names messages)) body
    → IsReceived names messages pattern_ message body
