-- Typed processes, and well typed configurations.
use Rattle.std.specs.Prelude.{◌≡◌, ℕ, Bool, List, [], ◌∷◌, length}
use Rattle.pict_syntax.specs.declared.span.Span.{Span}
use Rattle.pict_types.specs.Types.{Both, Read, Write, PlainType, Boolean, Chan, TypeContext}
use Rattle.pict_core.specs.Term.{Val, Pat, Process, Zero, Par, New, Out, In, If}
use Rattle.pict_core.specs.Configuration.{Entry, Configuration}
use Rattle.pict_typing.specs.Worlds.{World, IsTypeIn, IsType, over, with_variable, opened}
use Rattle.pict_typing.specs.Values.{HasType}
use Rattle.pict_typing.specs.Opening.{Opens}

pub data IsTyped : World → Process → Type 0 where
  -- 0
  inert : {w : World} → IsTyped w Zero
  -- P | Q, where P and Q are typed
  beside : {w : World} {p q : Process} → IsTyped w p → IsTyped w q → IsTyped w (Par p q)
  -- new x P, where P is typed with some type ^T for x
  fresh : {w : World} {p : Process} (t : PlainType) → IsType w t → IsTyped (with_variable (Chan Both t) w) p → IsTyped w (New p)
  -- x!v, where for some T x has !T and v has T
  output : {w : World} {x v : Val} {at : Span} (t : PlainType)
      → IsType w t → HasType w x (Chan Write t) → HasType w v t → IsTyped w (Out x v at)
  -- x?p = P and x?*p = P, where for some T x has ?T, p opens T, and P is typed with what p opens and binds
  input : {w : World} {x : Val} {replicated : Bool} {p : Pat} {body : Process} {d : TypeContext} {n : ℕ} {ts : List PlainType} (t : PlainType)
      → IsType w t → HasType w x (Chan Read t) → Opens w.names w.type_variables p t d n ts → IsTyped (opened d n ts w) body
      → IsTyped w (In x replicated p body)
  -- if b P Q, where b has Bool
  test : {w : World} {b : Val} {p q : Process} → HasType w b Boolean → IsTyped w p → IsTyped w q → IsTyped w (If b p q)

-- ---- configurations

abbrev pub AreClosedTypes : List (List ℕ) → List PlainType → Type 0
AreClosedTypes names [] = Unit {0}
AreClosedTypes names (t ∷ ts) = IsTypeIn names [] t × AreClosedTypes names ts

abbrev pub AreTyped : World → List Entry → Type 0
AreTyped w [] = Unit {0}
AreTyped w (e ∷ es) = IsTyped w e.process × AreTyped w es

-- One list of closed types, one for each channel, types all the processes: channel c has ^T for the type T at place c.
pub record IsWellTyped (names : List (List ℕ)) (C : Configuration) : Type 0 where
  pub messages : List PlainType
  pub closed : AreClosedTypes names messages
  pub one_each : length messages ≡ C.channels
  pub typed : AreTyped (over names messages) C.entries
