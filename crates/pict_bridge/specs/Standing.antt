-- Processes by the number of variables around them, in worlds with so many: what stands, what is sent, what is on its way.
use Rattle.std.specs.Prelude.{◌≡◌, List, ◌++◌, length, Option, Some, None}
use Rattle.pict_types.specs.Types.{Write, PlainType, Chan}
use Rattle.pict_core.specs.Term.{Val}
use Rattle.pict_typing.specs.Worlds.{World}
use Rattle.pict_typing.specs.Values.{HasType}
use Rattle.pict_typing.specs.Processes.{IsTyped}
use Rattle.pict_translation.specs.Placed.{Placed}

-- the process is typed where it stands
abbrev pub Stands : World → Placed → Type 0
Stands w p = IsTyped w (p (length w.variables))

-- without more type variables, v has further variables
pub record Longer (w v : World) : Type 0 where
  pub further : List PlainType
  pub is : v ≡ record w { variables = w.variables ++ further }

-- what is sent is of this type: wherever values of the type may be sent on k, the process stands
abbrev pub Sends : World → PlainType → (Val → Placed) → Type 0
Sends w t sent = (v : World) (k : Val) → Longer w v → HasType v k (Chan Write t) → Stands v (sent k)

-- what goes on with a value of this type
abbrev pub Takes : World → PlainType → (Val → Placed) → Type 0
Takes w t E = (v : World) (u : Val) → Longer w v → HasType v u t → Stands v (E u)

-- a value on its way: it has the type where it is simple, and else it is sent at it
abbrev pub OnItsWay : World → PlainType → Option Val → (Val → Placed) → Type 0
OnItsWay w t None sent = Sends w t sent
OnItsWay w t (Some u) sent = HasType w u t
