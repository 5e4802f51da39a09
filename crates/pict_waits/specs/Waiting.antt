-- Who waits: the parked processes of a configuration.
use Rattle.std.specs.Prelude.{ℕ, Bool, true, false, ◌&&◌, not, List, [], ◌∷◌, Option, Some, None, flat_map}
use Rattle.std.specs.List.{list_any}
use Rattle.pict_core.specs.Term.{Val, Chan, Process, Out, In}
use Rattle.pict_core.specs.Configuration.{Mark, Ready, Parked, Entry}
use Rattle.pict_waits.specs.declared.waiting.Kind.{Kind}
use Rattle.pict_waits.specs.declared.waiting.Kind.TheVariants as kind
use Rattle.pict_waits.specs.declared.waiting.Waiting.{Waiting}

-- who is this at a channel, with the channel's number
abbrev pub at_channel : Val → Kind → Option (ℕ × Kind)
at_channel (Chan number) k = Some (number, k)
at_channel _ k = None

-- an input serves again and again or once
abbrev pub input_kind : Bool → Kind
input_kind true = kind.Server
input_kind false = kind.Reader

-- outputs and inputs wait at channels
abbrev pub place_of : Process → Option (ℕ × Kind)
place_of (Out chan message at) = at_channel chan kind.Message
place_of (In chan replicated pattern body) = at_channel chan (input_kind replicated)
place_of _ = None

abbrev pub waiting_at : ℕ → Option (ℕ × Kind) → List Waiting
waiting_at stamp None = []
waiting_at stamp (Some (channel, k)) = record { stamp = stamp; kind = k; channel = channel } ∷ []

abbrev pub waiting_if : Mark → ℕ → Option (ℕ × Kind) → List Waiting
waiting_if Ready stamp place = []
waiting_if Parked stamp place = waiting_at stamp place

-- a process that is parked waits at its channel
abbrev pub waiting_by : Entry → List Waiting
waiting_by e = waiting_if e.mark e.stamp (place_of e.process)

-- those of the entries who wait, in their order
abbrev pub waits_of : List Entry → List Waiting
waits_of es = flat_map waiting_by es

-- ---- whether they all wait for messages, and none is left

abbrev pub is_message : Kind → Bool
is_message kind.Message = true
is_message _ = false

abbrev pub is_reader : Kind → Bool
is_reader kind.Reader = true
is_reader _ = false

-- none of them is a message, and one of them receives one message
abbrev pub all_wait : List Waiting → Bool
all_wait ws = not (list_any (λ (w : Waiting). is_message w.kind) ws) && list_any (λ (w : Waiting). is_reader w.kind) ws
