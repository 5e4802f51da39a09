-- What a process does in a step, whatever keeps it. A configuration, lists and queues only place it.
use Rattle.std.specs.Prelude.{ℕ, Bool, List, [], ◌∷◌, Option, Some, None, if◌then◌else◌}
use Rattle.pict_syntax.specs.declared.span.Span.{Span}
use Rattle.pict_core.specs.Term.{Val, Pat, Process, Chan, Boolean, PrimitiveVal, Zero, Par, New, Out, In, If}
use Rattle.pict_core.specs.Substitution.{substitute}
use Rattle.pict_core.specs.Matching.{match_value}
use Rattle.pict_core.specs.Primitives.{Effect, Leaves, Nothing, Answer, Trap, effect_of}
use Rattle.pict_core.specs.Step.{Label, Quiet, printing}

pub data Deed : Type 0 where
  -- it ends
  Ends : Label → Deed
  -- this process has its turn
  Keeps : Process → Label → Deed
  -- the first has its turn, the second is ready behind all
  Forks : Process → Process → Deed
  -- there is a channel more, and this process has its turn
  Opens : Process → Deed
  -- it waits at the channel
  Parks : ℕ → Process → Deed
  -- It ends, and has sent the value on the channel to this reader, replicated or not. The reader's body, the last here, is ready
  -- behind all; a replicated reader goes behind all that wait.
  Serves : ℕ → Val → Bool → Process → Process → Deed
  -- The message of this value, at the channel, ends. The body of the input, replicated or not, is ready behind all; a
  -- replicated input keeps its turn.
  Takes : ℕ → Val → Bool → Process → Deed
  -- a primitive has a zero divisor, at this place
  Stops : Span → Deed
  -- a value has not the shape that is wanted
  Misfits : Deed

abbrev pub leaves : Span → Label → Leaves → Deed
leaves at label Nothing = Ends label
leaves at label (Answer k a) = Keeps (Out k a at) label
leaves at label Trap = Stops at

abbrev pub performs : Span → Option Effect → Deed
performs at None = Misfits
performs at (Some e) = leaves at (printing e.printed) e.leaves

-- the reader takes the message, where it fits
abbrev pub serves : ℕ → Val → Bool → Process → Process → Option (List Val) → Deed
serves c message replicated reader body None = Misfits
serves c message replicated reader body (Some bound) = Serves c message replicated reader (substitute 0 bound body)

-- an output on channel c, with this partner
abbrev pub offers : ℕ → Val → Process → Option Process → Deed
offers c message sender None = Parks c sender
offers c message sender (Some (In chan replicated pattern body)) =
    serves c message replicated (In chan replicated pattern body) body (match_value pattern message)
offers c message sender (Some _) = Misfits

abbrev pub takes : ℕ → Val → Bool → Process → Option (List Val) → Deed
takes c message replicated body None = Misfits
takes c message replicated body (Some bound) = Takes c message replicated (substitute 0 bound body)

-- an input at channel c, with this partner
abbrev pub asks : ℕ → Bool → Pat → Process → Process → Option Process → Deed
asks c replicated pattern body reader None = Parks c reader
asks c replicated pattern body reader (Some (Out chan message at)) =
    takes c message replicated body (match_value pattern message)
asks c replicated pattern body reader (Some _) = Misfits

abbrev pub sends : Val → Val → Span → Option Process → Deed
sends (PrimitiveVal f) message at partner = performs at (effect_of f message)
sends (Chan c) message at partner = offers c message (Out (Chan c) message at) partner
sends _ message at partner = Misfits

abbrev pub receives : Val → Bool → Pat → Process → Option Process → Deed
receives (Chan c) replicated pattern body partner =
    asks c replicated pattern body (In (Chan c) replicated pattern body) partner
receives _ replicated pattern body partner = Misfits

abbrev pub chooses : Val → Process → Process → Deed
chooses (Boolean b) p q = if b then Keeps p Quiet else Keeps q Quiet
chooses _ p q = Misfits

-- what a process does where there are so many channels, at a channel with this partner, if it has one
abbrev pub deed : ℕ → Option Process → Process → Deed
deed channels partner Zero = Ends Quiet
deed channels partner (Par p q) = Forks p q
deed channels partner (New p) = Opens (substitute 0 (Chan channels ∷ []) p)
deed channels partner (If test p q) = chooses test p q
deed channels partner (Out chan message at) = sends chan message at partner
deed channels partner (In chan replicated pattern body) = receives chan replicated pattern body partner
