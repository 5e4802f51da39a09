-- Steps of configurations: any ready process with any parked partner, or the oldest of each.
use Rattle.std.specs.Prelude.{ℕ, Bool, true, false, ◌&&◌, not, nat_eq, ◌≡◌, ◌+◌, List, [], ◌∷◌, ◌++◌, filter, map, Option, Some, None, option_map, option_and_then, if◌then◌else◌}
use Rattle.pict_syntax.specs.declared.span.Span.{Span}
use Rattle.pict_core.specs.Term.{Val, Pat, Process, Chan, Boolean, PrimitiveVal, Zero, Par, New, Out, In, If}
use Rattle.pict_core.specs.Substitution.{substitute}
use Rattle.pict_core.specs.Matching.{match_value}
use Rattle.pict_core.specs.Primitives.{Effect, Leaves, Nothing, Answer, Trap, effect_of}
use Rattle.pict_core.specs.Configuration.{Mark, Ready, Parked, Entry, Configuration}

-- What a step shows: nothing, a value sent on a channel, or the bytes that are printed.
pub data Label : Type 0 where
  Quiet : Label
  Comm : ℕ → Val → Label
  Print : List ℕ → Label

-- What becomes of a configuration in a step: it steps, traps at a place by a zero divisor, or is wrong; or nothing is ready.
pub data StepOutcome : Type 0 where
  Steps : Configuration → Label → StepOutcome
  Traps : Span → StepOutcome
  Wrong : StepOutcome
  Finished : StepOutcome

-- ---- the map from stamps

-- the entry of the least stamp that passes the test
abbrev pub least : (Entry → Bool) → List Entry → Option Entry
least p [] = None
least p (e ∷ es) = if p e then Some e else least p es

abbrev pub entry_at : ℕ → List Entry → Option Entry
entry_at s es = least (λ e. nat_eq s e.stamp) es

-- the process at stamp s ends
abbrev pub gone : ℕ → Configuration → Configuration
gone s C = record C { entries = filter (λ e. not (nat_eq s e.stamp)) C.entries }

abbrev pub with_process : ℕ → Process → Entry → Entry
with_process s p e = if nat_eq s e.stamp then record e { process = p } else e

-- p keeps the turn of stamp s
abbrev pub kept : ℕ → Process → Configuration → Configuration
kept s p C = record C { entries = map (with_process s p) C.entries }

-- p gets the next stamp
abbrev pub added : Mark → Process → Configuration → Configuration
added mark p C = record C { next_stamp = C.next_stamp + 1; entries = C.entries ++ record { stamp = C.next_stamp; mark = mark; process = p } ∷ [] }

abbrev pub with_channel : Configuration → Configuration
with_channel C = record C { channels = C.channels + 1 }

-- ---- the table of steps

-- the body of a reader, with what its pattern binds of the message in place of its variables
abbrev pub received : Option (List Val) → Process → (Process → StepOutcome) → StepOutcome
received None body go = Wrong
received (Some bound) body go = go (substitute 0 bound body)

-- A plain reader that served ends; a replicated one gets the next stamp.
abbrev pub served : Bool → Process → Configuration → Configuration
served true reader C = added Parked reader C
served false reader C = C

-- A plain reader that received ends; a replicated one keeps the turn.
abbrev pub took : Bool → ℕ → Configuration → Configuration
took true s C = C
took false s C = gone s C

-- the output of a message, at stamp s, meets the reader that is parked at stamp r
abbrev pub meet_reader : Configuration → ℕ → ℕ → Val → ℕ → Process → StepOutcome
meet_reader C s c message r (In chan replicated pattern body) =
    received (match_value pattern message) body
    (λ p. Steps (served replicated (In chan replicated pattern body) (added Ready p (gone r (gone s C)))) (Comm c message))
meet_reader C s c message r _ = Wrong

-- the reader at stamp s meets the message that is parked at stamp r
abbrev pub meet_message : Configuration → ℕ → ℕ → Bool → Pat → Process → ℕ → Process → StepOutcome
meet_message C s c replicated pattern body r (Out chan message at) =
    received (match_value pattern message) body (λ p. Steps (added Ready p (gone r (took replicated s C))) (Comm c message))
meet_message C s c replicated pattern body r _ = Wrong

-- Without a partner the process parks.
abbrev pub meet : Configuration → ℕ → Process → (ℕ → Process → StepOutcome) → Option Entry → StepOutcome
meet C s p with_partner None = Steps (added Parked p (gone s C)) Quiet
meet C s p with_partner (Some partner) = with_partner partner.stamp partner.process

abbrev pub printing : Option (List ℕ) → Label
printing None = Quiet
printing (Some bytes) = Print bytes

abbrev pub leave : Configuration → ℕ → Span → Label → Leaves → StepOutcome
leave C s at label Nothing = Steps (gone s C) label
leave C s at label (Answer k a) = Steps (kept s (Out k a at) C) label
leave C s at label Trap = Traps at

-- the primitive acts, for the output at stamp s
abbrev pub perform : Configuration → ℕ → Span → Option Effect → StepOutcome
perform C s at None = Wrong
perform C s at (Some e) = leave C s at (printing e.printed) e.leaves

abbrev pub send : Configuration → ℕ → Option Entry → Val → Val → Span → StepOutcome
send C s partner (PrimitiveVal f) message at = perform C s at (effect_of f message)
send C s partner (Chan c) message at = meet C s (Out (Chan c) message at) (meet_reader C s c message) partner
send C s partner _ message at = Wrong

abbrev pub receive : Configuration → ℕ → Option Entry → Val → Bool → Pat → Process → StepOutcome
receive C s partner (Chan c) replicated pattern body = meet C s (In (Chan c) replicated pattern body) (meet_message C s c replicated pattern body) partner
receive C s partner _ replicated pattern body = Wrong

abbrev pub choose : Val → StepOutcome → StepOutcome → StepOutcome
choose (Boolean b) then_one else_one = if b then then_one else else_one
choose _ then_one else_one = Wrong

-- what the process at stamp s does, by its form; at a channel with this partner, if it has one
abbrev pub act : Configuration → ℕ → Option Entry → Process → StepOutcome
act C s partner Zero = Steps (gone s C) Quiet
act C s partner (Par p q) = Steps (added Ready q (kept s p C)) Quiet
act C s partner (New p) = Steps (kept s (substitute 0 (Chan C.channels ∷ []) p) (with_channel C)) Quiet
act C s partner (If test p q) = choose test (Steps (kept s p C) Quiet) (Steps (kept s q C) Quiet)
act C s partner (Out chan message at) = send C s partner chan message at
act C s partner (In chan replicated pattern body) = receive C s partner chan replicated pattern body

-- ---- free steps

-- the stamp of a ready process and, where its channel has parked partners, the stamp of one of them
pub record Choice : Type 0 where
  pub acting : ℕ
  pub partner : Option ℕ

abbrev pub is_ready_mark : Mark → Bool
is_ready_mark Ready = true
is_ready_mark Parked = false

abbrev pub is_ready : Entry → Bool
is_ready e = is_ready_mark e.mark

abbrev pub is_channel : ℕ → Val → Bool
is_channel c (Chan number) = nat_eq c number
is_channel c _ = false

-- inputs and outputs at a channel
abbrev pub reads : ℕ → Process → Bool
reads c (In chan replicated pattern body) = is_channel c chan
reads c _ = false

abbrev pub sends : ℕ → Process → Bool
sends c (Out chan message at) = is_channel c chan
sends c _ = false

abbrev pub is_parked_reader : ℕ → Entry → Bool
is_parked_reader c e = not (is_ready e) && reads c e.process

abbrev pub is_parked_message : ℕ → Entry → Bool
is_parked_message c e = not (is_ready e) && sends c e.process

abbrev pub at_channel : (ℕ → Entry → Bool) → Val → Entry → Bool
at_channel test (Chan c) e = test c e
at_channel test _ e = false

-- the parked partners of a process
abbrev pub is_partner : Process → Entry → Bool
is_partner (Out chan message at) e = at_channel is_parked_reader chan e
is_partner (In chan replicated pattern body) e = at_channel is_parked_message chan e
is_partner _ e = false

abbrev pub NamesPartner : List Entry → Process → Option ℕ → Type 0
NamesPartner es p None = least (is_partner p) es ≡ None
NamesPartner es p (Some r) = (u : Entry) × (entry_at r es ≡ Some u) × (is_partner p u ≡ true)

pub record IsChoice (C : Configuration) (choice : Choice) : Type 0 where
  pub actor : Entry
  pub stands : entry_at choice.acting C.entries ≡ Some actor
  pub ready : is_ready actor ≡ true
  pub partner : NamesPartner C.entries actor.process choice.partner

abbrev pub act_entry : Configuration → Option Entry → Option Entry → StepOutcome
act_entry C None partner = Finished
act_entry C (Some e) partner = act C e.stamp partner e.process

-- the outcome of a choice
abbrev pub free_step : Configuration → Choice → StepOutcome
free_step C choice = act_entry C (entry_at choice.acting C.entries) (option_and_then (λ r. entry_at r C.entries) choice.partner)

-- a free step
pub record Free (C : Configuration) (choice : Choice) (C' : Configuration) (label : Label) : Type 0 where
  pub chosen : IsChoice C choice
  pub steps : free_step C choice ≡ Steps C' label

-- some choice is wrong: a value of another shape is sent on, received from, tested, given to a primitive or matched
pub record IsWrong (C : Configuration) : Type 0 where
  pub choice : Choice
  pub chosen : IsChoice C choice
  pub wrong : free_step C choice ≡ Wrong

-- ---- oldest-first steps

-- the least stamp that is ready, and the least stamp of its partners
abbrev pub oldest_choice : Configuration → Option Choice
oldest_choice C =
    option_map
    (λ (e : Entry). record { acting = e.stamp; partner = option_map (λ (u : Entry). u.stamp) (least (is_partner e.process) C.entries) })
    (least is_ready C.entries)

abbrev pub step_by : Configuration → Option Choice → StepOutcome
step_by C None = Finished
step_by C (Some choice) = free_step C choice

-- the oldest-first step
abbrev pub next : Configuration → StepOutcome
next C = step_by C (oldest_choice C)
