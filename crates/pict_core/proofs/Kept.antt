-- Free steps keep what holds of configurations, and oldest-first steps are free.
use Rattle.std.proofs.Common.{ℕ, ◌+◌, ◌≡◌, Bool, true, false, List, [], ◌∷◌, refl, sym, subst, Option, Some, None, option_map, option_and_then, arith}
use Rattle.pict_syntax.specs.declared.span.Span.{Span}
use Rattle.pict_core.specs.Term.{Val, Pat, Process, Chan, Boolean, PrimitiveVal, Zero, Par, New, Out, In, If}
use Rattle.pict_core.specs.Closed.{IsOver, IsUnder, binds}
use Rattle.pict_core.specs.Matching.{match_value}
use Rattle.pict_core.specs.Substitution.{substitute}
use Rattle.pict_core.specs.Primitives.{Effect, Leaves, Nothing, Answer, Trap, effect_of}
use Rattle.pict_core.specs.Configuration.{Mark, Ready, Parked, Entry, Configuration, IsConfiguration}
use Rattle.pict_core.specs.Step.{Label, Quiet, StepOutcome, Steps, Wrong, gone, kept, added, with_channel, received, served, took, meet_reader, meet_message, meet, printing, leave, perform, send, receive, choose, act, act_entry, Choice, IsWrong, is_ready, is_partner, NamesPartner, IsChoice, free_step, Free, least, entry_at, step_by, oldest_choice}
use Rattle.pict_core.specs.Laws.{FreeStepsKeepConfigurations, OldestFirstStepsAreFree, WrongStepsAreWrong}
use Rattle.pict_core.proofs.Closed.{under_more, substitute_under, match_fits, Fits, EffectOver, LeavesOver, effect_over}
use Rattle.pict_core.proofs.Stamps.{StampsRise-without, StampsRise-with_process, StampsRise-added, AreClosed-without, AreClosed-with_process, AreClosed-added, AreClosed-more, EntryClosed, least_closed, least_passes, least_stands}

-- ---- what an outcome leaves is a configuration

abbrev pub Keeps : StepOutcome → Type 0
Keeps (Steps D label) = IsConfiguration D
Keeps _ = Unit {0}

-- over so many channels still
record IsAt (c : ℕ) (C : Configuration) : Type 0 where
  is : IsConfiguration C
  count : C.channels ≡ c

at_gone : (c s : ℕ) (C : Configuration) → IsAt c C → IsAt c (gone s C)
at_gone c s C h = record { is = record { stamps = StampsRise-without s 0 C.entries C.next_stamp h.is.stamps; closed = AreClosed-without C.channels s C.entries h.is.closed }; count = h.count }

at_kept : (c s : ℕ) (p : Process) (C : Configuration) → IsUnder 0 c p → IsAt c C → IsAt c (kept s p C)
at_kept c s p C u h = record {
  is = record { stamps = StampsRise-with_process s p 0 C.entries C.next_stamp h.is.stamps; closed = AreClosed-with_process C.channels s p C.entries (subst (λ n. IsUnder 0 n p) (sym h.count) u) h.is.closed };
  count = h.count;
}

at_added : (c : ℕ) (mark : Mark) (p : Process) (C : Configuration) → IsUnder 0 c p → IsAt c C → IsAt c (added mark p C)
at_added c mark p C u h = record {
  is = record { stamps = StampsRise-added mark p 0 C.entries C.next_stamp h.is.stamps; closed = AreClosed-added C.channels C.entries (record { stamp = C.next_stamp; mark = mark; process = p }) (subst (λ n. IsUnder 0 n p) (sym h.count) u) h.is.closed };
  count = h.count;
}

at_channel : (C : Configuration) → IsConfiguration C → IsAt (C.channels + 1) (with_channel C)
at_channel C is = record { is = record { stamps = is.stamps; closed = AreClosed-more C.channels (C.channels + 1) (omega arith) C.entries is.closed }; count = refl }

at_served : (c : ℕ) (replicated : Bool) (p : Process) (C : Configuration) → IsUnder 0 c p → IsAt c C → IsAt c (served replicated p C)
at_served c true p C u h = at_added c Parked p C u h
at_served c false p C u h = h

at_took : (c : ℕ) (replicated : Bool) (s : ℕ) (C : Configuration) → IsAt c C → IsAt c (took replicated s C)
at_took c true s C h = h
at_took c false s C h = at_gone c s C h

-- ---- the rows of the table

received_keeps : (c : ℕ) (bound : Option (List Val)) (pattern : Pat) (body : Process) (go : Process → StepOutcome) → Fits 0 c (binds pattern) bound → IsUnder (0 + binds pattern) c body → ((p : Process) → IsUnder 0 c p → Keeps (go p)) → Keeps (received bound body go)
received_keeps c None pattern body go f u h = tt
received_keeps c (Some bound) pattern body go f u h = h (substitute 0 bound body) (substitute_under 0 (0 + binds pattern) c bound (omega (arith, f.0)) f.1 body u)

module _ (C : Configuration) (is : IsConfiguration C) (s : ℕ) where
  here : IsAt C.channels C
  here = record { is = is; count = refl }

  reader_keeps : (c : ℕ) (message : Val) (r : ℕ) (p : Process) → IsOver 0 C.channels message → IsUnder 0 C.channels p → Keeps (meet_reader C s c message r p)
  reader_keeps c message r Zero o u = tt
  reader_keeps c message r (Par p q) o u = tt
  reader_keeps c message r (New p) o u = tt
  reader_keeps c message r (Out v w at) o u = tt
  reader_keeps c message r (If v p q) o u = tt
  reader_keeps c message r (In chan replicated pattern body) o u =
      received_keeps C.channels (match_value pattern message) pattern body _ (match_fits 0 C.channels pattern message o) u.1
      (λ p k. (at_served C.channels replicated (In chan replicated pattern body) (added Ready p (gone r (gone s C))) u
      (at_added C.channels Ready p (gone r (gone s C)) k (at_gone C.channels r (gone s C) (at_gone C.channels s C here)))).is)

  message_keeps : (c : ℕ) (replicated : Bool) (pattern : Pat) (body : Process) (r : ℕ) (p : Process) → IsUnder (0 + binds pattern) C.channels body → IsUnder 0 C.channels p → Keeps (meet_message C s c replicated pattern body r p)
  message_keeps c replicated pattern body r Zero k u = tt
  message_keeps c replicated pattern body r (Par p q) k u = tt
  message_keeps c replicated pattern body r (New p) k u = tt
  message_keeps c replicated pattern body r (In v x y p) k u = tt
  message_keeps c replicated pattern body r (If v p q) k u = tt
  message_keeps c replicated pattern body r (Out chan message at) k u =
      received_keeps C.channels (match_value pattern message) pattern body _ (match_fits 0 C.channels pattern message u.1) k
      (λ p h. (at_added C.channels Ready p (gone r (took replicated s C)) h (at_gone C.channels r (took replicated s C) (at_took C.channels replicated s C here))).is)

  meet_keeps : (p : Process) (go : ℕ → Process → StepOutcome) (partner : Option Entry) → IsUnder 0 C.channels p → EntryClosed C.channels partner → ((r : ℕ) (q : Process) → IsUnder 0 C.channels q → Keeps (go r q)) → Keeps (meet C s p go partner)
  meet_keeps p go None u k h = (at_added C.channels Parked p (gone s C) u (at_gone C.channels s C here)).is
  meet_keeps p go (Some partner) u k h = h partner.stamp partner.process k

  leave_keeps : (at : Span) (label : Label) (l : Leaves) → LeavesOver 0 C.channels l → Keeps (leave C s at label l)
  leave_keeps at label Nothing o = (at_gone C.channels s C here).is
  leave_keeps at label (Answer k a) o = (at_kept C.channels s (Out k a at) C o here).is
  leave_keeps at label Trap o = tt

  perform_keeps : (at : Span) (e : Option Effect) → EffectOver 0 C.channels e → Keeps (perform C s at e)
  perform_keeps at None o = tt
  perform_keeps at (Some e) o = leave_keeps at (printing e.printed) e.leaves o

  send_keeps : (partner : Option Entry) (chan message : Val) (at : Span) → EntryClosed C.channels partner → IsUnder 0 C.channels (Out chan message at) → Keeps (send C s partner chan message at)
  send_keeps partner (Chan c) message at k u = meet_keeps (Out (Chan c) message at) (meet_reader C s c message) partner u k (λ r q h. reader_keeps c message r q u.1 h)
  send_keeps partner (PrimitiveVal f) message at k u = perform_keeps at (effect_of f message) (effect_over 0 C.channels f message u.1)
  send_keeps partner _ message at k u = tt

  receive_keeps : (partner : Option Entry) (chan : Val) (replicated : Bool) (pattern : Pat) (body : Process) → EntryClosed C.channels partner → IsUnder 0 C.channels (In chan replicated pattern body) → Keeps (receive C s partner chan replicated pattern body)
  receive_keeps partner (Chan c) replicated pattern body k u = meet_keeps (In (Chan c) replicated pattern body) (meet_message C s c replicated pattern body) partner u k (λ r q h. message_keeps c replicated pattern body r q u.1 h)
  receive_keeps partner _ replicated pattern body k u = tt

  choose_keeps : (test : Val) (p q : Process) → IsUnder 0 C.channels p → IsUnder 0 C.channels q → Keeps (choose test (Steps (kept s p C) Quiet) (Steps (kept s q C) Quiet))
  choose_keeps (Boolean true) p q u k = (at_kept C.channels s p C u here).is
  choose_keeps (Boolean false) p q u k = (at_kept C.channels s q C k here).is
  choose_keeps _ p q u k = tt

  new_channel : (p : Process) → IsUnder (0 + 1) C.channels p → IsUnder 0 (C.channels + 1) (substitute 0 (Chan C.channels ∷ []) p)
  new_channel p u = substitute_under 0 (0 + 1) (C.channels + 1) (Chan C.channels ∷ []) (omega arith) (omega arith, tt) p (under_more (0 + 1) C.channels (C.channels + 1) (omega arith) p u)

  act_keeps : (partner : Option Entry) (p : Process) → EntryClosed C.channels partner → IsUnder 0 C.channels p → Keeps (act C s partner p)
  act_keeps partner Zero k u = (at_gone C.channels s C here).is
  act_keeps partner (Par p q) k u = (at_added C.channels Ready q (kept s p C) u.1 (at_kept C.channels s p C u.0 here)).is
  act_keeps partner (New p) k u = (at_kept (C.channels + 1) s (substitute 0 (Chan C.channels ∷ []) p) (with_channel C) (new_channel p u) (at_channel C is)).is
  act_keeps partner (If test p q) k u = choose_keeps test p q u.1 u.2
  act_keeps partner (Out chan message at) k u = send_keeps partner chan message at k u
  act_keeps partner (In chan replicated pattern body) k u = receive_keeps partner chan replicated pattern body k u

entry_keeps : (C : Configuration) → IsConfiguration C → (actor partner : Option Entry) → EntryClosed C.channels actor → EntryClosed C.channels partner → Keeps (act_entry C actor partner)
entry_keeps C is None partner u k = tt
entry_keeps C is (Some e) partner u k = act_keeps C is e.stamp partner e.process k u

partner_closed : (C : Configuration) → IsConfiguration C → (o : Option ℕ) → EntryClosed C.channels (option_and_then (λ r. entry_at r C.entries) o)
partner_closed C is None = tt
partner_closed C is (Some r) = least_closed C.channels _ C.entries is.closed

pub free_step_keeps : (C : Configuration) (choice : Choice) → IsConfiguration C → Keeps (free_step C choice)
free_step_keeps C choice is = entry_keeps C is (entry_at choice.acting C.entries) (option_and_then (λ r. entry_at r C.entries) choice.partner) (least_closed C.channels _ C.entries is.closed) (partner_closed C is choice.partner)

pub free_steps_keep : FreeStepsKeepConfigurations
free_steps_keep C choice D label is free = subst Keeps free.steps (free_step_keeps C choice is)

-- ---- oldest-first steps

least_partner : (C : Configuration) → IsConfiguration C → (p : Process) (o : Option Entry) → least (is_partner p) C.entries ≡ o → NamesPartner C.entries p (option_map (λ (u : Entry). u.stamp) o)
least_partner C is p None e = e
least_partner C is p (Some u) e = (u, least_stands (is_partner p) 0 C.entries C.next_stamp u is.stamps e, least_passes (is_partner p) C.entries u e)

oldest_is_choice : (C : Configuration) → IsConfiguration C → (o : Option Entry) → least is_ready C.entries ≡ o → (choice : Choice)
    → option_map (λ (e : Entry). record { acting = e.stamp; partner = option_map (λ (u : Entry). u.stamp) (least (is_partner e.process) C.entries) }) o ≡ Some choice → IsChoice C choice
oldest_is_choice C is None f choice e = cc
oldest_is_choice C is (Some a) f choice e =
    let same : record { acting = a.stamp; partner = option_map (λ (u : Entry). u.stamp) (least (is_partner a.process) C.entries) } ≡ choice = cc in
    subst (IsChoice C) same (record { actor = a; stands = least_stands is_ready 0 C.entries C.next_stamp a is.stamps f; ready = least_passes is_ready C.entries a f; partner = least_partner C is a.process (least (is_partner a.process) C.entries) refl })

free_of : (C D : Configuration) (label : Label) → IsConfiguration C → (o : Option Choice) → oldest_choice C ≡ o → step_by C o ≡ Steps D label → (choice : Choice) × Free C choice D label
free_of C D label is None f e = cc
free_of C D label is (Some choice) f e = (choice, record { chosen = oldest_is_choice C is (least is_ready C.entries) refl choice f; steps = e })

pub oldest_first_is_free : OldestFirstStepsAreFree
oldest_first_is_free C D label is e = free_of C D label is (oldest_choice C) refl e

wrong_of : (C : Configuration) → IsConfiguration C → (o : Option Choice) → oldest_choice C ≡ o → step_by C o ≡ Wrong → IsWrong C
wrong_of C is None f e = cc
wrong_of C is (Some choice) f e = record { choice = choice; chosen = oldest_is_choice C is (least is_ready C.entries) refl choice f; wrong = e }

pub wrong_steps : WrongStepsAreWrong
wrong_steps C is e = wrong_of C is (oldest_choice C) refl e
