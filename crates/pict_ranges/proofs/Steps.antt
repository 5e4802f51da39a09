-- Free steps keep values within ranges: what a process does, and then its place in a configuration.
use Rattle.std.proofs.Common.{◌≡◌, ℕ, zero, suc, ◌+◌, ◌-◌, ◌≤◌, nat_lt, nat_eq, Bool, true, false, List, [], ◌∷◌, ◌++◌, length, Option, Some, None, option_map, option_and_then, slice_get, unwrap_or, filter, map, if◌then◌else◌, refl, sym, subst, arith}
use Rattle.std.specs.List.{AllByRecursion}
use Rattle.pict_syntax.specs.declared.span.Span.{Span}
use Rattle.pict_core.specs.Term.{Val, Vals, Labelled, Var, Chan, Int, Char, Boolean, Text, PrimitiveVal, Record, no_vals, more_vals, no_labelled, more_labelled, Pat, Pats, LabelledPats, Bind, Any, RecordPat, no_pats, more_pats, no_labelled_pats, more_labelled_pats, Process, Zero, Par, New, Out, In, If}
use Rattle.pict_core.specs.Closed.{IsUnder}
use Rattle.pict_core.specs.Matching.{field_at, match_value, match_values, match_labelled, both}
use Rattle.pict_core.specs.Substitution.{Replacement, replace_value, replace_values, replace_labelled, replace, value_of_variable, substitution, substitute}
use Rattle.pict_core.specs.Primitives.{Effect, Leaves, Nothing, Answer, Trap, effect_of}
use Rattle.pict_core.specs.Configuration.{Mark, Ready, Parked, Entry, Configuration, IsConfiguration}
use Rattle.pict_core.specs.Step.{Label, Comm, StepOutcome, Steps, Traps, Wrong, Finished, gone, kept, added, with_process, with_channel, served, took, printing, act, act_entry, Choice, free_step, least, entry_at, step_by}
use Rattle.pict_core.specs.Deed.{Deed, Ends, Keeps, Forks, Opens, Parks, Serves, Takes, Stops, Misfits, leaves, performs, serves, offers, takes, asks, sends, receives, chooses, deed}
use Rattle.pict_core.specs.Placing.{place, stamp_or_none}
use Rattle.pict_core.proofs.Deeds.{acts_are_placed}
use Rattle.pict_core.proofs.Stamps.{EntryClosed, least_closed}
use Rattle.pict_ranges.specs.Ranges.{IsMachineValue, AreMachineValues, AreMachineFields, IsMachineMessage, IsMachineProcess, IsMachineConfiguration, IsShort, IsShownAmong}
use Rattle.pict_ranges.specs.Laws.{FreeStepsKeepRanges}
use Rattle.pict_ranges.proofs.Effects.{LeavesMachine, PrintsBytes, EffectIs, effect_is}

-- ---- messages

pub message_of : (v : Val) → IsMachineValue v → IsMachineMessage v
message_of (Text bytes) h = h.0
message_of (Var x) h = tt
message_of (Chan x) h = tt
message_of (Int x) h = h
message_of (Char x) h = h
message_of (Boolean x) h = tt
message_of (PrimitiveVal x) h = tt
message_of (Record vs ls) h = h

-- a message that is sent is a value, unless it is a string that is too long
pub value_of : (c : ℕ) (v : Val) → IsMachineMessage v → IsShort (Comm c v) → IsMachineValue v
value_of c (Text bytes) h short = (h, short)
value_of c (Var x) h short = tt
value_of c (Chan x) h short = tt
value_of c (Int x) h short = h
value_of c (Char x) h short = h
value_of c (Boolean x) h short = tt
value_of c (PrimitiveVal x) h short = tt
value_of c (Record vs ls) h short = h

-- ---- substitution

abbrev AreValues : List Val → Type 0
AreValues vs = AllByRecursion IsMachineValue vs

picked : (t : Bool) (v w : Val) → IsMachineValue v → IsMachineValue w → IsMachineValue (if t then v else w)
picked true v w h k = h
picked false v w h k = k

value_at : (vs : List Val) (i : ℕ) (d : Val) → AreValues vs → IsMachineValue d → IsMachineValue (unwrap_or (slice_get vs i) d)
value_at [] i d h k = k
value_at (v ∷ vs) zero d h k = h.0
value_at (v ∷ vs) (suc i) d h k = value_at vs i d h.1 k

variable_is : (m : ℕ) (vs : List Val) (level : ℕ) → AreValues vs → IsMachineValue (value_of_variable m vs level)
variable_is m vs level h = picked (nat_lt level m) (Var level) _ tt (value_at vs (level - m) (Var (level - length vs)) h tt)

module _ (r : Replacement) (variables : (n : ℕ) → IsMachineValue (r.variable n)) (channels : (n : ℕ) → IsMachineValue (r.channel n)) where
  mutual
    replaced_value : (v : Val) → IsMachineValue v → IsMachineValue (replace_value r v)
    replaced_value (Var x) h = variables x
    replaced_value (Chan x) h = channels x
    replaced_value (Int x) h = h
    replaced_value (Char x) h = h
    replaced_value (Boolean x) h = tt
    replaced_value (Text x) h = h
    replaced_value (PrimitiveVal x) h = tt
    replaced_value (Record vs ls) h = (replaced_values vs h.0, replaced_fields ls h.1)

    replaced_values : (vs : Vals) → AreMachineValues vs → AreMachineValues (replace_values r vs)
    replaced_values no_vals h = tt
    replaced_values (more_vals v vs) h = (replaced_value v h.0, replaced_values vs h.1)

    replaced_fields : (ls : Labelled) → AreMachineFields ls → AreMachineFields (replace_labelled r ls)
    replaced_fields no_labelled h = tt
    replaced_fields (more_labelled l v ls) h = (replaced_value v h.0, replaced_fields ls h.1)

  replaced_message : (v : Val) → IsMachineMessage v → IsMachineMessage (replace_value r v)
  replaced_message (Var x) h = message_of (r.variable x) (variables x)
  replaced_message (Chan x) h = message_of (r.channel x) (channels x)
  replaced_message (Int x) h = h
  replaced_message (Char x) h = h
  replaced_message (Boolean x) h = tt
  replaced_message (Text x) h = h
  replaced_message (PrimitiveVal x) h = tt
  replaced_message (Record vs ls) h = (replaced_values vs h.0, replaced_fields ls h.1)

  replaced : (p : Process) → IsMachineProcess p → IsMachineProcess (replace r p)
  replaced Zero h = tt
  replaced (Par p q) h = (replaced p h.0, replaced q h.1)
  replaced (New p) h = replaced p h
  replaced (Out chan message at) h = (replaced_value chan h.0, replaced_message message h.1)
  replaced (In chan replicated pattern body) h = (replaced_value chan h.0, replaced body h.1)
  replaced (If test p q) h = (replaced_value test h.0, replaced p h.1, replaced q h.2)

substituted : (vs : List Val) (p : Process) → AreValues vs → IsMachineProcess p → IsMachineProcess (substitute 0 vs p)
substituted vs p h k = replaced (substitution 0 vs) (λ level. variable_is 0 vs level h) (λ n. tt) p k

-- ---- matching

abbrev Bound : Option (List Val) → Type 0
Bound None = Unit {0}
Bound (Some vs) = AreValues vs

abbrev Found : Option Val → Type 0
Found None = Unit {0}
Found (Some v) = IsMachineValue v

joined : (vs ws : List Val) → AreValues vs → AreValues ws → AreValues (vs ++ ws)
joined [] ws h k = k
joined (v ∷ vs) ws h k = (h.0, joined vs ws h.1 k)

both_bound : (a b : Option (List Val)) → Bound a → Bound b → Bound (both a b)
both_bound None b h k = tt
both_bound (Some vs) None h k = tt
both_bound (Some vs) (Some ws) h k = joined vs ws h k

picked_field : (t : Bool) (v : Val) (o : Option Val) → IsMachineValue v → Found o → Found (if t then Some v else o)
picked_field true v o h k = h
picked_field false v o h k = k

field_found : (label : ℕ) (ls : Labelled) → AreMachineFields ls → Found (field_at label ls)
field_found label no_labelled h = tt
field_found label (more_labelled l v ls) h = picked_field (nat_eq label l) v (field_at label ls) h.0 (field_found label ls h.1)

mutual
  matched : (p : Pat) (v : Val) → IsMachineValue v → Bound (match_value p v)
  matched Bind v h = (h, tt)
  matched Any v h = tt
  matched (RecordPat ps qs) (Record vs ls) h = both_bound (match_values ps vs) (match_labelled qs ls) (matched_values ps vs h.0) (matched_labelled qs ls h.1)
  matched (RecordPat ps qs) v h = tt

  matched_values : (ps : Pats) (vs : Vals) → AreMachineValues vs → Bound (match_values ps vs)
  matched_values no_pats no_vals h = tt
  matched_values no_pats (more_vals v vs) h = tt
  matched_values (more_pats p ps) no_vals h = tt
  matched_values (more_pats p ps) (more_vals v vs) h = both_bound (match_value p v) (match_values ps vs) (matched p v h.0) (matched_values ps vs h.1)

  matched_labelled : (qs : LabelledPats) (ls : Labelled) → AreMachineFields ls → Bound (match_labelled qs ls)
  matched_labelled no_labelled_pats ls h = tt
  matched_labelled (more_labelled_pats label p qs) ls h =
      both_bound (option_and_then (match_value p) (field_at label ls)) (match_labelled qs ls)
      (elim (field_at label ls) as (λ o. Found o → Bound (option_and_then (match_value p) o)) [ None ↦ λ k. tt | Some v ↦ λ k. matched p v k ] (field_found label ls h))
      (matched_labelled qs ls h)

-- ---- what a process does

module _ (channels : ℕ) where
  -- what it shows is within ranges, and so are the processes that it leaves, unless it sends a string that is too long
  abbrev DeedIs : Deed → Type 0
  DeedIs (Ends label) = IsShownAmong channels label
  DeedIs (Keeps p label) = IsShownAmong channels label × IsMachineProcess p
  DeedIs (Forks p q) = IsMachineProcess p × IsMachineProcess q
  DeedIs (Opens p) = IsMachineProcess p
  DeedIs (Parks c p) = IsMachineProcess p
  DeedIs (Serves c v replicated reader body) = IsShownAmong channels (Comm c v) × IsMachineProcess reader × (IsShort (Comm c v) → IsMachineProcess body)
  DeedIs (Takes c v replicated body) = IsShownAmong channels (Comm c v) × (IsShort (Comm c v) → IsMachineProcess body)
  DeedIs (Stops at) = Unit {0}
  DeedIs Misfits = Unit {0}

  -- a process of this many channels
  abbrev pub IsHere : Process → Type 0
  IsHere p = IsUnder 0 channels p × IsMachineProcess p

  abbrev SomeHere : Option Process → Type 0
  SomeHere None = Unit {0}
  SomeHere (Some p) = IsHere p

  printing_is : (o : Option (List ℕ)) → PrintsBytes o → IsShownAmong channels (printing o)
  printing_is None h = tt
  printing_is (Some bytes) h = h

  leaves_is : (at : Span) (label : Label) (l : Leaves) → IsShownAmong channels label → LeavesMachine l → DeedIs (leaves at label l)
  leaves_is at label Nothing s h = s
  leaves_is at label (Answer k a) s h = (s, h)
  leaves_is at label Trap s h = tt

  performs_is : (at : Span) (e : Option Effect) → EffectIs e → DeedIs (performs at e)
  performs_is at None h = tt
  performs_is at (Some e) h = leaves_is at (printing e.printed) e.leaves (printing_is e.printed h.0) h.1

  serves_is : (c : ℕ) (message : Val) (replicated : Bool) (reader body : Process) (found : Option (List Val)) → IsShownAmong channels (Comm c message) → IsMachineProcess reader → IsMachineProcess body
      → (IsShort (Comm c message) → Bound found) → DeedIs (serves c message replicated reader body found)
  serves_is c message replicated reader body None s r b f = tt
  serves_is c message replicated reader body (Some bound) s r b f = (s, r, λ short. substituted bound body (f short) b)

  takes_is : (c : ℕ) (message : Val) (replicated : Bool) (body : Process) (found : Option (List Val)) → IsShownAmong channels (Comm c message) → IsMachineProcess body
      → (IsShort (Comm c message) → Bound found) → DeedIs (takes c message replicated body found)
  takes_is c message replicated body None s b f = tt
  takes_is c message replicated body (Some bound) s b f = (s, λ short. substituted bound body (f short) b)

  offers_is : (c : ℕ) (message : Val) (at : Span) (partner : Option Process) → IsHere (Out (Chan c) message at) → SomeHere partner → DeedIs (offers c message (Out (Chan c) message at) partner)
  offers_is c message at None h k = h.1
  offers_is c message at (Some (In chan replicated pattern body)) h k =
      serves_is c message replicated (In chan replicated pattern body) body (match_value pattern message) (h.0.0, h.0.1, h.1.1) k.1 k.1.1
      (λ short. matched pattern message (value_of c message h.1.1 short))
  offers_is c message at (Some p) h k = tt

  asks_is : (c : ℕ) (replicated : Bool) (pattern : Pat) (body : Process) (partner : Option Process) → IsHere (In (Chan c) replicated pattern body) → SomeHere partner
      → DeedIs (asks c replicated pattern body (In (Chan c) replicated pattern body) partner)
  asks_is c replicated pattern body None h k = h.1
  asks_is c replicated pattern body (Some (Out chan message at)) h k =
      takes_is c message replicated body (match_value pattern message) (h.0.0, k.0.1, k.1.1) h.1.1 (λ short. matched pattern message (value_of c message k.1.1 short))
  asks_is c replicated pattern body (Some p) h k = tt

  sends_is : (chan message : Val) (at : Span) (partner : Option Process) → IsHere (Out chan message at) → SomeHere partner → DeedIs (sends chan message at partner)
  sends_is (Chan c) message at partner h k = offers_is c message at partner h k
  sends_is (PrimitiveVal f) message at partner h k = performs_is at (effect_of f message) (effect_is f message h.1.1)
  sends_is v message at partner h k = tt

  receives_is : (chan : Val) (replicated : Bool) (pattern : Pat) (body : Process) (partner : Option Process) → IsHere (In chan replicated pattern body) → SomeHere partner
      → DeedIs (receives chan replicated pattern body partner)
  receives_is (Chan c) replicated pattern body partner h k = asks_is c replicated pattern body partner h k
  receives_is v replicated pattern body partner h k = tt

  chooses_is : (test : Val) (p q : Process) → IsMachineProcess p → IsMachineProcess q → DeedIs (chooses test p q)
  chooses_is (Boolean true) p q h k = (tt, h)
  chooses_is (Boolean false) p q h k = (tt, k)
  chooses_is v p q h k = tt

  deed_is : (partner : Option Process) (p : Process) → IsHere p → SomeHere partner → DeedIs (deed channels partner p)
  deed_is partner Zero h k = tt
  deed_is partner (Par p q) h k = h.1
  deed_is partner (New p) h k = substituted (Chan channels ∷ []) p (tt, tt) h.1
  deed_is partner (If test p q) h k = chooses_is test p q h.1.1 h.1.2
  deed_is partner (Out chan message at) h k = sends_is chan message at partner h k
  deed_is partner (In chan replicated pattern body) h k = receives_is chan replicated pattern body partner h k

-- ---- entries

abbrev AreEntries : List Entry → Type 0
AreEntries es = AllByRecursion (λ (e : Entry). IsMachineProcess e.process) es

picked_entries : (t : Bool) (e : Entry) (es : List Entry) → IsMachineProcess e.process → AreEntries es → AreEntries (if t then e ∷ es else es)
picked_entries true e es h k = (h, k)
picked_entries false e es h k = k

filtered : (f : Entry → Bool) (es : List Entry) → AreEntries es → AreEntries (filter f es)
filtered f [] h = tt
filtered f (e ∷ es) h = picked_entries (f e) e (filter f es) h.0 (filtered f es h.1)

picked_entry : (t : Bool) (p : Process) (e : Entry) → IsMachineProcess p → IsMachineProcess e.process → IsMachineProcess (if t then record e { process = p } else e).process
picked_entry true p e h k = h
picked_entry false p e h k = k

replaced_entries : (s : ℕ) (p : Process) (es : List Entry) → IsMachineProcess p → AreEntries es → AreEntries (map (with_process s p) es)
replaced_entries s p [] h k = tt
replaced_entries s p (e ∷ es) h k = (picked_entry (nat_eq s e.stamp) p e h k.0, replaced_entries s p es h k.1)

appended : (es : List Entry) (e : Entry) → AreEntries es → IsMachineProcess e.process → AreEntries (es ++ e ∷ [])
appended [] e h k = (k, tt)
appended (x ∷ es) e h k = (h.0, appended es e h.1 k)

abbrev At : Option Entry → Type 0
At None = Unit {0}
At (Some e) = IsMachineProcess e.process

picked_at : (t : Bool) (e : Entry) (o : Option Entry) → IsMachineProcess e.process → At o → At (if t then Some e else o)
picked_at true e o h k = h
picked_at false e o h k = k

least_at : (f : Entry → Bool) (es : List Entry) → AreEntries es → At (least f es)
least_at f [] h = tt
least_at f (e ∷ es) h = picked_at (f e) e (least f es) h.0 (least_at f es h.1)

is_gone : (s : ℕ) (C : Configuration) → IsMachineConfiguration C → IsMachineConfiguration (gone s C)
is_gone s C h = filtered _ C.entries h

is_kept : (s : ℕ) (p : Process) (C : Configuration) → IsMachineProcess p → IsMachineConfiguration C → IsMachineConfiguration (kept s p C)
is_kept s p C k h = replaced_entries s p C.entries k h

is_added : (mark : Mark) (p : Process) (C : Configuration) → IsMachineProcess p → IsMachineConfiguration C → IsMachineConfiguration (added mark p C)
is_added mark p C k h = appended C.entries _ h k

is_served : (replicated : Bool) (p : Process) (C : Configuration) → IsMachineProcess p → IsMachineConfiguration C → IsMachineConfiguration (served replicated p C)
is_served true p C k h = is_added Parked p C k h
is_served false p C k h = h

is_took : (replicated : Bool) (s : ℕ) (C : Configuration) → IsMachineConfiguration C → IsMachineConfiguration (took replicated s C)
is_took true s C h = h
is_took false s C h = is_gone s C h

served_channels : (replicated : Bool) (p : Process) (C : Configuration) → (served replicated p C).channels ≡ C.channels
served_channels true p C = refl
served_channels false p C = refl

took_channels : (replicated : Bool) (s : ℕ) (C : Configuration) → (took replicated s C).channels ≡ C.channels
took_channels true s C = refl
took_channels false s C = refl

-- ---- steps

module _ (C : Configuration) where
  -- what becomes of a configuration in a step
  abbrev pub StepIs : StepOutcome → Type 0
  StepIs (Steps D label) = IsShownAmong C.channels label × (D.channels ≤ C.channels + 1) × (IsShort label → IsMachineConfiguration D)
  StepIs (Traps at) = Unit {0}
  StepIs Wrong = Unit {0}
  StepIs Finished = Unit {0}

  module _ (is : IsMachineConfiguration C) where
    placed_is : (s r : ℕ) (d : Deed) → DeedIs C.channels d → StepIs (place C s r d)
    placed_is s r (Ends label) h = (h, omega arith, λ short. is_gone s C is)
    placed_is s r (Keeps p label) h = (h.0, omega arith, λ short. is_kept s p C h.1 is)
    placed_is s r (Forks p q) h = (tt, omega arith, λ short. is_added Ready q (kept s p C) h.1 (is_kept s p C h.0 is))
    placed_is s r (Opens p) h = (tt, omega arith, λ short. is_kept s p (with_channel C) h is)
    placed_is s r (Parks c p) h = (tt, omega arith, λ short. is_added Parked p (gone s C) h (is_gone s C is))
    placed_is s r (Serves c v replicated reader body) h = (
      h.0,
      (let e = served_channels replicated reader (added Ready body (gone r (gone s C))) in omega (arith, e)),
      λ short. is_served replicated reader (added Ready body (gone r (gone s C))) h.1 (is_added Ready body (gone r (gone s C)) (h.2 short) (is_gone r (gone s C) (is_gone s C is))),
    )
    placed_is s r (Takes c v replicated body) h = (
      h.0,
      (let e = took_channels replicated s C in omega (arith, e)),
      λ short. is_added Ready body (gone r (took replicated s C)) (h.1 short) (is_gone r (took replicated s C) (is_took replicated s C is)),
    )
    placed_is s r (Stops at) h = tt
    placed_is s r Misfits h = tt

    abbrev EntryIs : Option Entry → Type 0
    EntryIs o = EntryClosed C.channels o × At o

    partner_here : (o : Option Entry) → EntryIs o → SomeHere C.channels (option_map (λ (u : Entry). u.process) o)
    partner_here None h = tt
    partner_here (Some u) h = h

    act_is : (s : ℕ) (partner : Option Entry) (p : Process) → IsHere C.channels p → EntryIs partner → StepIs (act C s partner p)
    act_is s partner p h k =
        subst StepIs (sym (acts_are_placed C s partner p))
        (placed_is s (stamp_or_none partner) _ (deed_is C.channels (option_map (λ (u : Entry). u.process) partner) p h (partner_here partner k)))

    entry_is : (actor partner : Option Entry) → EntryIs actor → EntryIs partner → StepIs (act_entry C actor partner)
    entry_is None partner h k = tt
    entry_is (Some e) partner h k = act_is e.stamp partner e.process h k

    stands_is : IsConfiguration C → (s : ℕ) → EntryIs (entry_at s C.entries)
    stands_is closed s = (least_closed C.channels _ C.entries closed.closed, least_at _ C.entries is)

    partner_is : IsConfiguration C → (o : Option ℕ) → EntryIs (option_and_then (λ r. entry_at r C.entries) o)
    partner_is closed None = (tt, tt)
    partner_is closed (Some r) = stands_is closed r

    free_step_is : IsConfiguration C → (choice : Choice) → StepIs (free_step C choice)
    free_step_is closed choice =
        entry_is (entry_at choice.acting C.entries) (option_and_then (λ r. entry_at r C.entries) choice.partner) (stands_is closed choice.acting) (partner_is closed choice.partner)

    pub step_by_is : IsConfiguration C → (o : Option Choice) → StepIs (step_by C o)
    step_by_is closed None = tt
    step_by_is closed (Some choice) = free_step_is closed choice

pub free_steps_keep_ranges : FreeStepsKeepRanges
free_steps_keep_ranges C choice D label closed is free = subst (StepIs C) free.steps (free_step_is C is closed choice)
