-- Silent steps and steps of one process by itself, at places, and choices that go on.
use Rattle.std.proofs.Common.{ℕ, ◌+◌, ◌≡◌, ◌⊎◌, inl, inr, arith, map, Bool, true, false, ◌&&◌, cond, List, [], ◌∷◌, ◌++◌, length, append-nil, append_assoc, filter, refl, sym, ap, ◌∙◌, subst, Option, Some, None}
use Rattle.std.specs.List.{slice_get}
use Rattle.pict_syntax.specs.declared.span.Span.{Span}
use Rattle.pict_syntax.specs.declared.primitive.Primitive.{Primitive}
use Rattle.pict_core.specs.Term.{Val, Pat, Process, Var, Chan, Int, Char, Boolean, Text, PrimitiveVal, Record, Zero, Par, New, Out, In, If}
use Rattle.pict_core.specs.Closed.{IsUnder}
use Rattle.pict_core.specs.Substitution.{substitute}
use Rattle.pict_core.specs.Configuration.{Ready, Parked, Entry, Configuration, IsConfiguration}
use Rattle.pict_core.specs.Step.{Label, Quiet, Comm, Print, Steps, is_ready, is_partner, least, entry_at, gone, kept, added, with_channel, with_process, act}
use Rattle.pict_core.specs.Primitives.{Effect, Leaves, Nothing, Answer, Trap, effect_of}
use Rattle.pict_core.specs.Table.{Row, ends, forks, makes_channel, takes_first, takes_second, primitive_answers, output_parks, input_parks}
use Rattle.pict_core.specs.Run.{shown, printed_by, bytes_of}
use Rattle.pict_core.specs.Places.{Place, IsPlace, ready_entries, partner_entries, outcome_at}
use Rattle.pict_core.specs.FreeRun.{by_step}
use Rattle.pict_core.proofs.Placing.{found, places_are_free}
use Rattle.pict_core.proofs.Kept.{free_steps_keep}
use Rattle.pict_core.proofs.Stamps.{EntryClosed, least_closed}
use Rattle.pict_core.proofs.Tabled.{act_of}
use Rattle.pict_reduction.specs.Congruence.{reflexive, symmetric}
use Rattle.pict_reduction.specs.Reduction.{chooses, performs}
use Rattle.pict_reduction.specs.Reading.{naming, read, composition, reading}
use Rattle.pict_reduction.specs.Silent.{is_chan, has_none, is_silent}
use Rattle.pict_reduction.proofs.Natural.{effect_natural}
use Rattle.pict_reduction.proofs.Reductions.{front, kept_front, ends_reads, forks_reads, parks_reads, new_row}
use Rattle.pict_exploration.specs.Alone.{ReducesAlone, SettlesTo, at_end, by_reduction}
use Rattle.pict_exploration.specs.Explored.{Vertex, IsReachedByChoices}
use Rattle.pict_exploration.proofs.Commuting.{alone_declared, alone_beside, alone_up_to}
use Rattle.pict_exploration.proofs.Covering.{settles_then}
use Rattle.pict_reference.specs.Plain.{IsOutcome}
use Rattle.pict_reference.specs.declared.outcome.StepOutcome.{StepOutcome as Made}
use Rattle.pict_reference.specs.declared.outcome.StepOutcome.TheVariants as made
use Rattle.pict_orders.specs.Plain.{place}
use Rattle.pict_orders.specs.Settling.{vertex, is_quiet, is_quiet_effect, goes_alone, FirstQuiet, LeadsQuietly, SettlesOnce, Settles, SettlesToFull}
use Rattle.pict_orders.specs.declared.settling.Once.{Once}
use Rattle.pict_orders.specs.declared.settling.Once.TheVariants as once
use Rattle.pict_orders.proofs.Lists.{none_left, get_within}
use Rattle.pict_orders.proofs.Placed.{outcome_acts}

-- ---- choices that go on

bytes_behind : (ls ks : List (ℕ × Label)) → bytes_of (ls ++ ks) ≡ bytes_of ls ++ bytes_of ks
bytes_behind [] ks = refl
bytes_behind (l ∷ ls) ks = ap (λ b. printed_by l.1 ++ b) (bytes_behind ls ks) ∙ sym (append_assoc (printed_by l.1) (bytes_of ls) (bytes_of ks))

bytes_shown : (k : ℕ) (label : Label) → bytes_of (shown k label) ≡ printed_by label
bytes_shown k Quiet = refl
bytes_shown k (Comm c v) = refl
bytes_shown k (Print bytes) = append-nil bytes

pub reached_more : (p : Process) (v : Vertex) (at : Place) (D : Configuration) (label : Label) → IsReachedByChoices p v → IsPlace v.configuration at → outcome_at v.configuration at ≡ Steps D label
    → IsReachedByChoices p (vertex (v.choices ++ at ∷ []) (v.bytes ++ printed_by label) D)
reached_more p v at D label r there steps = record {
  labels = r.labels ++ shown (length v.choices + 1) label;
  runs = by_step r.runs there steps;
  prints = bytes_behind r.labels (shown (length v.choices + 1) label) ∙ ap (λ b. bytes_of r.labels ++ b) (bytes_shown (length v.choices + 1) label) ∙ ap (λ b. b ++ printed_by label) r.prints;
}

-- a step at a place keeps what holds of configurations
pub place_keeps : (C D : Configuration) (at : Place) (label : Label) → IsConfiguration C → IsPlace C at → outcome_at C at ≡ Steps D label → IsConfiguration D
place_keeps C D at label is there steps = let f = places_are_free C D at label is there steps in free_steps_keep C f.0 D label is f.1

-- ---- a step that prints nothing

pub record QuietAt (C : Configuration) (i : ℕ) : Type 0 where
  pub after : Configuration
  pub there : IsPlace C (place i 0)
  pub steps : outcome_at C (place i 0) ≡ Steps after Quiet
  pub settles : SettlesTo 0 (reading C) (reading after)

none_of : (o : Option Entry) → has_none o ≡ true → o ≡ None
none_of None h = refl
none_of (Some e) h = cc

module _ (C : Configuration) (is : IsConfiguration C) (i : ℕ) (a : Entry) (here : slice_get (ready_entries C) i ≡ Some a) where
  ready : is_ready a ≡ true
  ready = (found is_ready 0 C.entries C.next_stamp i a is.stamps here).0

  stands : entry_at a.stamp C.entries ≡ Some a
  stands = (found is_ready 0 C.entries C.next_stamp i a is.stamps here).1

  closed : IsUnder 0 C.channels a.process
  closed = subst (EntryClosed C.channels) stands (least_closed C.channels _ C.entries is.closed)

  no_partner : (p : Process) → ((u : Entry) → is_partner p u ≡ false) → (es : List Entry) → least (is_partner p) es ≡ None
  no_partner p f [] = refl
  no_partner p f (d ∷ es) = ap (λ b. cond b (Some d) (least (is_partner p) es)) (f d) ∙ no_partner p f es

  at_row : (p : Process) → a.process ≡ p → least (is_partner p) C.entries ≡ None → (D : Configuration) → Row C a.stamp None p D Quiet → SettlesTo 0 (reading C) (reading D) → QuietAt C i
  at_row p e none D row settles =
      let partners : filter (is_partner a.process) C.entries ≡ [] = ap (λ q. filter (is_partner q) C.entries) e ∙ none_left (is_partner p) C.entries none in
      record {
        after = D;
        there = record {
          ready = get_within (ready_entries C) i a here;
          partner = inr (ap (λ (o : Option Entry). length (partner_entries C o)) here ∙ ap (λ (l : List Entry). length l) partners, refl);
        };
        steps = outcome_acts C is i 0 a here ∙ ap (λ (l : List Entry). act C a.stamp (slice_get l 0) a.process) partners ∙ ap (act C a.stamp None) e ∙ act_of C a.stamp None p D Quiet row;
        settles = settles;
      }

  parks_out : (chan v : Val) (at : Span) → a.process ≡ Out chan v at → is_chan chan && has_none (least (is_partner (Out chan v at)) C.entries) ≡ true → QuietAt C i
  parks_out (Chan c) v at e h = at_row (Out (Chan c) v at) e (none_of _ h) (added Parked (Out (Chan c) v at) (gone a.stamp C)) output_parks (at_end (parks_reads C is a stands ready closed (Out (Chan c) v at) e))
  parks_out (Var x) v at e h = cc
  parks_out (Int x) v at e h = cc
  parks_out (Char x) v at e h = cc
  parks_out (Boolean x) v at e h = cc
  parks_out (Text x) v at e h = cc
  parks_out (PrimitiveVal x) v at e h = cc
  parks_out (Record x y) v at e h = cc

  parks_in : (chan : Val) (r : Bool) (pattern : Pat) (body : Process) → a.process ≡ In chan r pattern body → is_chan chan && has_none (least (is_partner (In chan r pattern body)) C.entries) ≡ true → QuietAt C i
  parks_in (Chan c) r pattern body e h =
      at_row (In (Chan c) r pattern body) e (none_of _ h) (added Parked (In (Chan c) r pattern body) (gone a.stamp C)) input_parks (at_end (parks_reads C is a stands ready closed (In (Chan c) r pattern body) e))
  parks_in (Var x) r pattern body e h = cc
  parks_in (Int x) r pattern body e h = cc
  parks_in (Char x) r pattern body e h = cc
  parks_in (Boolean x) r pattern body e h = cc
  parks_in (Text x) r pattern body e h = cc
  parks_in (PrimitiveVal x) r pattern body e h = cc
  parks_in (Record x y) r pattern body e h = cc

  pub silent_at : (p : Process) → a.process ≡ p → is_silent C.entries p ≡ true → QuietAt C i
  silent_at Zero e h = at_row Zero e (no_partner Zero (λ u. refl) C.entries) (gone a.stamp C) ends (at_end (ends_reads C is a stands ready closed e))
  silent_at (Par p q) e h = at_row (Par p q) e (no_partner (Par p q) (λ u. refl) C.entries) (added Ready q (kept a.stamp p C)) forks (at_end (forks_reads C is a stands ready closed p q e))
  silent_at (New p) e h =
      at_row (New p) e (no_partner (New p) (λ u. refl) C.entries) (kept a.stamp (substitute 0 (Chan C.channels ∷ []) p) (with_channel C)) makes_channel (at_end (new_row C is a stands ready closed p e))
  silent_at (Out chan v at) e h = parks_out chan v at e h
  silent_at (In chan r pattern body) e h = parks_in chan r pattern body e h
  silent_at (If v p q) e h = cc

  -- the process becomes another by itself, which keeps the turn
  keeps_turn : (p q : Process) → a.process ≡ p → ReducesAlone C.channels (read C.channels p) (read C.channels q) → SettlesTo 0 (reading C) (reading (kept a.stamp q C))
  keeps_turn p q e h =
      let level : C.channels ≡ 0 + C.channels = omega arith in
      let all : ReducesAlone C.channels (composition C.channels C.entries) (composition C.channels (map (with_process a.stamp q) C.entries)) =
      alone_up_to (front C is a stands ready closed p e) (alone_beside h) (symmetric (kept_front C is a stands ready closed q)) in
      by_reduction (alone_declared 0 C.channels _ _ (subst (λ n. ReducesAlone n (composition C.channels C.entries) (composition C.channels (map (with_process a.stamp q) C.entries))) level all)) (at_end reflexive)

  chooses_alone : (test : Val) (p q : Process) → a.process ≡ If test p q → goes_alone (If test p q) ≡ true → QuietAt C i
  chooses_alone (Boolean true) p q e h =
      at_row (If (Boolean true) p q) e (no_partner (If (Boolean true) p q) (λ u. refl) C.entries) (kept a.stamp p C) takes_first (keeps_turn (If (Boolean true) p q) p e (record { reduces = chooses; alone = tt }))
  chooses_alone (Boolean false) p q e h =
      at_row (If (Boolean false) p q) e (no_partner (If (Boolean false) p q) (λ u. refl) C.entries) (kept a.stamp q C) takes_second (keeps_turn (If (Boolean false) p q) q e (record { reduces = chooses; alone = tt }))
  chooses_alone (Var x) p q e h = cc
  chooses_alone (Chan x) p q e h = cc
  chooses_alone (Int x) p q e h = cc
  chooses_alone (Char x) p q e h = cc
  chooses_alone (Text x) p q e h = cc
  chooses_alone (PrimitiveVal x) p q e h = cc
  chooses_alone (Record x y) p q e h = cc

  answers_alone : (f : Primitive) (v : Val) (at : Span) → a.process ≡ Out (PrimitiveVal f) v at → (o : Option Effect) → effect_of f v ≡ o → is_quiet_effect o ≡ true → QuietAt C i
  answers_alone f v at e None h k = cc
  answers_alone f v at e (Some effect) h k = go effect.printed effect.leaves h k
    where
      go : (printed : Option (List ℕ)) (l : Leaves) → effect_of f v ≡ Some (record { printed = printed; leaves = l }) → is_quiet printed l ≡ true → QuietAt C i
      go None (Answer x y) s t =
          at_row (Out (PrimitiveVal f) v at) e (no_partner (Out (PrimitiveVal f) v at) (λ u. refl) C.entries) (kept a.stamp (Out x y at) C) (primitive_answers s refl)
          (keeps_turn (Out (PrimitiveVal f) v at) (Out x y at) e (record { reduces = performs (effect_natural (naming C.channels) f v (record { printed = None; leaves = Answer x y }) s) refl; alone = tt }))
      go None Nothing s t = cc
      go None Trap s t = cc
      go (Some b) l s t = cc

  sends_alone : (chan v : Val) (at : Span) → a.process ≡ Out chan v at → goes_alone (Out chan v at) ≡ true → QuietAt C i
  sends_alone (PrimitiveVal f) v at e h = answers_alone f v at e (effect_of f v) refl h
  sends_alone (Chan x) v at e h = cc
  sends_alone (Var x) v at e h = cc
  sends_alone (Int x) v at e h = cc
  sends_alone (Char x) v at e h = cc
  sends_alone (Boolean x) v at e h = cc
  sends_alone (Text x) v at e h = cc
  sends_alone (Record x y) v at e h = cc

  pub alone_at : (p : Process) → a.process ≡ p → goes_alone p ≡ true → QuietAt C i
  alone_at (If test p q) e h = chooses_alone test p q e h
  alone_at (Out chan v at) e h = sends_alone chan v at e h
  alone_at Zero e h = cc
  alone_at (Par p q) e h = cc
  alone_at (New p) e h = cc
  alone_at (In chan r pattern body) e h = cc

  pub quiet_at : (is_silent C.entries a.process ≡ true) ⊎ (goes_alone a.process ≡ true) → QuietAt C i
  quiet_at (inl h) = silent_at a.process refl h
  quiet_at (inr h) = alone_at a.process refl h

-- ---- what the program reaches by it

led_to : (m : Made) (C D E : Configuration) → IsOutcome m (Steps E Quiet) C D → E ≡ D
led_to (made.Steps label) C D E h = cc
led_to (made.Traps at) C D E h = let f = h.0 in cc
led_to made.Wrong C D E h = let f = h.0 in cc
led_to made.Finished C D E h = let f = h.0 in cc

pub leads_quietly : (C D : Configuration) (i : ℕ) (before : List Place) → IsConfiguration C → QuietAt C i → (m : Made) → IsOutcome m (outcome_at C (place i 0)) C D → LeadsQuietly before C (before ++ place i 0 ∷ []) D
leads_quietly C D i before is s m h =
    let e : s.after ≡ D = led_to m C D s.after (subst (λ o. IsOutcome m o C D) s.steps h) in
    let steps : outcome_at C (place i 0) ≡ Steps D Quiet = s.steps ∙ ap (λ (X : Configuration). Steps X Quiet) e in
    record {
      is = place_keeps C D (place i 0) Quiet is s.there steps;
      settles = subst (λ (X : Configuration). SettlesTo 0 (reading C) (reading X)) e s.settles;
      runs = λ p bytes r. subst (λ b. IsReachedByChoices p (vertex (before ++ place i 0 ∷ []) b D)) (append-nil bytes) (reached_more p (vertex before bytes C) (place i 0) D Quiet r s.there steps);
    }

pub quietly : (C D : Configuration) (i : ℕ) (before : List Place) → IsConfiguration C → FirstQuiet C.entries (Some i) → (m : Made) → IsOutcome m (outcome_at C (place i 0)) C D → LeadsQuietly before C (before ++ place i 0 ∷ []) D
quietly C D i before is f m h = leads_quietly C D i before is (quiet_at C is i f.0 f.1 f.2) m h

pub stays_quietly : (before : List Place) (C : Configuration) → IsConfiguration C → LeadsQuietly before C before C
stays_quietly before C is = record { is = is; settles = at_end reflexive; runs = λ p bytes r. r }

pub then_quietly : (before between after : List Place) (C D E : Configuration) → LeadsQuietly before C between D → LeadsQuietly between D after E → LeadsQuietly before C after E
then_quietly before between after C D E h k = record { is = k.is; settles = settles_then h.settles k.settles; runs = λ p bytes r. k.runs p bytes (h.runs p bytes r) }

pub settled_by : (C D : Configuration) (i : ℕ) (before after : List Place) (o : Option ℕ) (m : Made) → FirstQuiet C.entries o → o ≡ Some i → after ≡ before ++ place i 0 ∷ []
    → (IsConfiguration C → IsOutcome m (outcome_at C (place i 0)) C D) → IsConfiguration C → LeadsQuietly before C after D
settled_by C D i before after o m f e h k is = subst (λ (l : List Place). LeadsQuietly before C l D) (sym h) (quietly C D i before is (subst (FirstQuiet C.entries) e f) m (k is))

-- ---- one after the other

module _ (start : List Place) (O : Configuration) (before after : List Place) (C D : Configuration) (o : Once) (so_far : LeadsQuietly start O before C) (next : IsConfiguration C → SettlesOnce o before C after D) where
  stays : after ≡ before → D ≡ C → LeadsQuietly start O after D
  stays e f = subst (λ (l : List Place). LeadsQuietly start O l D) (sym e) (subst (λ (X : Configuration). LeadsQuietly start O before X) (sym f) so_far)

  pub settled_all : o ≡ once.Still → Settles start O after D
  settled_all e = let s : SettlesOnce once.Still before C after D = subst (λ (x : Once). SettlesOnce x before C after D) e (next so_far.is) in (stays s.0 s.1, s.2)

  pub settled_full : o ≡ once.NoRoom → SettlesToFull start O after D
  settled_full e = let s : SettlesOnce once.NoRoom before C after D = subst (λ (x : Once). SettlesOnce x before C after D) e (next so_far.is) in (stays s.0 s.1, s.2)

  pub settled_more : o ≡ once.Stepped → LeadsQuietly start O after D
  settled_more e = then_quietly start before after O C D so_far (subst (λ (x : Once). SettlesOnce x before C after D) e (next so_far.is))
