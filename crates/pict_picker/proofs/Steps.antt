-- A step at a place, from the deed that is placed there.
use Rattle.std.proofs.Common.{ℕ, ◌≡◌, ◌≢◌, Bool, true, false, cond, List, [], ◌∷◌, length, map, filter, refl, sym, ap, ◌∙◌, subst, Some}
use Rattle.std.specs.List.{AllByRecursion, slice_get}
use Rattle.pict_syntax.specs.declared.span.Span.{Span}
use Rattle.pict_core.specs.Term.{Process}
use Rattle.pict_core.specs.Closed.{IsUnder}
use Rattle.pict_core.specs.Configuration.{Entry, Configuration, IsConfiguration, AreClosed}
use Rattle.pict_core.specs.Deed.{Misfits}
use Rattle.pict_core.specs.Places.{outcome_at}
use Rattle.pict_core.specs.Step.{is_ready}
use Rattle.pict_code.specs.Plain.{plain_node}
use Rattle.pict_code.specs.declared.instruction.Node as written
use Rattle.pict_heap.specs.HeapState.{HeapState, KeepsWords}
use Rattle.pict_view.specs.Partners.{IsPlaceOf}
use Rattle.pict_view.specs.Placed.{place_at, act_at, next_at}
use Rattle.pict_view.specs.View.{View, StandsFor, KeepsApart, processes}
use Rattle.pict_view.specs.Laws.{Simulates}
use Rattle.pict_view.proofs.AtPlaces.{places_step}
use Rattle.pict_view.proofs.Seen.{places_are_seen}
use Rattle.pict_desk.specs.Code.{core_in, IsCode}
use Rattle.pict_desk.specs.declared.desk.Desk.{Desk}
use Rattle.pict_picker.specs.Acting.{MayAct}
use Rattle.pict_picker.specs.Deeds.{deed_at, deed_of, FitsDeed, IsDeed}
use Rattle.pict_picker.specs.Events.{label_of, trap_of}
use Rattle.pict_picker.specs.Lists.{SameItems, MayPlace, outcome_of, IsDeedPlaced}
use Rattle.pict_picker.specs.Picker.{channel_processes, view_of_lists, IsDesk, AreLists}
use Rattle.pict_picker.specs.Stepping.{place, IsRightAt, IsStepAt}
use Rattle.pict_picker.specs.Waiting.{processes_of, AreWaiting, AreParked}
use Rattle.pict_picker.specs.declared.deed.Deed.{Deed}
use Rattle.pict_picker.specs.declared.did.Did.{Did}
use Rattle.pict_picker.specs.declared.did.Did.TheVariants as did
use Rattle.pict_picker.specs.declared.lists.Lists.{Lists}
use Rattle.pict_picker.proofs.Acts.{all_at}
use Rattle.pict_picker.proofs.Standing.{lists_stay, ready_stays, waits_stay}

-- ---- the process at a place may act

closed_cons : (c : ℕ) (e : Entry) (es : List Entry) (b : Bool) → IsUnder 0 c e.process → AllByRecursion (IsUnder 0 c) (map (λ (x : Entry). x.process) es)
    → AllByRecursion (IsUnder 0 c) (map (λ (x : Entry). x.process) (cond b (e ∷ es) es))
closed_cons c e es true u a = (u, a)
closed_cons c e es false u a = a

closed_passing : (c : ℕ) (test : Entry → Bool) (es : List Entry) → AreClosed c es → AllByRecursion (IsUnder 0 c) (processes test es)
closed_passing c test [] a = tt
closed_passing c test (e ∷ es) a = closed_cons c e (filter test es) (test e) a.0 (closed_passing c test es a.1)

module _ (v : View) (i j : ℕ) (apart : KeepsApart v) (r : IsRightAt v i j) where
  pub there : IsPlaceOf v i j
  there = (places_are_seen v r.configuration (place i j) apart r.stands).1 r.there

  next_is : (own : Process) → slice_get v.ready i ≡ Some own → next_at i j v ≡ place_at i j v.ready v.channels (deed_at v.channels j own)
  next_is own here = ap (act_at i j v.ready v.channels) here

  pub acts_right : (own : Process) → slice_get v.ready i ≡ Some own → deed_at v.channels j own ≢ Misfits
  acts_right own here wrong =
      r.right (subst (Simulates v (outcome_at r.configuration (place i j))) (next_is own here ∙ ap (place_at i j v.ready v.channels) wrong)
      (places_step v r.configuration (place i j) apart r.is r.stands r.there))

  pub acts_under : (own : Process) → slice_get v.ready i ≡ Some own → IsUnder 0 (length v.channels) own
  acts_under own here =
      subst (λ n. IsUnder 0 n own) (sym r.stands.channels)
      (all_at (IsUnder 0 r.configuration.channels) v.ready i own
      (subst (AllByRecursion (IsUnder 0 r.configuration.channels)) r.stands.ready (closed_passing r.configuration.channels is_ready r.configuration.entries r.is.closed)) here)

  pub may_act : (code : List written.Node) (d : Desk) → IsCode (map plain_node code) → IsDesk (core_in code) d → (own : Process) → slice_get v.ready i ≡ Some own → MayAct code d v.channels j own
  may_act code d is desk own here = record { code_is = is; desk = desk; under = acts_under own here; right = acts_right own here }

  -- ---- what was placed is the step, whatever the configuration

  module _ (h : HeapState) (new : View) (answer : Did) (stepped : next_at i j v ≡ outcome_of h new answer) where
    simulates : (C : Configuration) → IsConfiguration C → StandsFor v C → Simulates v (outcome_at C (place i j)) (outcome_of h new answer)
    simulates C is stands =
        subst (Simulates v (outcome_at C (place i j))) stepped (places_step v C (place i j) apart is stands ((places_are_seen v C (place i j) apart stands).0 there))

    step_by : (C : Configuration) → StandsFor v C → (d : Did) → ((at : Span) → d ≡ did.Trapped at → new ≡ v) → Simulates v (outcome_at C (place i j)) (outcome_of h new d)
        → IsStepAt C (place i j) (label_of h d) (trap_of d) new
    step_by C stands did.Quiet same s = s.0
    step_by C stands (did.Comm c w) same s = s.0
    step_by C stands (did.Print w) same s = s.0
    step_by C stands (did.Trapped at) same s = (s, subst (λ x. StandsFor x C) (sym (same at refl)) stands)

    apart_by : (d : Did) (o : Configuration) → ((at : Span) → d ≡ did.Trapped at → new ≡ v) → Simulates v (outcome_at o (place i j)) (outcome_of h new d) → KeepsApart new
    apart_by did.Quiet o same s = s.1
    apart_by (did.Comm c w) o same s = s.1
    apart_by (did.Print w) o same s = s.1
    apart_by (did.Trapped at) o same s = subst KeepsApart (sym (same at refl)) apart

    pub is_step : ((at : Span) → answer ≡ did.Trapped at → new ≡ v) → (C : Configuration) → IsConfiguration C → StandsFor v C → IsStepAt C (place i j) (label_of h answer) (trap_of answer) new
    is_step same C is stands = step_by C stands answer same (simulates C is stands)

    pub stays_apart : ((at : Span) → answer ≡ did.Trapped at → new ≡ v) → KeepsApart new
    stays_apart same = apart_by answer r.configuration same (simulates r.configuration r.is r.stands)

-- ---- from the deed of a process to its place in the lists

module _ (core : Process) (old new : HeapState) (keeps : KeepsWords old new) (first made : Lists) (are : AreLists core old first) (same : SameItems first made) where
  pub ready_same : processes_of core new made.ready.items ≡ processes_of core old first.ready.items
  ready_same = ap (processes_of core new) same.ready ∙ ready_stays core old new keeps first are

  pub waits_same : channel_processes core new made ≡ channel_processes core old first
  waits_same = ap (map (processes_of core new)) same.parked ∙ waits_stay core old new keeps first are

  pub view_same : view_of_lists core new made ≡ view_of_lists core old first
  view_same =
      ap (λ ps. record { ready = ps; channels = channel_processes core new made }) ready_same
      ∙ ap (λ ls. record { ready = processes_of core old first.ready.items; channels = ls }) waits_same

  pub are_same : AreLists core new made
  are_same =
      let stay = lists_stay core old new keeps first are in
      record { ready = subst (AreWaiting core new) (sym same.ready) stay.ready; parked = subst (AllByRecursion (AreParked core new)) (sym same.parked) stay.parked }

  module _ (i j : ℕ) (own : Process) (here : slice_get (processes_of core old first.ready.items) i ≡ Some own) (d : Deed) (is : IsDeed core new (channel_processes core old first) j own d) where
    abbrev pub may_place : MayPlace core new made i j d
    may_place = record {
      are = are_same;
      own = own;
      here = ap (λ (ps : List Process). slice_get ps i) ready_same ∙ here;
      fits = subst (λ ls. FitsDeed core new ls j own d) (sym waits_same) is.fits;
    }

    -- what the step does to the view
    pub stepped : (last : Lists) (answer : Did) → IsDeedPlaced core new made last i j own d answer → next_at i j (view_of_lists core old first) ≡ outcome_of new (view_of_lists core new last) answer
    stepped last answer p =
        let R = processes_of core old first.ready.items in
        let L = channel_processes core old first in
        ap (act_at i j R L) here
        ∙ ap (place_at i j R L) is.is
        ∙ ap (λ (x : View). place_at i j x.ready x.channels (deed_of core new x.channels j own d)) (sym view_same)
        ∙ p.is
