-- What a seed has picked so far, and how its run goes on and ends.
use Rattle.std.proofs.Common.{◌≡◌, ◌≢◌, ℕ, ◌+◌, ◌<◌, ◌≤◌, inl, inr, List, [], ◌∷◌, ◌++◌, length, refl, sym, ap, ◌∙◌, subst, Option, Some, None, option_map, arith}
use Rattle.std.specs.Prelude.{slice_get, option_and_then}
use Rattle.std.proofs.lemmas.List.{length-map, length_push}
use Rattle.std.proofs.lemmas.Option.{slice_get_cases}
use Rattle.rand_pcg.specs.Lcg.{Lcg}
use Rattle.pict_syntax.specs.declared.span.Span.{Span}
use Rattle.pict_core.specs.Term.{Process}
use Rattle.pict_core.specs.Closed.{IsClosed}
use Rattle.pict_core.specs.Configuration.{Entry, Configuration, IsConfiguration, opening}
use Rattle.pict_core.specs.Step.{Label, Steps, Traps, Wrong, Finished, act_entry, entry_at, is_ready, step_by}
use Rattle.pict_core.specs.Run as run
use Rattle.pict_core.specs.Run.{shown}
use Rattle.pict_core.specs.Places.{Place, IsPlace, ready_entries, partner_entries, choice_by, outcome_at}
use Rattle.pict_core.proofs.Placing.{found, nothing_ready, wrong_places}
use Rattle.pict_core.proofs.Tabled.{never_finished}
use Rattle.pict_reduction.specs.Reached.{FreelyReaches, NoFreeRunIsWrong}
use Rattle.pict_reduction.proofs.FreeRuns.{free_runs_reach}
use Rattle.pict_seed.specs.Stream.{generator}
use Rattle.pict_pick.specs.Picked.{picked, Picks, PicksRun, at_start, by_step}
use Rattle.pict_pick.proofs.Running.{picked_place, picks_free}
use Rattle.pict_picker.specs.Stepping.{IsRightAt, IsStepAt}
use Rattle.pict_view.specs.View.{View, StandsFor}
use Rattle.pict_view.specs.Stepping.{LeadsTo}

-- ---- where something is ready something is done

module _ (C : Configuration) (is : IsConfiguration C) (place : Place) where
  acts : (o : Option Entry) → slice_get (ready_entries C) place.ready ≡ o → place.ready < length (ready_entries C) → outcome_at C place ≢ Finished
  acts None e few over = elim (slice_get_cases (ready_entries C) place.ready).1 [ inl k ↦ let f = k.2 in cc | inr k ↦ omega (arith, few, k.0) ]
  acts (Some t) e few over =
      let stands : entry_at t.stamp C.entries ≡ Some t = (found is_ready 0 C.entries C.next_stamp place.ready t is.stamps e).1 in
      let partner : Option Entry = option_and_then (λ r. entry_at r C.entries) (option_map (λ (u : Entry). u.stamp) (slice_get (partner_entries C (Some t)) place.partner)) in
      let outcome =
      ap (λ x. step_by C (option_map (choice_by (partner_entries C x) place.partner) x)) e
      ∙ ap (λ a. act_entry C a partner) stands in
      never_finished C t.stamp partner t.process (sym outcome ∙ over)

  pub never_over : place.ready < length (ready_entries C) → outcome_at C place ≢ Finished
  never_over = acts (slice_get (ready_entries C) place.ready) refl

-- ---- what a view says of it

ready_many : (v : View) (C : Configuration) → StandsFor v C → length v.ready ≡ length (ready_entries C)
ready_many v C s = sym (ap length s.ready) ∙ length-map (ready_entries C) (λ (e : Entry). e.process)

none_ready : (v : View) (C : Configuration) → StandsFor v C → v.ready ≡ [] → length (ready_entries C) ≡ 0
none_ready v C s e = sym (ready_many v C s) ∙ ap length e

some_length : (ps : List Process) → ps ≢ [] → 1 ≤ length ps
some_length [] n = absurd (n refl)
some_length (p ∷ ps) n = omega arith

some_ready : (v : View) (C : Configuration) → StandsFor v C → v.ready ≢ [] → 1 ≤ length (ready_entries C)
some_ready v C s n = let m = ready_many v C s in let some = some_length v.ready n in omega (arith, m, some)

-- ---- what a picker's step says of it

pub leads_of : (label : Label) (trap : Option Span) (C : Configuration) (place : Place) (w : View) → trap ≡ None → IsStepAt C place label trap w → LeadsTo (outcome_at C place) label w
leads_of label None C place w none is = is
leads_of label (Some at) C place w none is = cc

pub traps_of : (label : Label) (trap : Option Span) (at : Span) (C : Configuration) (place : Place) (w : View) → trap ≡ Some at → IsStepAt C place label trap w → outcome_at C place ≡ Traps at
traps_of label None at C place w some is = cc
traps_of label (Some span) at C place w some is = let e : span ≡ at = cc in is.0 ∙ ap Traps e

-- ---- so far

-- So many steps were picked, and the generator has these words left. The view stands for the last configuration, and what was
-- written fits the places and the labels.
pub record HasPicked (p : Process) (seed steps : ℕ) (v : View) (g : Lcg) (Wrote : List Place → List (ℕ × Label) → Type 0) : Type 0 where
  pub places : List Place
  pub labels : List (ℕ × Label)
  pub last : Configuration
  pub picks : Picks (opening p) (generator seed) places labels last g
  pub count : length places ≡ steps
  pub is : IsConfiguration last
  pub stands : StandsFor v last
  pub wrote : Wrote places labels

pub begun : (p : Process) (seed : ℕ) (v : View) (Wrote : List Place → List (ℕ × Label) → Type 0) → IsConfiguration (opening p) → StandsFor v (opening p) → Wrote [] [] → HasPicked p seed 0 v (generator seed) Wrote
begun p seed v Wrote is stands wrote = record { places = []; labels = []; last = opening p; picks = at_start; count = refl; is = is; stands = stands; wrote = wrote }

-- The generator picks this place in each configuration that the view stands for, and has these words left.
abbrev pub PicksAt : View → Lcg → Place → Lcg → Type 0
PicksAt v g place h = (C : Configuration) → StandsFor v C → picked C g ≡ (place, h)

module _ (p : Process) (seed steps : ℕ) (v : View) (g : Lcg) (Wrote : List Place → List (ℕ × Label) → Type 0) (s : HasPicked p seed steps v g Wrote) where
  -- what was written may be said otherwise
  pub picked_as : (Other : List Place → List (ℕ × Label) → Type 0) → ((ps : List Place) (ls : List (ℕ × Label)) → Wrote ps ls → Other ps ls) → HasPicked p seed steps v g Other
  picked_as Other says = record { places = s.places; labels = s.labels; last = s.last; picks = s.picks; count = s.count; is = s.is; stands = s.stands; wrote = says s.places s.labels s.wrote }

  -- one more step
  pub picked_more : (place : Place) (h : Lcg) (label : Label) (w : View) (More : List Place → List (ℕ × Label) → Type 0) → PicksAt v g place h
      → ((C : Configuration) → IsConfiguration C → StandsFor v C → LeadsTo (outcome_at C place) label w)
      → ((ps : List Place) (ls : List (ℕ × Label)) → Wrote ps ls → More (ps ++ place ∷ []) (ls ++ shown (steps + 1) label)) → HasPicked p seed (steps + 1) w h More
  picked_more place h label w More picks leads more =
      let turn : picked s.last g ≡ (place, h) = picks s.last s.stands in
      let on = leads s.last s.is s.stands in
      let there : outcome_at s.last (picked s.last g).0 ≡ Steps on.after label = ap (λ (x : Place × Lcg). outcome_at s.last x.0) turn ∙ on.steps in
      let P : Place × Lcg → Type 0 = λ x. Picks (opening p) (generator seed) (s.places ++ x.0 ∷ []) (s.labels ++ shown (length s.places + 1) label) on.after x.1 in
      let stepped : P (place, h) = subst P turn (by_step s.picks there) in
      record {
        places = s.places ++ place ∷ [];
        labels = s.labels ++ shown (steps + 1) label;
        last = on.after;
        picks = subst (λ (n : ℕ). Picks (opening p) (generator seed) (s.places ++ place ∷ []) (s.labels ++ shown (n + 1) label) on.after h) s.count stepped;
        count = let l = length_push s.places place in omega (arith, l, s.count);
        is = on.is;
        stands = on.stands;
        wrote = more s.places s.labels s.wrote;
      }

  -- the place that is picked is there, and its step isn't wrong
  pub place_there : (place : Place) (h : Lcg) → PicksAt v g place h → v.ready ≢ [] → IsPlace s.last place
  place_there place h picks some =
      subst (λ (x : Place × Lcg). IsPlace s.last x.0) (picks s.last s.stands) (picked_place s.last g (some_ready v s.last s.stands some))

  pub place_right : (place : Place) (h : Lcg) → PicksAt v g place h → v.ready ≢ [] → IsClosed p → NoFreeRunIsWrong p → outcome_at s.last place ≢ Wrong
  place_right place h picks some closed right wrong =
      let reached : FreelyReaches (opening p) s.last = free_runs_reach p s.places s.labels s.last closed (picks_free (opening p) (generator seed) s.places s.labels s.last g s.picks) in
      right s.last reached (wrong_places s.last place s.is (place_there place h picks some) wrong)

  -- so a picker may take it
  pub step_right : (place : Place) (h : Lcg) → PicksAt v g place h → v.ready ≢ [] → IsClosed p → NoFreeRunIsWrong p → IsRightAt v place.ready place.partner
  step_right place h picks some closed right =
      record { configuration = s.last; is = s.is; stands = s.stands; there = place_there place h picks some; right = place_right place h picks some closed right }

  -- ---- the end

  pub run_by : (fuel : ℕ) (end : run.End) → run.EndsAfter fuel steps (outcome_at s.last (picked s.last g).0) end → PicksRun p seed fuel end s.places s.labels
  run_by fuel end ends = record {
    last = s.last;
    after = g;
    picks = s.picks;
    ends = subst (λ (n : ℕ). run.EndsAfter fuel n (outcome_at s.last (picked s.last g).0) end) (sym s.count) ends;
  }

  -- nothing is ready
  pub run_done : (fuel : ℕ) → steps ≤ fuel → v.ready ≡ [] → PicksRun p seed fuel run.Done s.places s.labels
  run_done fuel few none = run_by fuel run.Done (few, nothing_ready s.last (picked s.last g).0 (none_ready v s.last s.stands none))

  -- the fuel is spent
  pub run_spent : (fuel : ℕ) → steps ≡ fuel → v.ready ≢ [] → PicksRun p seed fuel run.FuelSpent s.places s.labels
  run_spent fuel spent some =
      run_by fuel run.FuelSpent (spent, never_over s.last s.is (picked s.last g).0 (picked_place s.last g (some_ready v s.last s.stands some)).ready)

  -- the step that is picked traps
  pub run_trapped : (fuel : ℕ) (place : Place) (h : Lcg) (at : Span) → steps < fuel → PicksAt v g place h → outcome_at s.last place ≡ Traps at → PicksRun p seed fuel (run.Trap at) s.places s.labels
  run_trapped fuel place h at few picks traps =
      run_by fuel (run.Trap at) (few, ap (λ (x : Place × Lcg). outcome_at s.last x.0) (picks s.last s.stands) ∙ traps)
