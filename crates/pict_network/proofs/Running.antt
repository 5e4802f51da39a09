-- The steps of a run of a network are a free run of its process.
use Rattle.std.proofs.Common.{ℕ, ◌≡◌, ◌+◌, List, [], ◌∷◌, ◌++◌, length, refl, sym, ap, ◌∙◌, subst, Option, Some, None, slice_get, arith}
use Rattle.std.proofs.lemmas.List.{length_push}
use Rattle.rand_pcg.specs.Lcg.{Lcg}
use Rattle.pict_core.specs.Term.{Process}
use Rattle.pict_core.specs.Closed.{IsClosed}
use Rattle.pict_core.specs.Configuration.{Ready, opening}
use Rattle.pict_core.specs.Step.{Label, Steps, Free, entry_at, step_by}
use Rattle.pict_core.specs.Run.{shown}
use Rattle.pict_core.specs.Places.{Place, outcome_at}
use Rattle.pict_core.specs.FreeRun as free
use Rattle.pict_core.specs.FreeRun.{FreelyRuns}
use Rattle.pict_reduction.proofs.FreeRuns.{free_runs_reach}
use Rattle.pict_network.specs.Network.{Item, Network, entry, union, opening_network}
use Rattle.pict_network.specs.Events.{Happening, Moved, Stepped, Event, events, happening, happening_of}
use Rattle.pict_network.specs.Invariant.{IsNetwork}
use Rattle.pict_network.specs.Runs.{NetworkRuns, Chooses, at_start, by_move, by_step, choice}
use Rattle.pict_network.specs.Laws.{least_choice, MeetLeast, IsNetworkAfter, RunsAreFree, NoEventIsWrong, SeedsRunNetworks}
use Rattle.pict_network.proofs.Moving.{moves_keep_unions}
use Rattle.pict_network.proofs.Freed.{unions_are_configurations, openings_are_networks, HappensFreely, event_free}
use Rattle.pict_network.proofs.Leasts.{least_place}
use Rattle.pict_network.proofs.Keeping.{events_keep_networks}

-- what a run of a network comes to
pub record RanFreely (p : Process) (steps : ℕ) (labels : List (ℕ × Label)) (M : Network) : Type 0 where
  pub is : IsNetwork M
  pub places : List Place
  pub count : length places ≡ steps
  pub least : MeetLeast places
  pub runs : FreelyRuns (opening p) places labels (union M)

pub kept : (N M : Network) (event : Event) (o : Happening) → IsNetwork N → happening N event ≡ o → IsNetworkAfter o
kept N M event o is e = subst IsNetworkAfter e (events_keep_networks N event is)

moved : (p : Process) (steps : ℕ) (labels : List (ℕ × Label)) (M K : Network) (event : Event) → RanFreely p steps labels M → happening M event ≡ Moved K → RanFreely p steps labels K
moved p steps labels M K event r e = record {
  is = kept M K event (Moved K) r.is e;
  places = r.places;
  count = r.count;
  least = r.least;
  runs = subst (FreelyRuns (opening p) r.places labels) (sym (moves_keep_unions M K event r.is e)) r.runs;
}

all_and : (places : List Place) (place : Place) → MeetLeast places → place.partner ≡ 0 → MeetLeast (places ++ place ∷ [])
all_and [] place a h = (h, tt)
all_and (q ∷ places) place a h = (a.0, all_and places place a.1 h)

stepped : (p : Process) (steps : ℕ) (labels : List (ℕ × Label)) (M K : Network) (label : Label) (event : Event) → RanFreely p steps labels M → happening M event ≡ Stepped K label → RanFreely p (steps + 1) (labels ++ shown (steps + 1) label) K
stepped p steps labels M K label event r e =
    let f : (x : Item) × (entry_at x.stamp (union M).entries ≡ Some (entry Ready x)) × Free (union M) (least_choice M x) (union K) label = subst (HappensFreely M) e (event_free M r.is event) in
    let h = least_place (union M) (unions_are_configurations M r.is) (entry Ready f.0) f.1 f.2.chosen in
    let place : Place = h.place in
    let steps_there : outcome_at (union M) place ≡ Steps (union K) label = ap (step_by (union M)) h.chooses ∙ f.2.steps in
    let runs : FreelyRuns (opening p) (r.places ++ place ∷ []) (labels ++ shown (length r.places + 1) label) (union K) = free.by_step r.runs h.is steps_there in
    record {
      is = kept M K event (Stepped K label) r.is e;
      places = r.places ++ place ∷ [];
      count = let l = length_push r.places place in omega (arith, l, r.count);
      least = all_and r.places place r.least h.first;
      runs = subst (λ n. FreelyRuns (opening p) (r.places ++ place ∷ []) (labels ++ shown (n + 1) label) (union K)) r.count runs;
    }

module _ (others : ℕ) (p : Process) (u : IsClosed p) where
  pub ran_freely : (events : List Event) (steps : ℕ) (labels : List (ℕ × Label)) (M : Network) → NetworkRuns (opening_network others p) events steps labels M → RanFreely p steps labels M
  ran_freely events steps labels M at_start =
      let o = openings_are_networks others p u in
      record { is = o.0; places = []; count = refl; least = tt; runs = subst (FreelyRuns (opening p) [] []) (sym o.1) free.at_start }
  ran_freely events steps labels M (by_move {before = before} {M = L} event r e) = moved p steps labels L M event (ran_freely before steps labels L r) e
  ran_freely events steps labels M (by_step {before = before} {steps = n} {labels = ls} {M = L} {label = label} event r e) = stepped p n ls L M label event (ran_freely before n ls L r) e

pub runs_are_free : RunsAreFree
runs_are_free others p events steps labels M u r = let f = ran_freely others p u events steps labels M r in (f.places, f.count, f.least, f.runs)

pub no_event_is_wrong : NoEventIsWrong
no_event_is_wrong others p events steps labels M event u right r e =
    let f = ran_freely others p u events steps labels M r in
    right (union M) (free_runs_reach p f.places labels (union M) u f.runs) (subst (HappensFreely M) e (event_free M f.is event))

-- ---- by a seed

pub there : (M : Network) (o : Option Event) (h : Happening) → happening_of M o ≡ h → (h ≡ happening_of M None → ⊥) → (event : Event) × (happening M event ≡ h)
there M None h e n = absurd (n (sym e))
there M (Some event) h e n = (event, e)

pub record RanBy (N : Network) (count steps : ℕ) (labels : List (ℕ × Label)) (M : Network) : Type 0 where
  pub events : List Event
  pub many : length events ≡ count
  pub runs : NetworkRuns N events steps labels M

one_more : (N : Network) (events : List Event) (event : Event) (count : ℕ) → length events ≡ count → length (events ++ event ∷ []) ≡ count + 1
one_more N events event count h = let l = length_push events event in omega (arith, l, h)

pub chosen_runs : (N : Network) (g : Lcg) (count steps : ℕ) (labels : List (ℕ × Label)) (M : Network) (h : Lcg) → Chooses N g count steps labels M h → RanBy N count steps labels M
chosen_runs N g count steps labels M h at_start = record { events = []; many = refl; runs = at_start }
chosen_runs N g count steps labels M h (by_move {count = n} {M = L} {h = k} r e) =
    let f = chosen_runs N g n steps labels L k r in
    let x = there L (slice_get (events L) (choice L k).0) (Moved M) e (λ z. cc z) in
    record { events = f.events ++ x.0 ∷ []; many = one_more N f.events x.0 n f.many; runs = by_move x.0 f.runs x.1 }
chosen_runs N g count steps labels M h (by_step {count = n} {steps = m} {labels = ls} {M = L} {h = k} {label = label} r e) =
    let f = chosen_runs N g n m ls L k r in
    let x = there L (slice_get (events L) (choice L k).0) (Stepped M label) e (λ z. cc z) in
    record { events = f.events ++ x.0 ∷ []; many = one_more N f.events x.0 n f.many; runs = by_step x.0 f.runs x.1 }

pub seeds_run_networks : SeedsRunNetworks
seeds_run_networks others p seed fuel end labels r =
    let f = chosen_runs (opening_network others p) _ r.count r.steps labels r.last r.after r.chooses in
    (f.events, f.many, f.runs)
