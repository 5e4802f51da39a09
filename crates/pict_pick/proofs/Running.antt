-- What a generator picks is there.
use Rattle.std.proofs.Common.{ℕ, zero, suc, ◌<◌, ◌≤◌, ◌≡◌, ◌⊎◌, inl, inr, List, length, refl, ap, arith}
use Rattle.rand_pcg.specs.Lcg.{Lcg}
use Rattle.pict_core.specs.Configuration.{Entry, Configuration, opening}
use Rattle.pict_core.specs.Step.{Label, Steps}
use Rattle.pict_core.specs.Places.{Place, IsPlace, ready_entries, partners_at, outcome_at}
use Rattle.pict_core.specs.FreeRun.{FreelyRuns}
use Rattle.pict_core.specs.FreeRun as free
use Rattle.pict_core.proofs.Placing.{nothing_ready}
use Rattle.pict_seed.specs.Stream.{generator, chosen}
use Rattle.pict_seed.proofs.Choosing.{chosen_few, chosen_below}
use Rattle.pict_pick.specs.Picked.{picked, Picks, at_start, by_step}
use Rattle.pict_pick.specs.Laws.{PickedRunsAreFree}

pub some_or_none : (n : ℕ) → (1 ≤ n) ⊎ (n ≡ 0)
some_or_none zero = inr refl
some_or_none (suc n) = inl (omega arith)

picked_partner : (partners : List Entry) (g : Lcg) → ((chosen (length partners) g).0 < length partners) ⊎ ((length partners ≡ 0) × ((chosen (length partners) g).0 ≡ 0))
picked_partner partners g =
    elim (some_or_none (length partners)) [
      | inl h ↦ inl (chosen_below (length partners) g h)
      | inr h ↦ inr (h, ap (λ (z : ℕ × Lcg). z.0) (chosen_few (length partners) g (omega (arith, h))))
    ]

pub picked_place : (C : Configuration) (g : Lcg) → 1 ≤ length (ready_entries C) → IsPlace C (picked C g).0
picked_place C g h = record {
  ready = chosen_below (length (ready_entries C)) g h;
  partner = picked_partner (partners_at C (chosen (length (ready_entries C)) g).0) (chosen (length (ready_entries C)) g).1;
}

-- where a step is done something is ready
something_ready : (C D : Configuration) (place : Place) (label : Label) → outcome_at C place ≡ Steps D label → 1 ≤ length (ready_entries C)
something_ready C D place label e = elim (some_or_none (length (ready_entries C))) [ inl h ↦ h | inr h ↦ absurd (let f = nothing_ready C place h in cc) ]

pub picks_free : (C : Configuration) (g : Lcg) (places : List Place) (labels : List (ℕ × Label)) (D : Configuration) (h : Lcg) → Picks C g places labels D h → FreelyRuns C places labels D
picks_free C g places labels D h at_start = free.at_start
picks_free C g places labels D h (by_step {places = ps} {labels = ls} {D = M} {h = k} {label = label} before e) =
    free.by_step (picks_free C g ps ls M k before) (picked_place M k (something_ready M D (picked M k).0 label e)) e

pub picked_runs_are_free : PickedRunsAreFree
picked_runs_are_free p seed fuel end places labels r = picks_free (opening p) (generator seed) places labels r.last r.after r.picks
