-- Each seed picks a run.
use Rattle.std.proofs.Common.{ℕ, zero, suc, ◌+◌, ◌-◌, ◌<◌, ◌≤◌, ◌≡◌, ◌≢◌, ◌⊎◌, inl, inr, List, [], ◌∷◌, ◌++◌, length, refl, sym, subst, append_assoc, arith}
use Rattle.std.proofs.lemmas.List.{append-nil, length_push}
use Rattle.rand_pcg.specs.Lcg.{Lcg}
use Rattle.pict_core.specs.Term.{Process}
use Rattle.pict_core.specs.Closed.{IsClosed}
use Rattle.pict_core.specs.Configuration.{Configuration, opening}
use Rattle.pict_core.specs.Step.{Label, StepOutcome, Steps, Traps, Wrong, Finished}
use Rattle.pict_core.specs.Run.{End, EndsAfter, shown, Done, FuelSpent, Trap, Misshapen}
use Rattle.pict_core.specs.Places.{Place, ready_entries, outcome_at}
use Rattle.pict_core.proofs.Placing.{nothing_ready, wrong_places}
use Rattle.pict_reduction.specs.Reached.{FreelyReaches, NoFreeRunIsWrong}
use Rattle.pict_reduction.proofs.Apart.{opening_reached, freely_reached}
use Rattle.pict_reduction.proofs.FreeRuns.{free_runs_reach}
use Rattle.pict_seed.specs.Stream.{generator}
use Rattle.pict_pick.specs.Picked.{picked, Picks, PicksRun, at_start, by_step}
use Rattle.pict_pick.specs.Laws.{SeedsPickRuns}
use Rattle.pict_pick.proofs.Running.{picks_free, picked_place, some_or_none}

module _ (p : Process) (seed fuel : ℕ) (u : IsClosed p) (right : NoFreeRunIsWrong p) where
  -- a run that the seed picks, which begins with these places and labels, and doesn't end by a wrong step
  abbrev RunsBeyond : List Place → List (ℕ × Label) → Type 0
  RunsBeyond places labels =
      (end : End) × (more : List Place) × (shows : List (ℕ × Label)) × PicksRun p seed fuel end (places ++ more) (labels ++ shows) × (end ≢ Misshapen)

  abbrev Leads : List Place → List (ℕ × Label) → Configuration → Lcg → Type 0
  Leads places labels D h = Picks (opening p) (generator seed) places labels D h

  not_wrong : (places : List Place) (labels : List (ℕ × Label)) (D : Configuration) (h : Lcg) → Leads places labels D h → outcome_at D (picked D h).0 ≡ Wrong → ⊥
  not_wrong places labels D h on e = go (some_or_none (length (ready_entries D)))
    where
      reached : FreelyReaches (opening p) D
      reached = free_runs_reach p places labels D u (picks_free (opening p) (generator seed) places labels D h on)

      go : (1 ≤ length (ready_entries D)) ⊎ (length (ready_entries D) ≡ 0) → ⊥
      go (inl l) = right D reached (wrong_places D (picked D h).0 (freely_reached (opening p) D (opening_reached p u) reached).is (picked_place D h l) e)
      go (inr l) = let f = nothing_ready D (picked D h).0 l in cc

  -- the run ends here
  ends_here : (places : List Place) (labels : List (ℕ × Label)) (D : Configuration) (h : Lcg) → Leads places labels D h → (end : End) → end ≢ Misshapen
      → EndsAfter fuel (length places) (outcome_at D (picked D h).0) end → RunsBeyond places labels
  ends_here places labels D h on end fits ends =
      let run : PicksRun p seed fuel end places labels = record { last = D; after = h; picks = on; ends = ends } in
      (end, [], [], subst (λ ps. PicksRun p seed fuel end ps (labels ++ [])) (sym (append-nil places)) (subst (PicksRun p seed fuel end places) (sym (append-nil labels)) run), fits)

  last_step : (places : List Place) (labels : List (ℕ × Label)) (D : Configuration) (h : Lcg) → Leads places labels D h → length places ≡ fuel → (o : StepOutcome) → outcome_at D (picked D h).0 ≡ o → RunsBeyond places labels
  last_step places labels D h on l Finished e = ends_here places labels D h on Done (λ k. cc) (omega (arith, l), e)
  last_step places labels D h on l (Steps E label) e = ends_here places labels D h on FuelSpent (λ k. cc) (l, (λ k. cc))
  last_step places labels D h on l (Traps at) e = ends_here places labels D h on FuelSpent (λ k. cc) (l, (λ k. cc))
  last_step places labels D h on l Wrong e = ends_here places labels D h on FuelSpent (λ k. cc) (l, (λ k. cc))

  -- from one place and one label list more
  beyond : (places qs : List Place) (labels ms : List (ℕ × Label)) → RunsBeyond (places ++ qs) (labels ++ ms) → RunsBeyond places labels
  beyond places qs labels ms (end, more, shows, run, fits) = (
    end,
    qs ++ more,
    ms ++ shows,
    subst (λ ps. PicksRun p seed fuel end ps (labels ++ (ms ++ shows))) (append_assoc places qs more)
        (subst (PicksRun p seed fuel end ((places ++ qs) ++ more)) (append_assoc labels ms shows) run),
    fits,
  )

  next_step : (places : List Place) (labels : List (ℕ × Label)) (D : Configuration) (h : Lcg) → Leads places labels D h → length places < fuel → (o : StepOutcome) → outcome_at D (picked D h).0 ≡ o
      → ((E : Configuration) (label : Label) → outcome_at D (picked D h).0 ≡ Steps E label → RunsBeyond places labels) → RunsBeyond places labels
  next_step places labels D h on l (Steps E label) e go = go E label e
  next_step places labels D h on l (Traps at) e go = ends_here places labels D h on (Trap at) (λ k. cc) (l, e)
  next_step places labels D h on l Wrong e go = absurd (not_wrong places labels D h on e)
  next_step places labels D h on l Finished e go = ends_here places labels D h on Done (λ k. cc) (omega (arith, l), e)

  run_on : (left : ℕ) (places : List Place) (labels : List (ℕ × Label)) (D : Configuration) (h : Lcg) → Leads places labels D h → length places + left ≡ fuel → RunsBeyond places labels
  run_on zero places labels D h on l = last_step places labels D h on (omega (arith, l)) (outcome_at D (picked D h).0) refl
  run_on (suc left) places labels D h on l =
      next_step places labels D h on (omega (arith, l)) (outcome_at D (picked D h).0) refl
      (λ E label e. beyond places ((picked D h).0 ∷ []) labels (shown (length places + 1) label)
      (run_on left _ _ E (picked D h).1 (by_step on e) (let k = length_push places (picked D h).0 in omega (arith, l, k))))

  -- what the seed has picked within the fuel is the beginning of a run
  pub goes_beyond : (places : List Place) (labels : List (ℕ × Label)) (D : Configuration) (h : Lcg) → Leads places labels D h → length places ≤ fuel → RunsBeyond places labels
  goes_beyond places labels D h on l = let left : length places + (fuel - length places) ≡ fuel = omega (arith, l) in run_on (fuel - length places) places labels D h on left

pub seeds_pick_runs : SeedsPickRuns
seeds_pick_runs p seed fuel u right = goes_beyond p seed fuel u right [] [] (opening p) (generator seed) at_start (omega arith)
