-- A picked run is one.
use Rattle.std.proofs.Common.{ℕ, ◌+◌, ◌<◌, ◌≤◌, ◌≡◌, ◌⊎◌, inl, inr, List, [], ◌∷◌, ◌++◌, length, refl, sym, ap, ◌∙◌, subst, arith}
use Rattle.std.specs.Prelude.{◌-◌}
use Rattle.std.proofs.lemmas.List.{length_push}
use Rattle.rand_pcg.specs.Lcg.{Lcg}
use Rattle.pict_core.specs.Term.{Process}
use Rattle.pict_core.specs.Configuration.{Configuration, opening}
use Rattle.pict_core.specs.Step.{Label, StepOutcome, Steps}
use Rattle.pict_core.specs.Run.{End, EndsAfter, shown}
use Rattle.pict_core.specs.Places.{Place, outcome_at}
use Rattle.pict_core.proofs.OneRun.{within, no_step, one_end}
use Rattle.pict_seed.specs.Stream.{generator}
use Rattle.pict_pick.specs.Picked.{picked, Picks, PicksRun, at_start, by_step}
use Rattle.pict_pick.specs.Laws.{PickedRunsAreOne}
use Rattle.pict_pick.proofs.Running.{some_or_none}

-- as many steps lead to one configuration and one generator, by the same places and with the same labels
same_picks : (C : Configuration) (g : Lcg) (ps qs : List Place) (labels others : List (ℕ × Label)) (D E : Configuration) (h k : Lcg) → Picks C g ps labels D h → Picks C g qs others E k → length ps ≡ length qs
    → (ps ≡ qs) × (labels ≡ others) × (D ≡ E) × (h ≡ k)
same_picks C g ps qs labels others D E h k at_start at_start e = (refl, refl, refl, refl)
same_picks C g ps qs labels others D E h k at_start (by_step {places = qs'} {D = N} {h = n} y f) e = absurd (let l = length_push qs' (picked N n).0 in omega (arith, e, l))
same_picks C g ps qs labels others D E h k (by_step {places = ps'} {D = M} {h = m} x f) at_start e = absurd (let l = length_push ps' (picked M m).0 in omega (arith, e, l))
same_picks C g ps qs labels others D E h k (by_step {places = ps'} {labels = ls} {D = M} {h = m} {label = a} x f) (by_step {places = qs'} {labels = ks} {D = N} {h = n} {label = b} y f') e =
    let l = length_push ps' (picked M m).0 in
    let l' = length_push qs' (picked N n).0 in
    let r = same_picks C g ps' qs' ls ks M N m n x y (omega (arith, e, l, l')) in
    let turn : picked M m ≡ picked N n = ap (λ z. picked z m) r.2 ∙ ap (picked N) r.3 in
    let place : (picked M m).0 ≡ (picked N n).0 = ap (λ (z : Place × Lcg). z.0) turn in
    let same : Steps D a ≡ Steps E b = sym f ∙ ap (λ z. outcome_at z (picked M m).0) r.2 ∙ ap (outcome_at N) place ∙ f' in
    let d : D ≡ E = cc same in
    let t : a ≡ b = cc same in (
      ap (λ z. z ++ (picked M m).0 ∷ []) r.0 ∙ ap (λ z. qs' ++ z ∷ []) place,
      ap (λ z. z ++ shown (length ps' + 1) a) r.1 ∙ ap (λ (z : List Place). ks ++ shown (length z + 1) a) r.0 ∙ ap (λ z. ks ++ shown (length qs' + 1) z) t,
      d,
      ap (λ (z : Place × Lcg). z.1) turn,
    )

-- before its end a run steps
record StepsAt (C : Configuration) (g : Lcg) (n : ℕ) : Type 0 where
  places : List Place
  labels : List (ℕ × Label)
  at : Configuration
  words : Lcg
  picks : Picks C g places labels at words
  count : length places ≡ n
  next : Configuration
  label : Label
  steps : outcome_at at (picked at words).0 ≡ Steps next label

steps_at : (C : Configuration) (g : Lcg) (qs : List Place) (others : List (ℕ × Label)) (E : Configuration) (k : Lcg) (n : ℕ) → Picks C g qs others E k → n < length qs → StepsAt C g n
steps_at C g qs others E k n at_start l = absurd (omega (arith, l))
steps_at C g qs others E k n (by_step {places = qs'} {labels = ks} {D = N} {h = m} {label = b} y f) l =
    at (some_or_none (length qs' - n)) (λ h. steps_at C g qs' ks N m n y h)
  where
    at : (1 ≤ length qs' - n) ⊎ (length qs' - n ≡ 0) → (n < length qs' → StepsAt C g n) → StepsAt C g n
    at (inl h) earlier = earlier (omega (arith, h))
    at (inr h) earlier =
        let len = length_push qs' (picked N m).0 in
        record { places = qs'; labels = ks; at = N; words = m; picks = y; count = omega (arith, h, l, len); next = E; label = b; steps = f }

-- the step that the generator picks is the same
same_outcome : (D E : Configuration) (h k : Lcg) → D ≡ E → h ≡ k → outcome_at D (picked D h).0 ≡ outcome_at E (picked E k).0
same_outcome D E h k d e = ap (λ z. outcome_at z (picked z h).0) d ∙ ap (λ z. outcome_at E (picked E z).0) e

-- no run of the same seed and fuel is longer
not_longer : (p : Process) (seed fuel : ℕ) (end other : End) (ps qs : List Place) (labels others : List (ℕ × Label)) → PicksRun p seed fuel end ps labels → PicksRun p seed fuel other qs others → length ps < length qs → ⊥
not_longer p seed fuel end other ps qs labels others r s l =
    let at = steps_at (opening p) (generator seed) qs others s.last s.after (length ps) s.picks l in
    let same = same_picks (opening p) (generator seed) ps at.places labels at.labels r.last at.at r.after at.words r.picks at.picks (sym at.count) in
    let room : length qs ≤ fuel = within fuel (length qs) (outcome_at s.last (picked s.last s.after).0) other s.ends in
    no_step fuel (length ps) (outcome_at r.last (picked r.last r.after).0) end r.ends (omega (arith, room, l)) at.next at.label
    (same_outcome r.last at.at r.after at.words same.2 same.3 ∙ at.steps)

pub picked_runs_are_one : PickedRunsAreOne
picked_runs_are_one p seed fuel end other ps qs labels others r s =
    let a : length ps < length qs → ⊥ = not_longer p seed fuel end other ps qs labels others r s in
    let b : length qs < length ps → ⊥ = not_longer p seed fuel other end qs ps others labels s r in
    let count : length ps ≡ length qs = omega arith in
    let same = same_picks (opening p) (generator seed) ps qs labels others r.last s.last r.after s.after r.picks s.picks count in
    let here = same_outcome r.last s.last r.after s.after same.2 same.3 in
    let e : EndsAfter fuel (length qs) (outcome_at s.last (picked s.last s.after).0) end = subst (λ (z : ℕ). EndsAfter fuel z (outcome_at s.last (picked s.last s.after).0) end) count (subst (λ (z : StepOutcome). EndsAfter fuel (length ps) z end) here r.ends) in
    (one_end fuel (length qs) (outcome_at s.last (picked s.last s.after).0) end other e s.ends, same.0, same.1)
