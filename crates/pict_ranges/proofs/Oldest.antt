-- Oldest-first steps are those of some places.
use Rattle.std.proofs.Common.{◌≡◌, ℕ, zero, suc, ◌+◌, List, [], ◌∷◌, ◌++◌, length, refl, sym, ◌∙◌, ap, subst, arith, length-append}
use Rattle.pict_core.specs.Configuration.{Configuration, IsConfiguration}
use Rattle.pict_core.specs.Step.{Label, Steps, step_by}
use Rattle.pict_core.specs.Run.{Reaches, shown}
use Rattle.pict_core.specs.Places.{Place, outcome_at}
use Rattle.pict_core.specs.FreeRun.{FreelyRuns, at_start, by_step}
use Rattle.pict_core.proofs.Kept.{free_steps_keep, oldest_first_is_free}
use Rattle.pict_core.proofs.Everywhere.{choices_have_places}

-- so many steps are those of as many places
pub record AreFree (n : ℕ) (C D : Configuration) (labels : List (ℕ × Label)) : Type 0 where
  pub places : List Place
  pub many : length places ≡ n
  pub runs : FreelyRuns C places labels D
  closed : IsConfiguration D

pub oldest_runs_are_free : (n : ℕ) (C D : Configuration) (labels : List (ℕ × Label)) → IsConfiguration C → Reaches n C labels D → AreFree n C D labels
oldest_runs_are_free zero C D labels closed (same, none) =
    let start : FreelyRuns C [] labels D = subst (λ (E : Configuration). FreelyRuns C [] labels E) same (subst (λ ls. FreelyRuns C [] ls C) (sym none) at_start) in
    record { places = []; many = refl; runs = start; closed = subst IsConfiguration same closed }
oldest_runs_are_free (suc n) C D labels closed (M, before, label, r, steps, e) =
    let b = oldest_runs_are_free n C M before closed r in
    let free = oldest_first_is_free M D label b.closed steps in
    let there = choices_have_places M free.0 free.1.chosen in
    let outcome : outcome_at M there.0 ≡ Steps D label = ap (step_by M) there.2 ∙ free.1.steps in
    let count = b.many in
    let number : length b.places + 1 ≡ suc n = omega (arith, count) in
    let long = length-append b.places (there.0 ∷ []) in
    let run : FreelyRuns C (b.places ++ there.0 ∷ []) (before ++ shown (length b.places + 1) label) D = by_step b.runs there.1 outcome in
    let same : before ++ shown (length b.places + 1) label ≡ labels = ap (λ k. before ++ shown k label) number ∙ sym e in
    record {
      places = b.places ++ there.0 ∷ [];
      many = omega (arith, count, long);
      runs = subst (λ ls. FreelyRuns C (b.places ++ there.0 ∷ []) ls D) same run;
      closed = free_steps_keep M free.0 D label b.closed free.1;
    }
