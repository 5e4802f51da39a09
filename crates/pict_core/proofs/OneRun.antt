-- A run has one end, one list of labels and one number of steps.
use Rattle.std.proofs.Common.{ℕ, zero, suc, ◌<◌, ◌≤◌, ◌≡◌, ◌≢◌, Bool, true, false, nat_eq, List, ◌++◌, refl, sym, ap, ◌∙◌, subst, arith}
use Rattle.std.proofs.lemmas.Bool.Decides.{nat_tests}
use Rattle.pict_core.specs.Configuration.{Configuration}
use Rattle.pict_core.specs.Step.{Label, StepOutcome, Steps, Traps, Wrong, Finished, next}
use Rattle.pict_core.specs.Run.{Reaches, shown, End, Done, FuelSpent, Trap, Misshapen, EndsAfter, RunsFrom}
use Rattle.pict_core.specs.Laws.{RunsAreOne}

-- as many steps lead to one configuration, with the same labels
pub same_reach : (n : ℕ) (C : Configuration) (ls ms : List (ℕ × Label)) (D E : Configuration) → Reaches n C ls D → Reaches n C ms E → (D ≡ E) × (ls ≡ ms)
same_reach zero C ls ms D E r s = (cc, cc)
same_reach (suc n) C ls ms D E r s =
    let ih : (r.0 ≡ s.0) × (r.1 ≡ s.1) = same_reach n C r.1 s.1 r.0 s.0 r.3 s.3 in
    let o : Steps D r.2 ≡ Steps E s.2 = sym r.4 ∙ ap next ih.0 ∙ s.4 in
    let d : D ≡ E = cc o in
    let l : r.2 ≡ s.2 = cc o in
    (d, r.5 ∙ ap (λ b. b ++ shown (suc n) r.2) ih.1 ∙ ap (λ m. s.1 ++ shown (suc n) m) l ∙ sym s.5)

-- before its end a run steps
abbrev StepsAt : ℕ → Configuration → Type 0
StepsAt k C = (M : Configuration) × (ls : List (ℕ × Label)) × (D : Configuration) × (label : Label) × Reaches k C ls M × (next M ≡ Steps D label)

steps_at : (k n : ℕ) → k < n → (C : Configuration) (ls : List (ℕ × Label)) (D : Configuration) → Reaches n C ls D → StepsAt k C
steps_at k zero h C ls D r = absurd (omega arith)
steps_at k (suc n) h C ls D r = at (nat_eq k n) refl (λ g. steps_at k n g C r.1 r.0 r.3)
  where
    at : (b : Bool) → nat_eq k n ≡ b → (k < n → StepsAt k C) → StepsAt k C
    at true e f = let same : n ≡ k = grind (arith, nat_tests) in (r.0, r.1, D, r.2, subst (λ m. Reaches m C r.1 r.0) same r.3, r.4)
    at false e f = let other : k ≢ n = grind (arith, nat_tests) in f (omega arith)

pub within : (fuel k : ℕ) (o : StepOutcome) (e : End) → EndsAfter fuel k o e → k ≤ fuel
within fuel k o Done h = h.0
within fuel k o _ h = omega (arith, h.0)

-- an end with fuel left is no step
pub no_step : (fuel k : ℕ) (o : StepOutcome) (e : End) → EndsAfter fuel k o e → k < fuel → (D : Configuration) (label : Label) → o ≢ Steps D label
no_step fuel k o Done h l D label e = let f : o ≡ Finished = h.1 in cc
no_step fuel k o FuelSpent h l D label e = omega (arith, h.0)
no_step fuel k o (Trap at) h l D label e = let f : o ≡ Traps at = h.1 in cc
no_step fuel k o Misshapen h l D label e = let f : o ≡ Wrong = h.1 in cc

pub one_end : (fuel k : ℕ) (o : StepOutcome) (e f : End) → EndsAfter fuel k o e → EndsAfter fuel k o f → e ≡ f
one_end fuel k o Done Done h g = refl
one_end fuel k o Done FuelSpent h g = absurd (g.1 h.1)
one_end fuel k o Done (Trap at) h g = let a : o ≡ Finished = h.1 in let b : o ≡ Traps at = g.1 in cc
one_end fuel k o Done Misshapen h g = let a : o ≡ Finished = h.1 in let b : o ≡ Wrong = g.1 in cc
one_end fuel k o FuelSpent Done h g = absurd (h.1 g.1)
one_end fuel k o FuelSpent FuelSpent h g = refl
one_end fuel k o FuelSpent (Trap at) h g = absurd (omega (arith, h.0, g.0))
one_end fuel k o FuelSpent Misshapen h g = absurd (omega (arith, h.0, g.0))
one_end fuel k o (Trap at) Done h g = let a : o ≡ Traps at = h.1 in let b : o ≡ Finished = g.1 in cc
one_end fuel k o (Trap at) FuelSpent h g = absurd (omega (arith, h.0, g.0))
one_end fuel k o (Trap at) (Trap there) h g = let a : o ≡ Traps at = h.1 in let b : o ≡ Traps there = g.1 in cc
one_end fuel k o (Trap at) Misshapen h g = let a : o ≡ Traps at = h.1 in let b : o ≡ Wrong = g.1 in cc
one_end fuel k o Misshapen Done h g = let a : o ≡ Wrong = h.1 in let b : o ≡ Finished = g.1 in cc
one_end fuel k o Misshapen FuelSpent h g = absurd (omega (arith, h.0, g.0))
one_end fuel k o Misshapen (Trap at) h g = let a : o ≡ Wrong = h.1 in let b : o ≡ Traps at = g.1 in cc
one_end fuel k o Misshapen Misshapen h g = refl

-- no run of the same fuel is longer
not_longer : (C : Configuration) (fuel : ℕ) (e f : End) (ls ms : List (ℕ × Label)) (r : RunsFrom C fuel e ls) (s : RunsFrom C fuel f ms) → r.steps < s.steps → ⊥
not_longer C fuel e f ls ms r s h =
    let at : StepsAt r.steps C = steps_at r.steps s.steps h C ms s.last s.reached in
    let same : at.0 ≡ r.last = (same_reach r.steps C at.1 ls at.0 r.last at.4 r.reached).0 in
    let room : s.steps ≤ fuel = within fuel s.steps (next s.last) f s.ends in
    no_step fuel r.steps (next r.last) e r.ends (omega arith) at.2 at.3 (ap next (sym same) ∙ at.5)

pub one_run : RunsAreOne
one_run C fuel e f ls ms r s =
    let a : r.steps < s.steps → ⊥ = not_longer C fuel e f ls ms r s in
    let b : s.steps < r.steps → ⊥ = not_longer C fuel f e ms ls s r in
    let same : s.steps ≡ r.steps = omega arith in
    let both : (r.last ≡ s.last) × (ls ≡ ms) = same_reach r.steps C ls ms r.last s.last r.reached (subst (λ n. Reaches n C ms s.last) same s.reached) in
    (one_end fuel r.steps (next r.last) e f r.ends (subst (λ n. EndsAfter fuel n (next r.last) f) same (subst (λ D. EndsAfter fuel s.steps (next D) f) (sym both.0) s.ends)), both.1, sym same)
