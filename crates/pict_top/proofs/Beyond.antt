-- Each process has a run, and steps that were done are the first of it.
use Rattle.std.proofs.Common.{◌≡◌, ℕ, zero, suc, ◌+◌, ◌-◌, ◌<◌, ◌≤◌, List, [], ◌++◌, refl, sym, ◌∙◌, subst, append_assoc, arith}
use Rattle.std.proofs.lemmas.List.{append-nil}
use Rattle.pict_core.specs.Configuration.{Configuration}
use Rattle.pict_core.specs.Step.{Label, StepOutcome, Steps, Traps, Wrong, Finished, next}
use Rattle.pict_core.specs.Run.{End, Done, FuelSpent, Trap, Misshapen, shown, Reaches, EndsAfter, RunsFrom}

-- a run whose labels begin with these
pub record Beyond (C : Configuration) (fuel : ℕ) (front : List (ℕ × Label)) : Type 0 where
  pub end : End
  pub rest : List (ℕ × Label)
  pub runs : RunsFrom C fuel end (front ++ rest)

ends_here : (C : Configuration) (fuel n : ℕ) (ls : List (ℕ × Label)) (D : Configuration) (end : End) → Reaches n C ls D → EndsAfter fuel n (next D) end → Beyond C fuel ls
ends_here C fuel n ls D end reached ends =
    let P : List (ℕ × Label) → Type 0 = λ labels. Reaches n C labels D in
    record { end = end; rest = []; runs = record { steps = n; last = D; reached = subst P (sym (append-nil ls)) reached; ends = ends } }

goes_beyond : (C : Configuration) (fuel : ℕ) (front more : List (ℕ × Label)) → Beyond C fuel (front ++ more) → Beyond C fuel front
goes_beyond C fuel front more beyond =
    let P : List (ℕ × Label) → Type 0 = RunsFrom C fuel beyond.end in
    record { end = beyond.end; rest = more ++ beyond.rest; runs = subst P (append_assoc front more beyond.rest) beyond.runs }

-- the next step, where fuel is left, or the end
step_on : (n : ℕ) (C : Configuration) (fuel : ℕ) (ls : List (ℕ × Label)) (D : Configuration) (outcome : StepOutcome) → ((E : Configuration) (label : Label) → Reaches (suc n) C (ls ++ shown (suc n) label) E → Beyond C fuel (ls ++ shown (suc n) label)) → n < fuel → Reaches n C ls D → next D ≡ outcome → Beyond C fuel ls
step_on n C fuel ls D (Steps E label) on left reached is = goes_beyond C fuel ls (shown (suc n) label) (on E label (D, ls, label, reached, is, refl))
step_on n C fuel ls D (Traps at) on left reached is = ends_here C fuel n ls D (Trap at) reached (left, is)
step_on n C fuel ls D Wrong on left reached is = ends_here C fuel n ls D Misshapen reached (left, is)
step_on n C fuel ls D Finished on left reached is = ends_here C fuel n ls D Done reached (omega arith, is)

-- the end, where no fuel is left
stop_here : (n : ℕ) (C : Configuration) (ls : List (ℕ × Label)) (D : Configuration) (fuel : ℕ) (outcome : StepOutcome) → n ≡ fuel → Reaches n C ls D → next D ≡ outcome → Beyond C fuel ls
stop_here n C ls D fuel (Steps E label) spent reached is = ends_here C fuel n ls D FuelSpent reached (spent, λ e. let other = sym is ∙ e in cc)
stop_here n C ls D fuel (Traps at) spent reached is = ends_here C fuel n ls D FuelSpent reached (spent, λ e. let other = sym is ∙ e in cc)
stop_here n C ls D fuel Wrong spent reached is = ends_here C fuel n ls D FuelSpent reached (spent, λ e. let other = sym is ∙ e in cc)
stop_here n C ls D fuel Finished spent reached is = ends_here C fuel n ls D Done reached (omega arith, is)

goes_on : (k n : ℕ) (C : Configuration) (fuel : ℕ) (ls : List (ℕ × Label)) (D : Configuration) → fuel ≡ n + k → Reaches n C ls D → Beyond C fuel ls
goes_on zero n C fuel ls D total reached = stop_here n C ls D fuel (next D) (omega arith) reached refl
goes_on (suc k) n C fuel ls D total reached =
    step_on n C fuel ls D (next D) (λ E label on. goes_on k (suc n) C fuel (ls ++ shown (suc n) label) E (omega arith) on) (omega arith) reached refl

pub goes_on_from : (n : ℕ) (C : Configuration) (fuel : ℕ) (ls : List (ℕ × Label)) (D : Configuration) → n ≤ fuel → Reaches n C ls D → Beyond C fuel ls
goes_on_from n C fuel ls D few reached = let total : fuel ≡ n + (fuel - n) = omega arith in goes_on (fuel - n) n C fuel ls D total reached
