-- Runs of oldest-first steps: their end, their labels and the bytes that they print.
use Rattle.std.specs.Prelude.{ℕ, zero, suc, ◌≡◌, ◌≢◌, ◌≤◌, ◌<◌, ◌+◌, List, [], ◌∷◌, ◌++◌, map}
use Rattle.pict_syntax.specs.declared.span.Span.{Span}
use Rattle.pict_core.specs.Term.{Process}
use Rattle.pict_core.specs.Configuration.{Configuration, opening}
use Rattle.pict_core.specs.Step.{Label, Quiet, Comm, Print, StepOutcome, Steps, Traps, Wrong, Finished, next}

-- a label with the number of its step, unless it is quiet
abbrev pub shown : ℕ → Label → List (ℕ × Label)
shown n Quiet = []
shown n (Comm c v) = (n, Comm c v) ∷ []
shown n (Print bytes) = (n, Print bytes) ∷ []

-- n oldest-first steps lead from C to D, and show these labels
abbrev pub Reaches : ℕ → Configuration → List (ℕ × Label) → Configuration → Type 0
Reaches zero C labels D = (C ≡ D) × (labels ≡ [])
Reaches (suc n) C labels D =
    (M : Configuration) × (before : List (ℕ × Label)) × (label : Label) × Reaches n C before M × (next M ≡ Steps D label)
    × (labels ≡ before ++ shown (suc n) label)

-- labels of further steps, after so many
abbrev pub numbered_after : ℕ → List (ℕ × Label) → List (ℕ × Label)
numbered_after n labels = map (λ (l : ℕ × Label). (n + l.0, l.1)) labels

-- Nothing is ready; the fuel is spent; a step divides by zero at this place; or a step is wrong.
pub data End : Type 0 where
  Done : End
  FuelSpent : End
  Trap : Span → End
  Misshapen : End

-- how a run with this fuel ends after so many steps, by the next step's outcome
abbrev pub EndsAfter : ℕ → ℕ → StepOutcome → End → Type 0
EndsAfter fuel steps outcome Done = (steps ≤ fuel) × (outcome ≡ Finished)
EndsAfter fuel steps outcome FuelSpent = (steps ≡ fuel) × (outcome ≢ Finished)
EndsAfter fuel steps outcome (Trap at) = (steps < fuel) × (outcome ≡ Traps at)
EndsAfter fuel steps outcome Misshapen = (steps < fuel) × (outcome ≡ Wrong)

-- the run from C with this fuel has this end and these labels
pub record RunsFrom (C : Configuration) (fuel : ℕ) (end : End) (labels : List (ℕ × Label)) : Type 0 where
  pub steps : ℕ
  pub last : Configuration
  pub reached : Reaches steps C labels last
  pub ends : EndsAfter fuel steps (next last) end

-- how many steps a run does, by its end and the steps before it: one that traps counts
abbrev pub steps_done : End → ℕ → ℕ
steps_done (Trap at) before = before + 1
steps_done _ before = before

-- the run of a program's process
abbrev pub Runs : Process → ℕ → End → List (ℕ × Label) → Type 0
Runs p fuel end labels = RunsFrom (opening p) fuel end labels

abbrev pub printed_by : Label → List ℕ
printed_by Quiet = []
printed_by (Comm c v) = []
printed_by (Print bytes) = bytes

-- the bytes that the printings among the labels print
abbrev pub bytes_of : List (ℕ × Label) → List ℕ
bytes_of [] = []
bytes_of (l ∷ ls) = printed_by l.1 ++ bytes_of ls
