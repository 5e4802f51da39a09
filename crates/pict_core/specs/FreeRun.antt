-- Free runs: steps by places, in any order.
use Rattle.std.specs.Prelude.{ℕ, ◌≡◌, ◌+◌, List, [], ◌∷◌, ◌++◌, length}
use Rattle.pict_core.specs.Configuration.{Configuration}
use Rattle.pict_core.specs.Step.{Label, Steps}
use Rattle.pict_core.specs.Run.{shown}
use Rattle.pict_core.specs.Places.{Place, IsPlace, outcome_at}

-- The steps of these places lead from C to a configuration, and show these labels, each with the number of its step.
pub data FreelyRuns (C : Configuration) : List Place → List (ℕ × Label) → Configuration → Type 0 where
  at_start : FreelyRuns C [] [] C
  by_step : {places : List Place} {labels : List (ℕ × Label)} {D E : Configuration} {place : Place} {label : Label}
      → FreelyRuns C places labels D → IsPlace D place → outcome_at D place ≡ Steps E label
      → FreelyRuns C (places ++ place ∷ []) (labels ++ shown (length places + 1) label) E
