-- Runs none of whose steps is wrong.
use Rattle.std.specs.Prelude.{ℕ, ◌≢◌, ◌<◌, List}
use Rattle.pict_core.specs.Term.{Process}
use Rattle.pict_core.specs.Configuration.{Configuration, IsConfiguration, opening}
use Rattle.pict_core.specs.Step.{Label, Wrong, next}
use Rattle.pict_core.specs.Run.{Reaches}
use Rattle.pict_view.specs.View.{View, StandsFor}

-- none of the first `fuel` oldest-first steps from C is wrong
abbrev pub StepsRight : Configuration → ℕ → Type 0
StepsRight C fuel = (n : ℕ) (labels : List (ℕ × Label)) (D : Configuration) → n < fuel → Reaches n C labels D → next D ≢ Wrong

-- the view stands for a configuration none of whose first `fuel` oldest-first steps is wrong
pub record IsRightFor (v : View) (fuel : ℕ) : Type 0 where
  pub configuration : Configuration
  pub is : IsConfiguration configuration
  pub stands : StandsFor v configuration
  pub right : StepsRight configuration fuel

-- none of the first `fuel` oldest-first steps of the process is wrong
abbrev pub RunsRight : Process → ℕ → Type 0
RunsRight p fuel = StepsRight (opening p) fuel
