-- Steps by place, whose lines are written behind a text.
use Rattle.std.specs.Prelude.{ℕ, ◌≡◌, ◌++◌, List}
use Rattle.pict_core.specs.Term.{Process}
use Rattle.pict_core.specs.Configuration.{Configuration, opening}
use Rattle.pict_core.specs.Step.{Label, Steps}
use Rattle.pict_core.specs.Run.{shown}
use Rattle.pict_core.specs.Places.{Place, IsPlace, outcome_at}
use Rattle.pict_core.specs.FreeRun.{FreelyRuns}
use Rattle.pict_trace.specs.Lines.{lines_text}
use Rattle.pict_replay.specs.Replayed.{Line}

-- The step at the place leads from C to D, and its line is written, if it shows anything.
pub record IsTracedStep (names : List (List ℕ)) (number : ℕ) (C : Configuration) (place : Place) (D : Configuration) (old new : List ℕ) : Type 0 where
  pub label : Label
  pub there : IsPlace C place
  pub steps : outcome_at C place ≡ Steps D label
  pub text : new ≡ old ++ lines_text names (shown number label)

-- So it is of the steps at these places, from the opening configuration on.
pub record IsTraced (names : List (List ℕ)) (p : Process) (places : List Place) (old new : List ℕ) : Type 0 where
  pub labels : List Line
  pub last : Configuration
  pub runs : FreelyRuns (opening p) places labels last
  pub text : new ≡ old ++ lines_text names labels
