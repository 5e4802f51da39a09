-- The laws, each the contract of a public function that does nothing.
use Rattle.std.specs.Prelude.{ℕ, ◌≡◌, ◌≢◌, List}
use Rattle.pict_core.specs.Term.{Process}
use Rattle.pict_core.specs.Closed.{IsClosed}
use Rattle.pict_core.specs.Configuration.{opening}
use Rattle.pict_core.specs.Step.{Label}
use Rattle.pict_core.specs.Run.{End, Misshapen}
use Rattle.pict_core.specs.Places.{Place}
use Rattle.pict_core.specs.FreeRun.{FreelyRuns}
use Rattle.pict_reduction.specs.Reached.{NoFreeRunIsWrong}
use Rattle.pict_pick.specs.Picked.{PicksRun}

-- What a seed picks is a free run.
abbrev pub PickedRunsAreFree : Type 0
PickedRunsAreFree =
    (p : Process) (seed fuel : ℕ) (end : End) (places : List Place) (labels : List (ℕ × Label))
    (r : PicksRun p seed fuel end places labels) → FreelyRuns (opening p) places labels r.last

-- What a seed picks is one run: it has one end, one list of places and one of labels.
abbrev pub PickedRunsAreOne : Type 0
PickedRunsAreOne =
    (p : Process) (seed fuel : ℕ) (end other : End) (places others : List Place) (labels shown : List (ℕ × Label))
    → PicksRun p seed fuel end places labels → PicksRun p seed fuel other others shown
    → (end ≡ other) × (places ≡ others) × (labels ≡ shown)

-- Where no free run of a process is wrong each seed picks a run, and that doesn't end by a wrong step.
abbrev pub SeedsPickRuns : Type 0
SeedsPickRuns =
    (p : Process) (seed fuel : ℕ) → IsClosed p → NoFreeRunIsWrong p
    → (end : End) × (places : List Place) × (labels : List (ℕ × Label)) × PicksRun p seed fuel end places labels
    × (end ≢ Misshapen)
