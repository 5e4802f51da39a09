-- Laws of the definitions.
use Rattle.std.specs.Prelude.{ℕ, ◌≡◌, ◌+◌, List, ◌++◌, Some}
use Rattle.pict_core.specs.Term.{Process}
use Rattle.pict_core.specs.Closed.{IsClosed}
use Rattle.pict_core.specs.Configuration.{Configuration, IsConfiguration, opening}
use Rattle.pict_core.specs.Step.{Choice, IsChoice, Label, Steps, Wrong, Free, IsWrong, next}
use Rattle.pict_core.specs.Run.{End, Reaches, RunsFrom, numbered_after}
use Rattle.pict_core.specs.Places.{Place, IsPlace, choice_at, outcome_at}
use Rattle.pict_core.specs.FreeRun.{FreelyRuns}

-- Free steps keep what holds of configurations.
abbrev pub FreeStepsKeepConfigurations : Type 0
FreeStepsKeepConfigurations =
    (C : Configuration) (choice : Choice) (D : Configuration) (label : Label) → IsConfiguration C → Free C choice D label → IsConfiguration D

-- An oldest-first step is a free step.
abbrev pub OldestFirstStepsAreFree : Type 0
OldestFirstStepsAreFree =
    (C : Configuration) (D : Configuration) (label : Label) → IsConfiguration C → next C ≡ Steps D label → (choice : Choice) × Free C choice D label

-- Steps after steps are steps, and show what both show, the later ones with numbers that go on.
abbrev pub StepsGoOn : Type 0
StepsGoOn =
    (n m : ℕ) (C D E : Configuration) (labels later : List (ℕ × Label)) → Reaches n C labels D → Reaches m D later E
    → Reaches (n + m) C (labels ++ numbered_after n later) E

-- A run has one end, one list of labels and one number of steps.
abbrev pub RunsAreOne : Type 0
RunsAreOne =
    (C : Configuration) (fuel : ℕ) (end other : End) (labels others : List (ℕ × Label)) (r : RunsFrom C fuel end labels)
    (s : RunsFrom C fuel other others) → (end ≡ other) × (labels ≡ others) × (r.steps ≡ s.steps)

-- The opening configuration of a closed process is a configuration.
abbrev pub OpeningsAreConfigurations : Type 0
OpeningsAreConfigurations = (p : Process) → IsClosed p → IsConfiguration (opening p)

-- Where the oldest-first step is wrong the configuration is wrong.
abbrev pub WrongStepsAreWrong : Type 0
WrongStepsAreWrong = (C : Configuration) → IsConfiguration C → next C ≡ Wrong → IsWrong C

-- A step at a place is a free step.
abbrev pub PlacesAreFree : Type 0
PlacesAreFree =
    (C D : Configuration) (place : Place) (label : Label) → IsConfiguration C → IsPlace C place
    → outcome_at C place ≡ Steps D label → (choice : Choice) × Free C choice D label

-- Each choice of a ready process, and of a parked partner where it has one, is that of a place.
abbrev pub ChoicesHavePlaces : Type 0
ChoicesHavePlaces =
    (C : Configuration) (choice : Choice) → IsChoice C choice
    → (place : Place) × IsPlace C place × (choice_at C place ≡ Some choice)

-- Where the step at a place is wrong the configuration is wrong.
abbrev pub WrongPlacesAreWrong : Type 0
WrongPlacesAreWrong =
    (C : Configuration) (place : Place) → IsConfiguration C → IsPlace C place → outcome_at C place ≡ Wrong
    → IsWrong C

-- The free run of a list of places has one list of labels and one last configuration.
abbrev pub FreeRunsAreOne : Type 0
FreeRunsAreOne =
    (C : Configuration) (places : List Place) (labels others : List (ℕ × Label)) (D E : Configuration)
    → FreelyRuns C places labels D → FreelyRuns C places others E → (labels ≡ others) × (D ≡ E)
