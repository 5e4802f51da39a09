-- Steps of a run that a watcher needn't be shown, the step after them, and where a run stops.
use Rattle.std.specs.Prelude.{◌≡◌, ◌≢◌, ◌≤◌, ◌<◌, ◌⊎◌, ℕ, Bool, false, IsTrue, List, [], ◌∷◌, Option, Some, None, Result, Ok, Err}
use Rattle.std.specs.declared.alloc.AllocError.{AllocError}
use Rattle.pict_core.specs.Configuration.{Configuration, IsConfiguration}
use Rattle.pict_core.specs.Step.{Label, Quiet, Comm, Print}
use Rattle.pict_core.specs.Run.{Reaches}
use Rattle.pict_view.specs.View.{View, StandsFor}
use Rattle.pict_view.specs.Stepping.{IsStepOf}
use Rattle.pict_turns.specs.Shown.{label_shown, trap_shown, IsShownOf}
use Rattle.pict_machine.specs.Machine.{running_view, heap_of}
use Rattle.pict_turns.specs.declared.event.Shown.{Shown}
use Rattle.pict_turns.specs.declared.event.Shown.TheVariants as shows
use Rattle.pict_machine.specs.declared.event.End.{End}
use Rattle.pict_machine.specs.declared.event.End.TheVariants as end
use Rattle.pict_machine.specs.declared.machine.Machine.{Machine}
use Rattle.pict_machine.specs.declared.stepping.Steps.{Steps}

-- an event that a run passes over: a quiet one, and a communication where these are passed over
abbrev pub IsPassed : Bool → Shown → Type 0
IsPassed passes shows.Quiet = Unit {0}
IsPassed passes (shows.Comm channel value) = IsTrue passes
IsPassed passes (shows.Print word) = ⊥
IsPassed passes (shows.Trapped at) = ⊥

-- The labels that some steps show are passed over: they are communications alone, and there are some only where these are passed
-- over.
abbrev pub ArePassed : Bool → List (ℕ × Label) → Type 0
ArePassed passes [] = Unit {0}
ArePassed passes ((number, Quiet) ∷ labels) = ⊥
ArePassed passes ((number, Comm channel value) ∷ labels) = IsTrue passes × ArePassed passes labels
ArePassed passes ((number, Print bytes) ∷ labels) = ⊥

-- From each configuration for which the first view stands, so many steps, whose labels are passed over, lead to one for which
-- the second stands.
abbrev pub GoesPast : Bool → ℕ → View → View → Type 0
GoesPast passes n v w = (C : Configuration) → IsConfiguration C → StandsFor v C
    → (D : Configuration) × (labels : List (ℕ × Label)) × ArePassed passes labels × Reaches n C labels D × IsConfiguration D × StandsFor w D

-- The step from each configuration for which the view stands has this event, by words of the machine's heap, and the machine
-- stands for the configuration after it.
pub record HasEvent (v : View) (new : Machine) (e : Shown) : Type 0 where
  pub step : (D : Configuration) → IsConfiguration D → StandsFor v D → IsStepOf D (label_shown (heap_of new) e) (trap_shown e) (running_view new)
  pub event : IsShownOf (heap_of new) e

-- The step from each configuration for which the view stands has this event, or none is shown of it, since it is a communication and
-- these are passed over.
abbrev pub ShowsOrPasses : Bool → View → Machine → Shown → Type 0
ShowsOrPasses passes v new e = HasEvent v new e ⊎ ((e ≡ shows.Quiet) × GoesPast passes 1 v (running_view new))

-- What comes after the steps that are passed over, which led to this view. A further step has this event, which isn't passed over. Or
-- there is none, since as many are made as may be, or nobody is next. Or memory is wanting for it.
abbrev pub ThenComes : Bool → View → Machine → ℕ → ℕ → Result (Option Shown) AllocError → Type 0
ThenComes passes v new most passed (Ok (Some e)) = (passed < most) × (¬ IsPassed passes e) × HasEvent v new e
ThenComes passes v new most passed (Ok None) = (running_view new ≡ v) × ((passed ≡ most) ⊎ (v.ready ≡ []))
ThenComes passes v new most passed (Err error) = (passed < most) × (running_view new ≡ v)

-- At most so many steps are made: these many are passed over, and this comes then.
pub record GoesOn (passes : Bool) (old new : Machine) (most passed : ℕ) (event : Result (Option Shown) AllocError) : Type 0 where
  pub between : View
  pub few : passed ≤ most
  pub past : GoesPast passes passed (running_view old) between
  pub then : ThenComes passes between new most passed event

-- From each configuration for which the machine stood so many steps show nothing, and the one after them has this event, or is passed
-- over.
pub record MakesSteps (passes : Bool) (old new : Machine) (steps : Steps) : Type 0 where
  pub between : View
  pub past : GoesPast false steps.quiet (running_view old) between
  pub then : ShowsOrPasses passes between new steps.event

-- a run that no trap ends is done where nobody is next, and else its fuel is spent
abbrev pub StopsAs : View → End → Type 0
StopsAs v end.Done = v.ready ≡ []
StopsAs v end.FuelSpent = v.ready ≢ []
StopsAs v (end.Trap at) = ⊥
