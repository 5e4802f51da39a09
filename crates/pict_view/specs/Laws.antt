-- Whatever keeps the processes, a step of its view is a step of the configurations that the view stands for.
use Rattle.std.specs.Prelude.{ℕ, ◌≡◌, ◌≤◌, ◌+◌, ◌↔◌, length, map, slice_get, Some}
use Rattle.pict_core.specs.Term.{Process}
use Rattle.pict_core.specs.Configuration.{Entry, Configuration, IsConfiguration}
use Rattle.pict_core.specs.Step.{StepOutcome, Traps, Wrong, Finished, next}
use Rattle.pict_core.specs.Places.{Place, IsPlace, partners_at, outcome_at}
use Rattle.pict_view.specs.View.{View, StandsFor, KeepsApart}
use Rattle.pict_view.specs.Moved.{Moved, Moves, Stops, Misshapen, Over}
use Rattle.pict_view.specs.Placed.{next_at, next_view}
use Rattle.pict_view.specs.Partners.{partners_in, IsPlaceOf}
use Rattle.pict_view.specs.Stepping.{LeadsTo}

-- What becomes of the view old is what becomes of a configuration. A view that moves keeps outputs and inputs apart again, and
-- has at most one channel more.
abbrev pub Simulates : View → StepOutcome → Moved View → Type 0
Simulates old outcome (Moves new label) =
    LeadsTo outcome label new × KeepsApart new × (length new.channels ≤ length old.channels + 1)
Simulates old outcome (Stops at) = outcome ≡ Traps at
Simulates old outcome Misshapen = outcome ≡ Wrong
Simulates old outcome Over = outcome ≡ Finished

-- at each place
abbrev pub PlacesStep : Type 0
PlacesStep =
    (v : View) (C : Configuration) (place : Place) → KeepsApart v → IsConfiguration C → StandsFor v C → IsPlace C place
    → Simulates v (outcome_at C place) (next_at place.ready place.partner v)

-- in the oldest-first step
abbrev pub ViewsStep : Type 0
ViewsStep = (v : View) (C : Configuration) → KeepsApart v → IsConfiguration C → StandsFor v C → Simulates v (next C) (next_view v)

-- the partners of the i-th ready process, in the list of its channel
abbrev pub PartnersAreSeen : Type 0
PartnersAreSeen =
    (v : View) (C : Configuration) (i : ℕ) (p : Process) → KeepsApart v → StandsFor v C → slice_get v.ready i ≡ Some p
    → map (λ (e : Entry). e.process) (partners_at C i) ≡ partners_in v.channels p

-- the places of a view are those of each configuration that it stands for
abbrev pub PlacesAreSeen : Type 0
PlacesAreSeen =
    (v : View) (C : Configuration) (place : Place) → KeepsApart v → StandsFor v C
    → IsPlaceOf v place.ready place.partner ↔ IsPlace C place
