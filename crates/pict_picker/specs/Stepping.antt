-- Steps at places: when one may be taken, and what it does.
use Rattle.std.specs.Prelude.{◌≡◌, ◌≢◌, ℕ, Option, Some, None}
use Rattle.pict_syntax.specs.declared.span.Span.{Span}
use Rattle.pict_core.specs.Configuration.{Configuration, IsConfiguration}
use Rattle.pict_core.specs.Step.{Label, Traps, Wrong}
use Rattle.pict_core.specs.Places.{Place, IsPlace, outcome_at}
use Rattle.pict_view.specs.View.{View, StandsFor}
use Rattle.pict_view.specs.Stepping.{LeadsTo}

-- the i-th ready process, with the j-th of its parked partners
abbrev pub place : ℕ → ℕ → Place
place i j = record { ready = i; partner = j }

-- The view stands for a configuration that has this place, and whose step there isn't wrong.
pub record IsRightAt (v : View) (i j : ℕ) : Type 0 where
  pub configuration : Configuration
  pub is : IsConfiguration configuration
  pub stands : StandsFor v configuration
  pub there : IsPlace configuration (place i j)
  pub right : outcome_at configuration (place i j) ≢ Wrong

-- The step from C at the place has this label, and the view stands for the configuration after it. Where there is a trap the
-- step traps there, and the view still stands for C.
abbrev pub IsStepAt : Configuration → Place → Label → Option Span → View → Type 0
IsStepAt C at label None v = LeadsTo (outcome_at C at) label v
IsStepAt C at label (Some span) v = (outcome_at C at ≡ Traps span) × StandsFor v C
