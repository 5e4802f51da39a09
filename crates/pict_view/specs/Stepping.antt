-- What a label or a trap says of a step of a configuration.
use Rattle.std.specs.Prelude.{◌≡◌, Option, Some, None}
use Rattle.pict_syntax.specs.declared.span.Span.{Span}
use Rattle.pict_core.specs.Configuration.{Configuration, IsConfiguration}
use Rattle.pict_core.specs.Step.{Label, StepOutcome, Steps, Traps, next}
use Rattle.pict_view.specs.View.{View, StandsFor}

-- the outcome is a step of this label, and the view stands for the configuration after it
pub record LeadsTo (outcome : StepOutcome) (label : Label) (v : View) : Type 0 where
  pub after : Configuration
  pub steps : outcome ≡ Steps after label
  pub is : IsConfiguration after
  pub stands : StandsFor v after

-- the oldest-first step from C has this label, and the view stands for the configuration after it
abbrev pub Follows : Configuration → Label → View → Type 0
Follows C label v = LeadsTo (next C) label v

-- The oldest-first step from C has this label, and the view stands for the configuration after it. Where there is a
-- trap the step traps there, and the view still stands for C.
abbrev pub IsStepOf : Configuration → Label → Option Span → View → Type 0
IsStepOf C label None v = Follows C label v
IsStepOf C label (Some at) v = (next C ≡ Traps at) × StandsFor v C
