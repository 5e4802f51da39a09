-- What becomes of a choice in a replay, where a view stands for a configuration.
use Rattle.std.specs.Prelude.{ℕ, ◌≡◌, List, ◌∷◌}
use Rattle.pict_core.specs.Configuration.{Configuration, IsConfiguration}
use Rattle.pict_core.specs.Step.{Label, IsWrong}
use Rattle.pict_core.specs.Run.{shown}
use Rattle.pict_core.specs.Places.{Place, IsPlace, outcome_at}
use Rattle.pict_view.specs.View.{View, StandsFor}
use Rattle.pict_view.specs.Stepping.{LeadsTo}
use Rattle.pict_replay.specs.Replayed.{Line, given, IsAtFault}

-- The view stands for a configuration none of whose steps is wrong.
pub record StandsRight (v : View) : Type 0 where
  pub configuration : Configuration
  pub is : IsConfiguration configuration
  pub stands : StandsFor v configuration
  pub right : ¬ IsWrong configuration

-- The place is there, its step shows what the lines give for step k, and the view stands for the configuration after it.
pub record IsAsGiven (k : ℕ) (C : Configuration) (place : Place) (unused : List Line) (v : View) : Type 0 where
  pub there : IsPlace C place
  pub label : Label
  pub leads : LeadsTo (outcome_at C place) label v
  pub as_given : shown k label ≡ given k unused

-- step k is at fault, from C, with these lines unused, by the choice of this place, whatever choices come after it
abbrev pub FailsAt : ℕ → Configuration → Place → List Line → Type 0
FailsAt k C place unused = (rest : List Place) → IsAtFault k C unused (place ∷ rest)
