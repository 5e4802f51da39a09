-- Reductions and what steps reach: silent steps, and the one that reduces.
use Rattle.std.specs.Prelude.{ℕ, ◌≡◌, Bool, true, false, ◌&&◌, List, Option, Some, None}
use Rattle.pict_core.specs.Term.{Val, Process, Chan, Zero, Par, New, Out, In, If}
use Rattle.pict_core.specs.Run.{printed_by}
use Rattle.pict_core.specs.Configuration.{Entry, Configuration}
use Rattle.pict_core.specs.Step.{Label, Quiet, Choice, Free, least, is_ready, is_partner}
use Rattle.pict_reduction.specs.Congruence.{Congruent}
use Rattle.pict_reduction.specs.Reduction.{Reduces}
use Rattle.pict_reduction.specs.Reading.{reading}

-- Some free steps, or none, lead from C to D. Each shows nothing, and leaves the reading the same up to congruence.
pub data SilentlyReaches (C : Configuration) : Configuration → Type 0 where
  at_start : SilentlyReaches C C
  by_step : {D E : Configuration} {choice : Choice} → SilentlyReaches C D → Free D choice E Quiet → Congruent 0 (reading D) (reading E) → SilentlyReaches C E

-- Silent steps, and then one that reduces, lead from C to a configuration whose reading is R, up to congruence.
pub record IsReachedBySteps (C : Configuration) (bytes : List ℕ) (R : Process) : Type 0 where
  pub before : Configuration
  pub after : Configuration
  pub choice : Choice
  pub label : Label
  pub silent : SilentlyReaches C before
  pub step : Free before choice after label
  pub prints : printed_by label ≡ bytes
  pub reduces : Reduces 0 bytes (reading before) (reading after)
  pub same : Congruent 0 (reading after) R

-- ---- where no silent step is possible

abbrev pub is_chan : Val → Bool
is_chan (Chan c) = true
is_chan _ = false

abbrev pub has_none : Option Entry → Bool
has_none None = true
has_none (Some e) = false

-- an output or input at a channel that has no parked partner
abbrev pub parks : List Entry → Val → Process → Bool
parks es chan p = is_chan chan && has_none (least (is_partner p) es)

abbrev pub is_silent : List Entry → Process → Bool
is_silent es Zero = true
is_silent es (Par p q) = true
is_silent es (New p) = true
is_silent es (Out chan message at) = parks es chan (Out chan message at)
is_silent es (In chan replicated pattern body) = parks es chan (In chan replicated pattern body)
is_silent es (If test p q) = false

abbrev pub acts_silently : List Entry → Entry → Bool
acts_silently es e = is_ready e && is_silent es e.process

-- no ready process can act silently: none is 0, | or new, and none is an output or input at a channel without a parked partner
abbrev pub IsStill : Configuration → Type 0
IsStill C = least (acts_silently C.entries) C.entries ≡ None
