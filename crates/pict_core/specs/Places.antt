-- Choices by place: a ready process, and one of its parked partners, each counted from 0 by rising stamps.
use Rattle.std.specs.Prelude.{ℕ, ◌≡◌, ◌<◌, ◌⊎◌, List, [], length, filter, slice_get, Option, Some, None, option_map}
use Rattle.pict_core.specs.Configuration.{Entry, Configuration}
use Rattle.pict_core.specs.Step.{Choice, StepOutcome, is_ready, is_partner, step_by}

pub record Place : Type 0 where
  pub ready : ℕ
  pub partner : ℕ

-- the ready processes, by rising stamps
abbrev pub ready_entries : Configuration → List Entry
ready_entries C = filter is_ready C.entries

-- the parked partners of a process, by rising stamps; one that stands at no channel has none
abbrev pub partner_entries : Configuration → Option Entry → List Entry
partner_entries C None = []
partner_entries C (Some e) = filter (is_partner e.process) C.entries

-- the partners of the i-th ready process
abbrev pub partners_at : Configuration → ℕ → List Entry
partners_at C i = partner_entries C (slice_get (ready_entries C) i)

-- The ready process is there, and so is the partner; or it has none, and the second number is 0.
pub record IsPlace (C : Configuration) (place : Place) : Type 0 where
  pub ready : place.ready < length (ready_entries C)
  pub partner : (place.partner < length (partners_at C place.ready))
      ⊎ ((length (partners_at C place.ready) ≡ 0) × (place.partner ≡ 0))

abbrev pub choice_by : List Entry → ℕ → Entry → Choice
choice_by partners j e = record { acting = e.stamp; partner = option_map (λ (u : Entry). u.stamp) (slice_get partners j) }

-- the choice of these two
abbrev pub choice_at : Configuration → Place → Option Choice
choice_at C place =
    option_map (choice_by (partners_at C place.ready) place.partner) (slice_get (ready_entries C) place.ready)

-- what becomes of the configuration
abbrev pub outcome_at : Configuration → Place → StepOutcome
outcome_at C place = step_by C (choice_at C place)
