-- The shelf and the sinks of a call: what they hold, and when they have failed.
use Rattle.std.specs.Prelude.{ℕ, ◌-◌, ◌^◌, nat_le, List, [], length, if◌then◌else◌}

-- the texts by their names, and how often another name was asked for
pub record BundleState : Type 0 where
  pub pairs : List (List ℕ × List ℕ)
  pub misses : ℕ

abbrev pub new_bundle : List (List ℕ × List ℕ) → BundleState
new_bundle pairs = record { pairs = pairs; misses = 0 }

-- the bytes that are taken, and for how many there is room
pub record PageState : Type 0 where
  pub taken : List ℕ
  pub room : ℕ

abbrev pub new_page : ℕ → PageState
new_page room = record { taken = []; room = room }

-- The count of faults is the greatest as soon as the page is full: so it is said to have failed only where it is.
abbrev pub page_faults : PageState → ℕ
page_faults s = if nat_le s.room (length s.taken) then 2 ^ 64 - 1 else 0
