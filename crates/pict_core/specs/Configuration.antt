-- Configurations: a number of channels, a next stamp, and a finite map from stamps to processes.
use Rattle.std.specs.Prelude.{ℕ, ◌≤◌, ◌+◌, List, [], ◌∷◌}
use Rattle.pict_core.specs.Term.{Process}
use Rattle.pict_core.specs.Closed.{IsUnder}

-- A process may act, or waits for a partner.
pub data Mark : Type 0 where
  Ready : Mark
  Parked : Mark

-- a process at its stamp
pub record Entry : Type 0 where
  pub stamp : ℕ
  pub mark : Mark
  pub process : Process

-- The entries are the map: they stand by rising stamps.
pub record Configuration : Type 0 where
  pub channels : ℕ
  pub next_stamp : ℕ
  pub entries : List Entry

-- the stamps rise from low on, and are below the next one
abbrev pub StampsRise : ℕ → List Entry → ℕ → Type 0
StampsRise low [] next = low ≤ next
StampsRise low (e ∷ es) next = (low ≤ e.stamp) × StampsRise (e.stamp + 1) es next

-- each process is closed and names channels below c, and no label stands twice in a record
abbrev pub AreClosed : ℕ → List Entry → Type 0
AreClosed c [] = Unit {0}
AreClosed c (e ∷ es) = IsUnder 0 c e.process × AreClosed c es

-- What holds of each configuration. The laws of steps have it as a premise, and steps keep it.
pub record IsConfiguration (C : Configuration) : Type 0 where
  pub stamps : StampsRise 0 C.entries C.next_stamp
  pub closed : AreClosed C.channels C.entries

-- a program's process, ready at stamp 0, before any step
abbrev pub opening : Process → Configuration
opening p = record { channels = 0; next_stamp = 1; entries = record { stamp = 0; mark = Ready; process = p } ∷ [] }
