-- Runs on several sites, whose events are chosen by a seed, and what is written of them.
use Rattle.std.specs.Prelude.{◌≡◌, ℕ, ◌-◌, List}
use Rattle.pict_core.specs.Term.{Process}
use Rattle.pict_core.specs.Step.{Label}
use Rattle.pict_core.specs.Run.{bytes_of}
use Rattle.pict_network.specs.Runs.{SeedRuns}
use Rattle.pict_machine.specs.Events.{end_of}
use Rattle.pict_machine.specs.declared.event.End.{End}

-- The process runs on so many sites with this fuel, of events, as the seed chooses them, and these are the bytes that it prints.
pub record NetworkShows (process : Process) (sites seed fuel : ℕ) (end : End) (bytes : List ℕ) : Type 0 where
  pub labels : List (ℕ × Label)
  pub runs : SeedRuns (sites - 1) process seed fuel (end_of end) labels
  pub shows : bytes ≡ bytes_of labels
