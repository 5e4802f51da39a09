-- What steps cost.
use Rattle.std.specs.Prelude.{◌+◌, ◌≤◌}
use Rattle.pict_core.specs.Term.{Process}
use Rattle.pict_turns.specs.Cost.{cost_of}
use Rattle.pict_turns.specs.Turns.{turn_cost}
use Rattle.pict_turns.specs.Views.{acting_words}
use Rattle.pict_turns.specs.declared.store.Store.{Store}

-- With what it takes to take the turn before the step and to set it down after it, the work of the step of who has the turn is at
-- most the step's cost.
pub record Fits (core : Process) (old new : Store) : Type 0 where
  pub least : old.queues.region.work ≤ new.queues.region.work
  pub most : turn_cost core old + turn_cost core new + new.queues.region.work ≤ old.queues.region.work + cost_of core old (acting_words core old)
