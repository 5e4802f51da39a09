-- Sites before the first event.
use Rattle.std.specs.Prelude.{◌≡◌, ℕ, List, [], ◌∷◌, length}
use Rattle.std.specs.List.{AllByRecursion}
use Rattle.pict_queue.specs.QueuesState.{QueuesState}
use Rattle.pict_queue.specs.Contents.{contents}

-- there is queue 0 alone, and it is empty
pub record AreIdle (q : QueuesState) : Type 0 where
  pub queues : length q.queues ≡ 1
  pub empty : (queue : ℕ) → contents q queue ≡ []

-- these queues, and behind them idle ones
pub record IsFirstOf (first : QueuesState) (all : List QueuesState) : Type 0 where
  pub others : List QueuesState
  pub are : all ≡ first ∷ others
  pub idle : AllByRecursion AreIdle others
