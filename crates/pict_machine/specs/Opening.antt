-- A store before the first step.
use Rattle.std.specs.Prelude.{◌≡◌, ◌≢◌, ℕ, [], ◌∷◌, length}
use Rattle.pict_queue.specs.QueuesState.{QueuesState, IsHeld}
use Rattle.pict_queue.specs.Contents.{contents}

-- There is queue 0 alone. It has one block, that of node 0, which holds no value. No block is held.
pub record AreOpening (s : QueuesState) : Type 0 where
  pub queues : length s.queues ≡ 1
  pub ready : contents s 0 ≡ (1 ∷ []) ∷ []
  pub others : (queue : ℕ) → queue ≢ 0 → contents s queue ≡ []
  pub none_held : (block : ℕ) → ¬ IsHeld s block
