-- Configurations for whose next step there may be no numbers left.
use Rattle.std.specs.Prelude.{◌+◌, ◌^◌, ◌≤◌, ◌⊎◌}
use Rattle.pict_core.specs.Term.{Process}
use Rattle.pict_core.specs.Configuration.{Configuration}
use Rattle.pict_exploration.specs.Explored.{Vertex, IsReachedByChoices}

-- the count of channels has 32 bits and the next stamp 64: it wouldn't fit with one channel more, or with two stamps more
abbrev pub IsFull : Configuration → Type 0
IsFull C = (2 ^ 32 ≤ C.channels + 1) ⊎ (2 ^ 64 ≤ C.next_stamp + 2)

-- some choices of the process lead to such a configuration
pub record ComesToFull (p : Process) : Type 0 where
  pub vertex : Vertex
  pub reached : IsReachedByChoices p vertex
  pub full : IsFull vertex.configuration
