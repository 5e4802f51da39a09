-- The laws of runs.
use Rattle.std.specs.Prelude.{ℕ}
use Rattle.pict_core.specs.Term.{Process}
use Rattle.pict_core.specs.Closed.{IsClosed}
use Rattle.pict_reduction.specs.Reached.{NoFreeRunIsWrong}
use Rattle.pict_seed.specs.Stream.{generator}
use Rattle.pict_network.specs.Network.{opening_network}
use Rattle.pict_sites.specs.Runs.{IsRightFrom}

-- Where no free run of a process is wrong no event is that a seed chooses.
abbrev pub RunsAreRight : Type 0
RunsAreRight = (others : ℕ) (p : Process) (seed : ℕ) → IsClosed p → NoFreeRunIsWrong p → IsRightFrom (opening_network others p) (generator seed)
