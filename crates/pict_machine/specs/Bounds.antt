-- What steps of a machine's code cost at most, and how many blocks they make at most, whatever waits.
use Rattle.std.specs.Prelude.{ℕ, ◌≡◌, ◌*◌}
use Rattle.pict_queue.specs.QueuesState.{CostsAtMost, LosesNoQueue}
use Rattle.pict_heap.specs.HeapState.{LosesNoRoom}
use Rattle.pict_acting.specs.Bounds.{greatest_cost, MakesFew}
use Rattle.pict_machine.specs.Machine.{core_in, heap_of, queues_of}
use Rattle.pict_machine.specs.declared.machine.Machine.{Machine}

-- the greatest cost of a step of a machine's code
abbrev pub greatest_cost_of : Machine → ℕ
greatest_cost_of m = greatest_cost (core_in m)

-- So many steps of a machine's code have cost at most what they may, made at most the blocks that they may, and lost no queue and no
-- room of the heap.
pub record SpendsAtMost (steps : ℕ) (old new : Machine) : Type 0 where
  pub code : new.code ≡ old.code
  pub work : CostsAtMost (steps * greatest_cost_of old) (queues_of old) (queues_of new)
  pub blocks : MakesFew (core_in old) steps (queues_of old) (queues_of new)
  pub queues : LosesNoQueue (queues_of old) (queues_of new)
  pub room : LosesNoRoom (heap_of old).room (heap_of new).room
