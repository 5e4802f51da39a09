-- What a machine stands for, and what it keeps from call to call, and in a run from step to step.
use Rattle.std.specs.Prelude.{◌≡◌, ◌-◌, ℕ, List, length}
use Rattle.pict_core.specs.Term.{Process}
use Rattle.pict_code.specs.Plain.{plain_code}
use Rattle.pict_code.specs.ReadBack.{core_of}
use Rattle.pict_heap.specs.HeapState.{HeapState}
use Rattle.pict_prim.specs.declared.act.Need.{Need}
use Rattle.pict_queue.specs.QueuesState.{QueuesState, IsHeld}
use Rattle.pict_queue.specs.Contents.{KeepsAllContents}
use Rattle.pict_view.specs.View.{View, KeepsApart}
use Rattle.pict_turns.specs.Acting.{IsStore, KeepsSpare}
use Rattle.pict_desk.specs.Room.{KeepsHeap}
use Rattle.pict_desk.specs.Code.{IsCode}
use Rattle.pict_turns.specs.Cost.{step_cost, first_cost}
use Rattle.pict_turns.specs.Views as store
use Rattle.pict_turns.specs.declared.turn.Turn.TheVariants.{Nobody}
use Rattle.pict_desk.specs.Constants.{AreConstants}
use Rattle.pict_turns.specs.Needs as needs
use Rattle.pict_turns.specs.Needs.{needed_widths}
use Rattle.pict_turns.specs.Growing.{heap_need}
use Rattle.pict_turns.specs.Plain as plain
use Rattle.pict_machine.specs.declared.machine.Machine.{Machine}

-- the process whose code the machine has
abbrev pub core_in : Machine → Process
core_in m = core_of (plain_code m.code)

-- the view of a machine: what the blocks of its queues stand for
abbrev pub view_of : Machine → View
view_of m = store.view_of (core_in m) m.store

-- the texts and records of a machine
abbrev pub heap_of : Machine → HeapState
heap_of m = m.store.desk.heap

-- its ready processes, and what is parked, as blocks
abbrev pub queues_of : Machine → QueuesState
queues_of m = m.store.queues

-- how many channels are made: each has a queue, beside that of the ready processes
abbrev pub channels_of : Machine → ℕ
channels_of m = length m.store.queues.queues - 1

-- what the next step may cost
abbrev pub cost_of : Machine → ℕ
cost_of m = step_cost (core_in m) m.store

-- the widths of the blocks that the next step needs
abbrev pub widths_of : Machine → List ℕ
widths_of m = needed_widths (core_in m) m.store

-- what the next step needs of the heap
abbrev pub heap_need_of : Machine → Need
heap_need_of m = heap_need (core_in m) m.store

-- the next step is a plain meeting of a message and an input
abbrev pub MeetsInPlace : Machine → Type 0
MeetsInPlace m = plain.MeetsInPlace (core_in m) m.store

-- what the next step of a run may cost: that of who has the turn, or else of the first of the ready processes
abbrev pub running_cost : Machine → ℕ
running_cost m = first_cost (core_in m) m.store (store.ready_words (core_in m) m.store)

-- the widths of the blocks that the next step of a run needs, beside one for who has the turn
abbrev pub running_widths : Machine → List ℕ
running_widths m = needs.running_widths (core_in m) m.store

-- the view of a machine that runs, in which somebody may have the turn
abbrev pub running_view : Machine → View
running_view m = store.view_with_turn (core_in m) m.store

-- What holds of a machine between two steps of a run. Its code is that of a closed process, and its store is one of this code. At
-- each channel messages wait, or readers, and never both. No block is held: each live block stands in a queue. Of each output the
-- word is there that is made once. Somebody may have the turn.
pub record IsRunning (m : Machine) : Type 0 where
  pub code : IsCode (plain_code m.code)
  pub store : IsStore (core_in m) m.store
  pub apart : KeepsApart (running_view m)
  pub none_held : (block : ℕ) → ¬ IsHeld m.store.queues block
  pub constants : AreConstants (heap_of m) (plain_code m.code) m.constants.items

-- What holds of a machine between two calls: the same, and nobody has the turn.
pub record IsMachine (m : Machine) : Type 0 where
  pub running : IsRunning m
  pub idle : m.store.turn ≡ Nobody

-- Nothing has changed but room, spare blocks, work, and the values of levels, which count only while somebody has the turn. Nothing
-- that is spare is thrown away.
pub record IsUnchanged (old new : Machine) : Type 0 where
  pub code : new.code ≡ old.code
  pub constants : new.constants ≡ old.constants
  pub queues : length new.store.queues.queues ≡ length old.store.queues.queues
  pub contents : KeepsAllContents old.store.queues new.store.queues
  pub heap : KeepsHeap (heap_of old) (heap_of new)
  pub view : view_of new ≡ view_of old
  pub spare : KeepsSpare old.store new.store
