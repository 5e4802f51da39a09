-- What the step of who has the turn does.
use Rattle.std.specs.Prelude.{◌≡◌, ◌≤◌, ◌<◌, ◌+◌, ◌^◌, ℕ, List, map, length, Result, Ok, Err}
use Rattle.std.specs.declared.alloc.AllocError.{AllocError}
use Rattle.pict_core.specs.Term.{Process}
use Rattle.pict_code.specs.Plain.{plain_node}
use Rattle.pict_code.specs.declared.instruction.Node.{Node}
use Rattle.pict_region.specs.RegionState.{spare, KeepsBlocks}
use Rattle.pict_queue.specs.QueuesState.{CostsAtMost}
use Rattle.pict_queue.specs.Contents.{KeepsOtherContents, HoldsNoMore}
use Rattle.pict_view.specs.Moved.{Stops}
use Rattle.pict_view.specs.Placed.{next_view}
use Rattle.pict_turns.specs.Acting.{HasActing, IsRight, IsDone, IsRefused}
use Rattle.pict_desk.specs.Code.{core_in, IsCode}
use Rattle.pict_turns.specs.Turns.{turn_cost}
use Rattle.pict_turns.specs.Views.{ready_words, view_with_turn, acting_words}
use Rattle.pict_turns.specs.Widths.{how_many}
use Rattle.pict_turns.specs.declared.store.Store.{Store}
use Rattle.pict_turns.specs.Needs.{turn_widths, MakesNeeded}
use Rattle.pict_turns.specs.Shown.{label_shown, IsShownOf}
use Rattle.pict_turns.specs.declared.event.Shown.{Shown}
use Rattle.pict_turns.specs.declared.event.Shown.TheVariants as shows
use Rattle.pict_turns.specs.Work.{Fits}
use Rattle.pict_turns.specs.Growing.{AddsNeeded}
use Rattle.pict_turns.specs.Plain.{ActsInPlace, TakesNoMemory}

-- Somebody has the turn now: who had it, or else the first of queue 0, whose block is free then. The same are ready, in the same
-- order, and nothing else has changed but work, and the values of levels.
pub record GivesTurn (core : Process) (old new : Store) : Type 0 where
  pub acting : HasActing core new
  pub ready : ready_words core new ≡ ready_words core old
  pub others : KeepsOtherContents old.queues new.queues 0
  pub queues : length new.queues.queues ≡ length old.queues.queues
  pub spare_queues : new.queues.spare_queues ≡ old.queues.spare_queues
  pub heap : new.desk.heap ≡ old.desk.heap
  pub no_more : HoldsNoMore old.queues new.queues
  pub blocks : KeepsBlocks old.queues.region new.queues.region
  pub freed : (width : ℕ) → spare old.queues.region width + how_many width (turn_widths core new)
      ≤ spare new.queues.region width + how_many width (turn_widths core old)
  pub spare : (width : ℕ) → spare old.queues.region width ≤ spare new.queues.region width
  pub work : CostsAtMost (turn_cost core new) old.queues new.queues

-- Somebody has the turn, whose step isn't wrong, and there may be a channel more.
pub record MayAct (code : List Node) (s : Store) : Type 0 where
  pub code_is : IsCode (map plain_node code)
  pub acting : HasActing (core_in code) s
  pub few : length s.queues.queues < 2 ^ 32
  pub right : IsRight (core_in code) s

-- The step is done, and the event has its label, by words of the heap afterwards.
pub record IsSeen (core : Process) (old new : Store) (e : Shown) : Type 0 where
  pub done : IsDone core old new (label_shown new.desk.heap e)
  pub event : IsShownOf new.desk.heap e

-- The step is done and seen, or it divides by zero, and then nothing has changed but room, spare blocks and work.
abbrev pub Acts : Process → Store → Store → Shown → Type 0
Acts core old new shows.Quiet = IsSeen core old new shows.Quiet
Acts core old new (shows.Comm channel value) = IsSeen core old new (shows.Comm channel value)
Acts core old new (shows.Print word) = IsSeen core old new (shows.Print word)
Acts core old new (shows.Trapped at) = (next_view (view_with_turn core old) ≡ Stops at) × IsRefused core old new

-- What the answer says of the step: it did what its event says, or memory was wanting, and then nothing has changed but room,
-- spare blocks and work.
abbrev pub IsStepBy : Process → Store → Store → Result Shown AllocError → Type 0
IsStepBy core old new (Ok e) = Acts core old new e
IsStepBy core old new (Err e) = IsRefused core old new

-- What a whole step of who has the turn promises, by this code: it is done and seen as its event says, or refused; its work is at most
-- its cost; it makes blocks only where fewer are free than it needs, and adds no more to the heap than it needs; and where a message and
-- an input meet plainly, it is done and takes no memory.
pub record StepsBy (code : List Node) (old new : Store) (result : Result Shown AllocError) : Type 0 where
  pub step : IsStepBy (core_in code) old new result
  pub work : Fits (core_in code) old new
  pub blocks : MakesNeeded (core_in code) old new
  pub adds : AddsNeeded (core_in code) old new
  pub plain : ActsInPlace (core_in code) old (acting_words (core_in code) old) → TakesNoMemory old new result
