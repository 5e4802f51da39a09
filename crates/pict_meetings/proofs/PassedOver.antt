-- Steps where communications may be passed over, and those that do what their events say.
use Rattle.std.proofs.Common.{Bool, false, List, refl, ⊎_elim, inl, inr, Result}
use Rattle.std.specs.declared.alloc.AllocError.{AllocError}
use Rattle.pict_core.specs.Term.{Process}
use Rattle.pict_code.specs.declared.instruction.Node.{Node}
use Rattle.pict_queue.specs.QueuesState.{QueuesState}
use Rattle.pict_blocks.specs.Writing.{OnlyWorks}
use Rattle.pict_desk.specs.Code.{core_in}
use Rattle.pict_turns.specs.Stepping.{MayAct, IsStepBy, StepsBy}
use Rattle.pict_turns.specs.declared.store.Store.{Store}
use Rattle.pict_turns.specs.declared.event.Shown.{Shown}
use Rattle.pict_turns.proofs.AfterReading.{reads_works, done_read}
use Rattle.pict_turns.proofs.Passing.{step_worked}
use Rattle.pict_meetings.specs.PassedOver.{PassesOver, IsStepOrPassed, StepsOrPasses}

pub step_or_passed : (passes : Bool) (core : Process) (old new : Store) (r : Result Shown AllocError) → IsStepBy core old new r → IsStepOrPassed passes core old new r
step_or_passed passes core old new r by = inl by

pub steps_or_passes : (passes : Bool) (code : List Node) (old new : Store) (r : Result Shown AllocError) → StepsBy code old new r → StepsOrPasses passes code old new r
steps_or_passes passes code old new r by = record { step = inl by.step; work = by.work; blocks = by.blocks; adds = by.adds; plain = by.plain }

none_passed : (core : Process) (old new : Store) (r : Result Shown AllocError) → PassesOver false core old new r → IsStepBy core old new r
none_passed core old new r p = let told = p.told in absurd (cc told)

pub steps_always : (code : List Node) (old new : Store) (r : Result Shown AllocError) → StepsOrPasses false code old new r → StepsBy code old new r
steps_always code old new r over = record {
  step = ⊎_elim (λ (by : IsStepBy (core_in code) old new r). by) (none_passed (core_in code) old new r) over.step;
  work = over.work;
  blocks = over.blocks;
  adds = over.adds;
  plain = over.plain;
}

module _ (code : List Node) (s : Store) (queues : QueuesState) (works : OnlyWorks s.queues queues) (m : MayAct code s) (passes : Bool) (new : Store) (r : Result Shown AllocError) where
  abbrev worked : Store
  worked = record s { queues = queues }

  passed_worked : PassesOver passes (core_in code) worked new r → PassesOver passes (core_in code) s new r
  passed_worked p = record {
    told = p.told;
    shows = p.shows;
    channel = p.channel;
    value = p.value;
    done = done_read s worked (reads_works s queues m.acting.store.pairs works) (core_in code) refl new _ p.done;
  }

  -- a step is one still where queues worked before
  pub worked_or_passed : IsStepOrPassed passes (core_in code) worked new r → IsStepOrPassed passes (core_in code) s new r
  worked_or_passed = ⊎_elim (λ by. inl (step_worked code s queues works m new r by)) (λ p. inr (passed_worked p))
