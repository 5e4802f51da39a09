-- Steps where communications may be passed over: such a one needs no word of what is received.
use Rattle.std.specs.Prelude.{◌≡◌, ◌⊎◌, ℕ, Bool, IsTrue, List, Result, Ok}
use Rattle.std.specs.declared.alloc.AllocError.{AllocError}
use Rattle.pict_core.specs.Step.{Comm}
use Rattle.pict_core.specs.Term.{Process, Val}
use Rattle.pict_code.specs.declared.instruction.Node.{Node}
use Rattle.pict_desk.specs.Code.{core_in}
use Rattle.pict_turns.specs.Acting.{IsDone}
use Rattle.pict_turns.specs.Growing.{AddsNeeded}
use Rattle.pict_turns.specs.Needs.{MakesNeeded}
use Rattle.pict_turns.specs.Plain.{ActsInPlace, TakesNoMemory}
use Rattle.pict_turns.specs.Stepping.{IsStepBy}
use Rattle.pict_turns.specs.Views.{acting_words}
use Rattle.pict_turns.specs.Work.{Fits}
use Rattle.pict_turns.specs.declared.store.Store.{Store}
use Rattle.pict_turns.specs.declared.event.Shown.{Shown}
use Rattle.pict_turns.specs.declared.event.Shown.TheVariants.{Quiet}

-- Communications are passed over, and the step is done and is one. It shows nothing.
pub record PassesOver (passes : Bool) (core : Process) (old new : Store) (result : Result Shown AllocError) : Type 0 where
  pub told : IsTrue passes
  pub shows : result ≡ Ok Quiet
  pub channel : ℕ
  pub value : Val
  pub done : IsDone core old new (Comm channel value)

-- What the answer says of the step where communications are passed over: it did what its event says, or was such a communication, or
-- memory was wanting, and then nothing has changed but room, spare blocks and work.
abbrev pub IsStepOrPassed : Bool → Process → Store → Store → Result Shown AllocError → Type 0
IsStepOrPassed passes core old new result = IsStepBy core old new result ⊎ PassesOver passes core old new result

-- What a whole step of who has the turn promises where communications are passed over: what any step promises, but that a
-- communication may show nothing.
pub record StepsOrPasses (passes : Bool) (code : List Node) (old new : Store) (result : Result Shown AllocError) : Type 0 where
  pub step : IsStepOrPassed passes (core_in code) old new result
  pub work : Fits (core_in code) old new
  pub blocks : MakesNeeded (core_in code) old new
  pub adds : AddsNeeded (core_in code) old new
  pub plain : ActsInPlace (core_in code) old (acting_words (core_in code) old) → TakesNoMemory old new result
