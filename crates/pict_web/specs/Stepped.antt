-- What stands after a call for the steps of a run: their lines.
use Rattle.std.specs.Prelude.{◌≡◌, ℕ, List}
use Rattle.pict_syntax.specs.declared.source.Source.{Source}
use Rattle.pict_core.specs.Term.{Process}
use Rattle.pict_stepper.specs.declared.run.Run.{Run}
use Rattle.pict_stepper.specs.Steps.{IsRun}
use Rattle.pict_stepper.specs.Lines.{run_lines}
use Rattle.pict_web.specs.Told.{Telling}

-- the lines of the first 1,000 steps of a process' run
pub record StepsOf (names : List (List ℕ)) (sources : List Source) (core : Process) (lines : List ℕ) : Type 0 where
  pub run : Run
  pub is : IsRun core 1000 run
  pub written : lines ≡ run_lines names sources run

-- those of an accepted file
abbrev pub steps_of : Telling
steps_of accepted = StepsOf accepted.front.names accepted.sources accepted.front.core
