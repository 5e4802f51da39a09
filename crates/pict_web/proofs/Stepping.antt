-- The lines of steps.
use Rattle.std.proofs.Common.{◌≡◌, ℕ, List, IfOk, Result, Ok, Err}
use Rattle.std.specs.Prelude.{Vec}
use Rattle.std.specs.declared.alloc.Global.{Global}
use Rattle.std.specs.declared.alloc.AllocError.{AllocError}
use Rattle.pict_syntax.specs.declared.source.Source.{Source}
use Rattle.pict_core.specs.Term.{Process}
use Rattle.pict_stepper.specs.declared.run.Run.{Run}
use Rattle.pict_stepper.specs.Steps.{IsRun}
use Rattle.pict_stepper.specs.Lines.{run_lines}
use Rattle.pict_web.specs.Stepped.{StepsOf}

-- what is written of a run that was followed
pub written : (names : List (List ℕ)) (sources : List Source) (core : Process) (run : Run) (result : Result (Vec ℕ Global) AllocError)
    → IsRun core 1000 run → IfOk result (λ out. out.items ≡ run_lines names sources run) → IfOk result (λ lines. StepsOf names sources core lines.items)
written names sources core run (Ok out) is e = record { run = run; is = is; written = e }
written names sources core run (Err e) is none = tt
