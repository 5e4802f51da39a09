-- How guarded runs end.
use Rattle.std.specs.Prelude.{ℕ, List}
use Rattle.pict_core.specs.Configuration.{Configuration}
use Rattle.pict_core.specs.Run as run
use Rattle.pict_core.specs.Run.{End, Runs}
use Rattle.pict_core.specs.Step.{Label}
use Rattle.pict_core.specs.Term.{Process}
use Rattle.pict_exec.specs.declared.guarded.ExecEnd.{ExecEnd}
use Rattle.pict_exec.specs.declared.guarded.ExecEnd.TheVariants as end

abbrev pub end_of : ExecEnd → End
end_of end.Done = run.Done
end_of end.FuelSpent = run.FuelSpent
end_of (end.Trap at) = run.Trap at
end_of end.Misshapen = run.Misshapen

-- the run of the process with this fuel has this end, and what was seen fits its labels
pub record Executed (p : Process) (fuel : ℕ) (end : End) (Seen : List (ℕ × Label) → Type 0) : Type 0 where
  pub labels : List (ℕ × Label)
  pub runs : Runs p fuel end labels
  pub seen : Seen labels

-- whatever the configuration is
abbrev pub Anywhere : Configuration → Type 0
Anywhere C = Unit {0}
