-- What is written of the run of an object's process.
use Rattle.std.specs.Prelude.{ℕ, List}
use Rattle.pict_core.specs.Term.{Process}
use Rattle.pict_core.specs.Step.{Label}
use Rattle.pict_core.specs.Run.{Runs, bytes_of}
use Rattle.pict_exec.specs.Ends.{end_of}
use Rattle.pict_exec.specs.declared.guarded.ExecEnd.{ExecEnd}
use Rattle.pict_top.specs.Changes.{SinkChange, Gained}

-- the process runs with this fuel to this end, and what that prints was written
pub record RanTo (p : Process) (fuel : ℕ) (end : ExecEnd) (out : SinkChange) : Type 0 where
  pub labels : List (ℕ × Label)
  pub runs : Runs p fuel (end_of end) labels
  pub written : Gained out (bytes_of labels)

-- the process has a run with this fuel, whatever its end, and P of the bytes that it prints
pub record RanSomehow (p : Process) (fuel : ℕ) (P : List ℕ → Type 0) : Type 0 where
  pub end : ExecEnd
  pub labels : List (ℕ × Label)
  pub runs : Runs p fuel (end_of end) labels
  pub holds : P (bytes_of labels)
