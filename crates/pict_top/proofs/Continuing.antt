-- Each process that runs rightly has a run, and steps that were done are the first of it.
use Rattle.std.proofs.Common.{ℕ, ◌≤◌, List, ◌++◌}
use Rattle.pict_core.specs.Configuration.{Configuration}
use Rattle.pict_core.specs.Step.{Label}
use Rattle.pict_core.specs.Run as run
use Rattle.pict_core.specs.Run.{Reaches, RunsFrom}
use Rattle.pict_view.specs.Right.{StepsRight}
use Rattle.pict_machine.specs.Events.{end_of}
use Rattle.pict_machine.specs.declared.event.End.{End}
use Rattle.pict_machine.specs.declared.event.End.TheVariants.{Done, FuelSpent, Trap}
use Rattle.pict_top.proofs.Beyond.{goes_on_from}

-- a run whose labels begin with these
pub record RunsBeyond (C : Configuration) (fuel : ℕ) (front : List (ℕ × Label)) : Type 0 where
  pub end : End
  pub rest : List (ℕ × Label)
  pub runs : RunsFrom C fuel (end_of end) (front ++ rest)

-- its end is none by a wrong step
of_end : (C : Configuration) (fuel : ℕ) (front rest : List (ℕ × Label)) (end : run.End) → StepsRight C fuel → RunsFrom C fuel end (front ++ rest) → RunsBeyond C fuel front
of_end C fuel front rest run.Done right r = record { end = Done; rest = rest; runs = r }
of_end C fuel front rest run.FuelSpent right r = record { end = FuelSpent; rest = rest; runs = r }
of_end C fuel front rest (run.Trap at) right r = record { end = Trap at; rest = rest; runs = r }
of_end C fuel front rest run.Misshapen right r = absurd (right r.steps (front ++ rest) r.last r.ends.0 r.reached r.ends.1)

pub continues_from : (n : ℕ) (C : Configuration) (fuel : ℕ) (ls : List (ℕ × Label)) (D : Configuration) → StepsRight C fuel → n ≤ fuel → Reaches n C ls D → RunsBeyond C fuel ls
continues_from n C fuel ls D right few reached = let b = goes_on_from n C fuel ls D few reached in of_end C fuel ls b.rest b.end right b.runs
