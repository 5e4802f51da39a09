-- Ends of guarded runs are those of runs.
use Rattle.std.proofs.Common.{◌≡◌, refl}
use Rattle.pict_core.specs.Run as run
use Rattle.pict_exec.specs.Ends.{end_of}
use Rattle.pict_exec.specs.declared.guarded.ExecEnd.{ExecEnd}
use Rattle.pict_exec.specs.declared.guarded.ExecEnd.TheVariants as guarded

-- the end of a guarded run that is this end of a run
abbrev pub guarded_end : run.End → ExecEnd
guarded_end run.Done = guarded.Done
guarded_end run.FuelSpent = guarded.FuelSpent
guarded_end (run.Trap at) = guarded.Trap at
guarded_end run.Misshapen = guarded.Misshapen

pub end_again : (end : run.End) → end_of (guarded_end end) ≡ end
end_again run.Done = refl
end_again run.FuelSpent = refl
end_again (run.Trap at) = refl
end_again run.Misshapen = refl

pub known_end : (end : ExecEnd) → guarded_end (end_of end) ≡ end
known_end guarded.Done = refl
known_end guarded.FuelSpent = refl
known_end (guarded.Trap at) = refl
known_end guarded.Misshapen = refl
