-- What stands after each status of a command.
use Rattle.std.specs.Prelude.{◌≡◌, ◌⊎◌, ℕ, List}
use Rattle.pict_syntax.specs.declared.source.Source.{Source}
use Rattle.pict_top.specs.Outcome.{Outcome}
use Rattle.pict_top.specs.Changes.{SinkChange, Untouched, Gained, GainedFront, FailedWithin}
use Rattle.pict_machine.specs.declared.event.End.{End}
use Rattle.pict_machine.specs.declared.event.End.TheVariants.{Done, FuelSpent, Trap}
use Rattle.pict_exec.specs.declared.guarded.ExecEnd.{ExecEnd}
use Rattle.pict_exec.specs.declared.guarded.ExecEnd.TheVariants as guarded
use Rattle.pict_report.specs.Reports.{position_of, spent_report, trap_report, object_trap_report, misshapen_report}
use Rattle.pict_top.specs.declared.status.Status.{Status}
use Rattle.pict_top.specs.declared.status.Status.TheVariants as status
use Rattle.pict_top.specs.declared.status.Status.TheVariants.{ReadFault, WriteFault, Memory}

-- the bytes and the report of an outcome were written whole
pub record Delivers (out err : SinkChange) (o : Outcome) : Type 0 where
  pub printed : Gained out o.printed
  pub reported : Gained err o.report

-- a sink failed before they were written whole
abbrev pub Breaks : SinkChange → SinkChange → Outcome → Type 0
Breaks out err o = (FailedWithin out o.printed × Untouched err) ⊎ (Gained out o.printed × FailedWithin err o.report)

-- the status of an outcome: no device failed, and memory sufficed
abbrev pub IsDecided : Status → Type 0
IsDecided ReadFault = ⊥
IsDecided WriteFault = ⊥
IsDecided Memory = ⊥
IsDecided status = Unit {0}

-- some outcome of these has P
abbrev pub SomeOutcome : (Outcome → Type 0) → (Outcome → Type 0) → Type 0
SomeOutcome Owes P = (o : Outcome) × Owes o × P o

-- What stands after a status. Owes says which outcomes the command may come to, Faults which where the shelf fails, and
-- failed that the shelf's count of faults rose.
abbrev pub Meets : (Outcome → Type 0) → (Outcome → Type 0) → Type 0 → SinkChange → SinkChange → Status → Type 0
Meets Owes Faults failed out err ReadFault = failed × SomeOutcome Faults (λ o. Untouched out × Gained err o.report)
Meets Owes Faults failed out err WriteFault =
    SomeOutcome Owes (Breaks out err) ⊎ (failed × SomeOutcome Faults (λ o. Untouched out × FailedWithin err o.report))
Meets Owes Faults failed out err Memory = Untouched err × (Untouched out ⊎ SomeOutcome Owes (λ o. GainedFront out o.printed))
Meets Owes Faults failed out err status = SomeOutcome Owes (λ o. (o.status ≡ status) × Delivers out err o)

-- a text was written on the error output behind this status, or the error output failed
abbrev pub Tells : Status → List ℕ → SinkChange → Status → Type 0
Tells status text err result = ((result ≡ status) × Gained err text) ⊎ ((result ≡ WriteFault) × FailedWithin err text)

-- the same, or memory ran out for the text
abbrev pub Reports : Status → List ℕ → SinkChange → Status → Type 0
Reports status text err result = Tells status text err result ⊎ ((result ≡ Memory) × Untouched err)

-- what is reported behind the end of the work: nothing of work that is done
abbrev pub EndReports : List Source → End → SinkChange → Status → Type 0
EndReports sources Done err result = (result ≡ status.Done) × Untouched err
EndReports sources FuelSpent err result = Tells status.FuelSpent spent_report err result
EndReports sources (Trap at) err result = Reports status.Trap (trap_report (position_of sources at)) err result

-- the same of the end of an object's run
abbrev pub RunReports : List ℕ → ExecEnd → SinkChange → Status → Type 0
RunReports object guarded.Done err result = (result ≡ status.Done) × Untouched err
RunReports object guarded.FuelSpent err result = Tells status.FuelSpent spent_report err result
RunReports object (guarded.Trap at) err result = Reports status.Trap (object_trap_report object) err result
RunReports object guarded.Misshapen err result = Reports status.Misshapen (misshapen_report object) err result
