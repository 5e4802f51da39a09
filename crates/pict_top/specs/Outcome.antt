-- What a command comes to, by the answer to its file, where no device fails.
use Rattle.std.specs.Prelude.{ℕ, ◌-◌, List, [], ◌∷◌, ◌++◌, length, codes}
use Rattle.std.specs.Fmt.{decimal}
use Rattle.pict_syntax.specs.declared.source.Source.{Source}
use Rattle.pict_machine.specs.declared.event.End.{End}
use Rattle.pict_machine.specs.declared.event.End.TheVariants.{Done, FuelSpent, Trap}
use Rattle.pict_exec.specs.declared.guarded.ExecEnd.{ExecEnd}
use Rattle.pict_exec.specs.declared.guarded.ExecEnd.TheVariants as guarded
use Rattle.pict_replay.specs.declared.judging.Verdict.{Verdict}
use Rattle.pict_replay.specs.declared.judging.Verdict.TheVariants.{Yes, No}
use Rattle.pict_top.specs.Answer.{Answer, Absent, Refusal, Ended, Judged, Executed}
use Rattle.pict_report.specs.Reports.{source_at, position_of, missing_report, refusal_report, fault_report, usage_report, spent_report, trap_report, object_trap_report, misshapen_report}
use Rattle.pict_top.specs.declared.status.Status.{Status}
use Rattle.pict_top.specs.declared.status.Status.TheVariants as status

-- the status, the bytes on the output and the text on the error output
pub record Outcome : Type 0 where
  pub status : Status
  pub printed : List ℕ
  pub report : List ℕ

abbrev pub status_of_end : End → Status
status_of_end Done = status.Done
status_of_end FuelSpent = status.FuelSpent
status_of_end (Trap at) = status.Trap

-- what is reported of an end, which may stand in any of the texts: nothing of work that is done
abbrev pub report_of_end : List Source → End → List ℕ
report_of_end sources Done = []
report_of_end sources FuelSpent = spent_report
report_of_end sources (Trap at) = trap_report (position_of sources at)

-- a line that tells a verdict: `yes`, or `no` and the first step at fault
abbrev pub verdict_line : Verdict → List ℕ
verdict_line Yes = codes "yes" ++ 10 ∷ []
verdict_line (No number) = codes "no " ++ (decimal number ++ 10 ∷ [])

abbrev pub status_of_verdict : Verdict → Status
status_of_verdict Yes = status.Done
status_of_verdict (No number) = status.Rejected

abbrev pub status_of_guarded : ExecEnd → Status
status_of_guarded guarded.Done = status.Done
status_of_guarded guarded.FuelSpent = status.FuelSpent
status_of_guarded (guarded.Trap at) = status.Trap
status_of_guarded guarded.Misshapen = status.Misshapen

-- what is reported of the end of an object's run, with the name of the object: it has no places
abbrev pub report_of_guarded : List ℕ → ExecEnd → List ℕ
report_of_guarded object guarded.Done = []
report_of_guarded object guarded.FuelSpent = spent_report
report_of_guarded object (guarded.Trap at) = object_trap_report object
report_of_guarded object guarded.Misshapen = misshapen_report object

-- by the answer
abbrev pub outcome_of : Answer → Outcome
outcome_of (Absent name) = record { status = status.Missing; printed = []; report = missing_report name }
outcome_of (Refusal sources code span) = record { status = status.Refused; printed = []; report = refusal_report (position_of sources span) code }
outcome_of (Ended sources end bytes) = record { status = status_of_end end; printed = bytes; report = report_of_end sources end }
outcome_of (Judged verdict) = record { status = status_of_verdict verdict; printed = verdict_line verdict; report = [] }
outcome_of (Executed object end bytes) = record { status = status_of_guarded end; printed = bytes; report = report_of_guarded object end }

-- the name of the last of these texts; none where there is no text
abbrev pub last_name : List Source → List ℕ
last_name sources = (source_at sources (length sources - 1)).name

-- the outcome where the shelf fails that was asked for the last of these texts
abbrev pub read_fault : List Source → Outcome
read_fault sources = record { status = status.ReadFault; printed = []; report = fault_report (last_name sources) }

-- the outcome of words of no listed shape
abbrev pub usage_outcome : Outcome
usage_outcome = record { status = status.Usage; printed = []; report = usage_report }
