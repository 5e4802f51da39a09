-- What the run of an object comes to.
use Rattle.std.proofs.Common.{◌≡◌, ℕ, ◌≤◌, List, [], length, refl, sym, subst, ◌++◌}
use Rattle.pict_syntax.specs.declared.limits.TheConstants.{OBJECT_LIMIT}
use Rattle.pict_core.specs.Term.{Process}
use Rattle.pict_core.specs.Step.{Label}
use Rattle.pict_core.specs.Configuration.{Configuration, opening}
use Rattle.pict_core.specs.Run.{Runs, bytes_of}
use Rattle.pict_gather.specs.Fetching.{Fetch, text}
use Rattle.pict_object.specs.Decoded.{IsDecoded}
use Rattle.pict_built.specs.Laws.{AreBytes}
use Rattle.pict_exec.specs.Ends.{end_of, Executed}
use Rattle.pict_exec.specs.declared.guarded.ExecEnd.{ExecEnd}
use Rattle.pict_exec.specs.declared.guarded.ExecEnd.TheVariants as guarded
use Rattle.pict_view.specs.Watching.{BrokeOff, Saw, SawOrTore}
use Rattle.pict_outside.proofs.Gaining.{appends_nothing}
use Rattle.pict_top.specs.Answer as answers
use Rattle.pict_top.specs.Answer.{RunsObject, executed}
use Rattle.pict_top.specs.Changes.{SinkChange, Gained, GainedFront, FailedWithin, Failed}
use Rattle.pict_top.specs.Guarded.{RanTo, RanSomehow}
use Rattle.pict_top.specs.Meets.{Meets, RunReports, SomeOutcome}
use Rattle.pict_top.specs.Outcome.{outcome_of}
use Rattle.pict_top.specs.Owed.{OwesRun}
use Rattle.pict_top.specs.Printed.{form_of, written_in, written_after, WrittenInPart}
use Rattle.pict_top.specs.declared.form.Form.TheVariants.{Printed}
use Rattle.pict_machine.specs.declared.event.End.TheVariants.{Done}
use Rattle.pict_top.specs.declared.status.Status.{Status}
use Rattle.pict_top.proofs.Beyond.{goes_on_from}
use Rattle.pict_top.proofs.GuardedEnds.{guarded_end, end_again}
use Rattle.pict_top.proofs.Meeting.{told, reported, delivered}
use Rattle.pict_top.proofs.Running.{written_is_shown}
use Rattle.pict_top.proofs.Written.{saw_all, saw_part}

-- ---- what is written

module _ (names : List (List ℕ)) (p : Process) (fuel : ℕ) where
  written : (labels : List (ℕ × Label)) → written_in (form_of Printed names) labels ≡ bytes_of labels
  written labels = written_is_shown Printed names 0 Done labels

  pub ran_to : (end : ExecEnd) (out : SinkChange) → Executed p fuel (end_of end) (Saw (written_after (form_of Printed names)) out.old_taken out.new_taken) → RanTo p fuel end out
  ran_to end out ran = record {
    labels = ran.labels;
    runs = ran.runs;
    written = subst (Gained out) (written ran.labels) (saw_all (form_of Printed names) out.old_taken out.new_taken ran.labels ran.seen);
  }

  -- what broke off wrote a beginning of what is written of the whole run
  pub some_ran : (Stands : Configuration → Type 0) (out : SinkChange) → BrokeOff (opening p) fuel Stands (SawOrTore (written_after (form_of Printed names)) (WrittenInPart (form_of Printed names)) out.old_taken out.new_taken)
      → RanSomehow p fuel (GainedFront out)
  some_ran Stands out broke =
      let on = goes_on_from broke.steps (opening p) fuel broke.labels broke.last broke.few broke.reached in
      let labels : List (ℕ × Label) = broke.labels ++ on.rest in
      record {
        end = guarded_end on.end;
        labels = labels;
        runs = subst (λ e. Runs p fuel e labels) (sym (end_again on.end)) on.runs;
        holds = subst (GainedFront out) (written labels) (saw_part (form_of Printed names) out.old_taken out.new_taken broke.labels on.rest broke.seen);
      }

  pub some_ran_failed : (Stands : Configuration → Type 0) (out : SinkChange) → BrokeOff (opening p) fuel Stands (SawOrTore (written_after (form_of Printed names)) (WrittenInPart (form_of Printed names)) out.old_taken out.new_taken)
      → Failed out → RanSomehow p fuel (FailedWithin out)
  some_ran_failed Stands out broke failed =
      let some = some_ran Stands out broke in record { end = some.end; labels = some.labels; runs = some.runs; holds = record { part = some.holds; failed = failed } }

-- ---- what that comes to

module _ (G : List ℕ → Fetch → Type 0) (object t : List ℕ) (fuel : ℕ) (gives : G object (text t)) (few : length t ≤ OBJECT_LIMIT) (fits : AreBytes t)
    (names : List (List ℕ)) (p : Process) (is : IsDecoded [] names t p) where
  owed : (end : ExecEnd) (labels : List (ℕ × Label)) → Runs p fuel (end_of end) labels → OwesRun G object fuel (outcome_of (answers.Executed object end (bytes_of labels)))
  owed end labels runs = (_, executed gives few fits (record { names = names; process = p; is = is; labels = labels; runs = runs; prints = refl }), refl)

  -- some outcome of the run has what is so of the bytes that it prints
  pub some_outcome : (P : List ℕ → Type 0) → RanSomehow p fuel P → SomeOutcome (OwesRun G object fuel) (λ o. P o.printed)
  some_outcome P some = (outcome_of (answers.Executed object some.end (bytes_of some.labels)), owed some.end some.labels some.runs, some.holds)

  -- the run came to its end, and that was reported
  pub came_to_end : (end : ExecEnd) (out err : SinkChange) (s : Status) → RanTo p fuel end out → RunReports object end err s → Meets (OwesRun G object fuel) (λ o. ⊥) ⊥ out err s
  came_to_end guarded.Done out err s ran reports =
      delivered _ _ _ _ _ _ (outcome_of (answers.Executed object guarded.Done (bytes_of ran.labels))) (owed guarded.Done ran.labels ran.runs) tt ran.written (appends_nothing _ _ reports.1) reports.0
  came_to_end guarded.FuelSpent out err s ran reports =
      told _ _ _ _ _ _ (outcome_of (answers.Executed object guarded.FuelSpent (bytes_of ran.labels))) (owed guarded.FuelSpent ran.labels ran.runs) tt ran.written reports
  came_to_end (guarded.Trap at) out err s ran reports =
      reported _ _ _ _ _ _ (outcome_of (answers.Executed object (guarded.Trap at) (bytes_of ran.labels))) (owed (guarded.Trap at) ran.labels ran.runs) tt ran.written reports
  came_to_end guarded.Misshapen out err s ran reports =
      reported _ _ _ _ _ _ (outcome_of (answers.Executed object guarded.Misshapen (bytes_of ran.labels))) (owed guarded.Misshapen ran.labels ran.runs) tt ran.written reports
