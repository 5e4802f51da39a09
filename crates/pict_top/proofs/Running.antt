-- What the machine's run says of the run of a process.
use Rattle.std.proofs.Common.{◌≡◌, ℕ, List, [], ◌∷◌, ◌++◌, refl, ap, subst, arith}
use Rattle.pict_outside.proofs.Gaining.{front_of_none}
use Rattle.pict_core.specs.Term.{Process}
use Rattle.pict_core.specs.Configuration.{Configuration, opening}
use Rattle.pict_core.specs.Step.{Label}
use Rattle.pict_core.specs.Run.{printed_by, steps_done}
use Rattle.pict_view.specs.Right.{RunsRight}
use Rattle.pict_machine.specs.Events.{end_of}
use Rattle.pict_machine.specs.declared.event.End.{End}
use Rattle.pict_view.specs.View.{View}
use Rattle.pict_view.specs.Watching.{Ran, BrokeOff, Saw, SawOrTore}
use Rattle.pict_top.specs.Answer.{Shows, Writing}
use Rattle.pict_top.specs.Changes.{SinkChange, Gained, GainedFront, FailedWithin, Failed, Untouched}
use Rattle.pict_top.specs.Printed.{form_of, shown_in, written_in, written_after, WrittenInPart, Finished, Somehow}
use Rattle.pict_top.specs.declared.form.Form.{Form}
use Rattle.pict_top.specs.declared.form.Form.TheVariants.{Printed, Line}
use Rattle.pict_top.proofs.Continuing.{continues_from}
use Rattle.pict_top.proofs.Written.{saw_all, saw_part}

-- what is written label by label is what is shown of all
pub written_is_shown : (form : Form) (names : List (List ℕ)) (steps : ℕ) (end : End) (labels : List (ℕ × Label)) → written_in (form_of form names) labels ≡ shown_in form names steps end labels
written_is_shown Printed names steps end [] = refl
written_is_shown Printed names steps end (l ∷ ls) = ap (λ b. printed_by l.1 ++ b) (written_is_shown Printed names steps end ls)
written_is_shown Line names steps end labels = refl

module _ (form : Form) (names : List (List ℕ)) (p : Process) (fuel : ℕ) where
  pub has_run : (v : View) (out : SinkChange) (end : End) → Ran (opening p) fuel (end_of end) v (Saw (written_after (form_of form names)) out.old_taken out.new_taken)
      → Finished (Shows p fuel (shown_in form names)) end out
  has_run v out end ran =
      let written = saw_all (form_of form names) out.old_taken out.new_taken ran.labels ran.seen in
      let steps : ℕ = steps_done (end_of end) ran.runs.steps in
      record {
        bytes = shown_in form names steps end ran.labels;
        does = record { labels = ran.labels; runs = ran.runs; shows = refl };
        written = subst (Gained out) (written_is_shown form names steps end ran.labels) written;
      }

module _ (form : Form) (names : List (List ℕ)) (p : Process) (fuel : ℕ) (right : RunsRight p fuel) where
  -- work that broke off wrote a beginning of what is written of the whole run
  pub some_run_part : (Stands : Configuration → Type 0) (out : SinkChange) → BrokeOff (opening p) fuel Stands (SawOrTore (written_after (form_of form names)) (WrittenInPart (form_of form names)) out.old_taken out.new_taken)
      → Somehow (Shows p fuel (shown_in form names)) (GainedFront out)
  some_run_part Stands out broke =
      let on = continues_from broke.steps (opening p) fuel broke.labels broke.last right broke.few broke.reached in
      let labels : List (ℕ × Label) = broke.labels ++ on.rest in
      let steps : ℕ = steps_done (end_of on.end) on.runs.steps in
      record {
        end = on.end;
        bytes = shown_in form names steps on.end labels;
        does = record { labels = labels; runs = on.runs; shows = refl };
        holds = subst (GainedFront out) (written_is_shown form names steps on.end labels) (saw_part (form_of form names) out.old_taken out.new_taken broke.labels on.rest broke.seen);
      }

  pub some_run_failed : (Stands : Configuration → Type 0) (out : SinkChange) → BrokeOff (opening p) fuel Stands (SawOrTore (written_after (form_of form names)) (WrittenInPart (form_of form names)) out.old_taken out.new_taken)
      → Failed out → Somehow (Shows p fuel (shown_in form names)) (FailedWithin out)
  some_run_failed Stands out broke failed =
      let some = some_run_part Stands out broke in
      record { end = some.end; bytes = some.bytes; does = some.does; holds = record { part = some.holds; failed = failed } }

-- a process that runs rightly has a run
pub some_run : (p : Process) (fuel : ℕ) (written : Writing) (out : SinkChange) → RunsRight p fuel → Untouched out → Somehow (Shows p fuel written) (GainedFront out)
some_run p fuel written out right kept =
    let on = continues_from 0 (opening p) fuel [] (opening p) right (omega arith) (refl, refl) in
    let bytes : List ℕ = written (steps_done (end_of on.end) on.runs.steps) on.end on.rest in
    record { end = on.end; bytes = bytes; does = record { labels = on.rest; runs = on.runs; shows = refl }; holds = front_of_none out.old_taken out.new_taken bytes kept }
