-- What is written of a picked run.
use Rattle.std.proofs.Common.{◌≡◌, ◌≢◌, ℕ, ◌+◌, ◌<◌, ◌≤◌, List, [], ◌∷◌, ◌++◌, Option, Result, Ok, Err, IfOk, refl, sym, ap, ◌∙◌, subst, append_assoc, arith}
use Rattle.std.proofs.lemmas.List.{append-nil}
use Rattle.std.specs.Io.KnownBytes.{Appends}
use Rattle.std.specs.List.{flat_map}
use Rattle.rand_pcg.specs.Lcg.{Lcg}
use Rattle.pict_outside.specs.Bytes.{AppendsFront}
use Rattle.pict_outside.specs.Counts.{Rose}
use Rattle.pict_outside.proofs.Gaining.{appends_then, appends_nothing, keeps_same, front_of_all, front_of_none}
use Rattle.pict_core.specs.Term.{Process}
use Rattle.pict_core.specs.Closed.{IsClosed}
use Rattle.pict_core.specs.Step.{Label, Quiet, Comm, Print}
use Rattle.pict_core.specs.Run as run
use Rattle.pict_core.specs.Run.{shown, bytes_of, printed_by}
use Rattle.pict_core.specs.Configuration.{Configuration, IsConfiguration}
use Rattle.pict_core.specs.Places.{Place, outcome_at}
use Rattle.pict_reduction.specs.Reached.{NoFreeRunIsWrong}
use Rattle.pict_pick.specs.Picked.{PicksRun}
use Rattle.pict_pick.proofs.OneRun.{picked_runs_are_one}
use Rattle.pict_pick.proofs.Picking.{goes_beyond, seeds_pick_runs}
use Rattle.pict_view.specs.View.{View, StandsFor}
use Rattle.pict_view.specs.Stepping.{LeadsTo}
use Rattle.pict_trace.specs.Lines.{line_text}
use Rattle.pict_machine.specs.Events.{end_of}
use Rattle.pict_top.specs.Changes.{SinkChange, Gained, GainedFront, Untouched, Failed, FailedWithin}
use Rattle.pict_replay.specs.Files.{choice_text}
use Rattle.pict_replay.specs.Files.{trace_line}
use Rattle.pict_top.specs.Picking.{Recording, PicksAndShows, picked_choices, picked_lines, recorded}
use Rattle.pict_top.specs.Notes.{note_text, notes_in, EndsWithoutFuel}
use Rattle.pict_top.specs.Printed.{Finished, Somehow}
use Rattle.pict_top.specs.declared.form.Form.TheVariants.{Printed, Line}
use Rattle.pict_top.specs.declared.notes.Note.{Note}
use Rattle.pict_top.specs.declared.notes.Note.TheVariants.{Choice, Shown}
use Rattle.pict_machine.specs.declared.event.End.{End}
use Rattle.pict_machine.specs.declared.event.End.TheVariants.{Done, FuelSpent, Trap}
use Rattle.pict_top.proofs.Written.{written-append}
use Rattle.pict_top.proofs.Picked.{HasPicked, PicksAt, run_done, run_spent, picked_as, picked_more}

-- ---- what is written of more steps

choices-append : (ps qs : List Place) → flat_map choice_text (ps ++ qs) ≡ flat_map choice_text ps ++ flat_map choice_text qs
choices-append [] qs = refl
choices-append (p ∷ ps) qs = ap (λ b. choice_text p ++ b) (choices-append ps qs) ∙ sym (append_assoc (choice_text p) (flat_map choice_text ps) (flat_map choice_text qs))

bytes-append : (ls ks : List (ℕ × Label)) → bytes_of (ls ++ ks) ≡ bytes_of ls ++ bytes_of ks
bytes-append [] ks = refl
bytes-append (l ∷ ls) ks = ap (λ b. printed_by l.1 ++ b) (bytes-append ls ks) ∙ sym (append_assoc (printed_by l.1) (bytes_of ls) (bytes_of ks))

notes-append : (note : Note) (names : List (List ℕ)) (ps qs : List Place) (ls ks : List (ℕ × Label)) → notes_in note names (ps ++ qs) (ls ++ ks) ≡ notes_in note names ps ls ++ notes_in note names qs ks
notes-append Choice names ps qs ls ks = choices-append ps qs
notes-append (Shown Printed) names ps qs ls ks = bytes-append ls ks
notes-append (Shown Line) names ps qs ls ks = written-append (line_text names) ls ks

-- one step
one_note : (note : Note) (names : List (List ℕ)) (place : Place) (n : ℕ) (label : Label) → notes_in note names (place ∷ []) (shown n label) ≡ note_text note names place n label
one_note Choice names place n label = append-nil (choice_text place)
one_note (Shown Printed) names place n Quiet = refl
one_note (Shown Printed) names place n (Comm c v) = refl
one_note (Shown Printed) names place n (Print bytes) = append-nil bytes
one_note (Shown Line) names place n Quiet = refl
one_note (Shown Line) names place n (Comm c v) = append-nil (line_text names n (Comm c v))
one_note (Shown Line) names place n (Print bytes) = append-nil (line_text names n (Print bytes))

pub notes_more : (note : Note) (names : List (List ℕ)) (ps : List Place) (ls : List (ℕ × Label)) (place : Place) (n : ℕ) (label : Label)
    → notes_in note names (ps ++ place ∷ []) (ls ++ shown n label) ≡ notes_in note names ps ls ++ note_text note names place n label
notes_more note names ps ls place n label =
    notes-append note names ps (place ∷ []) ls (shown n label) ∙ ap (λ b. notes_in note names ps ls ++ b) (one_note note names place n label)

-- ---- beginnings

pub front_longer : (old new : Option (List ℕ)) (xs ys : List ℕ) → AppendsFront old new xs → AppendsFront old new (xs ++ ys)
front_longer old new xs ys f = record {
  front = f.front;
  of_whole = record { rest = f.of_whole.rest ++ ys; joined = sym (append_assoc f.front f.of_whole.rest ys) ∙ ap (λ l. l ++ ys) f.of_whole.joined };
  appended = f.appended;
}

pub front_then : (old mid new : Option (List ℕ)) (xs ys : List ℕ) → Appends old mid xs → AppendsFront mid new ys → AppendsFront old new (xs ++ ys)
front_then old mid new xs ys first f = record {
  front = xs ++ f.front;
  of_whole = record { rest = f.of_whole.rest; joined = append_assoc xs f.front f.of_whole.rest ∙ ap (λ l. xs ++ l) f.of_whole.joined };
  appended = appends_then old mid new xs f.front first f.appended;
}

-- the notes of one more step, whole or in part
module _ (note : Note) (names : List (List ℕ)) (old mid new : Option (List ℕ)) (place : Place) (n : ℕ) (label : Label) where
  pub wrote_more : Appends mid new (note_text note names place n label) → (ps : List Place) (ls : List (ℕ × Label)) → Appends old mid (notes_in note names ps ls) → Appends old new (notes_in note names (ps ++ place ∷ []) (ls ++ shown n label))
  wrote_more more ps ls wrote =
      subst (Appends old new) (sym (notes_more note names ps ls place n label)) (appends_then old mid new (notes_in note names ps ls) (note_text note names place n label) wrote more)

  pub wrote_part : AppendsFront mid new (note_text note names place n label) → (ps : List Place) (ls : List (ℕ × Label)) → Appends old mid (notes_in note names ps ls) → AppendsFront old new (notes_in note names (ps ++ place ∷ []) (ls ++ shown n label))
  wrote_part part ps ls wrote =
      subst (AppendsFront old new) (sym (notes_more note names ps ls place n label)) (front_then old mid new (notes_in note names ps ls) (note_text note names place n label) wrote part)

-- nothing yet
pub wrote_nothing : (note : Note) (names : List (List ℕ)) (told : Option (List ℕ)) → Appends told told (notes_in note names [] [])
wrote_nothing Choice names told = appends_nothing told told (keeps_same told)
wrote_nothing (Shown Printed) names told = appends_nothing told told (keeps_same told)
wrote_nothing (Shown Line) names told = appends_nothing told told (keeps_same told)

-- ---- ends of the work

-- an end that isn't by a wrong step is one of a command's work
pub end_that : (end : run.End) → end ≢ run.Misshapen → (e : End) × (end_of e ≡ end)
end_that run.Done fits = (Done, refl)
end_that run.FuelSpent fits = (FuelSpent, refl)
end_that (run.Trap at) fits = (Trap at, refl)
end_that run.Misshapen fits = absurd (fits refl)

-- a seed picks a run, whatever is written of it
pub some_picked : (p : Process) (seed fuel : ℕ) (written : Recording) → IsClosed p → NoFreeRunIsWrong p → (end : End) × (bytes : List ℕ) × PicksAndShows p seed fuel written end bytes
some_picked p seed fuel written closed right =
    let r = seeds_pick_runs p seed fuel closed right in
    let f = end_that r.0 r.4 in
    (f.0, written r.1 r.2, record { places = r.1; labels = r.2; runs = subst (λ e. PicksRun p seed fuel e r.1 r.2) (sym f.1) r.3; shows = refl })

-- and it is one
pub one_picked : (p : Process) (seed fuel : ℕ) (written : Recording) (e g : End) (a b : List ℕ) → PicksAndShows p seed fuel written e a → PicksAndShows p seed fuel written g b
    → (end_of e ≡ end_of g) × (a ≡ b)
one_picked p seed fuel written e g a b x y =
    let one = picked_runs_are_one p seed fuel (end_of e) (end_of g) x.places y.places x.labels y.labels x.runs y.runs in
    (one.0, x.shows ∙ (λ i. written (one.1 i) (one.2 i)) ∙ sym y.shows)

module _ (p : Process) (seed fuel : ℕ) (note : Note) (names : List (List ℕ)) where
  -- the run came to its end
  pub picked_finished : (end : End) (out : SinkChange) (places : List Place) (labels : List (ℕ × Label)) → PicksRun p seed fuel (end_of end) places labels
      → Gained out (notes_in note names places labels) → Finished (PicksAndShows p seed fuel (notes_in note names)) end out
  picked_finished end out places labels runs wrote =
      record { bytes = notes_in note names places labels; does = record { places = places; labels = labels; runs = runs; shows = refl }; written = wrote }

  pub picked_ended : (steps : ℕ) (v : View) (g : Lcg) (end : End) (out : SinkChange) → steps ≡ fuel → EndsWithoutFuel v.ready end
      → HasPicked p seed steps v g (λ ps ls. Gained out (notes_in note names ps ls)) → Finished (PicksAndShows p seed fuel (notes_in note names)) end out
  picked_ended steps v g Done out all none s = picked_finished Done out s.places s.labels (run_done p seed steps v g _ s fuel (omega (arith, all)) none) s.wrote
  picked_ended steps v g FuelSpent out all some s = picked_finished FuelSpent out s.places s.labels (run_spent p seed steps v g _ s fuel all some) s.wrote
  picked_ended steps v g (Trap at) out all never s = absurd never

  -- it broke off, and what was written is a beginning of what is written of the whole run
  pub picked_part : (steps : ℕ) (v : View) (g : Lcg) (out : SinkChange) → IsClosed p → NoFreeRunIsWrong p → steps ≤ fuel
      → HasPicked p seed steps v g (λ ps ls. GainedFront out (notes_in note names ps ls)) → Somehow (PicksAndShows p seed fuel (notes_in note names)) (GainedFront out)
  picked_part steps v g out closed right few s =
      let on = goes_beyond p seed fuel closed right s.places s.labels s.last g s.picks (omega (arith, few, s.count)) in
      let f = end_that on.0 on.4 in
      let places : List Place = s.places ++ on.1 in
      let labels : List (ℕ × Label) = s.labels ++ on.2 in
      record {
        end = f.0;
        bytes = notes_in note names places labels;
        does = record { places = places; labels = labels; runs = subst (λ e. PicksRun p seed fuel e places labels) (sym f.1) on.3; shows = refl };
        holds = subst (GainedFront out) (sym (notes-append note names s.places on.1 s.labels on.2))
            (front_longer out.old_taken out.new_taken (notes_in note names s.places s.labels) (notes_in note names on.1 on.2) s.wrote);
      }

  -- the same of what is whole so far
  pub picked_so_far : (steps : ℕ) (v : View) (g : Lcg) (out : SinkChange) → IsClosed p → NoFreeRunIsWrong p → steps ≤ fuel
      → HasPicked p seed steps v g (λ ps ls. Gained out (notes_in note names ps ls)) → Somehow (PicksAndShows p seed fuel (notes_in note names)) (GainedFront out)
  picked_so_far steps v g out closed right few s =
      picked_part steps v g out closed right few (picked_as p seed steps v g _ s (λ ps ls. GainedFront out (notes_in note names ps ls)) (λ ps ls. front_of_all out.old_taken out.new_taken (notes_in note names ps ls)))

  -- one more step, whose note was written whole, or in part
  module _ (steps : ℕ) (v w : View) (g h : Lcg) (out : SinkChange) (mid : Option (List ℕ)) (place : Place) (label : Label)
      (s : HasPicked p seed steps v g (λ ps ls. Appends out.old_taken mid (notes_in note names ps ls))) (picks : PicksAt v g place h) (leads : (C : Configuration) → IsConfiguration C → StandsFor v C → LeadsTo (outcome_at C place) label w) where
    pub picked_on : Appends mid out.new_taken (note_text note names place (steps + 1) label) → HasPicked p seed (steps + 1) w h (λ ps ls. Appends out.old_taken out.new_taken (notes_in note names ps ls))
    picked_on all = picked_more p seed steps v g _ s place h label w _ picks leads (wrote_more note names out.old_taken mid out.new_taken place (steps + 1) label all)

    pub picked_torn : IsClosed p → NoFreeRunIsWrong p → steps < fuel → AppendsFront mid out.new_taken (note_text note names place (steps + 1) label) → Somehow (PicksAndShows p seed fuel (notes_in note names)) (GainedFront out)
    picked_torn closed right few part =
        picked_part (steps + 1) w h out closed right (omega (arith, few))
        (picked_more p seed steps v g _ s place h label w (λ ps ls. AppendsFront out.old_taken out.new_taken (notes_in note names ps ls)) picks leads (wrote_part note names out.old_taken mid out.new_taken place (steps + 1) label part))

-- nothing is written
pub picked_nothing : (p : Process) (seed fuel : ℕ) (written : Recording) (out : SinkChange) → IsClosed p → NoFreeRunIsWrong p → Untouched out → Somehow (PicksAndShows p seed fuel written) (GainedFront out)
picked_nothing p seed fuel written out closed right kept =
    let some = some_picked p seed fuel written closed right in
    record { end = some.0; bytes = some.1; does = some.2; holds = front_of_none out.old_taken out.new_taken some.1 kept }

-- work whose sink failed
pub failed_within : (work : End → List ℕ → Type 0) (out : SinkChange) → Failed out → Somehow work (GainedFront out) → Somehow work (FailedWithin out)
failed_within work out failed some = record { end = some.end; bytes = some.bytes; does = some.does; holds = record { part = some.holds; failed = failed } }

pub part_of : (work : End → List ℕ → Type 0) (out : SinkChange) → Somehow work (FailedWithin out) → Somehow work (GainedFront out)
part_of work out some = record { end = some.end; bytes = some.bytes; does = some.does; holds = some.holds.part }

-- a count that rose after a call rose since an earlier one
pub rose_since : (old mid new : ℕ) → old ≤ mid → Rose mid new → Rose old new
rose_since old mid new few rose less = let more = rose less in omega (arith, few, more)

-- ---- choices, and then the trace

module _ (p : Process) (seed fuel : ℕ) (names : List (List ℕ)) where
  abbrev Records : End → List ℕ → Type 0
  Records = PicksAndShows p seed fuel (recorded names)

  recorded_as : (end : End) (bytes : List ℕ) (written : Recording) (x : PicksAndShows p seed fuel written end bytes) → Records end (recorded names x.places x.labels)
  recorded_as end bytes written x = record { places = x.places; labels = x.labels; runs = x.runs; shows = refl }

  -- among the choices
  pub choices_part : (out : SinkChange) → Somehow (PicksAndShows p seed fuel (notes_in Choice names)) (GainedFront out) → Somehow Records (GainedFront out)
  choices_part out some =
      let x = some.does in
      record {
        end = some.end;
        bytes = recorded names x.places x.labels;
        does = recorded_as some.end some.bytes (notes_in Choice names) x;
        holds = front_longer out.old_taken out.new_taken (picked_choices x.places x.labels) (trace_line ++ picked_lines names x.places x.labels) (subst (GainedFront out) x.shows some.holds);
      }

  pub choices_failed : (out : SinkChange) → Somehow (PicksAndShows p seed fuel (notes_in Choice names)) (FailedWithin out) → Somehow Records (FailedWithin out)
  choices_failed out some = failed_within Records out some.holds.failed (choices_part out (part_of (PicksAndShows p seed fuel (notes_in Choice names)) out some))

  -- the choices are written, and the sink has taken this much
  module _ (out : SinkChange) (mid : Option (List ℕ)) (first : End) (bytes : List ℕ) (x : PicksAndShows p seed fuel (notes_in Choice names) first bytes) (wrote : Appends out.old_taken mid bytes) where
    choices : Appends out.old_taken mid (picked_choices x.places x.labels)
    choices = subst (Appends out.old_taken mid) x.shows wrote

    -- in the line between
    pub between : AppendsFront mid out.new_taken trace_line → Somehow Records (GainedFront out)
    between part = record {
      end = first;
      bytes = recorded names x.places x.labels;
      does = recorded_as first bytes (notes_in Choice names) x;
      holds = front_then out.old_taken mid out.new_taken (picked_choices x.places x.labels) (trace_line ++ picked_lines names x.places x.labels) choices
          (front_longer mid out.new_taken trace_line (picked_lines names x.places x.labels) part);
    }

    -- the choices of a second run are those of the first
    again : (other : End) (more : List ℕ) (y : PicksAndShows p seed fuel (notes_in (Shown Line) names) other more) → Appends out.old_taken mid (picked_choices y.places y.labels)
    again other more y =
        let one = picked_runs_are_one p seed fuel (end_of first) (end_of other) x.places y.places x.labels y.labels x.runs y.runs in
        subst (λ (places : List Place). Appends out.old_taken mid (flat_map choice_text places)) one.1 choices

    -- in the trace
    pub trace_part : (behind : Option (List ℕ)) → Appends mid behind trace_line → Somehow (PicksAndShows p seed fuel (notes_in (Shown Line) names)) (AppendsFront behind out.new_taken) → Somehow Records (GainedFront out)
    trace_part behind line some =
        let y = some.does in
        record {
          end = some.end;
          bytes = recorded names y.places y.labels;
          does = recorded_as some.end some.bytes (notes_in (Shown Line) names) y;
          holds = front_then out.old_taken mid out.new_taken (picked_choices y.places y.labels) (trace_line ++ picked_lines names y.places y.labels) (again some.end some.bytes y)
              (front_then mid behind out.new_taken trace_line (picked_lines names y.places y.labels) line (subst (AppendsFront behind out.new_taken) y.shows some.holds));
        }

    -- all of it
    pub trace_all : (behind : Option (List ℕ)) → Appends mid behind trace_line → (end : End) (more : List ℕ) → PicksAndShows p seed fuel (notes_in (Shown Line) names) end more → Appends behind out.new_taken more → Finished Records end out
    trace_all behind line end more y all = record {
      bytes = recorded names y.places y.labels;
      does = recorded_as end more (notes_in (Shown Line) names) y;
      written = appends_then out.old_taken mid out.new_taken (picked_choices y.places y.labels) (trace_line ++ picked_lines names y.places y.labels) (again end more y)
          (appends_then mid behind out.new_taken trace_line (picked_lines names y.places y.labels) line (subst (Appends behind out.new_taken) y.shows all));
    }
