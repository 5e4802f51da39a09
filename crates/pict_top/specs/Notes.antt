-- What is written of each step of a picked run.
use Rattle.std.specs.Prelude.{◌≡◌, ◌≢◌, ℕ, List, []}
use Rattle.pict_core.specs.Term.{Process}
use Rattle.pict_core.specs.Step.{Label, Quiet, Comm, Print}
use Rattle.pict_core.specs.Run.{printed_by}
use Rattle.pict_core.specs.Places as places
use Rattle.pict_replay.specs.Files.{choice_text}
use Rattle.pict_trace.specs.Lines.{line_text}
use Rattle.pict_top.specs.Picking.{Recording, picked_bytes, picked_lines, picked_choices}
use Rattle.pict_top.specs.declared.form.Form.{Form}
use Rattle.pict_top.specs.declared.form.Form.TheVariants.{Printed, Line}
use Rattle.pict_machine.specs.declared.event.End.{End}
use Rattle.pict_machine.specs.declared.event.End.TheVariants.{Done, FuelSpent, Trap}
use Rattle.pict_top.specs.declared.notes.Note.{Note}
use Rattle.pict_top.specs.declared.notes.Note.TheVariants.{Choice, Shown}
use Rattle.pict_top.specs.declared.notes.Place.{Place}

-- the choice that two numbers are
abbrev pub place_of : Place → places.Place
place_of place = record { ready = place.ready; partner = place.partner }

-- what is written of a label with its step number, in this form, by these names: of a quiet one nothing
abbrev pub step_text : Form → List (List ℕ) → ℕ → Label → List ℕ
step_text Printed names number label = printed_by label
step_text Line names number Quiet = []
step_text Line names number (Comm channel value) = line_text names number (Comm channel value)
step_text Line names number (Print bytes) = line_text names number (Print bytes)

-- what is written of a step: its choice, or what it shows
abbrev pub note_text : Note → List (List ℕ) → places.Place → ℕ → Label → List ℕ
note_text Choice names place number label = choice_text place
note_text (Shown form) names place number label = step_text form names number label

-- what is written of all steps
abbrev pub notes_in : Note → List (List ℕ) → Recording
notes_in Choice names = picked_choices
notes_in (Shown Printed) names = picked_bytes
notes_in (Shown Line) names = picked_lines names

-- how a run ends without fuel, by the ready processes
abbrev pub EndsWithoutFuel : List Process → End → Type 0
EndsWithoutFuel ready Done = ready ≡ []
EndsWithoutFuel ready FuelSpent = ready ≢ []
EndsWithoutFuel ready (Trap at) = ⊥
