-- What is written of a command's work, and how it ends.
use Rattle.std.specs.Prelude.{◌≡◌, ℕ, List, ◌++◌}
use Rattle.std.specs.List.{flat_map}
use Rattle.pict_outside.specs.Bytes.{IsFrontOf}
use Rattle.pict_core.specs.Step.{Label}
use Rattle.pict_core.specs.Run.{printed_by}
use Rattle.pict_trace.specs.Lines.{line_text}
use Rattle.pict_top.specs.Answer.{Work, Writing, printed, traced}
use Rattle.pict_top.specs.Changes.{SinkChange, Gained}
use Rattle.pict_top.specs.declared.form.Form as declared
use Rattle.pict_top.specs.declared.form.Form.TheVariants.{Printed, Line}
use Rattle.pict_machine.specs.declared.event.End.{End}

-- what is written of a label with its step number
abbrev pub Form : Type 0
Form = ℕ → Label → List ℕ

-- by the names of a text
abbrev pub form_of : declared.Form → List (List ℕ) → Form
form_of Printed names = λ number label. printed_by label
form_of Line names = line_text names

-- what is written of a run
abbrev pub shown_in : declared.Form → List (List ℕ) → Writing
shown_in Printed names = printed
shown_in Line names = traced names

-- what is written of these labels, one after the other
abbrev pub written_in : Form → List (ℕ × Label) → List ℕ
written_in form labels = flat_map (λ l. form l.0 l.1) labels

-- what is written, once a label was shown
abbrev pub written_after : Form → List ℕ → ℕ → Label → List ℕ
written_after form bytes number label = bytes ++ form number label

-- a beginning of what is written of a label was written
abbrev pub WrittenInPart : Form → List ℕ → ℕ → Label → List ℕ → Type 0
WrittenInPart form bytes number label after = (front : List ℕ) × IsFrontOf front (form number label) × (after ≡ bytes ++ front)

-- the work has this end, and its bytes were written
pub record Finished (work : Work) (end : End) (out : SinkChange) : Type 0 where
  pub bytes : List ℕ
  pub does : work end bytes
  pub written : Gained out bytes

-- the work, whatever its end, and P of its bytes
pub record Somehow (work : Work) (P : List ℕ → Type 0) : Type 0 where
  pub end : End
  pub bytes : List ℕ
  pub does : work end bytes
  pub holds : P bytes
