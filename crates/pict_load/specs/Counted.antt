-- What is counted of a run.
use Rattle.std.specs.Prelude.{◌≡◌, ℕ, ◌+◌, List, [], ◌∷◌, length}
use Rattle.pict_core.specs.Term.{Process}
use Rattle.pict_core.specs.Step.{Label, Quiet, Comm, Print}
use Rattle.pict_core.specs.Run.{Runs, printed_by, bytes_of, steps_done}
use Rattle.pict_machine.specs.Events.{end_of}
use Rattle.pict_load.specs.declared.summary.Tally.{Tally}

-- one more for a communication
abbrev pub communication : Label → ℕ
communication Quiet = 0
communication (Comm channel value) = 1
communication (Print bytes) = 0

-- how many of the labels are communications
abbrev pub communications_of : List (ℕ × Label) → ℕ
communications_of [] = 0
communications_of (l ∷ ls) = communication l.1 + communications_of ls

-- the two counts, of communications and of printed bytes, once a label was shown
abbrev pub counts_after : List ℕ → ℕ → Label → List ℕ
counts_after (communications ∷ printed ∷ []) number label = (communications + communication label) ∷ (printed + length (printed_by label)) ∷ []
counts_after counts number label = counts

-- The run of the process with this fuel is counted so.
pub record IsCounted (process : Process) (fuel : ℕ) (tally : Tally) : Type 0 where
  pub labels : List (ℕ × Label)
  pub runs : Runs process fuel (end_of tally.end) labels
  pub steps : tally.steps ≡ steps_done (end_of tally.end) runs.steps
  pub communications : tally.communications ≡ communications_of labels
  pub printed : tally.printed ≡ length (bytes_of labels)
