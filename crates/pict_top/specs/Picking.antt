-- Runs with choices from a seed, and what is written of them.
use Rattle.std.specs.Prelude.{◌≡◌, ℕ, List}
use Rattle.pict_core.specs.Term.{Process}
use Rattle.pict_core.specs.Step.{Label}
use Rattle.pict_core.specs.Run.{bytes_of}
use Rattle.pict_core.specs.Places.{Place}
use Rattle.pict_pick.specs.Picked.{PicksRun}
use Rattle.pict_replay.specs.Files.{choices_text, file_text}
use Rattle.pict_trace.specs.Lines.{lines_text}
use Rattle.pict_machine.specs.Events.{end_of}
use Rattle.pict_machine.specs.declared.event.End.{End}

-- what is written of a picked run, by its places and its labels
abbrev pub Recording : Type 0
Recording = List Place → List (ℕ × Label) → List ℕ

-- The seed picks a run of the process with this fuel, and what is written are these bytes of it.
pub record PicksAndShows (process : Process) (seed fuel : ℕ) (written : Recording) (end : End) (bytes : List ℕ) : Type 0 where
  pub places : List Place
  pub labels : List (ℕ × Label)
  pub runs : PicksRun process seed fuel (end_of end) places labels
  pub shows : bytes ≡ written places labels

-- the bytes that are printed
abbrev pub picked_bytes : Recording
picked_bytes places labels = bytes_of labels

-- a line for each communication and each printing
abbrev pub picked_lines : List (List ℕ) → Recording
picked_lines names places labels = lines_text names labels

-- the line of each choice
abbrev pub picked_choices : Recording
picked_choices places labels = choices_text places

-- the choices, the line `trace`, and the trace
abbrev pub recorded : List (List ℕ) → Recording
recorded names places labels = file_text names places labels
