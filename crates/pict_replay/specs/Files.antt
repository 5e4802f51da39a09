-- Replay files: lines of choices, each two numbers with a space between them and a newline behind; the line `trace`; and lines
-- of a trace.
use Rattle.std.specs.Prelude.{ℕ, ◌≡◌, ◌≢◌, ◌<◌, ◌+◌, ◌^◌, List, [], ◌∷◌, ◌++◌, length, codes}
use Rattle.std.specs.List.{flat_map, AllByRecursion}
use Rattle.std.specs.Fmt.{decimal}
use Rattle.pict_syntax.specs.Names.{with_names}
use Rattle.pict_core.specs.Places.{Place}
use Rattle.pict_trace.specs.Lines.{lines_text}
use Rattle.pict_trace.specs.Readable.{IsLines, IsFirstBad, labels_in}
use Rattle.pict_replay.specs.Replayed.{Line}

-- 32 is a space, and 10 a newline
abbrev pub choice_text : Place → List ℕ
choice_text place = decimal place.ready ++ (32 ∷ (decimal place.partner ++ (10 ∷ [])))

abbrev pub choices_text : List Place → List ℕ
choices_text places = flat_map choice_text places

-- numbers that a line may have
abbrev pub IsWritable : Place → Type 0
IsWritable place = (place.ready < 2 ^ 64) × (place.partner < 2 ^ 64)

-- the text begins with the lines of these choices, and `rest` is behind them
pub record BeginsWithChoices (text : List ℕ) (places : List Place) (rest : List ℕ) : Type 0 where
  pub writable : AllByRecursion IsWritable places
  pub whole : text ≡ choices_text places ++ rest

-- the text is the lines of these choices, all of it
abbrev pub IsChoices : List ℕ → List Place → Type 0
IsChoices text places = BeginsWithChoices text places []

-- the text begins with the line of a choice
abbrev pub BeginsWithChoice : List ℕ → Type 0
BeginsWithChoice text = (place : Place) × (rest : List ℕ) × IsWritable place × (text ≡ choice_text place ++ rest)

-- line `number`, from 1, is there, and is the first that isn't that of a choice
pub record IsFirstBadChoice (text : List ℕ) (number : ℕ) : Type 0 where
  pub places : List Place
  pub rest : List ℕ
  pub before : BeginsWithChoices text places rest
  pub place : number ≡ length places + 1
  pub more : rest ≢ []
  pub bad : ¬ BeginsWithChoice rest

-- ---- files

-- the line between choices and trace
abbrev pub trace_line : List ℕ
trace_line = codes "trace" ++ 10 ∷ []

-- the file of these choices and of these lines, by these names
abbrev pub file_text : List (List ℕ) → List Place → List Line → List ℕ
file_text names places lines = choices_text places ++ (trace_line ++ lines_text names lines)

-- The text is a file of these choices, and of these lines by these names.
pub record IsFile (names : List (List ℕ)) (text : List ℕ) (places : List Place) (lines : List Line) : Type 0 where
  pub trace : List ℕ
  pub choices_are : BeginsWithChoices text places (trace_line ++ trace)
  pub lines_are : IsLines names trace lines

-- The text is such a file for a program of some names: by those and, behind them, the labels of the text that they lack, in the
-- order in which they first stand.
pub record IsFileFor (base names : List (List ℕ)) (text : List ℕ) (places : List Place) (lines : List Line) : Type 0 where
  pub file : IsFile names text places lines
  pub gained : names ≡ with_names base (labels_in names lines)

-- The text is no file: so many bytes stand before the first line that breaks the form, or before the end, where the line `trace`
-- is missing.
pub data IsNoFile (text : List ℕ) : ℕ → Type 0 where
  -- the line `trace` is missing
  ends : {places : List Place} → IsChoices text places → IsNoFile text (length text)
  -- a line that is neither a choice nor `trace` stands behind choices
  no_choice : {places : List Place} {rest : List ℕ} → BeginsWithChoices text places rest → rest ≢ [] → ¬ BeginsWithChoice rest
      → ((trace : List ℕ) → rest ≢ trace_line ++ trace) → IsNoFile text (length (choices_text places))
  -- a line behind `trace` is no line of a trace
  no_line : {places : List Place} {trace : List ℕ} {number : ℕ} → BeginsWithChoices text places (trace_line ++ trace) → (bad : IsFirstBad trace number)
      → IsNoFile text (length (choices_text places ++ (trace_line ++ lines_text bad.names bad.lines)))
