-- What laws of lines say.
use Rattle.std.specs.Prelude.{◌≡◌, ℕ, List, ◌++◌}
use Rattle.std.specs.List.{AllByRecursion}
use Rattle.pict_syntax.specs.Names.{HasNoRepeats}
use Rattle.pict_core.specs.Term.{Val, Process}
use Rattle.pict_core.specs.Configuration.{Configuration, opening}
use Rattle.pict_core.specs.Step.{Label, Choice, Free}
use Rattle.pict_core.specs.Run.{Reaches}
use Rattle.pict_core.specs.Places.{Place}
use Rattle.pict_core.specs.FreeRun.{FreelyRuns}
use Rattle.pict_show.specs.Values.{value_text}
use Rattle.pict_trace.specs.Lines.{lines_text}
use Rattle.pict_trace.specs.Ordered.{IsOrderedProcess, IsOrderedConfiguration, IsOrderedLabel, FitsLine}
use Rattle.pict_trace.specs.Readable.{IsLines, IsFirstBad, IsOrderly}
use Rattle.pict_trace.specs.Reading.{Ends}

abbrev pub LinesAreReadOnce : Type 0
LinesAreReadOnce = (names : List (List ℕ)) → HasNoRepeats names → (text : List ℕ) (xs ys : List (ℕ × Label)) → IsLines names text xs → IsLines names text ys → xs ≡ ys

abbrev pub ValuesEndOnce : Type 0
ValuesEndOnce = (names others : List (List ℕ)) (v w : Val) (a c : List ℕ) → IsOrderly names v → IsOrderly others w → Ends a → Ends c → value_text names v ++ a ≡ value_text others w ++ c → a ≡ c

-- Free steps keep the order of labels, and show values that have it.
abbrev pub FreeStepsKeepOrder : Type 0
FreeStepsKeepOrder = (names : List (List ℕ)) (C : Configuration) (choice : Choice) (D : Configuration) (label : Label) → IsOrderedConfiguration names C → Free C choice D label → IsOrderedConfiguration names D × IsOrderedLabel names label

-- A text has one first line that is none, whatever names there are, and the same bytes stand before it; and where it is lines
-- it has none.
pub record HasOneFirstBad (text : List ℕ) : Type 0 where
  pub one_line : (k m : ℕ) → IsFirstBad text k → IsFirstBad text m → k ≡ m
  pub one_place : (k m : ℕ) (x : IsFirstBad text k) (y : IsFirstBad text m) → lines_text x.names x.lines ≡ lines_text y.names y.lines
  pub never_both : (names : List (List ℕ)) (lines : List (ℕ × Label)) (k : ℕ) → IsLines names text lines → IsFirstBad text k → ⊥

abbrev pub FirstBadIsOne : Type 0
FirstBadIsOne = (text : List ℕ) → HasOneFirstBad text

-- These labels, written as lines, are read back, and as nothing else.
abbrev pub AreReadBack : List (List ℕ) → List (ℕ × Label) → Type 0
AreReadBack names labels =
    IsLines names (lines_text names labels) labels × ((others : List (ℕ × Label)) → IsLines names (lines_text names labels) others → others ≡ labels)

-- What a run of an ordered process shows, where its numbers and its nesting fit, is read back.
abbrev pub RunsAreReadBack : Type 0
RunsAreReadBack =
    (names : List (List ℕ)) (p : Process) (n : ℕ) (labels : List (ℕ × Label)) (C : Configuration) → HasNoRepeats names → IsOrderedProcess names p
    → Reaches n (opening p) labels C → AllByRecursion FitsLine labels → AreReadBack names labels

-- The same of any free run.
abbrev pub FreeRunsAreReadBack : Type 0
FreeRunsAreReadBack =
    (names : List (List ℕ)) (p : Process) (places : List Place) (labels : List (ℕ × Label)) (C : Configuration) → HasNoRepeats names
    → IsOrderedProcess names p → FreelyRuns (opening p) places labels C → AllByRecursion FitsLine labels → AreReadBack names labels
