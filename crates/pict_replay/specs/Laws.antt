-- The laws of replays, each the contract of a public function that does nothing.
use Rattle.std.specs.Prelude.{ℕ, ◌≡◌, ◌↔◌, ◌⊎◌, List, []}
use Rattle.std.specs.List.{AllByRecursion}
use Rattle.pict_syntax.specs.Names.{HasNoRepeats}
use Rattle.pict_core.specs.Term.{Process}
use Rattle.pict_core.specs.Closed.{IsClosed}
use Rattle.pict_core.specs.Configuration.{Configuration, opening}
use Rattle.pict_core.specs.Run.{End}
use Rattle.pict_core.specs.Places.{Place}
use Rattle.pict_reduction.specs.Reached.{NoFreeRunIsWrong}
use Rattle.pict_pick.specs.Picked.{PicksRun}
use Rattle.pict_replay.specs.Replayed.{Line, Agrees, Replays, IsFault}
use Rattle.pict_trace.specs.Ordered.{IsOrderedProcess, FitsLine}
use Rattle.pict_replay.specs.Files.{IsChoices, IsFirstBadChoice, IsFile, IsFileFor, IsNoFile, file_text}

-- What agrees has no fault, and what has a fault has one.
pub record HasOneVerdict (p : Process) (choices : List Place) (lines : List Line) : Type 0 where
  pub apart : (k : ℕ) → Agrees p choices lines → IsFault p choices lines k → ⊥
  pub one : (k m : ℕ) → IsFault p choices lines k → IsFault p choices lines m → k ≡ m

abbrev pub VerdictsAreOne : Type 0
VerdictsAreOne = (p : Process) (choices : List Place) (lines : List Line) → HasOneVerdict p choices lines

-- Where no free run of a process is wrong, choices and lines agree, or have a fault.
abbrev pub SomeVerdict : Type 0
SomeVerdict =
    (p : Process) (choices : List Place) (lines : List Line) → IsClosed p → NoFreeRunIsWrong p
    → Agrees p choices lines ⊎ ((k : ℕ) × IsFault p choices lines k)

-- They agree exactly where all choices are replayed and no line is left.
abbrev pub ReplayedAgrees : Type 0
ReplayedAgrees =
    (p : Process) (choices : List Place) (lines : List Line)
    → ((D : Configuration) × Replays (opening p) lines choices D []) ↔ Agrees p choices lines

-- What a seed picks agrees with its labels.
abbrev pub PickedAgrees : Type 0
PickedAgrees =
    (p : Process) (seed fuel : ℕ) (end : End) (places : List Place) (labels : List Line)
    → PicksRun p seed fuel end places labels → Agrees p places labels

-- A text is the lines of at most one list of choices, has at most one first line that isn't that of a choice, and never both.
pub record IsReadOnce (text : List ℕ) : Type 0 where
  pub one_list : (places others : List Place) → IsChoices text places → IsChoices text others → places ≡ others
  pub one_line : (k m : ℕ) → IsFirstBadChoice text k → IsFirstBadChoice text m → k ≡ m
  pub never_both : (places : List Place) (k : ℕ) → IsChoices text places → IsFirstBadChoice text k → ⊥

abbrev pub ChoicesAreReadOnce : Type 0
ChoicesAreReadOnce = (text : List ℕ) → IsReadOnce text

-- Each text is lines of choices, or has a first line that is none.
abbrev pub SomeChoices : Type 0
SomeChoices = (text : List ℕ) → ((places : List Place) × IsChoices text places) ⊎ ((k : ℕ) × IsFirstBadChoice text k)

-- By names without repeats a text is the file of at most one list of choices and one list of lines; it is none at one place at
-- most, whatever the names, and never both.
pub record IsFileOnce (text : List ℕ) : Type 0 where
  pub one_file : (names : List (List ℕ)) (places others : List Place) (lines more : List Line) → HasNoRepeats names
      → IsFile names text places lines → IsFile names text others more → (places ≡ others) × (lines ≡ more)
  pub one_place : (k m : ℕ) → IsNoFile text k → IsNoFile text m → k ≡ m
  pub never_both : (names : List (List ℕ)) (places : List Place) (lines : List Line) (k : ℕ) → IsFile names text places lines → IsNoFile text k → ⊥

abbrev pub FilesAreReadOnce : Type 0
FilesAreReadOnce = (text : List ℕ) → IsFileOnce text

-- what a text is for a program of some names: a file of choices and of lines, by names that begin with those
pub record FileFor (base : List (List ℕ)) (text : List ℕ) : Type 0 where
  pub names : List (List ℕ)
  pub places : List Place
  pub lines : List Line
  pub is : IsFileFor base names text places lines

-- Each text is a file for each program, or is none at some place.
abbrev pub SomeFile : Type 0
SomeFile = (base : List (List ℕ)) (text : List ℕ) → FileFor base text ⊎ ((k : ℕ) × IsNoFile text k)

-- For a program whose names don't repeat it is the file of one list of choices and one list of lines, by one list of names.
abbrev pub OneFile : Type 0
OneFile =
    (base names others : List (List ℕ)) (text : List ℕ) (places more : List Place) (lines further : List Line) → HasNoRepeats base
    → IsFileFor base names text places lines → IsFileFor base others text more further → (names ≡ others) × (places ≡ more) × (lines ≡ further)

-- What is written of a run that a seed picks is a file of its choices and of its labels, and of no others, and these agree.
pub record IsAnswered (names : List (List ℕ)) (p : Process) (places : List Place) (labels : List Line) : Type 0 where
  pub file : IsFile names (file_text names places labels) places labels
  pub only : (others : List Place) (lines : List Line) → IsFile names (file_text names places labels) others lines → (others ≡ places) × (lines ≡ labels)
  pub agrees : Agrees p places labels

abbrev pub PickedIsAnswered : Type 0
PickedIsAnswered =
    (names : List (List ℕ)) (p : Process) (seed fuel : ℕ) (end : End) (places : List Place) (labels : List Line) → HasNoRepeats names
    → IsOrderedProcess names p → PicksRun p seed fuel end places labels → AllByRecursion FitsLine labels → IsAnswered names p places labels
