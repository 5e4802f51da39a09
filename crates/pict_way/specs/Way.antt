-- Ways: choices that a process can make one after the other, and their replay file.
use Rattle.std.specs.Prelude.{ℕ, ◌≡◌, ◌≢◌, ◌⊎◌, List, ◌∷◌, ◌++◌}
use Rattle.std.specs.List.{AllByRecursion}
use Rattle.pict_syntax.specs.Names.{HasNoRepeats}
use Rattle.pict_core.specs.Term.{Process}
use Rattle.pict_core.specs.Configuration.{Configuration, opening}
use Rattle.pict_core.specs.Step.{Label, Steps}
use Rattle.pict_core.specs.Places.{Place, IsPlace, outcome_at}
use Rattle.pict_core.specs.FreeRun.{FreelyRuns}
use Rattle.pict_orders.specs.Room.{IsFull}
use Rattle.pict_trace.specs.Ordered.{IsOrderedProcess, FitsLine}
use Rattle.pict_replay.specs.Replayed.{Line}
use Rattle.pict_replay.specs.Files.{IsWritable, file_text}
use Rattle.pict_replay.specs.Laws.{IsAnswered}

-- The process can make these choices, and the text is the file of them and of what their steps show.
pub record IsWay (names : List (List ℕ)) (p : Process) (places : List Place) (text : List ℕ) : Type 0 where
  pub labels : List Line
  pub last : Configuration
  pub runs : FreelyRuns (opening p) places labels last
  pub whole : text ≡ file_text names places labels

-- nothing is at this place, or its step leads nowhere: it traps or is wrong
abbrev pub LeadsNowhere : Configuration → Place → Type 0
LeadsNowhere C place = (¬ IsPlace C place) ⊎ ((D : Configuration) (label : Label) → outcome_at C place ≢ Steps D label)

-- The process can make some of these choices, and not the next one; or there may be no numbers for its step.
pub record IsStuck (p : Process) (places : List Place) : Type 0 where
  pub made : List Place
  pub next : Place
  pub rest : List Place
  pub whole : places ≡ made ++ next ∷ rest
  pub labels : List Line
  pub last : Configuration
  pub runs : FreelyRuns (opening p) made labels last
  pub stuck : LeadsNowhere last next ⊎ IsFull last

-- It is a replay file of these alone, and they agree.
abbrev pub WaysAreAnswered : Type 0
WaysAreAnswered =
    (names : List (List ℕ)) (p : Process) (places : List Place) (text : List ℕ) → HasNoRepeats names → IsOrderedProcess names p
    → AllByRecursion IsWritable places → (w : IsWay names p places text) → AllByRecursion FitsLine w.labels → IsAnswered names p places w.labels
