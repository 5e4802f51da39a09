-- What the words come to over a shelf, where no device fails.
use Rattle.std.specs.Prelude.{◌≡◌, ◌⊎◌, ℕ, List, [], Option, Some}
use Rattle.pict_syntax.specs.declared.source.Source.{Source}
use Rattle.pict_outside.specs.Texts.{Texts}
use Rattle.pict_words.specs.Words.{Command, Exec, HasShape, HasNoShape}
use Rattle.pict_gather.specs.Phases.{accepts, refuses}
use Rattle.pict_gather.specs.Fetching.{Fetch, MayGive, MayGiveOrFail}
use Rattle.pict_gather.specs.Gathered.{failed}
use Rattle.pict_front.specs.Front.{Front, Accepted, IsFront}
use Rattle.pict_top.specs.Origins.{Origin, origin_of, name_of, prelude_of, trace_of, TakesText, builds, AsksShelf, given, given_each}
use Rattle.pict_top.specs.Answer.{Answer, Ended, Does, alone, IsAnswer, IsTextAnswer, IsReplayed, IsBuilt, IsMade, IsExecuted}
use Rattle.pict_machine.specs.declared.event.End.{End}
use Rattle.pict_top.specs.Outcome.{Outcome, outcome_of, read_fault, usage_outcome}

-- what a command comes to, where `Gives` says what it is given under a name
pub record Owes (Gives : List ℕ → Fetch → Type 0) (command : Command) (o : Outcome) : Type 0 where
  pub answer : Answer
  pub answers : IsAnswer Gives command answer
  pub comes : o ≡ outcome_of answer

-- what a command comes to that takes the text of a program
pub record OwesText (Gives : List ℕ → Fetch → Type 0) (command : Command) (o : Outcome) : Type 0 where
  pub answer : Answer
  pub answers : IsTextAnswer Gives command answer
  pub comes : o ≡ outcome_of answer

-- what a command comes to with a program that is accepted, and the texts that it is read from
abbrev pub OwesWork : List Source → Front → Command → Outcome → Type 0
OwesWork sources front command o =
    (end : End) × (bytes : List ℕ) × Does command front.names front.core end bytes × (o ≡ outcome_of (Ended sources end bytes))

-- what the replay of the text under this name comes to over a program that is accepted, where `Gives` says what a shelf gives
abbrev pub OwesReplay : (List ℕ → Fetch → Type 0) → List ℕ → Front → Outcome → Type 0
OwesReplay Gives trace front o = (answer : Answer) × IsReplayed Gives trace front answer × (o ≡ outcome_of answer)

-- what the building of an object comes to with a program that is accepted, and the texts that it is read from
abbrev pub OwesObject : List Source → Front → Outcome → Type 0
OwesObject sources front o = (answer : Answer) × IsBuilt sources front answer × (o ≡ outcome_of answer)

-- what a command comes to with such a program alone, whether it builds or works
abbrev pub OwesMade : List Source → Front → Command → Outcome → Type 0
OwesMade sources front command o = (answer : Answer) × IsMade (builds command) command sources front answer × (o ≡ outcome_of answer)

-- what the run of the object of this name comes to with this fuel, where `Gives` says what a shelf gives
abbrev pub OwesRun : (List ℕ → Fetch → Type 0) → List ℕ → ℕ → Outcome → Type 0
OwesRun Gives object fuel o = (answer : Answer) × IsExecuted Gives object fuel answer × (o ≡ outcome_of answer)

-- what the words come to, where `Gives` says what a command is given
abbrev pub OwesBy : (Origin → List ℕ → Fetch → Type 0) → List (List ℕ) → Outcome → Type 0
OwesBy Gives words o = ((command : Command) × HasShape words command × Owes (Gives (origin_of command)) command o) ⊎ (HasNoShape words × (o ≡ usage_outcome))

-- over a shelf that holds, if it tells them, these texts
abbrev pub OwesWords : List (List ℕ) → Option Texts → Outcome → Type 0
OwesWords words held = OwesBy (given held) words

-- the same, where the shelf has each text it is asked for
abbrev pub OwesWithEach : List (List ℕ) → Option Texts → Outcome → Type 0
OwesWithEach words held = OwesBy (given_each held) words

-- the words are those of a command that takes the text of a program, and its file, with the texts that it reaches, is accepted: its
-- names and its core process are these
pub record Accepts (words : List (List ℕ)) (held : Option Texts) (accepted : Front) : Type 0 where
  pub command : Command
  pub shape : HasShape words command
  pub takes : TakesText command
  pub sources : List Source
  pub front : IsFront (given held (origin_of command)) (prelude_of (origin_of command)) (name_of (origin_of command)) (Some (accepts (record { sources = sources; front = accepted })))

-- what a command comes to where a shelf fails that holds, if it tells them, these texts: it was asked for the last text that was
-- come to
pub record Faults (held : Option Texts) (command : Command) (o : Outcome) : Type 0 where
  pub sources : List Source
  pub front : IsFront (MayGiveOrFail held) (prelude_of (origin_of command)) (name_of (origin_of command)) (Some (refuses (failed sources)))
  pub comes : o ≡ read_fault sources

-- the shelf fails that is asked for a replay file
abbrev pub IsTraceFault : List ℕ → Outcome → Type 0
IsTraceFault trace o = o ≡ read_fault (alone trace [])

-- what a command comes to where the file is accepted, and the shelf fails that is asked for its replay file
pub record FaultsTrace (held : Option Texts) (command : Command) (o : Outcome) : Type 0 where
  pub trace : List ℕ
  pub takes : trace_of command ≡ Some trace
  pub accepted : Accepted
  pub front : IsFront (MayGive held) (prelude_of (origin_of command)) (name_of (origin_of command)) (Some (accepts accepted))
  pub comes : IsTraceFault trace o

abbrev pub FaultsFile : Option Texts → Command → Outcome → Type 0
FaultsFile held command o = Faults held command o ⊎ FaultsTrace held command o

-- the shelf fails that is asked for an object
abbrev pub IsObjectFault : List ℕ → Outcome → Type 0
IsObjectFault object o = o ≡ read_fault (alone object [])

-- what a command comes to where the shelf fails that it asks for its texts
abbrev pub FaultsText : Option Texts → Command → Outcome → Type 0
FaultsText held command o = AsksShelf (origin_of command) × FaultsFile held command o

-- the same, or where that one fails that it asks for its object
abbrev pub FaultsCommand : Option Texts → Command → Outcome → Type 0
FaultsCommand held (Exec fuel object) o = IsObjectFault object o
FaultsCommand held command o = FaultsText held command o

-- the same of words
abbrev pub FaultsWords : List (List ℕ) → Option Texts → Outcome → Type 0
FaultsWords words held o = (command : Command) × HasShape words command × FaultsCommand held command o
