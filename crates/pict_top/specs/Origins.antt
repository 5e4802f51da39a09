-- Where a command's texts come from.
use Rattle.std.specs.Prelude.{◌≡◌, ℕ, Bool, true, false, List, [], ◌∷◌, length, Option, Some, None, codes}
use Rattle.pict_outside.specs.Texts.{Texts, texts_of}
use Rattle.pict_words.specs.Words.{Command, Run, Trace, Check, Code, Load, Pick, Picked, Replay, Build, Exec, Sites}
use Rattle.pict_report.specs.Prelude.{prelude_text}
use Rattle.pict_load.specs.Text.{load_text}
use Rattle.pict_gather.specs.Fetching.{Fetch, missing, MayGive}

-- the file of this name, without the prelude or behind it; or the command itself: the name of its text, and the text; or the object of
-- this name, which is no text
pub data Origin : Type 0 where
  File : Bool → List ℕ → Origin
  Own : List ℕ → List ℕ → Origin
  Object : List ℕ → Origin

abbrev pub origin_of : Command → Origin
origin_of (Run options) = File options.bare options.file
origin_of (Trace options) = File options.bare options.file
origin_of (Check options) = File options.bare options.file
origin_of (Code options) = File options.bare options.file
origin_of (Load n) = Own (codes "load") (load_text n)
origin_of (Pick seed options) = File options.bare options.file
origin_of (Picked seed options) = File options.bare options.file
origin_of (Replay options trace) = File options.bare options.file
origin_of (Build options) = File options.bare options.file
origin_of (Exec fuel object) = Object object
origin_of (Sites sites seed options) = File options.bare options.file

-- the name of the file, or that of the command's own text, which stands for one
abbrev pub name_of : Origin → List ℕ
name_of (File bare name) = name
name_of (Own name own) = name
name_of (Object name) = name

-- what stands before the file
abbrev pub prelude_of : Origin → Option (List ℕ)
prelude_of (File true name) = None
prelude_of (File false name) = Some prelude_text
prelude_of (Own name own) = None
prelude_of (Object name) = None

-- this text is all there is
unfoldable pub only : List ℕ → List ℕ → Texts
only name own = texts_of ((name, own) ∷ [])

-- the texts that a command reads from: those of the shelf, where it tells them; or the command's own text, and no other
abbrev pub reads_from : Option Texts → Origin → Option Texts
reads_from held (File bare name) = held
reads_from held (Own name own) = Some (only name own)
reads_from held (Object name) = held

-- the command asks the shelf for its texts
abbrev pub AsksShelf : Origin → Type 0
AsksShelf (File bare name) = Unit {0}
AsksShelf (Own name own) = ⊥
AsksShelf (Object name) = Unit {0}

-- the text is the command's own
abbrev pub IsOwn : Origin → List ℕ → Type 0
IsOwn (File bare name) t = ⊥
IsOwn (Own name own) t = t ≡ own
IsOwn (Object name) t = ⊥

-- how many bytes the command's own text has
abbrev pub own_length : Origin → ℕ
own_length (File bare name) = 0
own_length (Own name own) = length own
own_length (Object name) = 0

-- the name of the replay file, where the command replays one over its program
abbrev pub trace_of : Command → Option (List ℕ)
trace_of (Replay options trace) = Some trace
trace_of command = None

-- the command takes the text of a program, and not an object
abbrev pub TakesText : Command → Type 0
TakesText (Exec fuel object) = ⊥
TakesText command = Unit {0}

-- the command does its work with an accepted program: it neither writes its object nor takes one
abbrev pub Works : Command → Type 0
Works (Build options) = ⊥
Works (Exec fuel object) = ⊥
Works command = Unit {0}

-- whether the command writes the object of its program
abbrev pub builds : Command → Bool
builds (Build options) = true
builds command = false

-- ---- what a command is given under a name

-- what is given by a shelf that has each text it is asked for
abbrev pub MayGiveText : Option Texts → List ℕ → Fetch → Type 0
MayGiveText held name missing = ⊥
MayGiveText held name f = MayGive held name f

-- what a command may be given, where no device fails
abbrev pub given : Option Texts → Origin → List ℕ → Fetch → Type 0
given held origin = MayGive (reads_from held origin)

-- the same, where the shelf has each text it is asked for
abbrev pub given_each : Option Texts → Origin → List ℕ → Fetch → Type 0
given_each held (File bare name) = MayGiveText held
given_each held (Own name own) = given held (Own name own)
given_each held (Object name) = MayGiveText held
