-- What stands after a call that tells something of the file: with which status, of which texts, and what.
use Rattle.std.specs.Prelude.{◌≡◌, ◌<◌, ℕ, Bool, List, [], Option, Some, Result, Ok, Err, Vec, length, take}
use Rattle.std.specs.declared.alloc.Global.{Global}
use Rattle.pict_outside.specs.Bytes.{IsFrontOf}
use Rattle.pict_outside.specs.Texts.{Texts}
use Rattle.pict_gather.specs.Fetching.{MayGive}
use Rattle.pict_gather.specs.Gathered.{EarlyEnd}
use Rattle.pict_gather.specs.Phases.{Phase, accepts}
use Rattle.pict_front.specs.declared.refusal.FrontError.{FrontError}
use Rattle.pict_front.specs.declared.refusal.FrontError.TheVariants as error
use Rattle.pict_front.specs.Front.{Accepted, IsFront}
use Rattle.pict_telling.specs.Behind.{prelude_for}
use Rattle.pict_top.specs.Numbers.{number_of}
use Rattle.pict_top.specs.declared.status.Status.{Status}
use Rattle.pict_top.specs.declared.status.Status.TheVariants as status
use Rattle.pict_web.specs.Asked.{file}

-- what may be told of an accepted file
abbrev pub Telling : Type 1
Telling = Accepted → List ℕ → Type 0

-- the status of a file that isn't accepted
abbrev pub status_for : FrontError → Status
status_for (error.Named code span) = status.Refused
status_for error.Missing = status.Refused
status_for error.Failed = status.ReadFault
status_for error.Memory = status.Memory

-- the file is accepted, and this is told of it
pub record Tells (Of : Telling) (bare : Bool) (texts : Texts) (told : List ℕ) : Type 0 where
  pub accepted : Accepted
  pub fronted : IsFront (MayGive (Some texts)) (prelude_for bare) file (Some (accepts accepted))
  pub of : Of accepted told

abbrev pub IsNotAccepted : Option (Phase EarlyEnd Accepted) → Type 0
IsNotAccepted (Some (accepts a)) = ⊥
IsNotAccepted answer = Unit {0}

-- the file is refused, or isn't there
pub record IsRefused (bare : Bool) (texts : Texts) : Type 0 where
  pub answer : Option (Phase EarlyEnd Accepted)
  pub fronted : IsFront (MayGive (Some texts)) (prelude_for bare) file answer
  pub is : IsNotAccepted answer

-- as many bytes at the beginning of all as there is room for, which is too little
pub record IsCut (all : List ℕ) (room : ℕ) (told : List ℕ) : Type 0 where
  pub begins : IsFrontOf told all
  pub full : length told ≡ room
  pub longer : room < length all

-- the beginning of what is told, where there is no room for all
pub record Begins (Of : Telling) (bare : Bool) (texts : Texts) (room : ℕ) (told : List ℕ) : Type 0 where
  pub all : List ℕ
  pub whole : Tells Of bare texts all
  pub cut : IsCut all room told

-- what is told with each status, where there is so much room
abbrev pub Says : Telling → Bool → Texts → ℕ → Status → List ℕ → Type 0
Says Of bare texts room status.Done told = Tells Of bare texts told
Says Of bare texts room status.WriteFault told = Begins Of bare texts room told
Says Of bare texts room status.Refused told = (told ≡ []) × IsRefused bare texts
Says Of bare texts room status.Memory told = told ≡ []
Says Of bare texts room _ told = ⊥

-- the status of a call that tells nothing, whatever room there is
abbrev pub SaysNothing : Bool → Texts → Status → Type 0
SaysNothing bare texts status.Refused = IsRefused bare texts
SaysNothing bare texts status.Memory = Unit {0}
SaysNothing bare texts _ = ⊥

-- what is told, or the status of a call that tells nothing
abbrev pub SaysOf : Telling → Bool → Texts → Result (Vec ℕ Global) Status → Type 0
SaysOf Of bare texts (Ok told) = Tells Of bare texts told.items
SaysOf Of bare texts (Err s) = SaysNothing bare texts s

-- the number is that of a status with which so many bytes at the beginning of the buffer are told
abbrev pub IsTold : Telling → Bool → Texts → ℕ → List ℕ → ℕ → Type 0
IsTold Of bare texts number out printed = (s : Status) × (number ≡ number_of s) × Says Of bare texts (length out) s (take printed out)

-- what is told of this file, or the status of want of memory
abbrev pub Answers : Telling → Accepted → Result (Vec ℕ Global) Status → Type 0
Answers Of accepted (Ok told) = Of accepted told.items
Answers Of accepted (Err s) = s ≡ status.Memory

-- bytes that are copied: all, or as many as there is room for
abbrev pub IsCopied : List ℕ → ℕ → Status → List ℕ → Type 0
IsCopied all room status.Done told = told ≡ all
IsCopied all room status.WriteFault told = IsCut all room told
IsCopied all room _ told = ⊥
