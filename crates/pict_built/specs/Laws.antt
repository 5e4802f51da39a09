-- The laws of objects that are read by no names but their own labels.
use Rattle.std.specs.Prelude.{ℕ, ◌≡◌, ◌<◌, ◌≤◌, ◌^◌, ◌⊎◌, List, [], length, get_or}
use Rattle.pict_syntax.specs.Names.{HasNoRepeats}
use Rattle.pict_core.specs.Term.{Process}
use Rattle.pict_core.specs.Step.{Label}
use Rattle.pict_core.specs.Run.{End, Done, FuelSpent, Trap, Misshapen, Runs, bytes_of}
use Rattle.pict_object.specs.Objects.{nowhere, bare}
use Rattle.pict_object.specs.Cores.{IsObjectCore, IsObject}
use Rattle.pict_object.specs.Decoded.{IsNoObject, IsDecoded}

-- each of these is a byte
abbrev pub AreBytes : List ℕ → Type 0
AreBytes bytes = (i : ℕ) → get_or bytes i 0 < 2 ^ 8

-- bytes are the object of a process, or of none
abbrev pub BytesAreDecided : Type 0
BytesAreDecided = (bytes : List ℕ) → AreBytes bytes → ((names : List (List ℕ)) × (p : Process) × IsDecoded [] names bytes p) ⊎ IsNoObject bytes

-- an object is one process
abbrev pub ObjectsAreDecodedOnce : Type 0
ObjectsAreDecodedOnce = (bytes : List ℕ) (names others : List (List ℕ)) (p q : Process) → IsDecoded [] names bytes p → IsDecoded [] others bytes q → p ≡ q

-- a process within the bounds of objects has an object of at most so many bytes, or each object of it has more
abbrev pub ObjectsAreSized : Type 0
ObjectsAreSized =
    (names : List (List ℕ)) (p : Process) (limit : ℕ) → IsObjectCore names p
    → ((bytes : List ℕ) × IsObject names bytes p × (length bytes ≤ limit)) ⊎ ((bytes : List ℕ) → IsObject names bytes p → limit < length bytes)

-- the end of a run in a process without places
abbrev pub placeless : End → End
placeless Done = Done
placeless FuelSpent = FuelSpent
placeless (Trap at) = Trap nowhere
placeless Misshapen = Misshapen

-- what is read of the object of a process has the runs of that process: with the same end, and they print the same bytes
abbrev pub DecodedRunsAsWritten : Type 0
DecodedRunsAsWritten =
    (names others : List (List ℕ)) (bytes : List ℕ) (p q : Process) → HasNoRepeats names → IsObject names bytes p → IsDecoded [] others bytes q
    → (fuel : ℕ) (end : End) (labels : List (ℕ × Label)) → Runs p fuel end labels
    → (shown : List (ℕ × Label)) × Runs q fuel (placeless end) shown × (bytes_of shown ≡ bytes_of labels)

-- what was written is read over the same names as the process without places, and the names stay as they are
abbrev pub WrittenIsReadBack : Type 0
WrittenIsReadBack =
    (names new : List (List ℕ)) (bytes : List ℕ) (p q : Process) → HasNoRepeats names → IsObject names bytes p → IsDecoded names new bytes q → (new ≡ names) × (q ≡ bare p)
