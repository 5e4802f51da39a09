-- The laws of objects: a process has one object, and an object is of one process, but for its places.
use Rattle.std.specs.Prelude.{ℕ, ◌<◌, ◌≡◌, ◌^◌, List, ◌++◌, IsTrue}
use Rattle.std.specs.List.{list_any}
use Rattle.std.specs.Str.{bytes_eq}
use Rattle.pict_syntax.specs.Names.{text_of, HasNoRepeats}
use Rattle.pict_core.specs.Term.{Process}
use Rattle.pict_object.specs.Objects.{process_bytes, object_bytes, bare, AreLabels}
use Rattle.pict_object.specs.Fits.{HasBytes, HasObject}
use Rattle.pict_object.specs.Cores.{IsObject}

-- labels that have a place have places of their own, each in four bytes
pub record ArePlaces (place : ℕ → ℕ) (Placed : ℕ → Type 0) : Type 0 where
  pub own : (l m : ℕ) → Placed l → Placed m → place l ≡ place m → l ≡ m
  pub small : (l : ℕ) → Placed l → place l < 2 ^ 32

-- no process' bytes are the beginning of another's: from the bytes of one, whatever comes behind, the process is read back but
-- for its places
abbrev pub ProcessesAreReadOnce : Type 1
ProcessesAreReadOnce =
    (place : ℕ → ℕ) (Placed : ℕ → Type 0) → ArePlaces place Placed → (p q : Process) (r s : List ℕ) → HasBytes Placed p → HasBytes Placed q
    → process_bytes place p ++ r ≡ process_bytes place q ++ s → (bare p ≡ bare q) × (r ≡ s)

-- two objects with the same bytes have the same labels, and their processes are the same but for their places
abbrev pub ObjectsAreReadOnce : Type 0
ObjectsAreReadOnce =
    (names table others : List (List ℕ)) (p q : Process)
    → ((l m : ℕ) → IsTrue (list_any (bytes_eq (text_of names l)) table) → text_of names l ≡ text_of names m → l ≡ m)
    → HasObject names table p → HasObject names others q → object_bytes names table p ≡ object_bytes names others q
    → (table ≡ others) × (bare p ≡ bare q)

-- a process has one table of labels
abbrev pub TablesAreOne : Type 0
TablesAreOne = (names : List (List ℕ)) (p : Process) (table others : List (List ℕ)) → AreLabels names p table → AreLabels names p others → table ≡ others

-- the same bytes are the object of one process, but for its places
abbrev pub ObjectsHaveOneCore : Type 0
ObjectsHaveOneCore =
    (names : List (List ℕ)) → HasNoRepeats names → (bytes : List ℕ) (p q : Process) → IsObject names bytes p → IsObject names bytes q → bare p ≡ bare q

-- a process has one object, whatever its places
abbrev pub CoresHaveOneObject : Type 0
CoresHaveOneObject =
    (names : List (List ℕ)) (bytes others : List ℕ) (p q : Process) → IsObject names bytes p → IsObject names others q → bare p ≡ bare q → bytes ≡ others
