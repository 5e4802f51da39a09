-- Devices of the proof that objects are read: the labels at their heads, and the numbers that labels get.
use Rattle.std.specs.Prelude.{ℕ, zero, suc, ◌≡◌, ◌<◌, ◌^◌, nat_eq, Bool, false, List, [], ◌∷◌, ◌++◌, map, length, get_or, slice_get, Some, IsTrue}
use Rattle.std.specs.Borrow.{Bor}
use Rattle.std.specs.Ordering.{nat_cmp}
use Rattle.std.specs.List.{AllByRecursion, flat_map, list_any}
use Rattle.std.specs.Cmp.Lexicographic.{slice_cmp}
use Rattle.std.specs.declared.cmp.Ordering.TheVariants.{Less}
use Rattle.pict_syntax.specs.declared.name.Name.{Name}
use Rattle.pict_syntax.specs.Names.{with_names}
use Rattle.pict_core.specs.Term.{Process}
use Rattle.pict_object.specs.Objects.{count_bytes, text_bytes, header, labels_of}
use Rattle.pict_object.specs.Cores.{IsLabelText}
use Rattle.pict_object.specs.Reading.{label_in, whole_at}

-- texts that are lent
abbrev pub lent : List (Bor (List ℕ)) → List (List ℕ)
lent texts = map (λ text. text.now) texts

-- identifiers, each after the one before it
abbrev pub AreLabelTexts : List ℕ → List (List ℕ) → Type 0
AreLabelTexts before [] = Unit {0}
AreLabelTexts before (text ∷ texts) = IsLabelText text × (slice_cmp nat_cmp before text ≡ Less) × AreLabelTexts text texts

-- an object begins with these labels, and the rest is behind them
pub record IsHead (bytes : List ℕ) (table : List (List ℕ)) (rest : List ℕ) : Type 0 where
  pub labels : AreLabelTexts [] table
  pub few : length table < 2 ^ 32
  pub short : AllByRecursion (λ text. length text < 2 ^ 32) table
  pub is : bytes ≡ header ++ (count_bytes (length table) ++ (flat_map text_bytes table ++ rest))

-- labels whose numbers are their places
abbrev pub own_labels : ℕ → List Name
own_labels zero = []
own_labels (suc n) = own_labels n ++ (record { 0 = n } ∷ [])

-- each number below this one stands among these
abbrev pub UsesAll : ℕ → List ℕ → Type 0
UsesAll many labels = (k : ℕ) → k < many → IsTrue (list_any (nat_eq k) labels)

-- for each number below this one, whether it stands among these
pub record AreMarks (used : List Bool) (many : ℕ) (labels : List ℕ) : Type 0 where
  pub len : length used ≡ many
  pub each : (k : ℕ) → k < many → get_or used k false ≡ list_any (nat_eq k) labels

-- the bytes are a process that uses each of so many labels
pub record UsesLabels (many : ℕ) (bytes : List ℕ) : Type 0 where
  pub process : Process
  pub is : whole_at (own_labels many) bytes ≡ Some process
  pub all : UsesAll many (labels_of process)

-- the numbers of these labels in the new names, which are the old ones and the labels that they lacked
pub record AreNumbered (old new : List (List ℕ)) (table : List (List ℕ)) (labels : List Name) : Type 0 where
  pub names : new ≡ with_names old table
  pub many : length labels ≡ length table
  pub stand : (k : ℕ) → k < length table → slice_get new (label_in labels k).0 ≡ Some (get_or table k [])
