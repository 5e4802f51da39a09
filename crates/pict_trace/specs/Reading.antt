-- What stands at the front of a text.
use Rattle.std.specs.Prelude.{◌≡◌, ◌≢◌, ℕ, ◌+◌, ◌≤◌, ◌<◌, ◌^◌, ◌==◌, ◌||◌, Bool, true, List, [], ◌∷◌, ◌++◌, length, map, slice_get, Some}
use Rattle.std.specs.Ordering.{nat_cmp}
use Rattle.std.specs.Cmp.Lexicographic.{slice_cmp}
use Rattle.std.specs.declared.cmp.Ordering.TheVariants.{Less}
use Rattle.pict_syntax.specs.Tokens.{item_bytes, items_bytes}
use Rattle.pict_core.specs.Term.{Val, Vals, Labelled, Int, Chan, Boolean, PrimitiveVal, Record, no_labelled, more_labelled}
use Rattle.pict_syntax.specs.Names.{text_of}
use Rattle.pict_core.specs.Step.{Label}
use Rattle.pict_show.specs.Values.{value_text, item_of}
use Rattle.pict_trace.specs.Lines.{shown_text, line_text}
use Rattle.pict_trace.specs.Readable.{IsIdentifier, IsOrderly, AreBytes, LabelsAfter, GainsLabels, IsReadable, IsReadableLabel, nesting, nesting_labelled}

-- ---- values without quotes and brackets

-- what ends such a value: a space, a newline, `]`
abbrev pub is_end : ℕ → Bool
is_end b = (b == 32) || ((b == 10) || (b == 93))

-- what may stand behind a value
abbrev pub Ends : List ℕ → Type 0
Ends [] = Unit {0}
Ends (b ∷ bs) = is_end b ≡ true

abbrev pub IsBare : Val → Type 0
IsBare (Int n) = Unit {0}
IsBare (Chan number) = Unit {0}
IsBare (Boolean b) = Unit {0}
IsBare (PrimitiveVal p) = Unit {0}
IsBare _ = ⊥

pub record IsBareText (names : List (List ℕ)) (text : List ℕ) (v : Val) : Type 0 where
  pub bare : IsBare v
  pub orderly : IsOrderly names v
  pub is : text ≡ value_text names v

abbrev pub IsNoBareText : List ℕ → Type 0
IsNoBareText text = (names : List (List ℕ)) (v : Val) → ¬ IsBareText names text v

-- ---- bytes between quotes: 34 is `"`

-- no byte is written at the front as it is to be
abbrev pub BeginsNoByte : ℕ → List ℕ → Type 0
BeginsNoByte quote after = (byte : ℕ) (rest : List ℕ) → byte < 2 ^ 8 → after ≢ item_bytes (item_of quote byte) ++ rest

-- the bytes of a string, its closing quote, and what is behind it
abbrev pub string_end : List ℕ → List ℕ → List ℕ
string_end bytes rest = items_bytes (map (item_of 34) bytes) ++ (34 ∷ rest)

pub record EndsString (after bytes rest : List ℕ) : Type 0 where
  pub are : AreBytes bytes
  pub whole : after ≡ string_end bytes rest

abbrev pub EndsNoString : List ℕ → Type 0
EndsNoString after = (bytes rest : List ℕ) → ¬ EndsString after bytes rest

-- ---- values

-- the text is that of a value with at most so many records in one another, and `rest` is behind it
pub record Reads (names : List (List ℕ)) (depth : ℕ) (text : List ℕ) (v : Val) (rest : List ℕ) : Type 0 where
  pub orderly : IsOrderly names v
  pub low : nesting v ≤ depth
  pub ends : Ends rest
  pub whole : text ≡ value_text names v ++ rest

abbrev pub BeginsNoValue : ℕ → List ℕ → Type 0
BeginsNoValue depth text = (names : List (List ℕ)) (v : Val) (rest : List ℕ) → ¬ Reads names depth text v rest

-- the text, behind a bracket, is the fields of this record, with at most so many records in one another in each, its end,
-- and `rest`
pub record ReadsFields (names : List (List ℕ)) (depth : ℕ) (text : List ℕ) (vs : Vals) (ls : Labelled) (rest : List ℕ) : Type 0 where
  pub orderly : IsOrderly names (Record vs ls)
  pub low : nesting (Record vs ls) ≤ depth + 1
  pub whole : 91 ∷ text ≡ value_text names (Record vs ls) ++ rest

abbrev pub BeginsNoFields : ℕ → List ℕ → Type 0
BeginsNoFields depth text = (names : List (List ℕ)) (vs : Vals) (ls : Labelled) (rest : List ℕ) → ¬ ReadsFields names depth text vs ls rest

-- ---- fields with labels

abbrev pub BeginsNoLabel : List ℕ → Type 0
BeginsNoLabel text = (word rest : List ℕ) → IsIdentifier word → text ≢ word ++ (61 ∷ rest)

pub record BeginsLabel (text : List ℕ) : Type 0 where
  pub word : List ℕ
  pub more : List ℕ
  pub is : IsIdentifier word
  pub whole : text ≡ word ++ (61 ∷ more)

-- none that comes after `before` in the order of bytes
abbrev pub BeginsNoLabelAfter : List ℕ → List ℕ → Type 0
BeginsNoLabelAfter before text = (word rest : List ℕ) → IsIdentifier word → slice_cmp nat_cmp before word ≡ Less → text ≢ word ++ (61 ∷ rest)

-- a label that comes after `before`, with its number and the text behind its `=`
pub record IsLabelAfter (names : List (List ℕ)) (before text : List ℕ) (name : ℕ) (word rest : List ℕ) : Type 0 where
  pub is : IsIdentifier word
  pub whole : text ≡ word ++ (61 ∷ rest)
  pub less : slice_cmp nat_cmp before word ≡ Less
  pub stands : slice_get names name ≡ Some word

-- fields with labels, each behind a space, and then these bytes
abbrev pub spaced_labels : List (List ℕ) → Labelled → List ℕ → List ℕ
spaced_labels names no_labelled after = after
spaced_labels names (more_labelled l v ls) after = 32 ∷ (text_of names l ++ (61 ∷ (value_text names v ++ spaced_labels names ls after)))

-- the text, behind a space, is these fields, whose labels come after one, with the end of their record and `rest` behind it
pub record ReadsLabelled (names : List (List ℕ)) (depth : ℕ) (before text : List ℕ) (ls : Labelled) (rest : List ℕ) : Type 0 where
  pub orderly : LabelsAfter names before ls
  pub low : nesting_labelled ls ≤ depth
  pub whole : 32 ∷ text ≡ spaced_labels names ls (93 ∷ rest)

abbrev pub BeginsNoLabelled : ℕ → List ℕ → Type 0
BeginsNoLabelled depth text = (names : List (List ℕ)) (ls : Labelled) (rest : List ℕ) → ¬ ReadsLabelled names depth [] text ls rest

-- ---- lines

-- the text is what a label shows, a newline, and `rest`
pub record ReadsShown (names : List (List ℕ)) (text : List ℕ) (label : Label) (rest : List ℕ) : Type 0 where
  pub readable : IsReadableLabel names label
  pub whole : text ≡ shown_text names label ++ (10 ∷ rest)

abbrev pub BeginsNoShown : List ℕ → Type 0
BeginsNoShown text = (names : List (List ℕ)) (label : Label) (rest : List ℕ) → ¬ ReadsShown names text label rest

-- the text is this line, and `rest`
pub record ReadsLine (names : List (List ℕ)) (text : List ℕ) (line : ℕ × Label) (rest : List ℕ) : Type 0 where
  pub readable : IsReadable names line
  pub whole : text ≡ line_text names line.0 line.1 ++ rest

-- ---- names

-- what the names become while the text is read up to `rest`
pub record NamesGrow (text : List ℕ) (old new : List (List ℕ)) (rest : List ℕ) : Type 0 where
  pub left : length new + length rest ≤ length old + length text
  pub kept : GainsLabels text old new
  pub front : List ℕ
  pub behind : text ≡ front ++ rest
