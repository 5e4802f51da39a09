-- The lines that are read: those of values whose records have distinct identifiers as labels, in the order of their bytes.
use Rattle.std.specs.Prelude.{◌≡◌, ◌≢◌, ℕ, ◌+◌, ◌^◌, ◌<◌, ◌≤◌, max, FitsSigned, List, [], ◌∷◌, ◌++◌, length}
use Rattle.std.specs.Ordering.{nat_cmp}
use Rattle.std.specs.Int.{w64}
use Rattle.std.specs.List.{AllByRecursion}
use Rattle.std.specs.Cmp.Lexicographic.{slice_cmp}
use Rattle.std.specs.declared.cmp.Ordering.TheVariants.{Less}
use Rattle.pict_syntax.specs.Names.{text_of, with_names}
use Rattle.pict_syntax.specs.Tokens.{IsWord, keyword_text}
use Rattle.pict_syntax.specs.declared.token.Keyword.{Keyword}
use Rattle.pict_core.specs.Term.{Val, Vals, Labelled, Var, Chan, Int, Char, Boolean, Text, PrimitiveVal, Record, no_vals, more_vals, no_labelled, more_labelled}
use Rattle.pict_core.specs.Step.{Label, Quiet, Comm, Print}
use Rattle.pict_syntax.specs.declared.limits.TheConstants.{VALUE_NESTING_LIMIT}
use Rattle.pict_trace.specs.Lines.{line_text, lines_text}

abbrev pub IsIdentifier : List ℕ → Type 0
IsIdentifier text = IsWord text × ((k : Keyword) → text ≢ keyword_text k)

abbrev pub AreBytes : List ℕ → Type 0
AreBytes bytes = AllByRecursion (λ byte. byte < 2 ^ 8) bytes

-- A value without variables, within the ranges of its numbers, whose records have identifiers as labels, each after the
-- one before it in the order of bytes.
abbrev mutual
  pub IsOrderly : List (List ℕ) → Val → Type 0
  IsOrderly names (Var level) = ⊥
  IsOrderly names (Chan number) = number < 2 ^ 32
  IsOrderly names (Int n) = FitsSigned w64 n
  IsOrderly names (Char byte) = byte < 2 ^ 8
  IsOrderly names (Boolean b) = Unit {0}
  IsOrderly names (Text bytes) = AreBytes bytes
  IsOrderly names (PrimitiveVal p) = Unit {0}
  IsOrderly names (Record vs ls) = AreOrderly names vs × LabelsAfter names [] ls

  pub AreOrderly : List (List ℕ) → Vals → Type 0
  AreOrderly names no_vals = Unit {0}
  AreOrderly names (more_vals v vs) = IsOrderly names v × AreOrderly names vs

  pub LabelsAfter : List (List ℕ) → List ℕ → Labelled → Type 0
  LabelsAfter names before no_labelled = Unit {0}
  LabelsAfter names before (more_labelled label v ls) =
      IsIdentifier (text_of names label) × (slice_cmp nat_cmp before (text_of names label) ≡ Less) × IsOrderly names v × LabelsAfter names (text_of names label) ls

-- how many records nest in a value
abbrev mutual
  pub nesting : Val → ℕ
  nesting (Record vs ls) = max (nesting_all vs) (nesting_labelled ls) + 1
  nesting _ = 0

  pub nesting_all : Vals → ℕ
  nesting_all no_vals = 0
  nesting_all (more_vals v vs) = max (nesting v) (nesting_all vs)

  pub nesting_labelled : Labelled → ℕ
  nesting_labelled no_labelled = 0
  nesting_labelled (more_labelled label v ls) = max (nesting v) (nesting_labelled ls)

abbrev pub IsReadableValue : List (List ℕ) → Val → Type 0
IsReadableValue names v = IsOrderly names v × (nesting v ≤ VALUE_NESTING_LIMIT)

abbrev pub IsReadableLabel : List (List ℕ) → Label → Type 0
IsReadableLabel names Quiet = ⊥
IsReadableLabel names (Comm channel v) = (channel < 2 ^ 32) × IsReadableValue names v
IsReadableLabel names (Print bytes) = AreBytes bytes

-- a numbered label whose line is read
abbrev pub IsReadable : List (List ℕ) → ℕ × Label → Type 0
IsReadable names line = (line.0 < 2 ^ 64) × IsReadableLabel names line.1

-- the texts of labels, in the order in which they are written
abbrev mutual
  pub labels_of : List (List ℕ) → Val → List (List ℕ)
  labels_of names (Record vs ls) = labels_of_all names vs ++ labels_of_labelled names ls
  labels_of names _ = []

  pub labels_of_all : List (List ℕ) → Vals → List (List ℕ)
  labels_of_all names no_vals = []
  labels_of_all names (more_vals v vs) = labels_of names v ++ labels_of_all names vs

  pub labels_of_labelled : List (List ℕ) → Labelled → List (List ℕ)
  labels_of_labelled names no_labelled = []
  labels_of_labelled names (more_labelled label v ls) = text_of names label ∷ (labels_of names v ++ labels_of_labelled names ls)

abbrev pub labels_in_line : List (List ℕ) → ℕ × Label → List (List ℕ)
labels_in_line names (number, Comm channel v) = labels_of names v
labels_in_line names (number, _) = []

abbrev pub labels_in : List (List ℕ) → List (ℕ × Label) → List (List ℕ)
labels_in names [] = []
labels_in names (line ∷ lines) = labels_in_line names line ++ labels_in names lines

-- the label stands in the text, with `=` (61) behind it
pub record IsLabelIn (text label : List ℕ) : Type 0 where
  pub front : List ℕ
  pub after : List ℕ
  pub stands : text ≡ front ++ (label ++ (61 ∷ after))
  pub is : IsIdentifier label

-- the names and, at their end, labels of the text that they lacked
pub record GainsLabels (text : List ℕ) (old new : List (List ℕ)) : Type 0 where
  pub labels : List (List ℕ)
  pub stand : AllByRecursion (IsLabelIn text) labels
  pub gained : new ≡ with_names old labels

-- these bytes begin with a line of these names
abbrev pub BeginsWithLine : List (List ℕ) → List ℕ → Type 0
BeginsWithLine names bytes = (line : ℕ × Label) × (after : List ℕ) × IsReadable names line × (bytes ≡ line_text names line.0 line.1 ++ after)

-- the text begins with these lines, and `rest` is behind them
pub record BeginsWithLines (names : List (List ℕ)) (text : List ℕ) (lines : List (ℕ × Label)) (rest : List ℕ) : Type 0 where
  pub shown : AllByRecursion (IsReadable names) lines
  pub whole : text ≡ lines_text names lines ++ rest

-- the text is these lines, all of it
abbrev pub IsLines : List (List ℕ) → List ℕ → List (ℕ × Label) → Type 0
IsLines names text lines = BeginsWithLines names text lines []

-- line `number`, from 1, is there, and is the first that isn't a line, whatever names there are
pub record IsFirstBad (text : List ℕ) (number : ℕ) : Type 0 where
  pub names : List (List ℕ)
  pub lines : List (ℕ × Label)
  pub rest : List ℕ
  pub before : BeginsWithLines names text lines rest
  pub place : number ≡ length lines + 1
  pub more : rest ≢ []
  pub bad : (others : List (List ℕ)) → ¬ BeginsWithLine others rest
