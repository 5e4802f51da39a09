-- Values and processes whose records have identifiers as labels, in the order of their bytes. Values may hold variables.
use Rattle.std.specs.Prelude.{◌≡◌, ℕ, ◌<◌, ◌≤◌, ◌^◌, FitsSigned, List, []}
use Rattle.std.specs.Int.{w64}
use Rattle.std.specs.Ordering.{nat_cmp}
use Rattle.std.specs.List.{AllByRecursion}
use Rattle.std.specs.Cmp.Lexicographic.{slice_cmp}
use Rattle.std.specs.declared.cmp.Ordering.TheVariants.{Less}
use Rattle.pict_syntax.specs.Names.{text_of}
use Rattle.pict_core.specs.Term.{Val, Vals, Labelled, Var, Chan, Int, Char, Boolean, Text, PrimitiveVal, Record, no_vals, more_vals, no_labelled, more_labelled, Process, Zero, Par, New, Out, In, If}
use Rattle.pict_core.specs.Configuration.{Entry, Configuration}
use Rattle.pict_core.specs.Step.{Label, Quiet, Comm, Print}
use Rattle.pict_syntax.specs.declared.limits.TheConstants.{VALUE_NESTING_LIMIT}
use Rattle.pict_trace.specs.Readable.{IsIdentifier, AreBytes, nesting}

abbrev mutual
  pub IsOrdered : List (List ℕ) → Val → Type 0
  IsOrdered names (Record vs ls) = AreOrdered names vs × LabelsRise names [] ls
  IsOrdered names _ = Unit {0}

  pub AreOrdered : List (List ℕ) → Vals → Type 0
  AreOrdered names no_vals = Unit {0}
  AreOrdered names (more_vals v vs) = IsOrdered names v × AreOrdered names vs

  pub LabelsRise : List (List ℕ) → List ℕ → Labelled → Type 0
  LabelsRise names before no_labelled = Unit {0}
  LabelsRise names before (more_labelled label v ls) =
      IsIdentifier (text_of names label) × (slice_cmp nat_cmp before (text_of names label) ≡ Less) × IsOrdered names v × LabelsRise names (text_of names label) ls

-- each value of a process is so
abbrev pub IsOrderedProcess : List (List ℕ) → Process → Type 0
IsOrderedProcess names Zero = Unit {0}
IsOrderedProcess names (Par p q) = IsOrderedProcess names p × IsOrderedProcess names q
IsOrderedProcess names (New p) = IsOrderedProcess names p
IsOrderedProcess names (Out chan message at) = IsOrdered names chan × IsOrdered names message
IsOrderedProcess names (In chan replicated pattern body) = IsOrdered names chan × IsOrderedProcess names body
IsOrderedProcess names (If test p q) = IsOrdered names test × IsOrderedProcess names p × IsOrderedProcess names q

-- each process of a configuration is so
abbrev pub IsOrderedConfiguration : List (List ℕ) → Configuration → Type 0
IsOrderedConfiguration names C = AllByRecursion (λ (e : Entry). IsOrderedProcess names e.process) C.entries

-- what a step shows is so
abbrev pub IsOrderedLabel : List (List ℕ) → Label → Type 0
IsOrderedLabel names Quiet = Unit {0}
IsOrderedLabel names (Comm channel v) = IsOrdered names v
IsOrderedLabel names (Print bytes) = Unit {0}

-- A value without variables, within the ranges of its numbers and bytes.
abbrev mutual
  pub IsInRange : Val → Type 0
  IsInRange (Var level) = ⊥
  IsInRange (Chan number) = number < 2 ^ 32
  IsInRange (Int n) = FitsSigned w64 n
  IsInRange (Char byte) = byte < 2 ^ 8
  IsInRange (Boolean b) = Unit {0}
  IsInRange (Text bytes) = AreBytes bytes
  IsInRange (PrimitiveVal p) = Unit {0}
  IsInRange (Record vs ls) = AreInRange vs × LabelledInRange ls

  pub AreInRange : Vals → Type 0
  AreInRange no_vals = Unit {0}
  AreInRange (more_vals v vs) = IsInRange v × AreInRange vs

  pub LabelledInRange : Labelled → Type 0
  LabelledInRange no_labelled = Unit {0}
  LabelledInRange (more_labelled label v ls) = IsInRange v × LabelledInRange ls

-- a numbered label whose numbers fit a line that is read: it may be read where its labels are in order
abbrev pub FitsLine : ℕ × Label → Type 0
FitsLine (number, Quiet) = ⊥
FitsLine (number, Comm channel v) = (number < 2 ^ 64) × (channel < 2 ^ 32) × IsInRange v × (nesting v ≤ VALUE_NESTING_LIMIT)
FitsLine (number, Print bytes) = (number < 2 ^ 64) × AreBytes bytes
