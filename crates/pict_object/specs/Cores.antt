-- Which processes objects are of, and the object of one.
use Rattle.std.specs.Prelude.{ℕ, ◌≡◌, ◌≤◌, List, [], ◌∷◌}
use Rattle.std.specs.Ordering.{nat_cmp}
use Rattle.std.specs.List.{AllByRecursion}
use Rattle.std.specs.Cmp.Lexicographic.{slice_cmp}
use Rattle.std.specs.declared.cmp.Ordering.TheVariants.{Less}
use Rattle.pict_syntax.specs.Names.{text_of}
use Rattle.pict_syntax.specs.Tokens.{Spells, identifier}
use Rattle.pict_syntax.specs.declared.limits.TheConstants.{DEPTH_LIMIT, NESTING_LIMIT}
use Rattle.pict_core.specs.Term.{Val, Vals, Labelled, Pat, Pats, LabelledPats, Bind, Any, RecordPat, no_pats, more_pats, no_labelled_pats, more_labelled_pats, Process, Record, no_vals, more_vals, no_labelled, more_labelled, Zero, Par, New, Out, In, If, depth_of}
use Rattle.pict_core.specs.Closed.{IsClosed}
use Rattle.pict_translation.specs.Within.{Nests}
use Rattle.pict_object.specs.Objects.{labels_of, AreLabels, object_bytes}
use Rattle.pict_object.specs.Fits.{HasObject}

-- labels each of which comes after this one, and after the one before it
abbrev pub RiseAfter : (ℕ → ℕ → Type 0) → ℕ → List ℕ → Type 0
RiseAfter Before label [] = Unit {0}
RiseAfter Before label (next ∷ labels) = Before label next × RiseAfter Before next labels

-- labels each of which comes after the one before it
abbrev pub Rise : (ℕ → ℕ → Type 0) → List ℕ → Type 0
Rise Before [] = Unit {0}
Rise Before (label ∷ labels) = RiseAfter Before label labels

-- the labels of fields
abbrev pub field_labels : Labelled → List ℕ
field_labels no_labelled = []
field_labels (more_labelled label v ls) = label ∷ field_labels ls

abbrev pub pattern_field_labels : LabelledPats → List ℕ
pattern_field_labels no_labelled_pats = []
pattern_field_labels (more_labelled_pats label p ls) = label ∷ pattern_field_labels ls

-- in each record the labels rise
abbrev mutual
  pub IsRising : (ℕ → ℕ → Type 0) → Val → Type 0
  IsRising Before (Record vs ls) = AreRising Before vs × FieldsAreRising Before ls × Rise Before (field_labels ls)
  IsRising Before _ = Unit {0}

  pub AreRising : (ℕ → ℕ → Type 0) → Vals → Type 0
  AreRising Before no_vals = Unit {0}
  AreRising Before (more_vals v vs) = IsRising Before v × AreRising Before vs

  pub FieldsAreRising : (ℕ → ℕ → Type 0) → Labelled → Type 0
  FieldsAreRising Before no_labelled = Unit {0}
  FieldsAreRising Before (more_labelled label v ls) = IsRising Before v × FieldsAreRising Before ls

-- in each record pattern the labels rise
abbrev mutual
  pub PatternIsRising : (ℕ → ℕ → Type 0) → Pat → Type 0
  PatternIsRising Before Bind = Unit {0}
  PatternIsRising Before Any = Unit {0}
  PatternIsRising Before (RecordPat ps ls) = PatternsAreRising Before ps × PatternFieldsAreRising Before ls × Rise Before (pattern_field_labels ls)

  pub PatternsAreRising : (ℕ → ℕ → Type 0) → Pats → Type 0
  PatternsAreRising Before no_pats = Unit {0}
  PatternsAreRising Before (more_pats p ps) = PatternIsRising Before p × PatternsAreRising Before ps

  pub PatternFieldsAreRising : (ℕ → ℕ → Type 0) → LabelledPats → Type 0
  PatternFieldsAreRising Before no_labelled_pats = Unit {0}
  PatternFieldsAreRising Before (more_labelled_pats label p ls) = PatternIsRising Before p × PatternFieldsAreRising Before ls

-- so it is with each value and each pattern of a process
abbrev pub LabelsRise : (ℕ → ℕ → Type 0) → Process → Type 0
LabelsRise Before Zero = Unit {0}
LabelsRise Before (Par p q) = LabelsRise Before p × LabelsRise Before q
LabelsRise Before (New p) = LabelsRise Before p
LabelsRise Before (Out chan message at) = IsRising Before chan × IsRising Before message
LabelsRise Before (In chan replicated pattern body) = IsRising Before chan × PatternIsRising Before pattern × LabelsRise Before body
LabelsRise Before (If test p q) = IsRising Before test × LabelsRise Before p × LabelsRise Before q

-- the text of a label: an identifier
abbrev pub IsLabelText : List ℕ → Type 0
IsLabelText text = Spells text (identifier text)

-- one label's text comes before another's in the order of bytes
abbrev pub ComesBefore : List (List ℕ) → ℕ → ℕ → Type 0
ComesBefore names l m = slice_cmp nat_cmp (text_of names l) (text_of names m) ≡ Less

-- A process that may have an object: closed, without channels, within the limits of depth and of nesting, and its labels are
-- identifiers, those of each record and of each record pattern in the order of their bytes.
pub record IsObjectCore (names : List (List ℕ)) (p : Process) : Type 0 where
  pub closed : IsClosed p
  pub shallow : depth_of p ≤ DEPTH_LIMIT
  pub nests : Nests NESTING_LIMIT p
  pub identifiers : AllByRecursion (λ label. IsLabelText (text_of names label)) (labels_of p)
  pub rising : LabelsRise (ComesBefore names) p

-- these bytes are the object of the process
pub record IsObject (names : List (List ℕ)) (bytes : List ℕ) (p : Process) : Type 0 where
  pub core : IsObjectCore names p
  pub table : List (List ℕ)
  pub labels : AreLabels names p table
  pub fits : HasObject names table p
  pub is : bytes ≡ object_bytes names table p
