-- Objects: core processes as bytes, row by row of the table of objects. Numbers stand with their greatest byte first; a count
-- has four bytes.
use Rattle.std.specs.Prelude.{ℕ, ◌+◌, ◌≡◌, ◌↔◌, Bool, true, false, List, [], ◌∷◌, ◌++◌, length, IsTrue}
use Rattle.std.specs.Int.{w32, w64, to_be_bytes, cast_unsigned}
use Rattle.std.specs.Ordering.{nat_cmp}
use Rattle.std.specs.List.{flat_map, list_any}
use Rattle.std.specs.Str.{bytes_eq}
use Rattle.std.specs.Cmp.Lexicographic.{slice_cmp}
use Rattle.std.specs.declared.cmp.Ordering.TheVariants.{Less}
use Rattle.pict_syntax.specs.Primitives.{primitive_number}
use Rattle.pict_syntax.specs.declared.span.Span.{Span}
use Rattle.pict_core.specs.Term.{Val, Vals, Labelled, Pat, Pats, LabelledPats, Bind, Any, RecordPat, no_pats, more_pats, no_labelled_pats, more_labelled_pats, Process, Var, Chan, Int, Char, Boolean, Text, PrimitiveVal, Record, no_vals, more_vals, no_labelled, more_labelled, Zero, Par, New, Out, In, If}
use Rattle.pict_syntax.specs.Names.{text_of, number_of}

-- ---- the bytes of the parts; place gives the place of each label in the object's labels

abbrev pub count_bytes : ℕ → List ℕ
count_bytes n = to_be_bytes w32 n

abbrev pub how_many_vals : Vals → ℕ
how_many_vals no_vals = 0
how_many_vals (more_vals v vs) = how_many_vals vs + 1

abbrev pub how_many_labelled : Labelled → ℕ
how_many_labelled no_labelled = 0
how_many_labelled (more_labelled label v ls) = how_many_labelled ls + 1

abbrev pub how_many_pats : Pats → ℕ
how_many_pats no_pats = 0
how_many_pats (more_pats p ps) = how_many_pats ps + 1

abbrev pub how_many_labelled_pats : LabelledPats → ℕ
how_many_labelled_pats no_labelled_pats = 0
how_many_labelled_pats (more_labelled_pats label p ps) = how_many_labelled_pats ps + 1

abbrev pub bool_byte : Bool → ℕ
bool_byte false = 0x13
bool_byte true = 0x14

-- a channel has no bytes: the processes of objects name none
abbrev mutual
  pub value_bytes : (ℕ → ℕ) → Val → List ℕ
  value_bytes place (Var level) = 0x10 ∷ count_bytes level
  value_bytes place (Chan number) = []
  value_bytes place (Int n) = 0x11 ∷ to_be_bytes w64 (cast_unsigned w64 n)
  value_bytes place (Char byte) = 0x12 ∷ byte ∷ []
  value_bytes place (Boolean b) = bool_byte b ∷ []
  value_bytes place (Text bytes) = 0x15 ∷ (count_bytes (length bytes) ++ bytes)
  value_bytes place (PrimitiveVal p) = 0x16 ∷ primitive_number p ∷ []
  value_bytes place (Record vs ls) = 0x17 ∷ (count_bytes (how_many_vals vs) ++ (values_bytes place vs ++ (count_bytes (how_many_labelled ls) ++ labelled_bytes place ls)))

  pub values_bytes : (ℕ → ℕ) → Vals → List ℕ
  values_bytes place no_vals = []
  values_bytes place (more_vals v vs) = value_bytes place v ++ values_bytes place vs

  pub labelled_bytes : (ℕ → ℕ) → Labelled → List ℕ
  labelled_bytes place no_labelled = []
  labelled_bytes place (more_labelled label v ls) = count_bytes (place label) ++ (value_bytes place v ++ labelled_bytes place ls)

abbrev mutual
  pub pattern_bytes : (ℕ → ℕ) → Pat → List ℕ
  pattern_bytes place Bind = 0x20 ∷ []
  pattern_bytes place Any = 0x21 ∷ []
  pattern_bytes place (RecordPat ps ls) = 0x22 ∷ (count_bytes (how_many_pats ps) ++ (patterns_bytes place ps ++ (count_bytes (how_many_labelled_pats ls) ++ labelled_patterns_bytes place ls)))

  pub patterns_bytes : (ℕ → ℕ) → Pats → List ℕ
  patterns_bytes place no_pats = []
  patterns_bytes place (more_pats p ps) = pattern_bytes place p ++ patterns_bytes place ps

  pub labelled_patterns_bytes : (ℕ → ℕ) → LabelledPats → List ℕ
  labelled_patterns_bytes place no_labelled_pats = []
  labelled_patterns_bytes place (more_labelled_pats label p ps) = count_bytes (place label) ++ (pattern_bytes place p ++ labelled_patterns_bytes place ps)

abbrev pub input_byte : Bool → ℕ
input_byte false = 4
input_byte true = 5

abbrev pub process_bytes : (ℕ → ℕ) → Process → List ℕ
process_bytes place Zero = 0 ∷ []
process_bytes place (Par p q) = 1 ∷ (process_bytes place p ++ process_bytes place q)
process_bytes place (New p) = 2 ∷ process_bytes place p
process_bytes place (Out chan message at) = 3 ∷ (value_bytes place chan ++ value_bytes place message)
process_bytes place (In chan replicated pattern body) = input_byte replicated ∷ (value_bytes place chan ++ (pattern_bytes place pattern ++ process_bytes place body))
process_bytes place (If test p q) = 6 ∷ (value_bytes place test ++ (process_bytes place p ++ process_bytes place q))

-- ---- the object

-- the labels that occur, in reading order and as often as they stand
abbrev mutual
  pub labels_of_value : Val → List ℕ
  labels_of_value (Record vs ls) = labels_of_values vs ++ labels_of_labelled ls
  labels_of_value _ = []

  pub labels_of_values : Vals → List ℕ
  labels_of_values no_vals = []
  labels_of_values (more_vals v vs) = labels_of_value v ++ labels_of_values vs

  pub labels_of_labelled : Labelled → List ℕ
  labels_of_labelled no_labelled = []
  labels_of_labelled (more_labelled label v ls) = label ∷ (labels_of_value v ++ labels_of_labelled ls)

abbrev mutual
  pub labels_of_pattern : Pat → List ℕ
  labels_of_pattern Bind = []
  labels_of_pattern Any = []
  labels_of_pattern (RecordPat ps ls) = labels_of_patterns ps ++ labels_of_labelled_patterns ls

  pub labels_of_patterns : Pats → List ℕ
  labels_of_patterns no_pats = []
  labels_of_patterns (more_pats p ps) = labels_of_pattern p ++ labels_of_patterns ps

  pub labels_of_labelled_patterns : LabelledPats → List ℕ
  labels_of_labelled_patterns no_labelled_pats = []
  labels_of_labelled_patterns (more_labelled_pats label p ps) = label ∷ (labels_of_pattern p ++ labels_of_labelled_patterns ps)

abbrev pub labels_of : Process → List ℕ
labels_of Zero = []
labels_of (Par p q) = labels_of p ++ labels_of q
labels_of (New p) = labels_of p
labels_of (Out chan message at) = labels_of_value chan ++ labels_of_value message
labels_of (In chan replicated pattern body) = labels_of_value chan ++ (labels_of_pattern pattern ++ labels_of body)
labels_of (If test p q) = labels_of_value test ++ (labels_of p ++ labels_of q)

-- a label with this text occurs
abbrev pub Occurs : List (List ℕ) → Process → List ℕ → Type 0
Occurs names p text = IsTrue (list_any (λ label. bytes_eq text (text_of names label)) (labels_of p))

-- texts of which each comes after the one before it
abbrev pub TextsRise : List ℕ → List (List ℕ) → Type 0
TextsRise before [] = Unit {0}
TextsRise before (text ∷ texts) = (slice_cmp nat_cmp before text ≡ Less) × TextsRise text texts

-- the object's labels: exactly those that occur, each after the one before it in the order of bytes
pub record AreLabels (names : List (List ℕ)) (p : Process) (table : List (List ℕ)) : Type 0 where
  pub rise : TextsRise [] table
  pub exactly : (text : List ℕ) → IsTrue (list_any (bytes_eq text) table) ↔ Occurs names p text

-- the place of a label in the table
abbrev pub place_in : List (List ℕ) → List (List ℕ) → ℕ → ℕ
place_in names table label = number_of table (text_of names label)

abbrev pub text_bytes : List ℕ → List ℕ
text_bytes text = count_bytes (length text) ++ text

abbrev pub header : List ℕ
header = 0x50 ∷ 0x49 ∷ 0x43 ∷ 0x54 ∷ 1 ∷ []

abbrev pub object_bytes : List (List ℕ) → List (List ℕ) → Process → List ℕ
object_bytes names table p = header ++ (count_bytes (length table) ++ (flat_map text_bytes table ++ process_bytes (place_in names table) p))

-- ---- the same process without places

abbrev pub nowhere : Span
nowhere = record { text = 0; start = 0; end = 0 }

abbrev pub bare : Process → Process
bare Zero = Zero
bare (Par p q) = Par (bare p) (bare q)
bare (New p) = New (bare p)
bare (Out chan message at) = Out chan message nowhere
bare (In chan replicated pattern body) = In chan replicated pattern (bare body)
bare (If test p q) = If test (bare p) (bare q)
