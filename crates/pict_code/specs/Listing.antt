-- The listing of a code: a line for each node, with its number, its frame and its instruction, one space between them. 32 is
-- a space, 10 a newline, 61 `=`, 95 `_`, 115 `s`, 123 and 125 are `{` and `}`.
use Rattle.std.specs.Prelude.{ℕ, suc, List, [], ◌∷◌, ◌++◌, map, codes}
use Rattle.std.specs.Fmt.{decimal}
use Rattle.std.specs.List.{join_with_byte}
use Rattle.pict_syntax.specs.Names.{text_of}
use Rattle.pict_show.specs.Values.{value_text, in_brackets}
use Rattle.pict_code.specs.Instruction.{CodePat, Bind, Any, RecordPat, CodePats, no_pats, more_pats, LabelledCodePats, no_labelled_pats, more_labelled_pats, Op, Zero, Par, New, Out, In, Serve, If, Node}

-- a variable is `s` and its level
abbrev pub variable_text : ℕ → List ℕ
variable_text level = 115 ∷ decimal level

-- Patterns are written as values are: a variable, `_`, or a record's fields in brackets, the positional ones first.
abbrev mutual
  pub pattern_text : List (List ℕ) → CodePat → List ℕ
  pattern_text names (Bind level) = variable_text level
  pattern_text names Any = 95 ∷ []
  pattern_text names (RecordPat ps ls) = in_brackets (pattern_texts names ps ++ labelled_pattern_texts names ls)

  pub pattern_texts : List (List ℕ) → CodePats → List (List ℕ)
  pattern_texts names no_pats = []
  pattern_texts names (more_pats p ps) = pattern_text names p ∷ pattern_texts names ps

  pub labelled_pattern_texts : List (List ℕ) → LabelledCodePats → List (List ℕ)
  labelled_pattern_texts names no_labelled_pats = []
  labelled_pattern_texts names (more_labelled_pats label p ps) = (text_of names label ++ (61 ∷ pattern_text names p)) ∷ labelled_pattern_texts names ps

-- the levels, one space between them, in braces
abbrev pub frame_text : List ℕ → List ℕ
frame_text frame = 123 ∷ (join_with_byte 32 (map variable_text frame) ++ 125 ∷ [])

-- what an instruction does, and with what
abbrev pub op_words : List (List ℕ) → Op → List (List ℕ)
op_words names Zero = codes "zero" ∷ []
op_words names (Par left right) = codes "par" ∷ decimal left ∷ decimal right ∷ []
op_words names (New level part) = codes "new" ∷ variable_text level ∷ decimal part ∷ []
op_words names (Out chan message at) = codes "out" ∷ value_text names chan ∷ value_text names message ∷ []
op_words names (In chan pattern part) = codes "in" ∷ value_text names chan ∷ pattern_text names pattern ∷ decimal part ∷ []
op_words names (Serve chan pattern part) = codes "serve" ∷ value_text names chan ∷ pattern_text names pattern ∷ decimal part ∷ []
op_words names (If test left right) = codes "if" ∷ value_text names test ∷ decimal left ∷ decimal right ∷ []

abbrev pub line_text : List (List ℕ) → ℕ → Node → List ℕ
line_text names number node = join_with_byte 32 (decimal number ∷ frame_text node.frame ∷ op_words names node.op) ++ 10 ∷ []

-- the lines of these nodes, numbered from this number on
abbrev pub lines_from : List (List ℕ) → ℕ → List Node → List ℕ
lines_from names number [] = []
lines_from names number (n ∷ ns) = line_text names number n ++ lines_from names (suc number) ns

abbrev pub listing_text : List (List ℕ) → List Node → List ℕ
listing_text names nodes = lines_from names 0 nodes
