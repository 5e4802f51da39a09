-- Which numbers and labels have room in the bytes of an object.
use Rattle.std.specs.Prelude.{ℕ, ◌<◌, ◌^◌, FitsSigned, List, length, IsTrue}
use Rattle.std.specs.List.{list_any, AllByRecursion}
use Rattle.std.specs.Str.{bytes_eq}
use Rattle.pict_syntax.specs.Names.{text_of}
use Rattle.std.specs.Int.{w64}
use Rattle.pict_core.specs.Term.{Val, Vals, Labelled, Pat, Pats, LabelledPats, Bind, Any, RecordPat, no_pats, more_pats, no_labelled_pats, more_labelled_pats, Process, Var, Chan, Int, Char, Boolean, Text, PrimitiveVal, Record, no_vals, more_vals, no_labelled, more_labelled, Zero, Par, New, Out, In, If}
use Rattle.pict_object.specs.Objects.{how_many_vals, how_many_labelled, how_many_pats, how_many_labelled_pats}

-- The numbers have room in the bytes, and each label is one that has a place. No channel stands in it.
abbrev mutual
  pub ValueHasBytes : (ℕ → Type 0) → Val → Type 0
  ValueHasBytes Placed (Var level) = level < 2 ^ 32
  ValueHasBytes Placed (Chan number) = ⊥
  ValueHasBytes Placed (Int n) = FitsSigned w64 n
  ValueHasBytes Placed (Char byte) = Unit {0}
  ValueHasBytes Placed (Boolean b) = Unit {0}
  ValueHasBytes Placed (Text bytes) = length bytes < 2 ^ 32
  ValueHasBytes Placed (PrimitiveVal p) = Unit {0}
  ValueHasBytes Placed (Record vs ls) = (how_many_vals vs < 2 ^ 32) × (how_many_labelled ls < 2 ^ 32) × ValuesHaveBytes Placed vs × LabelledHaveBytes Placed ls

  pub ValuesHaveBytes : (ℕ → Type 0) → Vals → Type 0
  ValuesHaveBytes Placed no_vals = Unit {0}
  ValuesHaveBytes Placed (more_vals v vs) = ValueHasBytes Placed v × ValuesHaveBytes Placed vs

  pub LabelledHaveBytes : (ℕ → Type 0) → Labelled → Type 0
  LabelledHaveBytes Placed no_labelled = Unit {0}
  LabelledHaveBytes Placed (more_labelled label v ls) = Placed label × ValueHasBytes Placed v × LabelledHaveBytes Placed ls

abbrev mutual
  pub PatternHasBytes : (ℕ → Type 0) → Pat → Type 0
  PatternHasBytes Placed Bind = Unit {0}
  PatternHasBytes Placed Any = Unit {0}
  PatternHasBytes Placed (RecordPat ps ls) = (how_many_pats ps < 2 ^ 32) × (how_many_labelled_pats ls < 2 ^ 32) × PatternsHaveBytes Placed ps × LabelledPatternsHaveBytes Placed ls

  pub PatternsHaveBytes : (ℕ → Type 0) → Pats → Type 0
  PatternsHaveBytes Placed no_pats = Unit {0}
  PatternsHaveBytes Placed (more_pats p ps) = PatternHasBytes Placed p × PatternsHaveBytes Placed ps

  pub LabelledPatternsHaveBytes : (ℕ → Type 0) → LabelledPats → Type 0
  LabelledPatternsHaveBytes Placed no_labelled_pats = Unit {0}
  LabelledPatternsHaveBytes Placed (more_labelled_pats label p ps) = Placed label × PatternHasBytes Placed p × LabelledPatternsHaveBytes Placed ps

abbrev pub HasBytes : (ℕ → Type 0) → Process → Type 0
HasBytes Placed Zero = Unit {0}
HasBytes Placed (Par p q) = HasBytes Placed p × HasBytes Placed q
HasBytes Placed (New p) = HasBytes Placed p
HasBytes Placed (Out chan message at) = ValueHasBytes Placed chan × ValueHasBytes Placed message
HasBytes Placed (In chan replicated pattern body) = ValueHasBytes Placed chan × PatternHasBytes Placed pattern × HasBytes Placed body
HasBytes Placed (If test p q) = ValueHasBytes Placed test × HasBytes Placed p × HasBytes Placed q

-- each label of the process has a place among these, and there are fewer than 2 ^ 32 of them, and of the bytes of each
pub record HasObject (names : List (List ℕ)) (table : List (List ℕ)) (p : Process) : Type 0 where
  pub few : length table < 2 ^ 32
  pub short : AllByRecursion (λ text. length text < 2 ^ 32) table
  pub labels : HasBytes (λ label. IsTrue (list_any (bytes_eq (text_of names label)) table)) p
