-- Instructions as plain values. An operand is a core value, in which a variable is its level already; a pattern says which
-- level each of its variables has; a part is the number of its node.
use Rattle.std.specs.Prelude.{ℕ, List}
use Rattle.pict_syntax.specs.declared.span.Span.{Span}
use Rattle.pict_core.specs.Term.{Val}

mutual
  pub data CodePat : Type 0 where
    Bind : ℕ → CodePat
    Any : CodePat
    RecordPat : CodePats → LabelledCodePats → CodePat

  pub data CodePats : Type 0 where
    no_pats : CodePats
    more_pats : CodePat → CodePats → CodePats

  pub data LabelledCodePats : Type 0 where
    no_labelled_pats : LabelledCodePats
    more_labelled_pats : ℕ → CodePat → LabelledCodePats → LabelledCodePats

-- Left and right part; the level of the new channel and the part; channel, message, place in the text; channel, pattern, part;
-- test, part where it is true, part where it is false.
pub data Op : Type 0 where
  Zero : Op
  Par : ℕ → ℕ → Op
  New : ℕ → ℕ → Op
  Out : Val → Val → Span → Op
  In : Val → CodePat → ℕ → Op
  Serve : Val → CodePat → ℕ → Op
  If : Val → ℕ → ℕ → Op

pub record Node : Type 0 where
  pub frame : List ℕ
  pub op : Op
