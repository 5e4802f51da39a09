-- Core terms of the asynchronous pi-calculus as plain values: fields are lists, labels and channels are numbers.
-- Variables are nameless: a variable is its level, the number of variables that are bound around its binder.
use Rattle.std.specs.Prelude.{ℕ, ℤ, Bool, List, ◌+◌, max}
use Rattle.pict_syntax.specs.declared.primitive.Primitive.{Primitive}
use Rattle.pict_syntax.specs.declared.span.Span.{Span}

-- Values. A record has positional fields, and fields with labels.
mutual
  pub data Val : Type 0 where
    Var : ℕ → Val
    Chan : ℕ → Val
    Int : ℤ → Val
    Char : ℕ → Val
    Boolean : Bool → Val
    Text : List ℕ → Val
    PrimitiveVal : Primitive → Val
    Record : Vals → Labelled → Val

  pub data Vals : Type 0 where
    no_vals : Vals
    more_vals : Val → Vals → Vals

  pub data Labelled : Type 0 where
    no_labelled : Labelled
    more_labelled : ℕ → Val → Labelled → Labelled

-- Patterns. They bind in order: positional fields first, then fields with labels.
mutual
  pub data Pat : Type 0 where
    Bind : Pat
    Any : Pat
    RecordPat : Pats → LabelledPats → Pat

  pub data Pats : Type 0 where
    no_pats : Pats
    more_pats : Pat → Pats → Pats

  pub data LabelledPats : Type 0 where
    no_labelled_pats : LabelledPats
    more_labelled_pats : ℕ → Pat → LabelledPats → LabelledPats

-- Processes: the inert process, P | Q, new x P, v!w with its place in the text, v?p = P and v?*p = P, if b P Q.
pub data Process : Type 0 where
  Zero : Process
  Par : Process → Process → Process
  New : Process → Process
  Out : Val → Val → Span → Process
  In : Val → Bool → Pat → Process → Process
  If : Val → Process → Process → Process

-- the depth of a process: 1 without parts, else one more than its deepest part's
abbrev pub depth_of : Process → ℕ
depth_of Zero = 1
depth_of (Par p q) = max (depth_of p) (depth_of q) + 1
depth_of (New p) = depth_of p + 1
depth_of (Out chan message at) = 1
depth_of (In chan replicated pattern body) = depth_of body + 1
depth_of (If test p q) = max (depth_of p) (depth_of q) + 1
