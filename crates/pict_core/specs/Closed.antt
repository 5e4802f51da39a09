-- Terms over a number of variables and a number of channels, in whose records no label stands twice.
use Rattle.std.specs.Prelude.{ℕ, ◌<◌, ◌+◌, ◌≢◌, List, [], ◌∷◌}
use Rattle.pict_core.specs.Term.{Val, Vals, Labelled, Pat, Pats, LabelledPats, Bind, Any, RecordPat, no_pats, more_pats, no_labelled_pats, more_labelled_pats, Process, Var, Chan, Int, Char, Boolean, Text, PrimitiveVal, Record, no_vals, more_vals, no_labelled, more_labelled, Zero, Par, New, Out, In, If}

-- how many variables a pattern binds
abbrev mutual
  pub binds : Pat → ℕ
  binds Bind = 1
  binds Any = 0
  binds (RecordPat ps ls) = binds_all ps + binds_labelled ls

  pub binds_all : Pats → ℕ
  binds_all no_pats = 0
  binds_all (more_pats p ps) = binds p + binds_all ps

  pub binds_labelled : LabelledPats → ℕ
  binds_labelled no_labelled_pats = 0
  binds_labelled (more_labelled_pats label p ps) = binds p + binds_labelled ps

-- no field has this label
abbrev pub Lacks : ℕ → Labelled → Type 0
Lacks label no_labelled = Unit {0}
Lacks label (more_labelled l v ls) = (label ≢ l) × Lacks label ls

-- no label stands twice
abbrev pub IsDistinct : Labelled → Type 0
IsDistinct no_labelled = Unit {0}
IsDistinct (more_labelled label v ls) = Lacks label ls × IsDistinct ls

-- a value with variables below n and channels below c, and no label twice in a record
abbrev mutual
  pub IsOver : ℕ → ℕ → Val → Type 0
  IsOver n c (Var level) = level < n
  IsOver n c (Chan number) = number < c
  IsOver n c (Int i) = Unit {0}
  IsOver n c (Char byte) = Unit {0}
  IsOver n c (Boolean b) = Unit {0}
  IsOver n c (Text bytes) = Unit {0}
  IsOver n c (PrimitiveVal p) = Unit {0}
  IsOver n c (Record vs ls) = AreOver n c vs × LabelledOver n c ls × IsDistinct ls

  pub AreOver : ℕ → ℕ → Vals → Type 0
  AreOver n c no_vals = Unit {0}
  AreOver n c (more_vals v vs) = IsOver n c v × AreOver n c vs

  pub LabelledOver : ℕ → ℕ → Labelled → Type 0
  LabelledOver n c no_labelled = Unit {0}
  LabelledOver n c (more_labelled label v ls) = IsOver n c v × LabelledOver n c ls

-- the same of each value of a list
abbrev pub AllOver : ℕ → ℕ → List Val → Type 0
AllOver n c [] = Unit {0}
AllOver n c (v ∷ vs) = IsOver n c v × AllOver n c vs

-- a process under n variables and c channels, with no label twice in a record
abbrev pub IsUnder : ℕ → ℕ → Process → Type 0
IsUnder n c Zero = Unit {0}
IsUnder n c (Par p q) = IsUnder n c p × IsUnder n c q
IsUnder n c (New p) = IsUnder (n + 1) c p
IsUnder n c (Out chan message at) = IsOver n c chan × IsOver n c message
IsUnder n c (In chan replicated pattern body) = IsOver n c chan × IsUnder (n + binds pattern) c body
IsUnder n c (If test p q) = IsOver n c test × IsUnder n c p × IsUnder n c q

-- a closed process that names no channel, with no label twice in a record
abbrev pub IsClosed : Process → Type 0
IsClosed p = IsUnder 0 0 p
