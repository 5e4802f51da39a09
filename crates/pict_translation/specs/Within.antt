-- How deep records and record patterns nest in processes.
use Rattle.std.specs.Prelude.{ℕ, zero, suc, ◌≤◌, List}
use Rattle.std.specs.List.{AllByRecursion}
use Rattle.pict_syntax.specs.Trees.{Decs}
use Rattle.pict_core.specs.Term.{Val, Vals, Labelled, Var, Chan, Int, Char, Boolean, Text, PrimitiveVal, Record, no_vals, more_vals, no_labelled, more_labelled, Pat, Pats, LabelledPats, Bind, Any, RecordPat, no_pats, more_pats, no_labelled_pats, more_labelled_pats, Process, Zero, Par, New, Out, In, If}
use Rattle.pict_syntax.specs.Nesting.{decs_nest}
use Rattle.pict_translation.specs.Translation.{program_core}

-- one deeper, P holds
abbrev pub Inside : ℕ → (ℕ → Type 0) → Type 0
Inside zero P = ⊥
Inside (suc b) P = P b

-- at most so many records, one in the other
abbrev mutual
  pub Within : ℕ → Val → Type 0
  Within b (Var x) = Unit {0}
  Within b (Chan x) = Unit {0}
  Within b (Int x) = Unit {0}
  Within b (Char x) = Unit {0}
  Within b (Boolean x) = Unit {0}
  Within b (Text x) = Unit {0}
  Within b (PrimitiveVal x) = Unit {0}
  Within b (Record vs ls) = Inside b (λ c. AreWithin c vs × LabelledWithin c ls)

  pub AreWithin : ℕ → Vals → Type 0
  AreWithin b no_vals = Unit {0}
  AreWithin b (more_vals v vs) = Within b v × AreWithin b vs

  pub LabelledWithin : ℕ → Labelled → Type 0
  LabelledWithin b no_labelled = Unit {0}
  LabelledWithin b (more_labelled l v ls) = Within b v × LabelledWithin b ls

abbrev mutual
  pub PatWithin : ℕ → Pat → Type 0
  PatWithin b Bind = Unit {0}
  PatWithin b Any = Unit {0}
  PatWithin b (RecordPat ps ls) = Inside b (λ c. PatsWithin c ps × LabelledPatsWithin c ls)

  pub PatsWithin : ℕ → Pats → Type 0
  PatsWithin b no_pats = Unit {0}
  PatsWithin b (more_pats p ps) = PatWithin b p × PatsWithin b ps

  pub LabelledPatsWithin : ℕ → LabelledPats → Type 0
  LabelledPatsWithin b no_labelled_pats = Unit {0}
  LabelledPatsWithin b (more_labelled_pats l p ps) = PatWithin b p × LabelledPatsWithin b ps

-- so it is with each value and each pattern of a process
abbrev pub Nests : ℕ → Process → Type 0
Nests b Zero = Unit {0}
Nests b (Par p q) = Nests b p × Nests b q
Nests b (New p) = Nests b p
Nests b (Out chan message at) = Within b chan × Within b message
Nests b (In chan replicated pattern body) = Within b chan × PatWithin b pattern × Nests b body
Nests b (If test p q) = Within b test × Nests b p × Nests b q

-- Where no token of a program nests above a limit, no record of its core process does.
abbrev pub TranslationNests : Type 0
TranslationNests = (names : List (List ℕ)) (ds : Decs) (limit : ℕ) → 1 ≤ limit → AllByRecursion (λ n. n ≤ limit) (decs_nest 0 ds) → Nests limit (program_core names ds)
