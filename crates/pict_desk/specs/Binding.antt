-- What a pattern of an instruction binds, at its levels.
use Rattle.std.specs.Prelude.{◌≡◌, ℕ, List, [], ◌∷◌, ◌++◌, map, false, Option, Some}
use Rattle.pict_core.specs.Term.{Val}
use Rattle.pict_core.specs.Matching.{match_value}
use Rattle.pict_code.specs.Instruction.{CodePat, Bind, Any, RecordPat, CodePats, no_pats, more_pats, LabelledCodePats, no_labelled_pats, more_labelled_pats}
use Rattle.pict_code.specs.Levels.{has}
use Rattle.pict_code.specs.ReadBack.{unleveled}
use Rattle.pict_desk.specs.Known.{pair_at, known}
use Rattle.pict_heap.specs.HeapState.{HeapState}

-- the levels that a pattern binds, in its order
abbrev mutual
  pub levels_of : CodePat → List ℕ
  levels_of (Bind level) = level ∷ []
  levels_of Any = []
  levels_of (RecordPat ps ls) = levels_of_all ps ++ levels_of_labelled ls

  pub levels_of_all : CodePats → List ℕ
  levels_of_all no_pats = []
  levels_of_all (more_pats p ps) = levels_of p ++ levels_of_all ps

  pub levels_of_labelled : LabelledCodePats → List ℕ
  levels_of_labelled no_labelled_pats = []
  levels_of_labelled (more_labelled_pats label p ps) = levels_of p ++ levels_of_labelled ps

-- These levels get what was found, in order: their words stand afterwards for it. The words of the other levels stay.
pub record Binds (h : HeapState) (levels : List ℕ) (found : Option (List Val)) (before after : List (ℕ × ℕ)) : Type 0 where
  pub bound : List Val
  pub fits : found ≡ Some bound
  pub here : map (known h after) levels ≡ bound
  pub others : (level : ℕ) → has level levels ≡ false → pair_at after level ≡ pair_at before level

-- The pattern fits the value, and its levels get what it binds.
abbrev pub BindsPattern : HeapState → CodePat → Val → List (ℕ × ℕ) → List (ℕ × ℕ) → Type 0
BindsPattern h pattern v before after = Binds h (levels_of pattern) (match_value (unleveled pattern) v) before after
