-- Recursive types and their unfoldings.
use Rattle.pict_types.specs.Types.{PlainType, Top, Int, Char, Str, Boolean, Var, Apply, Chan, Fields, Rec}
use Rattle.pict_types.specs.Replacing.{unfolding_of}

abbrev pub IsRecursive : PlainType → Type 0
IsRecursive Top = ⊥
IsRecursive Int = ⊥
IsRecursive Char = ⊥
IsRecursive Str = ⊥
IsRecursive Boolean = ⊥
IsRecursive (Var i) = ⊥
IsRecursive (Apply i ts) = ⊥
IsRecursive (Chan m t) = ⊥
IsRecursive (Fields bs ps ls) = ⊥
IsRecursive (Rec t) = Unit {0}

-- a recursive type with the whole put for the variable of its body; every other type is itself
abbrev pub unfolded : PlainType → PlainType
unfolded Top = Top
unfolded Int = Int
unfolded Char = Char
unfolded Str = Str
unfolded Boolean = Boolean
unfolded (Var i) = Var i
unfolded (Apply i ts) = Apply i ts
unfolded (Chan m t) = Chan m t
unfolded (Fields bs ps ls) = Fields bs ps ls
unfolded (Rec t) = unfolding_of t
