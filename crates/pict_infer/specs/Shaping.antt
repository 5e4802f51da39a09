-- Types of some forms.
use Rattle.std.specs.Prelude.{Bool, true, false}
use Rattle.pict_types.specs.Types.{PlainType, Top, Int, Char, Str, Boolean, Var, Apply, Chan, Fields, Rec}

abbrev pub IsNoRecord : PlainType → Type 0
IsNoRecord Top = Unit {0}
IsNoRecord Int = Unit {0}
IsNoRecord Char = Unit {0}
IsNoRecord Str = Unit {0}
IsNoRecord Boolean = Unit {0}
IsNoRecord (Var i) = Unit {0}
IsNoRecord (Apply i ts) = Unit {0}
IsNoRecord (Chan m t) = Unit {0}
IsNoRecord (Fields bs ps ls) = ⊥
IsNoRecord (Rec t) = Unit {0}

abbrev pub is_recursive : PlainType → Bool
is_recursive Top = false
is_recursive Int = false
is_recursive Char = false
is_recursive Str = false
is_recursive Boolean = false
is_recursive (Var i) = false
is_recursive (Apply i ts) = false
is_recursive (Chan m t) = false
is_recursive (Fields bs ps ls) = false
is_recursive (Rec t) = true

abbrev pub is_variable : PlainType → Bool
is_variable Top = false
is_variable Int = false
is_variable Char = false
is_variable Str = false
is_variable Boolean = false
is_variable (Var i) = true
is_variable (Apply i ts) = false
is_variable (Chan m t) = false
is_variable (Fields bs ps ls) = false
is_variable (Rec t) = false
