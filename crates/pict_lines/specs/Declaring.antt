-- Steps of the rules of declarations and processes.
use Rattle.std.specs.Prelude.{Bool, true, false, List}
use Rattle.pict_syntax.specs.declared.code.Code.TheVariants.{Y15}
use Rattle.pict_syntax.specs.declared.id.Id.{Id}
use Rattle.pict_syntax.specs.declared.span.Span.{Span}
use Rattle.pict_syntax.specs.Grammar.{type_span, val_span}
use Rattle.pict_syntax.specs.Trees.{Dec, Definitions, Pat, TypeTree, Val, def_dec, let_dec, operator_dec}
use Rattle.pict_types.specs.Types.{PlainType, Both, Read, Write, Respond, Top, Int, Char, Str, Boolean, Var, Apply, Chan, Fields, Rec}
use Rattle.pict_rules.specs.Environments.{Environment}
use Rattle.pict_rules.specs.Rules.{Rule, type_, give, expand}
use Rattle.pict_rules.specs.Clauses.{need_both}

abbrev pub IsNoChannel : PlainType → Type 0
IsNoChannel Top = Unit {0}
IsNoChannel Int = Unit {0}
IsNoChannel Char = Unit {0}
IsNoChannel Str = Unit {0}
IsNoChannel Boolean = Unit {0}
IsNoChannel (Var i) = Unit {0}
IsNoChannel (Apply i ts) = Unit {0}
IsNoChannel (Chan m u) = ⊥
IsNoChannel (Fields bs ps ls) = Unit {0}
IsNoChannel (Rec u) = Unit {0}

-- `^S`
abbrev pub is_both : PlainType → Bool
is_both Top = false
is_both Int = false
is_both Char = false
is_both Str = false
is_both Boolean = false
is_both (Var i) = false
is_both (Apply i ts) = false
is_both (Chan Both u) = true
is_both (Chan Read u) = false
is_both (Chan Write u) = false
is_both (Chan Respond u) = false
is_both (Fields bs ps ls) = false
is_both (Rec u) = false

-- the type of a new channel
abbrev pub channel_type : Environment → TypeTree → Rule type_
channel_type e t = expand e t (λ u. need_both u Y15 (type_span t) (give u))

-- an operator, a value with its pattern, and definitions: their rules don't look at the place of the declaration
abbrev pub new_operator : Id → List Id → TypeTree → Dec
new_operator x xs t = operator_dec x.span x xs t

abbrev pub valued : Pat → Val → Dec
valued p v = let_dec (val_span v) p v

abbrev pub no_place : Span
no_place = record { text = 0; start = 0; end = 0 }

abbrev pub defined : Definitions → Dec
defined ds = def_dec no_place ds
