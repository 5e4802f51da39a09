-- The type that a word is, if it is one.
use Rattle.std.specs.Prelude.{◌≡◌, Result, Ok, Err}
use Rattle.pict_syntax.specs.declared.span.Span.{Span}
use Rattle.pict_syntax.specs.declared.token.Keyword.{Keyword as AnyKeyword}
use Rattle.pict_syntax.specs.declared.type_tree.TypeTree.{TypeTree}
use Rattle.pict_syntax.specs.PlainTrees.{type_of}
use Rattle.pict_automaton.specs.Places.{TypePlace, stop}
use Rattle.pict_automaton.specs.Machine.{begin_type_keyword, put_type}
use Rattle.pict_parse_states.specs.declared.states.Fault.{Fault}
use Rattle.pict_parse_states.specs.declared.states.Fault.TheVariants.{Unexpected}

-- the word is this type wherever one may begin; or it begins none, and is refused
abbrev pub IsTypeOr : AnyKeyword → Span → Result TypeTree Fault → Type 0
IsTypeOr w i (Ok t) = (p : TypePlace) → begin_type_keyword w i p ≡ put_type (type_of t) p
IsTypeOr w i (Err e) = (e ≡ Unexpected) × ((p : TypePlace) → begin_type_keyword w i p ≡ stop)
