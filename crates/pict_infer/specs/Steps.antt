-- Steps that the rules have in common, each as a rule that ends there.
use Rattle.std.specs.Prelude.{Option, Some, None}
use Rattle.pict_syntax.specs.declared.code.Code.{Code}
use Rattle.pict_syntax.specs.declared.code.Code.TheVariants.{Y4, Y7, Y13}
use Rattle.pict_syntax.specs.declared.span.Span.{Span}
use Rattle.pict_syntax.specs.Trees.{TypeTree, RType}
use Rattle.pict_types.specs.declared.types.Ty.{Ty}
use Rattle.pict_types.specs.Types.{PlainType}
use Rattle.pict_types.specs.Plain.{plain}
use Rattle.pict_types.specs.Recursion as recursion
use Rattle.pict_rules.specs.Environments.{Environment, context_of}
use Rattle.pict_sub.specs.Exposing.{exposure}
use Rattle.pict_rules.specs.Rules.{nothing_, type_, Rule, give, refuse, need, is_subtype, expand, within_limits}
use Rattle.pict_rules.specs.Clauses.{done, need_recursive}

-- a written type is expanded, and an annotation is there and is expanded
abbrev pub expanded : Environment → TypeTree → Rule type_
expanded e t = expand e t give

abbrev pub annotated : Environment → RType → Span → Rule type_
annotated e None s = refuse Y7 s
annotated e (Some t) s = expanded e t

-- a type is within the limits
abbrev pub limited : Environment → PlainType → Span → Rule nothing_
limited e t s = within_limits e t s done

abbrev pub below : Environment → PlainType → PlainType → Code → Span → Rule nothing_
below e s t code span = need (is_subtype (context_of e) s t) code span done

abbrev pub recursive : PlainType → Span → Rule nothing_
recursive t s = need_recursive t Y13 s (λ u. done)

-- the unfolding of a recursive type is within the limits
abbrev pub unfolded : Environment → PlainType → Span → Rule type_
unfolded e t s = within_limits e (recursion.unfolded t) s (give (recursion.unfolded t))

-- what the inner pattern of a fold goes against: the unfolding of its annotation, or else of what the type exposes to
abbrev pub fold_unfolded : Environment → RType → PlainType → Span → Rule type_
fold_unfolded e None t s = need_recursive (exposure (context_of e) t) Y13 s (λ u. within_limits e u s (give u))
fold_unfolded e (Some a) t s =
    expand e a (λ r.
    need_recursive r Y13 s (λ u.
    need (is_subtype (context_of e) t r) Y4 s (
    within_limits e u s (give u))))

-- what is exposed, if anything is, or the type itself
abbrev pub changed_or_same : Option Ty → Ty → PlainType
changed_or_same None t = plain t
changed_or_same (Some u) t = plain u
