-- The lines in which rules end, each as a rule of its own.
use Rattle.std.specs.Prelude.{ℕ, Bool, if◌then◌else◌, List, [], ◌∷◌, ◌++◌, length, map, Option, Some, None}
use Rattle.pict_syntax.specs.declared.code.Code.TheVariants.{K1, K5, Y1, Y4, Y7, Y9, Y10, Y11, Y13, Y14}
use Rattle.pict_syntax.specs.declared.code.Code.{Code}
use Rattle.pict_syntax.specs.declared.span.Span.{Span}
use Rattle.pict_syntax.specs.Trees.{TypeTree, RType, true_val}
use Rattle.pict_syntax.specs.Grammar.{type_span}
use Rattle.pict_types.specs.Types.{Capability, PlainType, no_type, types, PlainArg, PlainBound, PlainBounds}
use Rattle.pict_types.specs.AsMarked.{varies_as}
use Rattle.pict_types.specs.Replacing.{arguments, replace}
use Rattle.pict_rules.specs.Found.{Found, argument_in, matched, none_found}
use Rattle.pict_rules.specs.Found as found
use Rattle.pict_rules.specs.Shapes.{Function}
use Rattle.pict_rules.specs.Environments.{Environment, context_of}
use Rattle.pict_rules.specs.Rules.{Rule, nothing_, type_, types_, arguments_, found_, is_subtype, give, refuse, either, ensure, expand, expand_argument, within_limits, given_fits}
use Rattle.pict_rules.specs.Clauses.{done, expect, is_of_kind, need_channel, need_outside, need_recursive, within_bound, within_bounds}
use Rattle.pict_rules.specs.Typing.{rule}

-- a type that a rule forms is within the limits, and is given
abbrev pub formed : Environment → PlainType → Span → Rule type_
formed e t s = within_limits e t s (give t)

-- the type of a block's body, which mentions no type variable that the block opened
abbrev pub outside : ℕ → PlainType → Span → Rule type_
outside n t s = need_outside n t Y14 s give

-- fields without written type arguments fit: what their values found is complete, and within the bounds
abbrev pub fields_end : Environment → Span → PlainBounds → Found → Rule arguments_
fields_end e s bs g = ensure (found.all_found g) Y10 s (within_bounds e s bs [] (map argument_in g) Y9 (give (map argument_in g)))

-- the answer of an application: its type with the arguments put in
abbrev pub application_end : Environment → Span → PlainType → List PlainArg → Option PlainType → Rule type_
application_end e s u args x =
    within_limits e (replace (arguments args) u) s (
    expect e x (replace (arguments args) u) Y4 s (
    give (replace (arguments args) u)))

-- a value at this place gave a type, which its field's type was matched against
abbrev pub given_lines : Environment → Span → Span → PlainType → PlainType → Found → Rule found_
given_lines e s at t g f = rule e (given_fits s (true_val at) t g f)

-- a conditional's type, once its branches gave theirs
abbrev pub either_type : Environment → PlainType → PlainType → Span → Rule type_
either_type e s t at =
    either (is_subtype (context_of e) s t) (give t) (
    either (is_subtype (context_of e) t s) (give s) (
    refuse Y11 at))

-- what is found before the values of an application, where no type argument is written, or some are
abbrev pub found_before : Environment → Function → Bool → Option PlainType → Found
found_before e r none None = none_found r.binders
found_before e r none (Some t) = if none then matched (context_of e) 0 r.answer t (none_found r.binders) else none_found r.binders

-- all arguments are found
abbrev pub all_found : Found → Span → Rule arguments_
all_found g s = ensure (found.all_found g) Y10 s (give (map argument_in g))

-- an argument, and all arguments, are below the bounds of their type fields
abbrev pub within_one : Environment → Span → PlainBound → List PlainArg → PlainArg → Span → Rule nothing_
within_one e s b earlier a at = within_bound e s b earlier a Y9 at done

abbrev pub within_all : Environment → Span → PlainBounds → List PlainArg → Rule nothing_
within_all e s bs args = within_bounds e s bs [] args Y9 done

-- a type is a subtype of the one that is expected, if any
abbrev pub as_expected : Environment → Option PlainType → PlainType → Span → Rule nothing_
as_expected e x u s = expect e x u Y4 s done

-- an argument that is written at a place, for a type field with this bound
abbrev pub argument_fits : Environment → Span → Span → PlainBound → List PlainArg → PlainArg → Rule nothing_
argument_fits e s at b args a =
    ensure (is_of_kind a b) K1 at (
    ensure (varies_as (context_of e) a b) K5 at (
    within_one e s b args a at))

-- a written type argument, and one after the earlier ones, for a type field with this bound
abbrev pub argument_expanded : Environment → TypeTree → Rule arguments_
argument_expanded e t = expand_argument e t (λ a. give (a ∷ []))

abbrev pub argument_after : Environment → Span → TypeTree → PlainBound → List PlainArg → Rule arguments_
argument_after e s t b args =
    expand_argument e t (λ a.
    ensure (is_of_kind a b) K1 (type_span t) (
    ensure (varies_as (context_of e) a b) K5 (type_span t) (
    within_bound e s b args a Y9 (type_span t) (
    give (args ++ a ∷ [])))))

-- the unfolding of a recursive type, which is at one place, for the fold at the other
abbrev pub fold_from : Environment → PlainType → Span → Span → Rule type_
fold_from e t at s = need_recursive t Y13 at (λ u. within_limits e u s (give u))

-- the unfolding of a recursive type to go by, and an annotation with its unfolding
abbrev pub fold_of : Environment → PlainType → Span → Rule type_
fold_of e t s = fold_from e t s s

abbrev pub fold_written : Environment → TypeTree → Span → Rule types_
fold_written e a s =
    expand e a (λ t.
    need_recursive t Y13 (type_span a) (λ u.
    within_limits e u s (
    give (types t (types u no_type)))))

abbrev pub fold_annotated : Environment → RType → Span → Rule types_
fold_annotated e None s = refuse Y7 s
fold_annotated e (Some a) s = fold_written e a s

-- how many type variables are known
abbrev pub variables : Environment → ℕ
variables e = length (context_of e)

-- the messages of a channel type, which may be used so
abbrev pub channel_messages : (Capability → Bool) → Code → Span → PlainType → Rule type_
channel_messages may c at t = need_channel t Y1 at (λ m u. ensure (may m) c at (give u))
