-- The laws of codes.
use Rattle.std.specs.Prelude.{◌≡◌, ℕ, List, Some, false}
use Rattle.pict_syntax.specs.declared.code.Code.{Code}
use Rattle.pict_syntax.specs.declared.code.Code.TheVariants.{K5}
use Rattle.pict_syntax.specs.declared.span.Span.{Span}
use Rattle.pict_syntax.specs.Trees.{TypeTree, TypeTrees, more_types, TypeBinder, Pat, FieldPats, Decs}
use Rattle.pict_syntax.specs.Grammar.{type_span}
use Rattle.pict_types.specs.Types.{PlainType, PlainTypes, PlainLabels, PlainBounds, PlainArg}
use Rattle.pict_types.specs.AsMarked.{varies_as}
use Rattle.pict_types.specs.Entries.{PlainContext}
use Rattle.pict_normal.specs.Normal.{kind_stop, count_trees}
use Rattle.pict_normal.specs.WrittenArguments.{normal_arg, arg_stop}
use Rattle.pict_scope.specs.Scopes.{scope_stop}
use Rattle.pict_rules.specs.Shapes.{binder_stop, nth_bound}
use Rattle.pict_rules.specs.Environments.{Environment, context_of}
use Rattle.pict_rules.specs.Rules.{Sort, arguments_, Judgement, written_arguments, pattern_gives, fields_give, pattern_against, fields_against}
use Rattle.pict_rules.specs.Typing.{rule}
use Rattle.pict_rules.specs.Derivations.{Holds, IsStuck, IsStuckAt}
use Rattle.pict_rules.specs.Reached.{Reached}
use Rattle.pict_codes.specs.Codes.{IsOneOf, scope_codes, kind_codes, pattern_codes, type_codes, own_codes}
use Rattle.pict_codes.specs.Failing.{Fails}

-- scopes refuse with S1 to S4
abbrev pub ScopeCodes : Type 0
ScopeCodes = (texts : List (List ℕ)) (p : Decs) (c : Code) (i : Span) → scope_stop texts p ≡ Some (c, i) → IsOneOf scope_codes c

-- a written type is refused with K1 to K4: where it stands as a type, as an argument, or as the bound of a pattern's type binder
pub record KindCodes : Type 0 where
  pub types_ : (ns : List (List ℕ)) (e : PlainContext) (t : TypeTree) (c : Code) (i : Span)
      → kind_stop ns e t ≡ Some (c, i) → IsOneOf kind_codes c
  pub arguments_ : (ns : List (List ℕ)) (e : PlainContext) (t : TypeTree) (c : Code) (i : Span)
      → arg_stop ns e t ≡ Some (c, i) → IsOneOf kind_codes c
  pub binders_ : (ns : List (List ℕ)) (e : PlainContext) (b : TypeBinder) (c : Code) (i : Span)
      → binder_stop ns e b ≡ Some (c, i) → IsOneOf kind_codes c

-- patterns, and the fields of functions, are refused with codes of patterns
pub record PatternCodes : Type 0 where
  pub give_ : (e : Environment) (p : Pat) (c : Code) (i : Span) → IsStuck e (pattern_gives p) c i → IsOneOf pattern_codes c
  pub against : (e : Environment) (p : Pat) (t : PlainType) (c : Code) (i : Span) → IsStuck e (pattern_against p t) c i → IsOneOf pattern_codes c
  pub fields_give_ : (e : Environment) (f : FieldPats) (c : Code) (i : Span) → IsStuck e (fields_give f) c i → IsOneOf pattern_codes c
  pub fields_against_ : (e : Environment) (s : Span) (f : FieldPats) (bs : PlainBounds) (ps : PlainTypes) (ls : PlainLabels) (c : Code) (i : Span)
      → IsStuck e (fields_against s f bs ps ls) c i → IsOneOf pattern_codes c

-- the typing rules refuse with K1 to K5 and Y1 to Y16
abbrev pub TypeCodes : Type 0
TypeCodes = (s : Sort) (e : Environment) (j : Judgement s) (c : Code) (i : Span) → IsStuck e j c i → IsOneOf type_codes c

-- a line of a judgement that is false has one of the judgement's own codes
abbrev pub OwnCodes : Type 0
OwnCodes = (s : Sort) (e : Environment) (j : Judgement s) (c : Code) (i : Span) → Fails s (rule e j) c i → IsOneOf (own_codes j) c

-- a program that is refused is refused by a line of a judgement that the rules reach
pub record Failure (names : List (List ℕ)) (p : Decs) (c : Code) (i : Span) : Type 0 where
  pub sort : Sort
  pub environment : Environment
  pub judgement : Judgement sort
  pub reached : Reached names p sort environment judgement
  pub fails : Fails sort (rule environment judgement) c i

abbrev pub RefusedByLine : Type 0
RefusedByLine = (names : List (List ℕ)) (p : Decs) (c : Code) (i : Span) → IsStuckAt names p c i → Failure names p c i

-- a written type argument, at i, behind others that are right: it varies otherwise than the marks of its type field say
pub record VariesOtherwise (names : List (List ℕ)) (p : Decs) (i : Span) : Type 0 where
  pub environment : Environment
  pub node : Span
  pub before : TypeTrees
  pub argument : TypeTree
  pub bounds_ : PlainBounds
  pub found : List PlainArg
  pub reached : Reached names p arguments_ environment (written_arguments node (more_types before argument) bounds_)
  pub right_ : Holds environment (written_arguments node before bounds_) found
  pub place : i ≡ type_span argument
  pub otherwise_ : varies_as (context_of environment) (normal_arg environment.names environment.context argument)
      (nth_bound (count_trees before) bounds_) ≡ false

-- K5 comes from written type arguments alone
abbrev pub VarianceCode : Type 0
VarianceCode = (names : List (List ℕ)) (p : Decs) (i : Span) → IsStuckAt names p K5 i → VariesOtherwise names p i
