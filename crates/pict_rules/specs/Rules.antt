-- What the typing rules judge, and the language that they are written in.
--
-- A rule is a list of lines. `give x` ends it with a result, and `refuse code place` with a refusal. `need` is a condition with
-- the refusal where it is false; `either` goes on by a condition, one way or the other. `part` is a judgement on a part of the
-- phrase: its refusal is the rule's, and its result is handed on.
use Rattle.std.specs.Prelude.{◌≡◌, Bool, if◌then◌else◌, List, Option, Some, None}
use Rattle.pict_syntax.specs.declared.code.Code.{Code}
use Rattle.pict_syntax.specs.declared.span.Span.{Span}
use Rattle.pict_syntax.specs.declared.id.Id.{Id}
use Rattle.pict_syntax.specs.Trees.{TypeTree, TypeTrees, TypeBinders, Pat, FieldPats, Pats, LabelledPats, Dec, Decs, Definitions, Abs, Val, Vals, FieldVals, LabelledVals, Proc, Procs, Chan}
use Rattle.pict_syntax.specs.Stops.{Stop}
use Rattle.pict_types.specs.Types.{PlainType, PlainTypes, PlainLabels, PlainBound, PlainBounds, PlainArg, TypeContext}
use Rattle.pict_normal.specs.Normal.{normal, kind_stop, size_stop}
use Rattle.pict_normal.specs.WrittenArguments.{normal_arg, arg_stop}
use Rattle.pict_sub.specs.Subtyping.{IsSubtype}
use Rattle.pict_rules.specs.Found.{Found}
use Rattle.pict_rules.specs.Environments.{Environment, Extension, KnownType}

-- the type that a pattern has, and what it adds; so with patterns side by side, and with labelled ones
pub record TypedPattern : Type 0 where
  pub has : PlainType
  pub adds : Extension

pub record TypedPatterns : Type 0 where
  pub have : PlainTypes
  pub adds : Extension

pub record TypedLabels : Type 0 where
  pub have : PlainLabels
  pub adds : Extension

-- the fields of a record pattern or of a function: its own type binders, and what its parts have and add within them
pub record TypedFields : Type 0 where
  pub own : List KnownType
  pub positional : PlainTypes
  pub labelled : PlainLabels
  pub adds : Extension

pub record OpenedFields : Type 0 where
  pub own : List KnownType
  pub adds : Extension

-- a body: a process, or a value with the type that it has
pub data Body : Type 0 where
  process_body : Proc → Body
  value_body : Val → PlainType → Body

-- a name of a `def`, its type, its body, and what its pattern adds for the body
pub record Signature : Type 0 where
  pub name : Id
  pub has : PlainType
  pub adds : Extension
  pub body : Body

pub data Sort : Type 0 where
  nothing_ type_ types_ labels_ arguments_ found_ environment_ extension_ : Sort
  pattern_ patterns_ labelled_patterns_ binders_ fields_ opened_ signatures_ signature_ : Sort

-- what a judgement of this sort gives
abbrev pub Result : Sort → Type 0
Result nothing_ = Unit {0}
Result type_ = PlainType
Result types_ = PlainTypes
Result labels_ = PlainLabels
Result arguments_ = List PlainArg
Result found_ = Found
Result environment_ = Environment
Result extension_ = Extension
Result pattern_ = TypedPattern
Result patterns_ = TypedPatterns
Result labelled_patterns_ = TypedLabels
Result binders_ = List KnownType
Result fields_ = TypedFields
Result opened_ = OpenedFields
Result signatures_ = List Signature
Result signature_ = Signature

-- what is judged in an environment
pub data Judgement : Sort → Type 0 where
  -- values: a value gives a type, or has a given one
  gives : Val → Judgement type_
  has : Val → PlainType → Judgement nothing_
  is_condition : Val → Judgement nothing_
  values_give : Vals → Judgement types_
  labelled_values_give : LabelledVals → Judgement labels_
  -- an application with the type that is expected, if any
  application : Span → Val → FieldVals → Option PlainType → Judgement type_
  -- the fields of the record or application at this place fit a record type: what is found before, and the type arguments
  fields_fit : Span → FieldVals → PlainBounds → PlainTypes → PlainLabels → Found → Judgement arguments_
  written_arguments : Span → TypeTrees → PlainBounds → Judgement arguments_
  values_fit : Span → Vals → PlainTypes → Found → Judgement found_
  labelled_values_fit : Span → LabelledVals → PlainLabels → Found → Judgement found_
  value_fits : Span → Val → PlainType → Found → Judgement found_
  -- the same of a value that gave a type, which its field's type was matched against
  given_fits : Span → Val → PlainType → PlainType → Found → Judgement found_
  -- abstractions: they give the type of their argument, or go against it
  abstraction_gives : Abs → Judgement type_
  abstraction_against : Abs → PlainType → Judgement nothing_
  -- patterns: they give a type, or go against one
  pattern_gives : Pat → Judgement pattern_
  fields_give : FieldPats → Judgement fields_
  binders_give : TypeBinders → Judgement binders_
  patterns_give : Pats → Judgement patterns_
  labelled_patterns_give : LabelledPats → Judgement labelled_patterns_
  pattern_against : Pat → PlainType → Judgement extension_
  fields_against : Span → FieldPats → PlainBounds → PlainTypes → PlainLabels → Judgement opened_
  binders_against : TypeBinders → PlainBounds → Judgement binders_
  patterns_against : Pats → PlainTypes → Judgement extension_
  labelled_patterns_against : LabelledPats → PlainLabels → Judgement extension_
  -- declarations
  declaration : Dec → Judgement environment_
  declarations : Decs → Judgement environment_
  signatures : Definitions → Judgement signatures_
  signature : Id → Abs → Judgement signature_
  bodies : List Signature → Judgement nothing_
  body : Body → Judgement nothing_
  -- processes
  process : Proc → Judgement nothing_
  processes : Procs → Judgement nothing_
  receives : Chan → Abs → Judgement nothing_

-- the conditions that are relations
pub data Condition : Type 0 where
  is_subtype : TypeContext → PlainType → PlainType → Condition
  is_same : PlainBound → PlainBound → Condition

abbrev pub IsMet : Condition → Type 0
IsMet (is_subtype c s t) = IsSubtype c s t
IsMet (is_same b d) = b ≡ d

pub data Rule (s : Sort) : Type 0 where
  give : Result s → Rule s
  refuse : Code → Span → Rule s
  -- the condition holds, or this is the refusal
  need : Condition → Code → Span → Rule s → Rule s
  either : Condition → Rule s → Rule s → Rule s
  -- a judgement on a part, in an environment
  part : {r : Sort} → Environment → Judgement r → (Result r → Rule s) → Rule s

pub data Answer (s : Sort) : Type 0 where
  ok : Result s → Answer s
  stuck : Code → Span → Answer s

-- this refusal, where there is one
abbrev pub unless_stopped : {s : Sort} → Option Stop → Rule s → Rule s
unless_stopped None r = r
unless_stopped (Some x) r = refuse x.0 x.1

-- a test that is a function, or this is the refusal
abbrev pub ensure : {s : Sort} → Bool → Code → Span → Rule s → Rule s
ensure b code span r = if b then r else refuse code span

-- a written type is expanded
abbrev pub expand : {s : Sort} → Environment → TypeTree → (PlainType → Rule s) → Rule s
expand e t k = unless_stopped (kind_stop e.names e.context t) (k (normal e.names e.context t))

-- and a written type argument
abbrev pub expand_argument : {s : Sort} → Environment → TypeTree → (PlainArg → Rule s) → Rule s
expand_argument e t k = unless_stopped (arg_stop e.names e.context t) (k (normal_arg e.names e.context t))

-- a type that a rule forms is within the limits
abbrev pub within_limits : {s : Sort} → Environment → PlainType → Span → Rule s → Rule s
within_limits e t span r = unless_stopped (size_stop e.context t span) r
