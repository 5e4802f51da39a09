-- The own type variables of a record pattern or of a function, which are open for its fields.
use Rattle.std.specs.Prelude.{◌≡◌, List, Option, None, Some, Result, Ok, Err, Bool, true, false}
use Rattle.std.specs.Option.{option_map}
use Rattle.pict_syntax.specs.declared.span.Span.{Span}
use Rattle.pict_syntax.specs.declared.id.Id.{Id}
use Rattle.pict_syntax.specs.Trees.{KindTree, TypeTree, Bound, unbounded, bound, TypeBinder, FieldPats}
use Rattle.pict_types.specs.Types.{PlainType, PlainBound, Free, PlainBounds, Fields, is_top}
use Rattle.pict_types.specs.Replacing.{bound_by}
use Rattle.pict_types.specs.declared.types.Ty.{Ty}
use Rattle.pict_types.specs.declared.types.Bound.{Bound as TheBound}
use Rattle.pict_syntax.specs.declared.name.Name.{Name}
use Rattle.pict_types.specs.Plain.{plain, plain_bounds, plain_labels, plain_types}
use Rattle.pict_normal.specs.Normal.{normal, kind_stops, bound_stops, first_or}
use Rattle.pict_rules.specs.Shapes.{bound_size_stop, kind_agrees, written_bound}
use Rattle.pict_rules.specs.Environments.{Environment, KnownType, bounds_of}
use Rattle.pict_rules.specs.Rules.{nothing_, fields_against, binders_, opened_, Judgement, TypedFields, OpenedFields, Rule, ok, fields_give, ensure, unless_stopped}
use Rattle.pict_rules.specs.Clauses.{done, with_own, stop_of_binder, written_kind, binder_span, need_same_bound}
use Rattle.pict_rules.specs.Typing.{rule}
use Rattle.pict_rules.specs.Derivations.{Runs}
use Rattle.pict_syntax.specs.declared.code.Code.TheVariants.{Y16}
use Rattle.pict_syntax.specs.Stops.{Stop}
use Rattle.pict_infer.specs.declared.error.InferError.{InferError}
use Rattle.pict_infer.specs.declared.added.Added.{Added}
use Rattle.pict_infer.specs.Adding.{extension_of}
use Rattle.pict_infer.specs.Answering.{IsRefused}

-- the bound of a type binder, expanded, where one is written
abbrev pub expanded_bound : Environment → Bound → Option PlainType
expanded_bound e unbounded = None
expanded_bound e (bound t) = Some (normal e.names e.context t)

abbrev pub held_type : Option Ty → Option PlainType
held_type o = option_map plain o

-- what a written bound says, and nothing where it is none
abbrev pub bound_or_free : Option PlainType → PlainBound
bound_or_free None = Free
bound_or_free (Some t) = bound_by t

-- a written bound says what the field says, or is none
abbrev pub IsTheSame : Bool → PlainType → PlainBound → Type 0
IsTheSame true t b = Unit {0}
IsTheSame false t b = bound_by t ≡ b

abbrev pub SaysTheSame : Option PlainType → PlainBound → Type 0
SaysTheSame None b = Unit {0}
SaysTheSame (Some t) b = IsTheSame (is_top t) t b

-- the refusal of a written bound, of a type binder with this name and this kind
abbrev pub bound_stop : Environment → Id → Option KindTree → TypeTree → Option Stop
bound_stop e id k t =
    first_or (bound_stops id k (kind_stops e.names e.context t) (normal e.names e.context t)) (bound_size_stop e.names e.context (bound t))

-- a type binder is right, and says what its field says
abbrev pub binder_agrees : Environment → TypeBinder → PlainBound → Rule nothing_
binder_agrees e b r =
    unless_stopped (stop_of_binder e b) (
    ensure (kind_agrees (written_kind b) r) Y16 (binder_span b) (
    need_same_bound e (written_bound b) r Y16 (binder_span b) done))

-- the second environment is the first with the type variables that the rule gives, which have these bounds
pub record HasOpened (e d : Environment) (r : Rule binders_) (bs : PlainBounds) : Type 0 where
  pub own : List KnownType
  pub gives : Runs r (ok own)
  pub inside : d ≡ with_own e own
  pub has : bounds_of own ≡ bs

abbrev pub Opens : {T : Type 0} → Environment → Environment → Rule binders_ → (T → PlainBounds) → Result T InferError → Type 0
Opens e d r f (Ok x) = HasOpened e d r (f x)
Opens e d r f (Err y) = IsRefused r y

-- the second environment is the first with the own type variables of the fields, which have this type and add this in them
pub record HasFields (e d : Environment) (f : FieldPats) (t : PlainType) (x : Added) : Type 0 where
  pub given : TypedFields
  pub gives : Runs (rule e (fields_give f)) (ok given)
  pub inside : d ≡ with_own e given.own
  pub has : t ≡ Fields (bounds_of given.own) given.positional given.labelled
  pub adds : extension_of x ≡ given.adds

-- the fields of a pattern or of a function that stands at this place, against those of a record
abbrev pub against_fields : Span → FieldPats → List TheBound → List Ty → List (Name × Ty) → Judgement opened_
against_fields s f bs ps ls = fields_against s f (plain_bounds bs) (plain_types ps) (plain_labels ls)

pub record HasFieldsAgainst (e d : Environment) (j : Judgement opened_) (x : Added) : Type 0 where
  pub given : OpenedFields
  pub gives : Runs (rule e j) (ok given)
  pub inside : d ≡ with_own e given.own
  pub adds : extension_of x ≡ given.adds

abbrev pub OpensAgainst : Environment → Environment → Judgement opened_ → Result Added InferError → Type 0
OpensAgainst e d j (Ok x) = HasFieldsAgainst e d j x
OpensAgainst e d j (Err y) = IsRefused (rule e j) y
