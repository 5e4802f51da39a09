-- An operator of two fields applied to many values, from the right or from the left.
use Rattle.std.specs.Prelude.{◌≡◌, true, if◌then◌else◌, List, [], ◌∷◌, Option, Some, None}
use Rattle.pict_syntax.specs.declared.span.Span.{Span}
use Rattle.pict_syntax.specs.declared.id.Id.{Id}
use Rattle.pict_syntax.specs.Trees.{Val, no_vals, more_vals, FieldVals, field_vals, no_types, no_labelled_vals, of_chan, use_chan}
use Rattle.pict_syntax.specs.Stops.{Stop}
use Rattle.pict_types.specs.Types.{PlainType, PlainBounds, types, no_type, no_label}
use Rattle.pict_normal.specs.Normal.{size_stop}
use Rattle.pict_sub.specs.Exposing.{exposure}
use Rattle.pict_rules.specs.Found.{Found, mentions_missing, with_found, matched}
use Rattle.pict_rules.specs.Shapes.{Function, applicable, right_nested, left_nested, from_first}
use Rattle.pict_rules.specs.Environments.{Environment, context_of, type_of_use}
use Rattle.pict_rules.specs.Rules.{Rule, found_, give, application, fields_fit, value_fits, given_fits, ok}
use Rattle.pict_rules.specs.Typing.{rule}
use Rattle.pict_rules.specs.Derivations.{Runs}
use Rattle.pict_infer.specs.declared.error.InferError.{InferError}
use Rattle.pict_infer.specs.Answering.{IsRefused}
use Rattle.pict_lines.specs.Lines.{found_before}

-- a function of two fields
pub record Applied : Type 0 where
  pub binders : PlainBounds
  pub first : PlainType
  pub second : PlainType
  pub answer : PlainType

abbrev pub as_function : Applied → Function
as_function o = record { binders = o.binders; positional = types o.first (types o.second no_type); labelled = no_label; answer = o.answer }

-- the head, and two fields
abbrev pub head : Id → Val
head f = of_chan (use_chan f.span f.name)

abbrev pub two : Val → Val → FieldVals
two v w = field_vals no_types (more_vals (more_vals no_vals v) w) no_labelled_vals

abbrev pub IsHead : Environment → Id → Applied → Type 0
IsHead e f o = applicable (exposure (context_of e) (type_of_use e f.name.0)) ≡ Some (as_function o)

-- the nested applications of a list
abbrev pub nested : Span → Id → List Val → Val
nested s f vs = from_first (right_nested s f) s vs

-- the first value; the true literal is in the place of none
abbrev pub alone : Span → List Val → Val
alone s vs = from_first (λ v ws. v) s vs

-- what is found before the fields, where this type is wanted of the application
abbrev pub before_fields : Environment → Applied → Option PlainType → Found
before_fields e o x = found_before e (as_function o) true x

-- the type that the value of a field is wanted to have, if it is known
abbrev pub wanted_at : PlainType → Found → Option PlainType
wanted_at t g = if mentions_missing g t then None else Some (with_found g t)

abbrev pub room_stop : Environment → Span → Option PlainType → Option Stop
room_stop e s None = None
room_stop e s (Some t) = size_stop e.context t s

-- what the field finds, once its value gave a type
abbrev pub if_given : Environment → Span → Val → PlainType → Found → Option PlainType → Rule found_
if_given e s v t g None = give g
if_given e s v t g (Some u) = rule e (given_fits s v t u (matched (context_of e) 0 t u g))

abbrev pub field_lines : Environment → Span → Val → PlainType → Found → Option PlainType → Rule found_
field_lines e s v t g given = if mentions_missing g t then if_given e s v t g given else give g

-- what is wanted inside applications, from what the outermost is wanted to have; the next one inside stands in a field of this type
abbrev pub wanted_in : PlainType → Option PlainType → List Found → Option PlainType
wanted_in t x [] = x
wanted_in t x (g ∷ gs) = wanted_in t (wanted_at t g) gs

-- FROM THE RIGHT: the outermost application is that to the first value

-- the type that the second field is wanted to have
abbrev pub wanted_by : Applied → Found → Option PlainType
wanted_by o g = wanted_at o.second g

-- going in: the first field found this, where the application is wanted to have x, and the second may be looked at
pub record IsEntered (e : Environment) (s : Span) (o : Applied) (v : Val) (x : Option PlainType) (g : Found) : Type 0 where
  pub field : Runs (rule e (value_fits s v o.first (before_fields e o x))) (ok g)
  pub room : room_stop e s (wanted_by o g) ≡ None

-- so many applications are entered, from the outermost in
abbrev pub AreEntered : Environment → Span → Applied → List Val → Option PlainType → List Found → Type 0
AreEntered e s o vs x [] = Unit {0}
AreEntered e s o [] x (g ∷ gs) = ⊥
AreEntered e s o (v ∷ vs) x (g ∷ gs) = IsEntered e s o v x g × AreEntered e s o vs (wanted_by o g) gs

-- what is wanted inside all of them
abbrev pub wanted_inside : Applied → Option PlainType → List Found → Option PlainType
wanted_inside o x gs = wanted_in o.second x gs

-- FROM THE LEFT: the outermost application is that to the last value, and its first field is the next one

-- the applications to the values of a list
abbrev pub nested_left : Span → Id → List Val → Val
nested_left s f vs = from_first (left_nested s f) s vs

abbrev pub wanted_first : Applied → Found → Option PlainType
wanted_first o g = wanted_at o.first g

-- going in: this is found before the fields, where the application is wanted to have x, and the first may be looked at
pub record IsBegun (e : Environment) (s : Span) (o : Applied) (x : Option PlainType) (g : Found) : Type 0 where
  pub before : g ≡ before_fields e o x
  pub room : room_stop e s (wanted_first o g) ≡ None

-- so many applications are begun, from the outermost in
abbrev pub AreBegun : Environment → Span → Applied → Option PlainType → List Found → Type 0
AreBegun e s o x [] = Unit {0}
AreBegun e s o x (g ∷ gs) = IsBegun e s o x g × AreBegun e s o (wanted_first o g) gs

-- what is wanted within all of them
abbrev pub wanted_within : Applied → Option PlainType → List Found → Option PlainType
wanted_within o x gs = wanted_in o.first x gs

-- THE HEAD

-- all applications of this head to two values are refused so
abbrev pub IsNoOperator : Environment → Span → Id → InferError → Type 0
IsNoOperator e s f y = (v w : Val) (t : Option PlainType) → IsRefused (rule e (application s (head f) (two v w) t)) y

-- two values without labels don't fit the fields of this function, whatever they are, and are refused so
abbrev pub IsUnfit : Environment → Function → Span → InferError → Type 0
IsUnfit e r s y = (v w : Val) (g : Found) → IsRefused (rule e (fields_fit s (two v w) r.binders r.positional r.labelled g)) y
