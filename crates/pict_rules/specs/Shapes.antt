-- The forms of types and of phrases that the rules ask for: what may be applied, what is written, nested applications.
use Rattle.std.specs.Prelude.{ℕ, zero, suc, Bool, true, false, ◌&&◌, ◌||◌, nat_eq, List, [], ◌∷◌, Option, Some, None}
use Rattle.pict_syntax.specs.declared.type_tree.Mark.{Mark}
use Rattle.pict_syntax.specs.declared.type_tree.Mark.TheVariants as mark
use Rattle.pict_syntax.specs.declared.id.Id.{Id}
use Rattle.pict_syntax.specs.declared.span.Span.{Span}
use Rattle.pict_syntax.specs.Trees.{KindTree, plain_kind, operator_kind, TypeTrees, no_types, more_types, TypeBinder, type_binder, Bound, unbounded, bound, Val, of_chan, use_chan, apply_chan, true_val, Vals, no_vals, more_vals, field_vals, LabelledVals, no_labelled_vals, more_labelled_vals}
use Rattle.pict_types.specs.Types.{Both, Read, Write, Respond, PlainType, Top, Chan, Fields, PlainTypes, no_type, types, PlainLabels, no_label, labels, PlainBound, Free, Below, Operator, PlainBounds, no_bound, bounds}
use Rattle.pict_syntax.specs.Grammar.{type_span}
use Rattle.pict_syntax.specs.Stops.{Stop}
use Rattle.pict_normal.specs.Normal.{normal, binder_stops, size_stop, first_or}
use Rattle.pict_types.specs.Entries.{PlainContext}

-- the type and the bound with this number, from 0; Top, and no bound, where there is none
abbrev pub nth_type : ℕ → PlainTypes → PlainType
nth_type i no_type = Top
nth_type zero (types t ts) = t
nth_type (suc i) (types t ts) = nth_type i ts

abbrev pub nth_bound : ℕ → PlainBounds → PlainBound
nth_bound i no_bound = Free
nth_bound zero (bounds b bs) = b
nth_bound (suc i) (bounds b bs) = nth_bound i bs

-- all types but the last, and the last
abbrev pub put_first : PlainType → Option (PlainTypes × PlainType) → Option (PlainTypes × PlainType)
put_first t None = Some (no_type, t)
put_first t (Some x) = Some (types t x.0, x.1)

abbrev pub split_last : PlainTypes → Option (PlainTypes × PlainType)
split_last no_type = None
split_last (types t ts) = put_first t (split_last ts)

-- what is applied: the fields that it takes, and the type of its answer, both under its type fields
pub record Function : Type 0 where
  pub binders : PlainBounds
  pub positional : PlainTypes
  pub labelled : PlainLabels
  pub answer : PlainType

-- /U and !U
abbrev pub respond_or_write : PlainType → Option PlainType
respond_or_write (Chan Respond u) = Some u
respond_or_write (Chan Write u) = Some u
respond_or_write _ = None

-- /U, !U and ^U
abbrev pub sendable : PlainType → Option PlainType
sendable (Chan Respond u) = Some u
sendable (Chan Write u) = Some u
sendable (Chan Both u) = Some u
sendable _ = None

-- the record of a function, whose last positional field f takes for the channel of the answer
abbrev pub with_answer : PlainBounds → PlainLabels → PlainTypes → Option PlainType → Option Function
with_answer bs ls ps None = None
with_answer bs ls ps (Some u) = Some (record { binders = bs; positional = ps; labelled = ls; answer = u })

abbrev pub with_last : (PlainType → Option PlainType) → PlainBounds → PlainLabels → Option (PlainTypes × PlainType) → Option Function
with_last f bs ls None = None
with_last f bs ls (Some x) = with_answer bs ls x.0 (f x.1)

abbrev pub function_by : (PlainBounds → PlainType → Option PlainType) → PlainType → Option Function
function_by f (Fields bs ps ls) = with_last (f bs) bs ls (split_last ps)
function_by f _ = None

-- a type that may be applied: ^R, !R or /R, where R is a record whose last positional field is /U or !U
abbrev pub applicable : PlainType → Option Function
applicable (Chan Both r) = function_by (λ bs. respond_or_write) r
applicable (Chan Write r) = function_by (λ bs. respond_or_write) r
applicable (Chan Respond r) = function_by (λ bs. respond_or_write) r
applicable (Chan Read r) = None
applicable _ = None

-- each label of the record type is written
abbrev pub is_written : ℕ → LabelledVals → Bool
is_written l no_labelled_vals = false
is_written l (more_labelled_vals ls x v) = nat_eq l x.name.0 || is_written l ls

abbrev pub all_written : PlainLabels → LabelledVals → Bool
all_written no_label ls = true
all_written (labels l t ms) ls = is_written l ls && all_written ms ls

abbrev pub none_written : TypeTrees → Bool
none_written no_types = true
none_written (more_types ts t) = false

-- the refusal of the bound of a type binder in a pattern: of kinds, else of size
abbrev pub bound_size_stop : List (List ℕ) → PlainContext → Bound → Option Stop
bound_size_stop ns c unbounded = None
bound_size_stop ns c (bound t) = size_stop c (normal ns c t) (type_span t)

abbrev pub written_bound : TypeBinder → Bound
written_bound (type_binder s x k b) = b

abbrev pub binder_stop : List (List ℕ) → PlainContext → TypeBinder → Option Stop
binder_stop ns c b = first_or (binder_stops ns c b) (bound_size_stop ns c (written_bound b))

abbrev pub same_mark : Mark → Mark → Bool
same_mark mark.Plus mark.Plus = true
same_mark mark.Minus mark.Minus = true
same_mark mark.Plain mark.Plain = true
same_mark _ _ = false

-- the same marks, in order
abbrev pub same_marks : List Mark → List Mark → Bool
same_marks [] [] = true
same_marks (n ∷ ns) (m ∷ ms) = same_mark n m && same_marks ns ms
same_marks _ _ = false

-- a written kind is that of the field
abbrev pub kind_agrees : Option KindTree → PlainBound → Bool
kind_agrees None b = true
kind_agrees (Some plain_kind) (Operator ms) = false
kind_agrees (Some plain_kind) Free = true
kind_agrees (Some plain_kind) (Below t) = true
kind_agrees (Some (operator_kind ns)) (Operator ms) = same_marks ns ms
kind_agrees (Some (operator_kind ns)) Free = false
kind_agrees (Some (operator_kind ns)) (Below t) = false

-- the values in order
abbrev pub vals_onto : Vals → List Val → List Val
vals_onto no_vals vs = vs
vals_onto (more_vals us v) vs = vals_onto us (v ∷ vs)

-- a name applied to two values, standing at s
abbrev pub applied_to : Span → Id → Val → Val → Val
applied_to s f v w = of_chan (apply_chan s (of_chan (use_chan f.span f.name)) (field_vals no_types (more_vals (more_vals no_vals v) w) no_labelled_vals))

-- (f > a1 a2 .. an) is (f a1 (f > a2 .. an)), where (f > a) is a
abbrev pub right_nested : Span → Id → Val → List Val → Val
right_nested s f v [] = v
right_nested s f v (w ∷ vs) = applied_to s f v (right_nested s f w vs)

-- (f < a1 a2 .. an) is (f (f < a1 .. an-1) an), where (f < a) is a
abbrev pub left_nested : Span → Id → Val → List Val → Val
left_nested s f v [] = v
left_nested s f v (w ∷ vs) = left_nested s f (applied_to s f v w) vs

-- a list of at least one value; the true literal is in the place of none
abbrev pub from_first : (Val → List Val → Val) → Span → List Val → Val
from_first f s [] = true_val s
from_first f s (v ∷ vs) = f v vs
