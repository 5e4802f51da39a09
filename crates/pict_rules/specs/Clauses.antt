-- The clauses of the typing rules: `need_..` has the code and the place of its refusal, and `if_..` goes on in another way.
use Rattle.std.specs.Prelude.{ℕ, Bool, true, false, nat_eq, if◌then◌else◌, List, [], ◌∷◌, ◌++◌, length, Option, Some, None}
use Rattle.pict_syntax.specs.declared.code.Code.{Code}
use Rattle.pict_syntax.specs.declared.span.Span.{Span}
use Rattle.pict_syntax.specs.declared.id.Id.{Id}
use Rattle.pict_syntax.specs.Trees.{KindTree, TypeBinder, type_binder, Bound, unbounded, bound, Val, Vals, FieldVals, field_vals, LabelledVals}
use Rattle.pict_types.specs.Types.{Capability, Both, Read, Write, Respond, PlainType, Chan, Fields, Rec, PlainTypes, no_type, PlainLabels, no_label, PlainBound, Free, Below, Operator, PlainBounds, no_bound, bounds, PlainArg, Plain, Op, under, is_top}
use Rattle.pict_types.specs.Replacing.{bound_by, arguments, replace, unfolding_of, type_in}
use Rattle.pict_normal.specs.Normal.{and_type, normal, normal_binder, entry_of}
use Rattle.pict_types.specs.Entries.{PlainContext}
use Rattle.pict_sub.specs.Exposing.{exposure}
use Rattle.pict_types.specs.Mentions.{mentions_innermost, lowered}
use Rattle.pict_rules.specs.Found.{Found, matched, none_found}
use Rattle.pict_syntax.specs.Grammar.{val_span}
use Rattle.pict_syntax.specs.Stops.{Stop}
use Rattle.pict_rules.specs.Shapes.{Function, function_by, sendable, none_written, binder_stop}
use Rattle.pict_rules.specs.Environments.{Environment, Extension, KnownType, KnownValue, context_of, only_types, within, extended, bounds_of}
use Rattle.pict_rules.specs.Rules.{TypedFields, Signature, Sort, nothing_, Judgement, gives, values_fit, labelled_values_fit, is_subtype, is_same, Rule, give, refuse, need, part, within_limits}

-- nothing is left to ask
abbrev pub done : Rule nothing_
done = give tt

-- a judgement on a part that gives no result
abbrev pub check : {s : Sort} → Environment → Judgement nothing_ → Rule s → Rule s
check e j r = part e j (λ _. r)

-- the type is a record type, or the rule goes on with r
abbrev pub if_record : {s : Sort} → PlainType → (PlainBounds → PlainTypes → PlainLabels → Rule s) → Rule s → Rule s
if_record (Fields bs ps ls) k r = k bs ps ls
if_record _ k r = r

-- the type is a recursive one, and this is its unfolding
abbrev pub need_recursive : {s : Sort} → PlainType → Code → Span → (PlainType → Rule s) → Rule s
need_recursive (Rec t) c i k = k (unfolding_of t)
need_recursive _ c i k = refuse c i

-- the type is a channel type, with this capability and these messages
abbrev pub need_channel : {s : Sort} → PlainType → Code → Span → (Capability → PlainType → Rule s) → Rule s
need_channel (Chan m t) c i k = k m t
need_channel _ c i k = refuse c i

-- the type may be applied, or a function abstraction goes against it
abbrev pub need_function : {s : Sort} → Option Function → Code → Span → (Function → Rule s) → Rule s
need_function None c i k = refuse c i
need_function (Some f) c i k = k f

-- the type mentions none of the n innermost variables, and is written outside them
abbrev pub need_outside : {s : Sort} → ℕ → PlainType → Code → Span → (PlainType → Rule s) → Rule s
need_outside n t c i k = if mentions_innermost n t then refuse c i else k (lowered n t)

-- the type u is a subtype of the one that is expected, if any
abbrev pub expect : {s : Sort} → Environment → Option PlainType → PlainType → Code → Span → Rule s → Rule s
expect e None u c i r = r
expect e (Some t) u c i r = need (is_subtype (context_of e) u t) c i r

-- the value gives a subtype of t
abbrev pub gives_below : Environment → Val → PlainType → Code → Rule nothing_
gives_below e v t code = part e (gives v) (λ s. need (is_subtype (context_of e) s t) code (val_span v) done)

-- the environment with a record pattern's own type binders, and with all that it adds
abbrev pub with_own : Environment → List KnownType → Environment
with_own e own = extended e (only_types own)

abbrev pub with_fields : Environment → List KnownType → Extension → Environment
with_fields e own x = extended e (within own x)

-- what is found before the values: the type of the answer is matched against the expected one, where no type argument is written
abbrev pub found_first : Environment → FieldVals → Function → Option PlainType → Found
found_first e (field_vals ts vs ls) r None = none_found r.binders
found_first e (field_vals ts vs ls) r (Some t) = if none_written ts then matched (context_of e) 0 r.answer t (none_found r.binders) else none_found r.binders

-- an argument is below its type field's bound, written with the earlier ones put in
abbrev pub within_bound : {s : Sort} → Environment → Span → PlainBound → List PlainArg → PlainArg → Code → Span → Rule s → Rule s
within_bound e node Free earlier a c i r = r
within_bound e node (Operator ms) earlier a c i r = r
within_bound e node (Below b) earlier a c i r =
    within_limits e (replace (arguments earlier) b) node (
    need (is_subtype (context_of e) (type_in a) (replace (arguments earlier) b)) c i r)

-- the same of all that are found
abbrev pub within_bounds : {s : Sort} → Environment → Span → PlainBounds → List PlainArg → List PlainArg → Code → Rule s → Rule s
within_bounds e node no_bound earlier args c r = r
within_bounds e node (bounds b bs) earlier [] c r = refuse c node
within_bounds e node (bounds b bs) earlier (a ∷ args) c r = within_bound e node b earlier a c node (within_bounds e node bs (earlier ++ a ∷ []) args c r)

-- an argument is of its type field's kind
abbrev pub is_of_kind : PlainArg → PlainBound → Bool
is_of_kind (Op m t) (Operator ms) = nat_eq m (length ms)
is_of_kind (Op m t) Free = false
is_of_kind (Op m t) (Below b) = false
is_of_kind (Plain t) (Operator ms) = false
is_of_kind (Plain t) Free = true
is_of_kind (Plain t) (Below b) = true

-- the values in written order, with what is found before
abbrev pub in_order : {s : Sort} → Environment → Span → Vals → LabelledVals → PlainTypes → PlainLabels → Found → (Found → Rule s) → Rule s
in_order e node vs ls ps ms f k = part e (values_fit node vs ps f) (λ g. part e (labelled_values_fit node ls ms g) k)

-- the type at a label, if any
abbrev pub if_labelled : {s : Sort} → Option PlainType → (PlainType → Rule s) → Rule s → Rule s
if_labelled None k r = r
if_labelled (Some t) k r = k t

-- what is written at a type binder: its kind is the record's; so is its bound, where this isn't Top
abbrev pub written_kind : TypeBinder → Option KindTree
written_kind (type_binder s x k b) = k

abbrev pub binder_span : TypeBinder → Span
binder_span (type_binder s x k b) = s

abbrev pub need_same_bound : {s : Sort} → Environment → Bound → PlainBound → Code → Span → Rule s → Rule s
need_same_bound e unbounded b c i r = r
need_same_bound e (bound t) b c i r =
    if is_top (normal e.names e.context t) then r
    else need (is_same (bound_by (normal e.names e.context t)) b) c i r

abbrev pub binder_name : TypeBinder → ℕ
binder_name (type_binder s x k b) = x.name.0

-- what is known of a type binder that is written
abbrev pub own_bound : Environment → TypeBinder → PlainBound
own_bound e b = normal_binder e.names e.context b

-- the type of a function abstraction's argument: its fields, and the answer's type in the last positional place
abbrev pub argument_type : TypedFields → PlainType → PlainType
argument_type g t = Fields (bounds_of g.own) (and_type g.positional (Chan Respond t)) g.labelled

-- the parameters of an operator, in a context
abbrev pub with_parameters_named : List Id → PlainContext → PlainContext
with_parameters_named [] c = c
with_parameters_named (x ∷ xs) c = with_parameters_named xs (entry_of x Free ∷ c)

abbrev pub with_parameters_in : Environment → List Id → Environment
with_parameters_in e xs = record { names = e.names; context = with_parameters_named xs e.context; values = e.values }

-- the names of a `def`, with their types
abbrev pub signature_values : List Signature → List KnownValue → List KnownValue
signature_values [] vs = vs
signature_values (s ∷ ss) vs = signature_values ss (record { name = s.name.name.0; has = s.has } ∷ vs)

abbrev pub with_signatures : Environment → List Signature → Environment
with_signatures e ss = record { names = e.names; context = e.context; values = signature_values ss e.values }

-- 'val [] = v'
abbrev pub empty_record : PlainType
empty_record = Fields no_bound no_type no_label

abbrev pub may_send : Capability → Bool
may_send Read = false
may_send Both = true
may_send Write = true
may_send Respond = true

abbrev pub may_receive : Capability → Bool
may_receive Read = true
may_receive Both = true
may_receive Write = false
may_receive Respond = false

-- /R and !R, against which an abstraction goes; or else
abbrev pub if_sent : PlainType → (PlainType → Rule nothing_) → Rule nothing_ → Rule nothing_
if_sent (Chan Respond t) k r = k t
if_sent (Chan Write t) k r = k t
if_sent _ k r = r

-- a type is ^S, or this is the refusal
abbrev pub need_both : {s : Sort} → PlainType → Code → Span → Rule s → Rule s
need_both (Chan Both t) c i r = r
need_both _ c i r = refuse c i

abbrev pub stop_of_binder : Environment → TypeBinder → Option Stop
stop_of_binder e b = binder_stop e.names e.context b

-- a type that is a record whose last positional field may be sent on, both exposed
abbrev pub answering : Environment → PlainType → Option Function
answering e r = function_by (λ bs last. sendable (exposure (under (context_of e) bs) last)) (exposure (context_of e) r)
