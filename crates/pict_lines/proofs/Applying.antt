-- An application to two values, by what its fields and its end answer.
use Rattle.std.proofs.Common.{◌≡◌, List, Bool, true, false, if◌then◌else◌, Option, Some, None}
use Rattle.pict_syntax.specs.declared.code.Code.{Code}
use Rattle.pict_syntax.specs.declared.span.Span.{Span}
use Rattle.pict_syntax.specs.declared.id.Id.{Id}
use Rattle.pict_syntax.specs.Trees.{Val}
use Rattle.pict_syntax.specs.Stops.{Stop}
use Rattle.pict_types.specs.Types.{PlainType, PlainArg}
use Rattle.pict_normal.specs.Normal.{size_stop}
use Rattle.pict_rules.specs.Found.{Found, with_found, matched}
use Rattle.pict_rules.specs.Shapes.{applied_to}
use Rattle.pict_rules.specs.Environments.{Environment, context_of}
use Rattle.pict_rules.specs.Rules.{Sort, Rule, Answer, gives, has, value_fits, given_fits, fields_fit, application, found_, arguments_, type_, ok, stuck, give, part, unless_stopped, within_limits}
use Rattle.pict_rules.specs.Clauses.{check, found_first}
use Rattle.pict_rules.specs.Derivations.{Runs, give_, refuse_, part_ok, part_stuck}
use Rattle.pict_rules.specs.Typing.{rule}
use Rattle.pict_infer.specs.declared.error.InferError.{InferError}
use Rattle.pict_infer.specs.declared.error.InferError.TheVariants.{Named, Memory}
use Rattle.pict_infer.specs.Answering.{IsRefused, IsStopped}
use Rattle.pict_lines.specs.Judging.{IsFor, IsRefusedFor}
use Rattle.pict_lines.specs.Lines.{fields_end, application_end}
use Rattle.pict_lines.specs.Chains.{Applied, as_function, head, two, IsHead, before_fields, room_stop, if_given}

-- a test for the limits that is passed, and one that is not
passed : {s : Sort} (x : Option Stop) (r : Rule s) (a : Answer s) → x ≡ None → Runs r a → Runs (unless_stopped x r) a
passed x r a h k = rw h k

passed_not : {s : Sort} (x : Option Stop) (r : Rule s) (c : Code) (i : Span) → x ≡ Some (c, i) → Runs (unless_stopped x r) (stuck c i)
passed_not x r c i h = rw h refuse_

-- how the field rule goes on with what the value gave
abbrev pub then_matched : Environment → Span → Val → PlainType → Found → Rule found_
then_matched e s v t g = part e (gives v) (λ u. part e (given_fits s v t u (matched (context_of e) 0 t u g)) give)

abbrev pub then_had : Environment → Span → Val → PlainType → Found → Rule found_
then_had e s v t g = within_limits e (with_found g t) s (check e (has v (with_found g t)) (give g))

-- a field, from the judgement on its value; the truth value says whether its type mentions what isn't found
pub field_by : (m : Bool) (e : Environment) (s : Span) (v : Val) (t : PlainType) (g g2 : Found) (u : Option PlainType) → room_stop e s (if m then None else Some (with_found g t)) ≡ None → IsFor e v (if m then None else Some (with_found g t)) u → Runs (if m then if_given e s v t g u else give g) (ok g2) → Runs (if m then then_matched e s v t g else then_had e s v t g) (ok g2)
field_by true e s v t g g2 None r h k = absurd h
field_by true e s v t g g2 (Some u) r h k = part_ok h (part_ok k give_)
field_by false e s v t g g2 u r h k = passed (size_stop e.context (with_found g t) s) (check e (has v (with_found g t)) (give g)) (ok g2) r (part_ok h k)

pub after_by : (m : Bool) (e : Environment) (s : Span) (v : Val) (t : PlainType) (g : Found) (u : Option PlainType) (x : InferError) → room_stop e s (if m then None else Some (with_found g t)) ≡ None → IsFor e v (if m then None else Some (with_found g t)) u → IsRefused (if m then if_given e s v t g u else give g) x → IsRefused (if m then then_matched e s v t g else then_had e s v t g) x
after_by true e s v t g None x r h k = absurd h
after_by true e s v t g (Some u) (Named c i told) r h k = part_ok h (part_stuck k)
after_by true e s v t g (Some u) Memory r h k = tt
after_by false e s v t g u (Named c i told) r h k = passed (size_stop e.context (with_found g t) s) (check e (has v (with_found g t)) (give g)) (stuck c i) r (part_ok h k)
after_by false e s v t g u Memory r h k = tt

pub refused_by : (m : Bool) (e : Environment) (s : Span) (v : Val) (t : PlainType) (g : Found) (x : InferError) → room_stop e s (if m then None else Some (with_found g t)) ≡ None → IsRefusedFor e v (if m then None else Some (with_found g t)) x → IsRefused (if m then then_matched e s v t g else then_had e s v t g) x
refused_by true e s v t g (Named c i told) r h = part_stuck h
refused_by true e s v t g Memory r h = tt
refused_by false e s v t g (Named c i told) r h = passed (size_stop e.context (with_found g t) s) (check e (has v (with_found g t)) (give g)) (stuck c i) r (part_stuck h)
refused_by false e s v t g Memory r h = tt

-- the limits are passed by what is wanted
pub roomless_by : (m : Bool) (e : Environment) (s : Span) (v : Val) (t : PlainType) (g : Found) (x : InferError) → IsStopped (room_stop e s (if m then None else Some (with_found g t))) x → IsRefused (if m then then_matched e s v t g else then_had e s v t g) x
roomless_by true e s v t g (Named c i told) h = absurd cc
roomless_by true e s v t g Memory h = tt
roomless_by false e s v t g (Named c i told) h = passed_not (size_stop e.context (with_found g t) s) (check e (has v (with_found g t)) (give g)) c i h
roomless_by false e s v t g Memory h = tt

-- the fields of an application to two values
abbrev pub Field1 : Environment → Span → Val → Applied → Found → Rule found_
Field1 e s v o f = rule e (value_fits s v o.first f)

abbrev pub Field2 : Environment → Span → Val → Applied → Found → Rule found_
Field2 e s w o g = rule e (value_fits s w o.second g)

abbrev pub Both : Environment → Span → Val → Val → Applied → Found → Rule arguments_
Both e s v w o f = rule e (fields_fit s (two v w) o.binders (as_function o).positional (as_function o).labelled f)

pub both_ok : (e : Environment) (s : Span) (v w : Val) (o : Applied) (f g g2 : Found) (args : List PlainArg) → Runs (Field1 e s v o f) (ok g) → Runs (Field2 e s w o g) (ok g2) → Runs (fields_end e s o.binders g2) (ok args) → Runs (Both e s v w o f) (ok args)
both_ok e s v w o f g g2 args p q r = part_ok (part_ok (part_ok give_ (part_ok p give_)) (part_ok q give_)) (part_ok give_ r)

pub both_first : (e : Environment) (s : Span) (v w : Val) (o : Applied) (f : Found) (x : InferError) → IsRefused (Field1 e s v o f) x → IsRefused (Both e s v w o f) x
both_first e s v w o f (Named c i told) p = part_stuck (part_stuck (part_ok give_ (part_stuck p)))
both_first e s v w o f Memory p = tt

pub both_second : (e : Environment) (s : Span) (v w : Val) (o : Applied) (f g : Found) (x : InferError) → Runs (Field1 e s v o f) (ok g) → IsRefused (Field2 e s w o g) x → IsRefused (Both e s v w o f) x
both_second e s v w o f g (Named c i told) p q = part_stuck (part_ok (part_ok give_ (part_ok p give_)) (part_stuck q))
both_second e s v w o f g Memory p q = tt

pub both_end : (e : Environment) (s : Span) (v w : Val) (o : Applied) (f g g2 : Found) (x : InferError) → Runs (Field1 e s v o f) (ok g) → Runs (Field2 e s w o g) (ok g2) → IsRefused (fields_end e s o.binders g2) x → IsRefused (Both e s v w o f) x
both_end e s v w o f g g2 (Named c i told) p q r = part_ok (part_ok (part_ok give_ (part_ok p give_)) (part_ok q give_)) (part_ok give_ r)
both_end e s v w o f g g2 Memory p q r = tt

-- the application, from its fields
abbrev pub On : Environment → Span → Id → Val → Val → Option PlainType → Rule type_
On e s f v w x = rule e (application s (head f) (two v w) x)

headed : (e : Environment) (s : Span) (f : Id) (v w : Val) (o : Applied) (x : Option PlainType) (a : Answer type_) → IsHead e f o → Runs (part e (fields_fit s (two v w) o.binders (as_function o).positional (as_function o).labelled (found_first e (two v w) (as_function o) x)) (λ args. application_end e s o.answer args x)) a → Runs (On e s f v w x) a
headed e s f v w o x a h k = part_ok give_ (rw h k)

pub on_ok : (e : Environment) (s : Span) (f : Id) (v w : Val) (o : Applied) (x : Option PlainType) (args : List PlainArg) (t : PlainType) → IsHead e f o → Runs (Both e s v w o (before_fields e o x)) (ok args) → Runs (application_end e s o.answer args x) (ok t) → Runs (On e s f v w x) (ok t)
on_ok e s f v w o None args t h p q = headed e s f v w o None (ok t) h (part_ok p q)
on_ok e s f v w o (Some u) args t h p q = headed e s f v w o (Some u) (ok t) h (part_ok p q)

pub on_fields : (e : Environment) (s : Span) (f : Id) (v w : Val) (o : Applied) (x : Option PlainType) (y : InferError) → IsHead e f o → IsRefused (Both e s v w o (before_fields e o x)) y → IsRefused (On e s f v w x) y
on_fields e s f v w o None (Named c i told) h p = headed e s f v w o None (stuck c i) h (part_stuck p)
on_fields e s f v w o (Some u) (Named c i told) h p = headed e s f v w o (Some u) (stuck c i) h (part_stuck p)
on_fields e s f v w o None Memory h p = tt
on_fields e s f v w o (Some u) Memory h p = tt

pub on_end : (e : Environment) (s : Span) (f : Id) (v w : Val) (o : Applied) (x : Option PlainType) (args : List PlainArg) (y : InferError) → IsHead e f o → Runs (Both e s v w o (before_fields e o x)) (ok args) → IsRefused (application_end e s o.answer args x) y → IsRefused (On e s f v w x) y
on_end e s f v w o None args (Named c i told) h p q = headed e s f v w o None (stuck c i) h (part_ok p q)
on_end e s f v w o (Some u) args (Named c i told) h p q = headed e s f v w o (Some u) (stuck c i) h (part_ok p q)
on_end e s f v w o None args Memory h p q = tt
on_end e s f v w o (Some u) args Memory h p q = tt

-- the value that is the application
pub for_on : (e : Environment) (s : Span) (f : Id) (v w : Val) (x : Option PlainType) (t : PlainType) → Runs (On e s f v w x) (ok t) → IsFor e (applied_to s f v w) x (Some t)
for_on e s f v w None t h = part_ok h give_
for_on e s f v w (Some u) t h = part_ok h give_

pub for_refused : (e : Environment) (s : Span) (f : Id) (v w : Val) (x : Option PlainType) (y : InferError) → IsRefused (On e s f v w x) y → IsRefusedFor e (applied_to s f v w) x y
for_refused e s f v w None (Named c i told) h = part_stuck h
for_refused e s f v w (Some u) (Named c i told) h = part_stuck h
for_refused e s f v w None Memory h = tt
for_refused e s f v w (Some u) Memory h = tt
