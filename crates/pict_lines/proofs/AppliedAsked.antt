-- What is asked of the parts of an application to two values is well asked, where the application is.
use Rattle.std.proofs.Common.{◌≡◌, Bool, true, false, if◌then◌else◌, Option, Some, None}
use Rattle.pict_syntax.specs.declared.span.Span.{Span}
use Rattle.pict_syntax.specs.declared.id.Id.{Id}
use Rattle.pict_syntax.specs.Trees.{Val}
use Rattle.pict_syntax.specs.Stops.{Stop}
use Rattle.pict_types.specs.Types.{PlainType}
use Rattle.pict_rules.specs.Found.{Found, mentions_missing, with_found}
use Rattle.pict_rules.specs.Shapes.{applied_to}
use Rattle.pict_rules.specs.Environments.{Environment}
use Rattle.pict_rules.specs.Rules.{Sort, Rule, Judgement, nothing_, type_, found_, arguments_, gives, has, application, fields_fit, value_fits, unless_stopped, ok}
use Rattle.pict_rules.specs.Clauses.{found_first}
use Rattle.pict_rules.specs.Derivations.{Runs, give_, part_ok}
use Rattle.pict_rules.specs.Typing.{rule}
use Rattle.pict_rules.specs.Reached.{Asks, this_part, past_part}
use Rattle.pict_infer.specs.Asking.{IsWellAsked}
use Rattle.pict_infer.proofs.Asked.{asked_of}
use Rattle.pict_lines.specs.Judging.{IsAskedFor}
use Rattle.pict_lines.specs.Chains.{Applied, as_function, head, two, IsHead, before_fields, wanted_at, room_stop}
use Rattle.pict_lines.proofs.Applying.{Field1, then_matched, then_had}

pub application_asked : (e : Environment) (s : Span) (f : Id) (v w : Val) (x : Option PlainType) → IsAskedFor e (applied_to s f v w) x → IsWellAsked type_ e (application s (head f) (two v w) x)
application_asked e s f v w None h = asked_of (gives (applied_to s f v w)) h this_part
application_asked e s f v w (Some u) h = asked_of (has (applied_to s f v w) u) h this_part

headed_asked : (e : Environment) (s : Span) (f : Id) (v w : Val) (o : Applied) (x : Option PlainType) → IsHead e f o → IsWellAsked type_ e (application s (head f) (two v w) x) → IsWellAsked arguments_ e (fields_fit s (two v w) o.binders (as_function o).positional (as_function o).labelled (found_first e (two v w) (as_function o) x))
headed_asked e s f v w o x h k = asked_of (application s (head f) (two v w) x) k (past_part give_ (rw h this_part))

pub fields_asked : (e : Environment) (s : Span) (f : Id) (v w : Val) (o : Applied) (x : Option PlainType) → IsHead e f o → IsWellAsked type_ e (application s (head f) (two v w) x) → IsWellAsked arguments_ e (fields_fit s (two v w) o.binders (as_function o).positional (as_function o).labelled (before_fields e o x))
fields_asked e s f v w o None h k = headed_asked e s f v w o None h k
fields_asked e s f v w o (Some u) h k = headed_asked e s f v w o (Some u) h k

abbrev pub FieldsAsked : Environment → Span → Val → Val → Applied → Found → Type 0
FieldsAsked e s v w o g = IsWellAsked arguments_ e (fields_fit s (two v w) o.binders (as_function o).positional (as_function o).labelled g)

pub first_asked : (e : Environment) (s : Span) (v w : Val) (o : Applied) (g : Found) → FieldsAsked e s v w o g → IsWellAsked found_ e (value_fits s v o.first g)
first_asked e s v w o g h =
    let a = asked_of (fields_fit s (two v w) o.binders (as_function o).positional (as_function o).labelled g) h this_part in
    let b = asked_of _ a this_part in
    asked_of _ b (past_part give_ this_part)

pub second_asked : (e : Environment) (s : Span) (v w : Val) (o : Applied) (f g : Found) → FieldsAsked e s v w o f → Runs (Field1 e s v o f) (ok g) → IsWellAsked found_ e (value_fits s w o.second g)
second_asked e s v w o f g h p =
    let a = asked_of (fields_fit s (two v w) o.binders (as_function o).positional (as_function o).labelled f) h this_part in
    asked_of _ a (past_part (part_ok give_ (part_ok p give_)) this_part)

-- the judgement on a field's value
abbrev AsksFor : (s : Sort) → Rule s → Environment → Val → Option PlainType → Type 0
AsksFor s r e v None = Asks s r type_ e (gives v)
AsksFor s r e v (Some u) = Asks s r nothing_ e (has v u)

stop_passed : {s t : Sort} (o : Option Stop) (r : Rule s) (d : Environment) (j : Judgement t) → o ≡ None → Asks s r t d j → Asks s (unless_stopped o r) t d j
stop_passed o r d j h a = rw h a

asks_value : (m : Bool) (e : Environment) (s : Span) (v : Val) (t : PlainType) (g : Found) → room_stop e s (if m then None else Some (with_found g t)) ≡ None → AsksFor found_ (if m then then_matched e s v t g else then_had e s v t g) e v (if m then None else Some (with_found g t))
asks_value true e s v t g r = this_part
asks_value false e s v t g r = stop_passed _ _ e (has v (with_found g t)) r this_part

for_asked : {s : Sort} (e : Environment) (j : Judgement s) (v : Val) (x : Option PlainType) → IsWellAsked s e j → AsksFor s (rule e j) e v x → IsAskedFor e v x
for_asked e j v None h a = asked_of j h a
for_asked e j v (Some u) h a = asked_of j h a

pub value_asked : (e : Environment) (s : Span) (v : Val) (t : PlainType) (g : Found) → room_stop e s (wanted_at t g) ≡ None → IsWellAsked found_ e (value_fits s v t g) → IsAskedFor e v (wanted_at t g)
value_asked e s v t g r h = for_asked e (value_fits s v t g) v (wanted_at t g) h (asks_value (mentions_missing g t) e s v t g r)
