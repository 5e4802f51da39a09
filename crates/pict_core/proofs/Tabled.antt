-- The rows of the table are what processes do.
use Rattle.std.proofs.Common.{ℕ, Bool, true, false, ◌≡◌, refl, ap, ◌∙◌, subst, List, Option, Some, None}
use Rattle.pict_syntax.specs.declared.span.Span.{Span}
use Rattle.pict_syntax.specs.declared.primitive.Primitive.{Primitive}
use Rattle.pict_core.specs.Term.{Val, Pat, Process, Var, Chan, Int, Char, Boolean, Text, PrimitiveVal, Record, Zero, Par, New, Out, In, If}
use Rattle.pict_core.specs.Matching.{match_value}
use Rattle.pict_core.specs.Primitives.{Effect, Leaves, Nothing, Answer, Trap, effect_of}
use Rattle.pict_core.specs.Configuration.{Ready, Parked, Entry, Configuration}
use Rattle.pict_core.specs.Step.{Label, Comm, StepOutcome, Steps, Traps, Wrong, Finished, gone, added, printing, act, perform, leave, received, served, took, meet_reader, meet_message}
use Rattle.pict_core.specs.Table.{Row, ends, forks, makes_channel, takes_first, takes_second, primitive_ends, primitive_answers, output_parks, output_meets_reader, output_meets_server, input_parks, reader_meets_message, server_meets_message}

-- what a process does is a row of the table, or a trap, or wrong, and never 'finished'
abbrev IsRow : Configuration → ℕ → Option Entry → Process → StepOutcome → Type 0
IsRow C s o p (Steps D label) = Row C s o p D label
IsRow C s o p (Traps at) = Unit {0}
IsRow C s o p Wrong = Unit {0}
IsRow C s o p Finished = ⊥

left_row : (C : Configuration) (s : ℕ) (o : Option Entry) (f : Primitive) (v : Val) (at : Span) (e : Effect) → effect_of f v ≡ Some e → (l : Leaves) → e.leaves ≡ l
    → IsRow C s o (Out (PrimitiveVal f) v at) (leave C s at (printing e.printed) l)
left_row C s o f v at e h Nothing n = primitive_ends h n
left_row C s o f v at e h (Answer k a) n = primitive_answers h n
left_row C s o f v at e h Trap n = tt

primitive_row : (C : Configuration) (s : ℕ) (o : Option Entry) (f : Primitive) (v : Val) (at : Span) (x : Option Effect) → effect_of f v ≡ x → IsRow C s o (Out (PrimitiveVal f) v at) (perform C s at x)
primitive_row C s o f v at None h = tt
primitive_row C s o f v at (Some e) h = left_row C s o f v at e h e.leaves refl

taken_row : (C : Configuration) (s c : ℕ) (v w : Val) (at : Span) (u : Entry) (b : Bool) (pattern : Pat) (body : Process) → u.process ≡ In w b pattern body → (x : Option (List Val)) → match_value pattern v ≡ x
    → IsRow C s (Some u) (Out (Chan c) v at) (received x body (λ p. Steps (served b (In w b pattern body) (added Ready p (gone u.stamp (gone s C)))) (Comm c v)))
taken_row C s c v w at u b pattern body h None m = tt
taken_row C s c v w at u false pattern body h (Some bound) m = output_meets_reader h m
taken_row C s c v w at u true pattern body h (Some bound) m = output_meets_server h m

reader_row : (C : Configuration) (s c : ℕ) (v : Val) (at : Span) (u : Entry) (q : Process) → u.process ≡ q → IsRow C s (Some u) (Out (Chan c) v at) (meet_reader C s c v u.stamp q)
reader_row C s c v at u (In w b pattern body) h = taken_row C s c v w at u b pattern body h (match_value pattern v) refl
reader_row C s c v at u _ h = tt

got_row : (C : Configuration) (s c : ℕ) (v w : Val) (at : Span) (u : Entry) (b : Bool) (pattern : Pat) (body : Process) → u.process ≡ Out w v at → (x : Option (List Val)) → match_value pattern v ≡ x
    → IsRow C s (Some u) (In (Chan c) b pattern body) (received x body (λ p. Steps (added Ready p (gone u.stamp (took b s C))) (Comm c v)))
got_row C s c v w at u b pattern body h None m = tt
got_row C s c v w at u false pattern body h (Some bound) m = reader_meets_message h m
got_row C s c v w at u true pattern body h (Some bound) m = server_meets_message h m

message_row : (C : Configuration) (s c : ℕ) (b : Bool) (pattern : Pat) (body : Process) (u : Entry) (q : Process) → u.process ≡ q → IsRow C s (Some u) (In (Chan c) b pattern body) (meet_message C s c b pattern body u.stamp q)
message_row C s c b pattern body u (Out w v at) h = got_row C s c v w at u b pattern body h (match_value pattern v) refl
message_row C s c b pattern body u _ h = tt

out_row : (C : Configuration) (s : ℕ) (o : Option Entry) (chan v : Val) (at : Span) → IsRow C s o (Out chan v at) (act C s o (Out chan v at))
out_row C s o (PrimitiveVal f) v at = primitive_row C s o f v at (effect_of f v) refl
out_row C s None (Chan c) v at = output_parks
out_row C s (Some u) (Chan c) v at = reader_row C s c v at u u.process refl
out_row C s o (Var x) v at = tt
out_row C s o (Int x) v at = tt
out_row C s o (Char x) v at = tt
out_row C s o (Boolean x) v at = tt
out_row C s o (Text x) v at = tt
out_row C s o (Record x y) v at = tt

in_row : (C : Configuration) (s : ℕ) (o : Option Entry) (chan : Val) (b : Bool) (pattern : Pat) (body : Process) → IsRow C s o (In chan b pattern body) (act C s o (In chan b pattern body))
in_row C s None (Chan c) b pattern body = input_parks
in_row C s (Some u) (Chan c) b pattern body = message_row C s c b pattern body u u.process refl
in_row C s o (PrimitiveVal f) b pattern body = tt
in_row C s o (Var x) b pattern body = tt
in_row C s o (Int x) b pattern body = tt
in_row C s o (Char x) b pattern body = tt
in_row C s o (Boolean x) b pattern body = tt
in_row C s o (Text x) b pattern body = tt
in_row C s o (Record x y) b pattern body = tt

if_row : (C : Configuration) (s : ℕ) (o : Option Entry) (test : Val) (p q : Process) → IsRow C s o (If test p q) (act C s o (If test p q))
if_row C s o (Boolean true) p q = takes_first
if_row C s o (Boolean false) p q = takes_second
if_row C s o _ p q = tt

any_row : (C : Configuration) (s : ℕ) (o : Option Entry) (p : Process) → IsRow C s o p (act C s o p)
any_row C s o Zero = ends
any_row C s o (Par p q) = forks
any_row C s o (New p) = makes_channel
any_row C s o (If test p q) = if_row C s o test p q
any_row C s o (Out chan v at) = out_row C s o chan v at
any_row C s o (In chan b pattern body) = in_row C s o chan b pattern body

pub row_of : (C : Configuration) (s : ℕ) (o : Option Entry) (p : Process) (D : Configuration) (label : Label) → act C s o p ≡ Steps D label → Row C s o p D label
row_of C s o p D label e = subst (IsRow C s o p) e (any_row C s o p)

pub never_finished : (C : Configuration) (s : ℕ) (o : Option Entry) (p : Process) → act C s o p ≡ Finished → ⊥
never_finished C s o p e = subst (IsRow C s o p) e (any_row C s o p)

pub act_of : (C : Configuration) (s : ℕ) (o : Option Entry) (p : Process) (D : Configuration) (label : Label) → Row C s o p D label → act C s o p ≡ Steps D label
act_of C s o p D label ends = refl
act_of C s o p D label forks = refl
act_of C s o p D label makes_channel = refl
act_of C s o p D label takes_first = refl
act_of C s o p D label takes_second = refl
act_of C s o (Out (PrimitiveVal f) v at) D label (primitive_ends {e = e} h n) = ap (perform C s at) h ∙ ap (leave C s at (printing e.printed)) n
act_of C s o (Out (PrimitiveVal f) v at) D label (primitive_answers {e = e} h n) = ap (perform C s at) h ∙ ap (leave C s at (printing e.printed)) n
act_of C s o p D label output_parks = refl
act_of C s o (Out (Chan c) v at) D label (output_meets_reader {u = u} {body = body} h m) = ap (meet_reader C s c v u.stamp) h ∙ ap (λ x. received x body (λ q. Steps (added Ready q (gone u.stamp (gone s C))) (Comm c v))) m
act_of C s o (Out (Chan c) v at) D label (output_meets_server {w = w} {u = u} {pattern = pattern} {body = body} h m) = ap (meet_reader C s c v u.stamp) h ∙ ap (λ x. received x body (λ q. Steps (added Parked (In w true pattern body) (added Ready q (gone u.stamp (gone s C)))) (Comm c v))) m
act_of C s o p D label input_parks = refl
act_of C s o (In (Chan c) b pattern body) D label (reader_meets_message {v = v} {u = u} h m) = ap (meet_message C s c false pattern body u.stamp) h ∙ ap (λ x. received x body (λ q. Steps (added Ready q (gone u.stamp (gone s C))) (Comm c v))) m
act_of C s o (In (Chan c) b pattern body) D label (server_meets_message {v = v} {u = u} h m) = ap (meet_message C s c true pattern body u.stamp) h ∙ ap (λ x. received x body (λ q. Steps (added Ready q (gone u.stamp C)) (Comm c v))) m
