-- What all judgements that a rule asks have, and all results that it gives, line by line.
use Rattle.std.proofs.Common.{ℕ, List, [], ◌∷◌, ◌++◌, Bool, true, false, if◌then◌else◌, Option, Some, None}
use Rattle.pict_syntax.specs.declared.code.Code.{Code}
use Rattle.pict_syntax.specs.declared.span.Span.{Span}
use Rattle.pict_syntax.specs.Trees.{Bound, unbounded, bound}
use Rattle.pict_syntax.specs.Stops.{Stop}
use Rattle.pict_normal.specs.Normal.{normal}
use Rattle.pict_types.specs.Mentions.{mentions_innermost, lowered}
use Rattle.pict_types.specs.Types.{Capability, Both, Read, Write, Respond, PlainType, Top, Int, Char, Str, Boolean, Var, Apply, Chan, Fields, Rec, PlainTypes, PlainLabels, PlainBound, Free, Below, Operator, PlainBounds, no_bound, bounds, PlainArg, is_top}
use Rattle.pict_rules.specs.Shapes.{Function}
use Rattle.pict_rules.specs.Environments.{Environment}
use Rattle.pict_rules.specs.Rules.{Sort, nothing_, Result, Judgement, Condition, Rule, give, refuse, need, either, part, Answer, ok, stuck, unless_stopped, ensure}
use Rattle.pict_rules.specs.Clauses.{if_record, need_recursive, need_channel, need_function, if_sent, need_both, if_labelled, need_outside, expect, within_bound, within_bounds, need_same_bound}
use Rattle.pict_rules.specs.Typing.{rule}
use Rattle.pict_rules.specs.Derivations.{Runs, give_, refuse_, met, failed, yes, no, part_ok, part_stuck}
use Rattle.pict_rules.specs.Reached.{Asks, this_part, past_part, past_need, past_yes, past_no}

abbrev pub Property : Type 1
Property = (t : Sort) → Environment → Judgement t → Type 0

abbrev pub ResultProperty : Type 1
ResultProperty = (t : Sort) → Environment → Judgement t → Result t → Type 0

-- each judgement that the rule asks has A, and each result that it gives has P, where what is asked gives results that have G
abbrev EachLine : Property → ResultProperty → {s : Sort} → (Result s → Type 0) → Rule s → Type 0
EachLine A G P (give x) = P x
EachLine A G P (refuse c i) = Unit {0}
EachLine A G P (need q c i r) = EachLine A G P r
EachLine A G P (either q r r') = EachLine A G P r × EachLine A G P r'
EachLine A G P (part {r = t} e j k) = A t e j × ((x : Result t) → G t e j x → EachLine A G P (k x))

pub record Each (A : Property) (G : ResultProperty) (s : Sort) (P : Result s → Type 0) (r : Rule s) : Type 0 where
  lines : EachLine A G P r

-- nothing is wanted of what is asked, or of what is given
abbrev pub any_asked : Property
any_asked t e j = Unit {0}

abbrev pub any_given : (s : Sort) → Result s → Type 0
any_given s x = Unit {0}

abbrev pub IsResult : ResultProperty
IsResult t e j x = Runs (rule e j) (ok x)

abbrev pub IfGiven : {s : Sort} → (Result s → Type 0) → Answer s → Type 0
IfGiven P (ok x) = P x
IfGiven P (stuck c i) = Unit {0}

answer_has : (A : Property) {s : Sort} (P : Result s → Type 0) {r : Rule s} {a : Answer s} → Runs r a → EachLine A IsResult P r → IfGiven P a
answer_has A P give_ h = h
answer_has A P refuse_ h = tt
answer_has A P (met q p) h = answer_has A P p h
answer_has A P (failed f) h = tt
answer_has A P (yes q p) h = answer_has A P p h.0
answer_has A P (no f p) h = answer_has A P p h.1
answer_has A P (part_ok {x = x} p q) h = answer_has A P q (h.1 x p)
answer_has A P (part_stuck p) h = tt

pub result_has : {A : Property} {s : Sort} {P : Result s → Type 0} {r : Rule s} {x : Result s} → Each A IsResult s P r → Runs r (ok x) → P x
result_has {A = A} {P = P} k h = answer_has A P h k.lines

line_asked : (A : Property) {s t : Sort} (P : Result s → Type 0) {r : Rule s} {e : Environment} {j : Judgement t} → Asks s r t e j → EachLine A IsResult P r → A t e j
line_asked A P this_part h = h.0
line_asked A P (past_part {x = x} p a) h = line_asked A P a (h.1 x p)
line_asked A P (past_need q a) h = line_asked A P a h
line_asked A P (past_yes q a) h = line_asked A P a h.0
line_asked A P (past_no q a) h = line_asked A P a h.1

pub asked_has : {A : Property} {s t : Sort} {P : Result s → Type 0} {r : Rule s} {e : Environment} {j : Judgement t} → Each A IsResult s P r → Asks s r t e j → A t e j
asked_has {A = A} {P = P} k a = line_asked A P a k.lines

-- a property of results, with that they are results
abbrev pub with_result : ResultProperty → ResultProperty
with_result G t e j x = IsResult t e j x × G t e j x

-- each judgement asks only what it may, and gives what it should, where what it asks gives that
abbrev pub Steps : Property → ResultProperty → Type 0
Steps A G = (s : Sort) (e : Environment) (j : Judgement s) → A s e j → Each A (with_result G) s (G s e j) (rule e j)

answer_by_steps : (A : Property) (G : ResultProperty) → Steps A G → {s : Sort} (P : Result s → Type 0) {r : Rule s} {a : Answer s} → Runs r a → EachLine A (with_result G) P r → IfGiven P a
answer_by_steps A G f P give_ h = h
answer_by_steps A G f P refuse_ h = tt
answer_by_steps A G f P (met q p) h = answer_by_steps A G f P p h
answer_by_steps A G f P (failed n) h = tt
answer_by_steps A G f P (yes q p) h = answer_by_steps A G f P p h.0
answer_by_steps A G f P (no n p) h = answer_by_steps A G f P p h.1
answer_by_steps A G f P (part_ok {t = t} {e = e} {j = j} {x = x} p q) h =
    answer_by_steps A G f P q (h.1 x (p, answer_by_steps A G f (G t e j) p (f t e j h.0).lines))
answer_by_steps A G f P (part_stuck p) h = tt

-- then all results are as they should be
pub by_steps : (A : Property) (G : ResultProperty) → Steps A G → {s : Sort} (e : Environment) (j : Judgement s) (x : Result s) → A s e j → Runs (rule e j) (ok x) → G s e j x
by_steps A G f e j x h p = answer_by_steps A G f (G _ e j) p (f _ e j h).lines

-- and all that a rule asks is as it may be
line_by_steps : (A : Property) (G : ResultProperty) → Steps A G → {s t : Sort} (P : Result s → Type 0) {r : Rule s} {e : Environment} {j : Judgement t} → Asks s r t e j → EachLine A (with_result G) P r → A t e j
line_by_steps A G f P this_part h = h.0
line_by_steps A G f P (past_part {t = t} {e = e} {j = j} {x = x} p a) h = line_by_steps A G f P a (h.1 x (p, answer_by_steps A G f (G t e j) p (f t e j h.0).lines))
line_by_steps A G f P (past_need q a) h = line_by_steps A G f P a h
line_by_steps A G f P (past_yes q a) h = line_by_steps A G f P a h.0
line_by_steps A G f P (past_no q a) h = line_by_steps A G f P a h.1

pub asked_by_steps : (A : Property) (G : ResultProperty) → Steps A G → {s t : Sort} (e : Environment) (j : Judgement s) {d : Environment} {i : Judgement t} → A s e j → Asks s (rule e j) t d i → A t d i
asked_by_steps A G f e j h a = line_by_steps A G f (G _ e j) a (f _ e j h).lines

-- two properties of what is asked, side by side
lines_beside : (A B : Property) (G : ResultProperty) {s : Sort} (P Q : Result s → Type 0) (r : Rule s) → EachLine A IsResult P r → EachLine B (with_result G) Q r → EachLine (λ t e j. A t e j × B t e j) (with_result G) Q r
lines_beside A B G P Q (give x) h k = k
lines_beside A B G P Q (refuse c i) h k = tt
lines_beside A B G P Q (need q c i r) h k = lines_beside A B G P Q r h k
lines_beside A B G P Q (either q r r') h k = (lines_beside A B G P Q r h.0 k.0, lines_beside A B G P Q r' h.1 k.1)
lines_beside A B G P Q (part e j f) h k = ((h.0, k.0), λ x g. lines_beside A B G P Q (f x) (h.1 x g.0) (k.1 x g))

pub beside : {A B : Property} {G : ResultProperty} {s : Sort} {P Q : Result s → Type 0} {r : Rule s} → Each A IsResult s P r → Each B (with_result G) s Q r → Each (λ t e j. A t e j × B t e j) (with_result G) s Q r
beside {A = A} {B = B} {G = G} {P = P} {Q = Q} {r = r} h k = record { lines = lines_beside A B G P Q r h.lines k.lines }

pub gives_ : {A : Property} {G : ResultProperty} {s : Sort} {P : Result s → Type 0} {x : Result s} → P x → Each A G s P (give x)
gives_ h = record { lines = h }

pub refuses : {A : Property} {G : ResultProperty} {s : Sort} {P : Result s → Type 0} {c : Code} {i : Span} → Each A G s P (refuse c i)
refuses = record { lines = tt }

pub needs : {A : Property} {G : ResultProperty} {s : Sort} {P : Result s → Type 0} {q : Condition} {c : Code} {i : Span} {r : Rule s} → Each A G s P r → Each A G s P (need q c i r)
needs h = record { lines = h.lines }

pub chooses : {A : Property} {G : ResultProperty} {s : Sort} {P : Result s → Type 0} {q : Condition} {r r' : Rule s} → Each A G s P r → Each A G s P r' → Each A G s P (either q r r')
chooses h k = record { lines = (h.lines, k.lines) }

pub parts : {A : Property} {G : ResultProperty} {s t : Sort} {P : Result s → Type 0} {e : Environment} {j : Judgement t} {k : Result t → Rule s} → A t e j → ((x : Result t) → G t e j x → Each A G s P (k x)) → Each A G s P (part e j k)
parts h f = record { lines = (h, λ x p. (f x p).lines) }

pub splits : {A : Property} {G : ResultProperty} {s : Sort} {P : Result s → Type 0} (b : Bool) {r q : Rule s} → Each A G s P r → Each A G s P q → Each A G s P (if b then r else q)
splits true h k = h
splits false h k = k

pub ensures : {A : Property} {G : ResultProperty} {s : Sort} {P : Result s → Type 0} (b : Bool) (c : Code) (i : Span) {r : Rule s} → Each A G s P r → Each A G s P (ensure b c i r)
ensures b c i h = splits b h refuses

pub unless : {A : Property} {G : ResultProperty} {s : Sort} {P : Result s → Type 0} (o : Option Stop) {r : Rule s} → Each A G s P r → Each A G s P (unless_stopped o r)
unless None h = h
unless (Some x) h = refuses

pub in_records : {A : Property} {G : ResultProperty} {s : Sort} {P : Result s → Type 0} (t : PlainType) {k : PlainBounds → PlainTypes → PlainLabels → Rule s} {r : Rule s} → ((bs : PlainBounds) (ps : PlainTypes) (ls : PlainLabels) → Each A G s P (k bs ps ls)) → Each A G s P r → Each A G s P (if_record t k r)
in_records Top f h = h
in_records Int f h = h
in_records Char f h = h
in_records Str f h = h
in_records Boolean f h = h
in_records (Var x) f h = h
in_records (Apply x ts) f h = h
in_records (Chan m t) f h = h
in_records (Fields bs ps ls) f h = f bs ps ls
in_records (Rec t) f h = h

pub in_recursives : {A : Property} {G : ResultProperty} {s : Sort} {P : Result s → Type 0} (t : PlainType) (c : Code) (i : Span) {k : PlainType → Rule s} → ((u : PlainType) → Each A G s P (k u)) → Each A G s P (need_recursive t c i k)
in_recursives Top c i f = refuses
in_recursives Int c i f = refuses
in_recursives Char c i f = refuses
in_recursives Str c i f = refuses
in_recursives Boolean c i f = refuses
in_recursives (Var x) c i f = refuses
in_recursives (Apply x ts) c i f = refuses
in_recursives (Chan m t) c i f = refuses
in_recursives (Fields bs ps ls) c i f = refuses
in_recursives (Rec t) c i f = f _

pub in_channels : {A : Property} {G : ResultProperty} {s : Sort} {P : Result s → Type 0} (t : PlainType) (c : Code) (i : Span) {k : Capability → PlainType → Rule s} → ((m : Capability) (u : PlainType) → Each A G s P (k m u)) → Each A G s P (need_channel t c i k)
in_channels Top c i f = refuses
in_channels Int c i f = refuses
in_channels Char c i f = refuses
in_channels Str c i f = refuses
in_channels Boolean c i f = refuses
in_channels (Var x) c i f = refuses
in_channels (Apply x ts) c i f = refuses
in_channels (Chan m t) c i f = f m t
in_channels (Fields bs ps ls) c i f = refuses
in_channels (Rec t) c i f = refuses

pub in_sents : {A : Property} {G : ResultProperty} {P : Result nothing_ → Type 0} (t : PlainType) {k : PlainType → Rule nothing_} {r : Rule nothing_} → ((u : PlainType) → Each A G nothing_ P (k u)) → Each A G nothing_ P r → Each A G nothing_ P (if_sent t k r)
in_sents Top f h = h
in_sents Int f h = h
in_sents Char f h = h
in_sents Str f h = h
in_sents Boolean f h = h
in_sents (Var x) f h = h
in_sents (Apply x ts) f h = h
in_sents (Chan Both t) f h = h
in_sents (Chan Respond t) f h = f t
in_sents (Chan Write t) f h = f t
in_sents (Chan Read t) f h = h
in_sents (Fields bs ps ls) f h = h
in_sents (Rec t) f h = h

pub in_boths : {A : Property} {G : ResultProperty} {s : Sort} {P : Result s → Type 0} (t : PlainType) (c : Code) (i : Span) {r : Rule s} → Each A G s P r → Each A G s P (need_both t c i r)
in_boths Top c i h = refuses
in_boths Int c i h = refuses
in_boths Char c i h = refuses
in_boths Str c i h = refuses
in_boths Boolean c i h = refuses
in_boths (Var x) c i h = refuses
in_boths (Apply x ts) c i h = refuses
in_boths (Chan Both t) c i h = h
in_boths (Chan Respond t) c i h = refuses
in_boths (Chan Write t) c i h = refuses
in_boths (Chan Read t) c i h = refuses
in_boths (Fields bs ps ls) c i h = refuses
in_boths (Rec t) c i h = refuses

pub in_functions : {A : Property} {G : ResultProperty} {s : Sort} {P : Result s → Type 0} (o : Option Function) (c : Code) (i : Span) {k : Function → Rule s} → ((f : Function) → Each A G s P (k f)) → Each A G s P (need_function o c i k)
in_functions None c i f = refuses
in_functions (Some x) c i f = f x

pub withouts : {A : Property} {G : ResultProperty} {s : Sort} {P : Result s → Type 0} (n : ℕ) (t : PlainType) (c : Code) (i : Span) {k : PlainType → Rule s} → ((u : PlainType) → Each A G s P (k u)) → Each A G s P (need_outside n t c i k)
withouts n t c i f = splits (mentions_innermost n t) refuses (f (lowered n t))

pub expects : {A : Property} {G : ResultProperty} {s : Sort} {P : Result s → Type 0} (e : Environment) (o : Option PlainType) (u : PlainType) (c : Code) (i : Span) {r : Rule s} → Each A G s P r → Each A G s P (expect e o u c i r)
expects e None u c i h = h
expects e (Some t) u c i h = needs h

pub within_bound_ : {A : Property} {G : ResultProperty} {s : Sort} {P : Result s → Type 0} (e : Environment) (n : Span) (b : PlainBound) (args : List PlainArg) (a : PlainArg) (c : Code) (i : Span) {r : Rule s} → Each A G s P r → Each A G s P (within_bound e n b args a c i r)
within_bound_ e n Free args a c i h = h
within_bound_ e n (Operator ms) args a c i h = h
within_bound_ e n (Below b) args a c i h = unless _ (needs h)

pub within_bounds_ : {A : Property} {G : ResultProperty} {s : Sort} {P : Result s → Type 0} (e : Environment) (n : Span) (bs : PlainBounds) (earlier args : List PlainArg) (c : Code) {r : Rule s} → Each A G s P r → Each A G s P (within_bounds e n bs earlier args c r)
within_bounds_ e n no_bound earlier args c h = h
within_bounds_ e n (bounds b bs) earlier [] c h = refuses
within_bounds_ e n (bounds b bs) earlier (a ∷ args) c h = within_bound_ e n b earlier a c n (within_bounds_ e n bs (earlier ++ a ∷ []) args c h)

pub same_bounds : {A : Property} {G : ResultProperty} {s : Sort} {P : Result s → Type 0} (e : Environment) (o : Bound) (b : PlainBound) (c : Code) (i : Span) {r : Rule s} → Each A G s P r → Each A G s P (need_same_bound e o b c i r)
same_bounds e unbounded b c i h = h
same_bounds e (bound t) b c i h = splits (is_top (normal e.names e.context t)) h (needs h)

pub at_labels : {A : Property} {G : ResultProperty} {s : Sort} {P : Result s → Type 0} (o : Option PlainType) {k : PlainType → Rule s} {r : Rule s} → ((t : PlainType) → Each A G s P (k t)) → Each A G s P r → Each A G s P (if_labelled o k r)
at_labels None f h = h
at_labels (Some t) f h = f t
