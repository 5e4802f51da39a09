-- What holds of the refusals of a rule's own lines.
use Rattle.std.proofs.Common.{◌≡◌, ℕ, List, [], ◌∷◌, ◌++◌, Bool, true, false, if◌then◌else◌, ◌||◌, nat_lt, Option, Some, None, refl}
use Rattle.pict_syntax.specs.declared.code.Code.{Code}
use Rattle.pict_syntax.specs.declared.code.Code.TheVariants.{K4}
use Rattle.pict_syntax.specs.declared.span.Span.{Span}
use Rattle.pict_syntax.specs.Trees.{Bound, unbounded, bound}
use Rattle.pict_syntax.specs.declared.limits.TheConstants.{HEIGHT_LIMIT, WEIGHT_LIMIT}
use Rattle.pict_syntax.specs.Stops.{Stop}
use Rattle.pict_normal.specs.Normal.{normal, size_stop}
use Rattle.pict_types.specs.Measures.{weight_of, height_of}
use Rattle.pict_types.specs.Entries.{PlainContext, variables}
use Rattle.pict_types.specs.Replacing.{arguments, replace}
use Rattle.pict_types.specs.Mentions.{mentions_innermost, lowered}
use Rattle.pict_types.specs.Types.{Capability, Both, Read, Write, Respond, PlainType, Top, Int, Char, Str, Boolean, Var, Apply, Chan, Fields, Rec, PlainTypes, PlainLabels, PlainBound, Free, Below, Operator, PlainBounds, no_bound, bounds, PlainArg, is_top}
use Rattle.pict_rules.specs.Shapes.{Function}
use Rattle.pict_rules.specs.Environments.{Environment}
use Rattle.pict_rules.specs.Rules.{Sort, nothing_, Result, Judgement, Condition, Rule, give, refuse, need, either, part, unless_stopped, ensure, within_limits}
use Rattle.pict_rules.specs.Clauses.{if_record, need_recursive, need_channel, need_function, if_sent, need_both, if_labelled, need_outside, expect, within_bound, within_bounds, need_same_bound}
use Rattle.pict_codes.specs.Failing.{Fails, refused, unmet, past_met, past_yes, past_no, past_part}

-- each refusal of the rule's own lines, with its code and its place, has this property
abbrev EachCode : (Code → Span → Type 0) → {s : Sort} → Rule s → Type 0
EachCode P (give x) = Unit {0}
EachCode P (refuse c i) = P c i
EachCode P (need q c i r) = P c i × EachCode P r
EachCode P (either q r l) = EachCode P r × EachCode P l
EachCode P (part {r = t} e j k) = (x : Result t) → EachCode P (k x)

pub record Has (P : Code → Span → Type 0) (s : Sort) (r : Rule s) : Type 0 where
  lines : EachCode P r

-- so a line that is false has that
line_has : (P : Code → Span → Type 0) {s : Sort} {r : Rule s} {c : Code} {i : Span} → Fails s r c i → EachCode P r → P c i
line_has P refused h = h
line_has P (unmet f) h = h.0
line_has P (past_met q p) h = line_has P p h.1
line_has P (past_yes q p) h = line_has P p h.0
line_has P (past_no f p) h = line_has P p h.1
line_has P (past_part {x = x} q p) h = line_has P p (h x)

pub code_has : {P : Code → Span → Type 0} {s : Sort} {r : Rule s} {c : Code} {i : Span} → Has P s r → Fails s r c i → P c i
code_has {P = P} h p = line_has P p h.lines

-- so has a stop, if there is one
abbrev pub StopHas : (Code → Span → Type 0) → Option Stop → Type 0
StopHas P None = Unit {0}
StopHas P (Some x) = P x.0 x.1

pub gives_ : {P : Code → Span → Type 0} {s : Sort} {x : Result s} → Has P s (give x)
gives_ = record { lines = tt }

pub refuses : {P : Code → Span → Type 0} {s : Sort} {c : Code} {i : Span} → P c i → Has P s (refuse c i)
refuses p = record { lines = p }

pub needs : {P : Code → Span → Type 0} {s : Sort} {q : Condition} {c : Code} {i : Span} {r : Rule s} → P c i → Has P s r → Has P s (need q c i r)
needs p h = record { lines = (p, h.lines) }

pub chooses : {P : Code → Span → Type 0} {s : Sort} {q : Condition} {r l : Rule s} → Has P s r → Has P s l → Has P s (either q r l)
chooses h k = record { lines = (h.lines, k.lines) }

pub parts : {P : Code → Span → Type 0} {s t : Sort} {e : Environment} {j : Judgement t} {k : Result t → Rule s} → ((x : Result t) → Has P s (k x)) → Has P s (part e j k)
parts f = record { lines = λ x. (f x).lines }

pub splits : {P : Code → Span → Type 0} {s : Sort} (b : Bool) {r l : Rule s} → Has P s r → Has P s l → Has P s (if b then r else l)
splits true h k = h
splits false h k = k

pub ensures : {P : Code → Span → Type 0} {s : Sort} (b : Bool) (c : Code) (i : Span) {r : Rule s} → P c i → Has P s r → Has P s (ensure b c i r)
ensures b c i p h = splits b h (refuses p)

pub ensures_by : {P : Code → Span → Type 0} {s : Sort} (b : Bool) (c : Code) (i : Span) {r : Rule s} → (b ≡ false → P c i) → Has P s r → Has P s (ensure b c i r)
ensures_by true c i p h = h
ensures_by false c i p h = refuses (p refl)

pub unless : {P : Code → Span → Type 0} {s : Sort} (o : Option Stop) {r : Rule s} → StopHas P o → Has P s r → Has P s (unless_stopped o r)
unless None p h = h
unless (Some x) p h = refuses p

-- a type that is formed is refused with K4
size_has : (P : Code → Span → Type 0) (b : Bool) (i : Span) → P K4 i → StopHas P (if b then Some (K4, i) else None)
size_has P true i p = p
size_has P false i p = tt

pub measured : (P : Code → Span → Type 0) (c : PlainContext) (t : PlainType) (i : Span) → P K4 i → StopHas P (size_stop c t i)
measured P c t i p = size_has P (nat_lt WEIGHT_LIMIT (weight_of (variables c) t) || nat_lt HEIGHT_LIMIT (height_of (variables c) t)) i p

pub limited : {P : Code → Span → Type 0} {s : Sort} (e : Environment) (t : PlainType) (i : Span) {r : Rule s} → P K4 i → Has P s r → Has P s (within_limits e t i r)
limited {P = P} e t i p h = unless (size_stop e.context t i) (measured P e.context t i p) h

pub in_records : {P : Code → Span → Type 0} {s : Sort} (t : PlainType) {k : PlainBounds → PlainTypes → PlainLabels → Rule s} {r : Rule s} → ((bs : PlainBounds) (ps : PlainTypes) (ls : PlainLabels) → Has P s (k bs ps ls)) → Has P s r → Has P s (if_record t k r)
in_records Top f h = h
in_records Int f h = h
in_records Char f h = h
in_records Str f h = h
in_records Boolean f h = h
in_records (Var x) f h = h
in_records (Apply x ts) f h = h
in_records (Chan m t) f h = h
in_records (Fields bs ps ls) f h = f bs ps ls
in_records (Rec t) f h = h

pub in_recursives : {P : Code → Span → Type 0} {s : Sort} (t : PlainType) (c : Code) (i : Span) {k : PlainType → Rule s} → P c i → ((u : PlainType) → Has P s (k u)) → Has P s (need_recursive t c i k)
in_recursives Top c i p f = refuses p
in_recursives Int c i p f = refuses p
in_recursives Char c i p f = refuses p
in_recursives Str c i p f = refuses p
in_recursives Boolean c i p f = refuses p
in_recursives (Var x) c i p f = refuses p
in_recursives (Apply x ts) c i p f = refuses p
in_recursives (Chan m t) c i p f = refuses p
in_recursives (Fields bs ps ls) c i p f = refuses p
in_recursives (Rec t) c i p f = f _

pub in_channels : {P : Code → Span → Type 0} {s : Sort} (t : PlainType) (c : Code) (i : Span) {k : Capability → PlainType → Rule s} → P c i → ((m : Capability) (u : PlainType) → Has P s (k m u)) → Has P s (need_channel t c i k)
in_channels Top c i p f = refuses p
in_channels Int c i p f = refuses p
in_channels Char c i p f = refuses p
in_channels Str c i p f = refuses p
in_channels Boolean c i p f = refuses p
in_channels (Var x) c i p f = refuses p
in_channels (Apply x ts) c i p f = refuses p
in_channels (Chan m t) c i p f = f m t
in_channels (Fields bs ps ls) c i p f = refuses p
in_channels (Rec t) c i p f = refuses p

pub in_sents : {P : Code → Span → Type 0} (t : PlainType) {k : PlainType → Rule nothing_} {r : Rule nothing_} → ((u : PlainType) → Has P nothing_ (k u)) → Has P nothing_ r → Has P nothing_ (if_sent t k r)
in_sents Top f h = h
in_sents Int f h = h
in_sents Char f h = h
in_sents Str f h = h
in_sents Boolean f h = h
in_sents (Var x) f h = h
in_sents (Apply x ts) f h = h
in_sents (Chan Both t) f h = h
in_sents (Chan Respond t) f h = f t
in_sents (Chan Write t) f h = f t
in_sents (Chan Read t) f h = h
in_sents (Fields bs ps ls) f h = h
in_sents (Rec t) f h = h

pub in_boths : {P : Code → Span → Type 0} {s : Sort} (t : PlainType) (c : Code) (i : Span) {r : Rule s} → P c i → Has P s r → Has P s (need_both t c i r)
in_boths Top c i p h = refuses p
in_boths Int c i p h = refuses p
in_boths Char c i p h = refuses p
in_boths Str c i p h = refuses p
in_boths Boolean c i p h = refuses p
in_boths (Var x) c i p h = refuses p
in_boths (Apply x ts) c i p h = refuses p
in_boths (Chan Both t) c i p h = h
in_boths (Chan Respond t) c i p h = refuses p
in_boths (Chan Write t) c i p h = refuses p
in_boths (Chan Read t) c i p h = refuses p
in_boths (Fields bs ps ls) c i p h = refuses p
in_boths (Rec t) c i p h = refuses p

pub in_functions : {P : Code → Span → Type 0} {s : Sort} (o : Option Function) (c : Code) (i : Span) {k : Function → Rule s} → P c i → ((f : Function) → Has P s (k f)) → Has P s (need_function o c i k)
in_functions None c i p f = refuses p
in_functions (Some x) c i p f = f x

pub withouts : {P : Code → Span → Type 0} {s : Sort} (n : ℕ) (t : PlainType) (c : Code) (i : Span) {k : PlainType → Rule s} → P c i → ((u : PlainType) → Has P s (k u)) → Has P s (need_outside n t c i k)
withouts n t c i p f = splits (mentions_innermost n t) (refuses p) (f (lowered n t))

pub expects : {P : Code → Span → Type 0} {s : Sort} (e : Environment) (o : Option PlainType) (u : PlainType) (c : Code) (i : Span) {r : Rule s} → P c i → Has P s r → Has P s (expect e o u c i r)
expects e None u c i p h = h
expects e (Some t) u c i p h = needs p h

pub within_bound_ : {P : Code → Span → Type 0} {s : Sort} (e : Environment) (n : Span) (b : PlainBound) (args : List PlainArg) (a : PlainArg) (c : Code) (i : Span) {r : Rule s} → P K4 n → P c i → Has P s r → Has P s (within_bound e n b args a c i r)
within_bound_ e n Free args a c i p q h = h
within_bound_ e n (Operator ms) args a c i p q h = h
within_bound_ e n (Below b) args a c i p q h = limited e (replace (arguments args) b) n p (needs q h)

pub within_bounds_ : {P : Code → Span → Type 0} {s : Sort} (e : Environment) (n : Span) (bs : PlainBounds) (earlier args : List PlainArg) (c : Code) {r : Rule s} → P K4 n → P c n → Has P s r → Has P s (within_bounds e n bs earlier args c r)
within_bounds_ e n no_bound earlier args c p q h = h
within_bounds_ e n (bounds b bs) earlier [] c p q h = refuses q
within_bounds_ e n (bounds b bs) earlier (a ∷ args) c p q h = within_bound_ e n b earlier a c n p q (within_bounds_ e n bs (earlier ++ a ∷ []) args c p q h)

pub same_bounds : {P : Code → Span → Type 0} {s : Sort} (e : Environment) (o : Bound) (b : PlainBound) (c : Code) (i : Span) {r : Rule s} → P c i → Has P s r → Has P s (need_same_bound e o b c i r)
same_bounds e unbounded b c i p h = h
same_bounds e (bound t) b c i p h = splits (is_top (normal e.names e.context t)) h (needs p h)

pub at_labels : {P : Code → Span → Type 0} {s : Sort} (o : Option PlainType) {k : PlainType → Rule s} {r : Rule s} → ((t : PlainType) → Has P s (k t)) → Has P s r → Has P s (if_labelled o k r)
at_labels None f h = h
at_labels (Some t) f h = f t
