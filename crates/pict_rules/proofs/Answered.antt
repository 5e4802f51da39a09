-- Rules that have an answer, line by line.
use Rattle.std.proofs.Common.{ℕ, List, [], ◌∷◌, ◌++◌, Bool, true, false, if◌then◌else◌, Option, Some, None, ◌⊎◌, inl, inr}
use Rattle.pict_syntax.specs.declared.code.Code.{Code}
use Rattle.pict_syntax.specs.declared.span.Span.{Span}
use Rattle.pict_syntax.specs.Trees.{Bound, unbounded, bound}
use Rattle.pict_syntax.specs.Stops.{Stop}
use Rattle.pict_normal.specs.Normal.{normal}
use Rattle.pict_types.specs.Mentions.{mentions_innermost, lowered}
use Rattle.pict_types.specs.Types.{Capability, Both, Read, Write, Respond, PlainType, Top, Int, Char, Str, Boolean, Var, Apply, Chan, Fields, Rec, PlainTypes, PlainLabels, PlainBound, Free, Below, Operator, PlainBounds, no_bound, bounds, PlainArg, is_top}
use Rattle.pict_rules.specs.Shapes.{Function}
use Rattle.pict_rules.specs.Environments.{Environment}
use Rattle.pict_rules.specs.Rules.{Sort, nothing_, Result, Judgement, Condition, IsMet, Rule, give, refuse, need, either, part, Answer, ok, stuck, unless_stopped, ensure}
use Rattle.pict_rules.specs.Clauses.{if_record, need_recursive, need_channel, need_function, if_sent, need_both, if_labelled, need_outside, expect, within_bound, within_bounds, need_same_bound}
use Rattle.pict_rules.specs.Typing.{rule}
use Rattle.pict_rules.specs.Derivations.{Runs, give_, refuse_, met, failed, yes, no, part_ok, part_stuck}

-- each condition holds or doesn't
abbrev pub Decides : Type 0
Decides = (q : Condition) → IsMet q ⊎ (IsMet q → ⊥)

pub record Answered (s : Sort) (r : Rule s) : Type 0 where
  pub answer : Answer s
  pub runs : Runs r answer

pub given : {s : Sort} {x : Result s} → Answered s (give x)
given = record { answer = ok _; runs = give_ }

pub refused : {s : Sort} {c : Code} {i : Span} → Answered s (refuse c i)
refused = record { answer = stuck _ _; runs = refuse_ }

pub needed : {s : Sort} {q : Condition} {c : Code} {i : Span} {r : Rule s} → Decides → Answered s r → Answered s (need q c i r)
needed {s = s} {q = q} {c = c} {i = i} {r = r} d h = go (d q)
  where
    go : IsMet q ⊎ (IsMet q → ⊥) → Answered s (need q c i r)
    go (inl y) = record { answer = h.answer; runs = met y h.runs }
    go (inr n) = record { answer = stuck c i; runs = failed n }

pub chosen : {s : Sort} {q : Condition} {r r' : Rule s} → Decides → Answered s r → Answered s r' → Answered s (either q r r')
chosen {s = s} {q = q} {r = r} {r' = r'} d h h' = go (d q)
  where
    go : IsMet q ⊎ (IsMet q → ⊥) → Answered s (either q r r')
    go (inl y) = record { answer = h.answer; runs = yes y h.runs }
    go (inr n) = record { answer = h'.answer; runs = no n h'.runs }

pub parted_by : {s t : Sort} {e : Environment} {j : Judgement t} {k : Result t → Rule s} → Answered t (rule e j) → ((x : Result t) → Runs (rule e j) (ok x) → Answered s (k x)) → Answered s (part e j k)
parted_by {s = s} {t = t} {e = e} {j = j} {k = k} h f = go h.answer h.runs
  where
    go : (a : Answer t) → Runs (rule e j) a → Answered s (part e j k)
    go (ok x) p = let g = f x p in record { answer = g.answer; runs = part_ok p g.runs }
    go (stuck c i) p = record { answer = stuck c i; runs = part_stuck p }

pub parted : {s t : Sort} {e : Environment} {j : Judgement t} {k : Result t → Rule s} → Answered t (rule e j) → ((x : Result t) → Answered s (k x)) → Answered s (part e j k)
parted h f = parted_by h (λ x p. f x)

pub unstopped : {s : Sort} (o : Option Stop) {r : Rule s} → Answered s r → Answered s (unless_stopped o r)
unstopped None h = h
unstopped (Some x) h = refused

pub split : {s : Sort} (b : Bool) {r r' : Rule s} → Answered s r → Answered s r' → Answered s (if b then r else r')
split true h h' = h
split false h h' = h'

pub ensured : {s : Sort} (b : Bool) (c : Code) (i : Span) {r : Rule s} → Answered s r → Answered s (ensure b c i r)
ensured b c i h = split b h refused

pub cased_record : {s : Sort} (t : PlainType) {k : PlainBounds → PlainTypes → PlainLabels → Rule s} {r : Rule s} → ((bs : PlainBounds) (ps : PlainTypes) (ls : PlainLabels) → Answered s (k bs ps ls)) → Answered s r → Answered s (if_record t k r)
cased_record Top f h = h
cased_record Int f h = h
cased_record Char f h = h
cased_record Str f h = h
cased_record Boolean f h = h
cased_record (Var i) f h = h
cased_record (Apply i ts) f h = h
cased_record (Chan m t) f h = h
cased_record (Fields bs ps ls) f h = f bs ps ls
cased_record (Rec t) f h = h

pub cased_recursive : {s : Sort} (t : PlainType) (c : Code) (i : Span) {k : PlainType → Rule s} → ((u : PlainType) → Answered s (k u)) → Answered s (need_recursive t c i k)
cased_recursive Top c i f = refused
cased_recursive Int c i f = refused
cased_recursive Char c i f = refused
cased_recursive Str c i f = refused
cased_recursive Boolean c i f = refused
cased_recursive (Var x) c i f = refused
cased_recursive (Apply x ts) c i f = refused
cased_recursive (Chan m t) c i f = refused
cased_recursive (Fields bs ps ls) c i f = refused
cased_recursive (Rec t) c i f = f _

pub cased_channel : {s : Sort} (t : PlainType) (c : Code) (i : Span) {k : Capability → PlainType → Rule s} → ((m : Capability) (u : PlainType) → Answered s (k m u)) → Answered s (need_channel t c i k)
cased_channel Top c i f = refused
cased_channel Int c i f = refused
cased_channel Char c i f = refused
cased_channel Str c i f = refused
cased_channel Boolean c i f = refused
cased_channel (Var x) c i f = refused
cased_channel (Apply x ts) c i f = refused
cased_channel (Chan m t) c i f = f m t
cased_channel (Fields bs ps ls) c i f = refused
cased_channel (Rec t) c i f = refused

pub cased_sent : (t : PlainType) {k : PlainType → Rule nothing_} {r : Rule nothing_} → ((u : PlainType) → Answered nothing_ (k u)) → Answered nothing_ r → Answered nothing_ (if_sent t k r)
cased_sent Top f h = h
cased_sent Int f h = h
cased_sent Char f h = h
cased_sent Str f h = h
cased_sent Boolean f h = h
cased_sent (Var i) f h = h
cased_sent (Apply i ts) f h = h
cased_sent (Chan Respond t) f h = f t
cased_sent (Chan Write t) f h = f t
cased_sent (Chan Both t) f h = h
cased_sent (Chan Read t) f h = h
cased_sent (Fields bs ps ls) f h = h
cased_sent (Rec t) f h = h

pub cased_both : {s : Sort} (t : PlainType) (c : Code) (i : Span) {r : Rule s} → Answered s r → Answered s (need_both t c i r)
cased_both Top c i f = refused
cased_both Int c i f = refused
cased_both Char c i f = refused
cased_both Str c i f = refused
cased_both Boolean c i f = refused
cased_both (Var x) c i f = refused
cased_both (Apply x ts) c i f = refused
cased_both (Chan Both t) c i f = f
cased_both (Chan Respond t) c i f = refused
cased_both (Chan Write t) c i f = refused
cased_both (Chan Read t) c i f = refused
cased_both (Fields bs ps ls) c i f = refused
cased_both (Rec t) c i f = refused

pub cased_function : {s : Sort} (o : Option Function) (c : Code) (i : Span) {k : Function → Rule s} → ((f : Function) → Answered s (k f)) → Answered s (need_function o c i k)
cased_function None c i f = refused
cased_function (Some x) c i f = f x

pub escaped : {s : Sort} (n : ℕ) (t : PlainType) (c : Code) (i : Span) {k : PlainType → Rule s} → ((u : PlainType) → Answered s (k u)) → Answered s (need_outside n t c i k)
escaped n t c i f = split (mentions_innermost n t) refused (f (lowered n t))

pub expected : {s : Sort} → Decides → (e : Environment) (o : Option PlainType) (u : PlainType) (c : Code) (i : Span) {r : Rule s} → Answered s r → Answered s (expect e o u c i r)
expected d e None u c i h = h
expected d e (Some t) u c i h = needed d h

pub bounded : {s : Sort} → Decides → (e : Environment) (n : Span) (b : PlainBound) (args : List PlainArg) (a : PlainArg) (c : Code) (i : Span) {r : Rule s} → Answered s r → Answered s (within_bound e n b args a c i r)
bounded d e n Free args a c i h = h
bounded d e n (Operator ms) args a c i h = h
bounded d e n (Below b) args a c i h = unstopped _ (needed d h)

pub all_bounded : {s : Sort} → Decides → (e : Environment) (n : Span) (bs : PlainBounds) (earlier args : List PlainArg) (c : Code) {r : Rule s} → Answered s r → Answered s (within_bounds e n bs earlier args c r)
all_bounded d e n no_bound earlier args c h = h
all_bounded d e n (bounds b bs) earlier [] c h = refused
all_bounded d e n (bounds b bs) earlier (a ∷ args) c h = bounded d e n b earlier a c n (all_bounded d e n bs (earlier ++ a ∷ []) args c h)

pub agreed : {s : Sort} → Decides → (e : Environment) (o : Bound) (b : PlainBound) (c : Code) (i : Span) {r : Rule s} → Answered s r → Answered s (need_same_bound e o b c i r)
agreed d e unbounded b c i h = h
agreed d e (bound t) b c i h = split (is_top (normal e.names e.context t)) h (needed d h)

pub labelled_or : {s : Sort} (o : Option PlainType) {k : PlainType → Rule s} {r : Rule s} → ((t : PlainType) → Answered s (k t)) → Answered s r → Answered s (if_labelled o k r)
labelled_or None f h = h
labelled_or (Some t) f h = f t
