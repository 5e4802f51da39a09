-- Rules that go on after a step, from the rule that ends with it.
use Rattle.std.proofs.Common.{Option, Some, None}
use Rattle.pict_syntax.specs.declared.code.Code.{Code}
use Rattle.pict_syntax.specs.declared.span.Span.{Span}
use Rattle.pict_syntax.specs.Stops.{Stop}
use Rattle.pict_types.specs.Types.{PlainType, Top, Int, Char, Str, Boolean, Var, Apply, Chan, Fields, Rec}
use Rattle.pict_rules.specs.Environments.{Environment}
use Rattle.pict_rules.specs.Rules.{Sort, Result, Judgement, Condition, Rule, Answer, give, refuse, need, part, ok, stuck, unless_stopped}
use Rattle.pict_rules.specs.Clauses.{need_recursive}
use Rattle.pict_rules.specs.Typing.{rule}
use Rattle.pict_rules.specs.Derivations.{Runs, give_, refuse_, met, failed, part_ok, part_stuck}
use Rattle.pict_infer.specs.declared.error.InferError.{InferError}
use Rattle.pict_infer.specs.declared.error.InferError.TheVariants.{Named, Memory}
use Rattle.pict_infer.specs.Answering.{IsRefused}

-- the second rule goes on with k where the first gives, and is refused where it is
pub record GoesOn (s t : Sort) (r : Rule s) (q : Rule t) (k : Result s → Rule t) : Type 0 where
  pub on_ok : (x : Result s) (a : Answer t) → Runs r (ok x) → Runs (k x) a → Runs q a
  pub on_stuck : (c : Code) (i : Span) → Runs r (stuck c i) → Runs q (stuck c i)

pub refused_on : {s t : Sort} {r : Rule s} {q : Rule t} {k : Result s → Rule t} (y : InferError) → GoesOn s t r q k → IsRefused r y → IsRefused q y
refused_on (Named c i told) g h = g.on_stuck c i h
refused_on Memory g h = tt

pub refused_past : {s t : Sort} {r : Rule s} {q : Rule t} {k : Result s → Rule t} (x : Result s) (y : InferError) → GoesOn s t r q k → Runs r (ok x) → IsRefused (k x) y → IsRefused q y
refused_past x (Named c i told) g p h = g.on_ok x (stuck c i) p h
refused_past x Memory g p h = tt

given_ok : {s t : Sort} {x : Result s} (k : Result s → Rule t) (y : Result s) (a : Answer t) → Runs (give x) (ok y) → Runs (k y) a → Runs (k x) a
given_ok k y a give_ h = h

given_stuck : {s t : Sort} {x : Result s} {q : Rule t} (c : Code) (i : Span) → Runs (give x) (stuck c i) → Runs q (stuck c i)
given_stuck c i h = elim h [ ]

pub given : {s t : Sort} {x : Result s} {k : Result s → Rule t} → GoesOn s t (give x) (k x) k
given {k = k} = record { on_ok = given_ok k; on_stuck = given_stuck }

refused_ok : {s t : Sort} {c : Code} {i : Span} {q : Rule t} (k : Result s → Rule t) (y : Result s) (a : Answer t) → Runs {s = s} (refuse c i) (ok y) → Runs (k y) a → Runs q a
refused_ok k y a h p = elim h [ ]

refused_stuck : {s t : Sort} {d : Code} {j : Span} (c : Code) (i : Span) → Runs {s = s} (refuse d j) (stuck c i) → Runs {s = t} (refuse d j) (stuck c i)
refused_stuck c i refuse_ = refuse_

pub refused : {s t : Sort} {c : Code} {i : Span} {k : Result s → Rule t} → GoesOn s t (refuse c i) (refuse c i) k
refused {k = k} = record { on_ok = refused_ok k; on_stuck = refused_stuck }

needed_ok : {s t : Sort} {q : Condition} {c : Code} {i : Span} {r : Rule s} {l : Rule t} {k : Result s → Rule t} → GoesOn s t r l k → (x : Result s) (a : Answer t) → Runs (need q c i r) (ok x) → Runs (k x) a → Runs (need q c i l) a
needed_ok g x a (met m p) h = met m (g.on_ok x a p h)

needed_stuck : {s t : Sort} {q : Condition} {d : Code} {j : Span} {r : Rule s} {l : Rule t} {k : Result s → Rule t} → GoesOn s t r l k → (c : Code) (i : Span) → Runs (need q d j r) (stuck c i) → Runs (need q d j l) (stuck c i)
needed_stuck g c i (met m p) = met m (g.on_stuck c i p)
needed_stuck g c i (failed f) = failed f

pub needed : {s t : Sort} {q : Condition} {c : Code} {i : Span} {r : Rule s} {l : Rule t} {k : Result s → Rule t} → GoesOn s t r l k → GoesOn s t (need q c i r) (need q c i l) k
needed g = record { on_ok = needed_ok g; on_stuck = needed_stuck g }

pub unstopped : {s t : Sort} (o : Option Stop) {r : Rule s} {l : Rule t} {k : Result s → Rule t} → GoesOn s t r l k → GoesOn s t (unless_stopped o r) (unless_stopped o l) k
unstopped None g = g
unstopped (Some x) g = refused

pub cased_recursive : {s t : Sort} (u : PlainType) (c : Code) (i : Span) {r : PlainType → Rule s} {l : PlainType → Rule t} {k : Result s → Rule t} → ((v : PlainType) → GoesOn s t (r v) (l v) k) → GoesOn s t (need_recursive u c i r) (need_recursive u c i l) k
cased_recursive Top c i f = refused
cased_recursive Int c i f = refused
cased_recursive Char c i f = refused
cased_recursive Str c i f = refused
cased_recursive Boolean c i f = refused
cased_recursive (Var x) c i f = refused
cased_recursive (Apply x ts) c i f = refused
cased_recursive (Chan m t) c i f = refused
cased_recursive (Fields bs ps ls) c i f = refused
cased_recursive (Rec t) c i f = f _

-- a judgement on a part, which ends there or is handed on
pub parted : {s t : Sort} {e : Environment} {j : Judgement s} {k : Result s → Rule t} → GoesOn s t (rule e j) (part e j k) k
parted = record { on_ok = λ x a p h. part_ok p h; on_stuck = λ c i p. part_stuck p }

-- a rule that is another one
