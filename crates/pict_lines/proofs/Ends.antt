-- Rules by their lines: what a call on a part answers, and how the rule goes on then.
use Rattle.std.proofs.Common.{Result, Ok, Err, ◌≡◌, refl, Bool, true, false, Option, Some, None, OnOk}
use Rattle.pict_syntax.specs.declared.code.Code.{Code}
use Rattle.pict_syntax.specs.declared.span.Span.{Span}
use Rattle.pict_types.specs.Types.{PlainType}
use Rattle.pict_syntax.specs.Trees.{TypeTree}
use Rattle.pict_syntax.specs.Stops.{Stop}
use Rattle.pict_normal.specs.Normal.{kind_stop, size_stop}
use Rattle.pict_rules.specs.Environments.{Environment, context_of}
use Rattle.pict_rules.specs.Rules.{Sort, nothing_, type_, Judgement, is_subtype, Rule, need, part, ok, within_limits, expand, give, ensure, unless_stopped}
use Rattle.pict_rules.specs.Rules as rules
use Rattle.pict_rules.specs.Typing.{rule}
use Rattle.pict_rules.specs.Derivations.{Runs, part_ok, part_stuck, give_}
use Rattle.pict_rules.specs.Regular.{IsGood}
use Rattle.pict_rules.proofs.RegularAll.{regularity}
use Rattle.pict_infer.specs.declared.error.InferError.{InferError}
use Rattle.pict_infer.specs.declared.error.InferError.TheVariants.{Named, Memory}
use Rattle.pict_infer.specs.Answering.{IsRefused, IsAnswer}
use Rattle.pict_infer.specs.Asking.{IsWellAsked}
use Rattle.pict_infer.specs.Steps.{below, expanded, limited}
use Rattle.pict_infer.proofs.Through.{GoesOn, refused_on, refused_past, unstopped, given, needed, refused}
use Rattle.pict_lines.specs.Lines.{formed}

-- what is well asked gives what is well formed
pub good_of : {s : Sort} {e : Environment} {j : Judgement s} {x : rules.Result s} → IsWellAsked s e j → Runs (rule e j) (ok x) → IsGood e j x
good_of {s = s} {e = e} {j = j} {x = x} h p = regularity s e j x h.labels h.regular h.asked p

-- a part that has a result, and how the rule goes on
pub past : {s t : Sort} {T : Type 0} (e : Environment) (j : Judgement t) (k : rules.Result t → Rule s) (f : T → rules.Result s) (x : rules.Result t) (r : Result T InferError) → Runs (rule e j) (ok x) → IsAnswer (k x) f r → IsAnswer (part e j k) f r
past e j k f x (Ok y) p h = part_ok p h
past e j k f x (Err (Named c i told)) p h = part_ok p h
past e j k f x (Err Memory) p h = tt

pub past_refused : {s t : Sort} (e : Environment) (j : Judgement t) (k : rules.Result t → Rule s) (x : rules.Result t) (y : InferError) → Runs (rule e j) (ok x) → IsRefused (k x) y → IsRefused (part e j k) y
past_refused e j k x (Named c i told) p h = part_ok p h
past_refused e j k x Memory p h = tt

pub refused_here : {s t : Sort} (e : Environment) (j : Judgement t) (k : rules.Result t → Rule s) (y : InferError) → IsRefused (rule e j) y → IsRefused (part e j k) y
refused_here e j k (Named c i told) h = part_stuck h
refused_here e j k Memory h = tt

-- the part is the last
pub ends_with : {s t : Sort} {T : Type 0} (e : Environment) (j : Judgement t) (k : rules.Result t → Rule s) (f : T → rules.Result t) (g : T → rules.Result s) (r : Result T InferError) → ((x : T) → Runs (k (f x)) (ok (g x))) → IsAnswer (rule e j) f r → IsAnswer (part e j k) g r
ends_with e j k f g (Ok x) h p = part_ok p (h x)
ends_with e j k f g (Err (Named c i told)) h p = part_stuck p
ends_with e j k f g (Err Memory) h p = tt

-- the same after any step
pub answer_past : {s t : Sort} {T : Type 0} {r : Rule s} {q : Rule t} {k : rules.Result s → Rule t} (f : T → rules.Result t) (x : rules.Result s) (a : Result T InferError) → GoesOn s t r q k → Runs r (ok x) → IsAnswer (k x) f a → IsAnswer q f a
answer_past f x (Ok y) g p h = g.on_ok x (ok _) p h
answer_past f x (Err y) g p h = refused_past x y g p h

-- and the step is the last
pub answer_end : {s t : Sort} {T : Type 0} {r : Rule s} {q : Rule t} {k : rules.Result s → Rule t} (f : T → rules.Result s) (g : T → rules.Result t) (a : Result T InferError) → GoesOn s t r q k → ((x : T) → Runs (k (f x)) (ok (g x))) → IsAnswer r f a → IsAnswer q g a
answer_end f g (Ok x) w h p = w.on_ok (f x) (ok (g x)) p (h x)
answer_end f g (Err y) w h p = refused_on y w p

-- limits, subtypes and written types, each as a step
pub limits : {t : Sort} (e : Environment) (u : PlainType) (at : Span) (r : Rule t) → GoesOn nothing_ t (limited e u at) (within_limits e u at r) (λ x. r)
limits e u at r = unstopped (size_stop e.context u at) given

pub belows : {t : Sort} (e : Environment) (u v : PlainType) (c : Code) (at : Span) (r : Rule t) → GoesOn nothing_ t (below e u v c at) (need (is_subtype (context_of e) u v) c at r) (λ x. r)
belows e u v c at r = needed given

pub expands : {t : Sort} (e : Environment) (a : TypeTree) (k : PlainType → Rule t) → GoesOn type_ t (expanded e a) (expand e a k) k
expands e a k = unstopped (kind_stop e.names e.context a) given

-- a condition before both
pub ensured : {s t : Sort} (b : Bool) (c : Code) (i : Span) {r : Rule s} {l : Rule t} {k : rules.Result s → Rule t} → GoesOn s t r l k → GoesOn s t (ensure b c i r) (ensure b c i l) k
ensured true c i g = g
ensured false c i g = refused

-- what is given is what is answered
pub given_is : (s : Sort) (x y : rules.Result s) → Runs (give x) (ok y) → y ≡ x
given_is s x y give_ = refl

-- a type that was formed is within the limits, and is the one that is given
pub formed_is : (e : Environment) (w u : PlainType) (s : Span) → Runs (formed e w s) (ok u) → (size_stop e.context w s ≡ None) × (u ≡ w)
formed_is e w u s h = go (size_stop e.context w s) h
  where
    go : (o : Option Stop) → Runs {s = type_} (unless_stopped o (give w)) (ok u) → (o ≡ None) × (u ≡ w)
    go None h = (refl, given_is type_ w u h)
    go (Some x) h = elim h [ ]

-- and how a rule goes on with it
pub formed_on : {t : Sort} (e : Environment) (w : PlainType) (s : Span) (r : Rule t) → GoesOn type_ t (formed e w s) (within_limits e w s r) (λ x. r)
formed_on e w s r = unstopped (size_stop e.context w s) (record { on_ok = λ x a p h. h; on_stuck = λ c i p. elim p [ ] })

-- what holds whatever is answered
pub on_any : {T E P : Type 0} (r : Result T E) → P → OnOk r P
on_any (Ok x) h = h
on_any (Err y) h = tt
