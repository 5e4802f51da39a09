-- What values give and have, one lemma for each way that a body ends.
use Rattle.std.proofs.Common.{◌≡◌, subst, Result}
use Rattle.pict_syntax.specs.declared.code.Code.{Code}
use Rattle.pict_syntax.specs.declared.code.Code.TheVariants.{Y12}
use Rattle.pict_syntax.specs.declared.span.Span.{Span}
use Rattle.pict_syntax.specs.Grammar.{val_span}
use Rattle.pict_syntax.specs.Trees.{Val, if_val, lambda_val, Abs}
use Rattle.pict_types.specs.Types.{PlainType, Boolean, Chan, Respond}
use Rattle.pict_types.specs.declared.types.Ty.{Ty}
use Rattle.pict_types.specs.Plain.{plain}
use Rattle.pict_rules.specs.Environments.{Environment}
use Rattle.pict_rules.specs.Rules.{type_, gives, is_condition, abstraction_gives, ok}
use Rattle.pict_rules.specs.Clauses.{gives_below}
use Rattle.pict_rules.specs.Typing.{rule}
use Rattle.pict_rules.specs.Derivations.{Runs}
use Rattle.pict_rules.specs.Reached.{this_part, past_part}
use Rattle.pict_infer.specs.declared.error.InferError.{InferError}
use Rattle.pict_infer.specs.Answering.{IsRefused, IsAnswer, nothing}
use Rattle.pict_infer.specs.Asking.{IsWellAsked}
use Rattle.pict_infer.specs.Steps.{below}
use Rattle.pict_infer.proofs.Asked.{asked_of}
use Rattle.pict_lines.specs.Lines.{either_type, formed}
use Rattle.pict_lines.proofs.Ends.{past, past_refused, refused_here}

-- a value gives a subtype of a type
pub below_end : (e : Environment) (v : Val) (t u : PlainType) (c : Code) (r : Result (Unit {0}) InferError) → Runs (rule e (gives v)) (ok u) → IsAnswer (below e u t c (val_span v)) nothing r → IsAnswer (gives_below e v t c) nothing r
below_end e v t u c r p h = past _ _ _ _ u r p h

-- the same, where the type is compared in an environment as before, at the value's place
pub below_there : (d e : Environment) (v : Val) (t u : PlainType) (c : Code) (at : Span) (r : Result (Unit {0}) InferError) → d ≡ e → at ≡ val_span v → Runs (rule e (gives v)) (ok u) → IsAnswer (below d u t c at) nothing r → IsAnswer (gives_below e v t c) nothing r
below_there d e v t u c at r h is p k = below_end e v t u c r p (subst (λ (x : Environment). IsAnswer (below x u t c (val_span v)) nothing r) h (subst (λ s. IsAnswer (below d u t c s) nothing r) is k))

-- a conditional
pub test_asked : (e : Environment) (s : Span) (c v w : Val) → IsWellAsked type_ e (gives (if_val s c v w)) → IsWellAsked type_ e (gives c)
test_asked e s c v w h = asked_of (is_condition c) (asked_of (gives (if_val s c v w)) h this_part) this_part

pub yes_asked : (e : Environment) (s : Span) (c v w : Val) → IsWellAsked type_ e (gives (if_val s c v w)) → Runs (gives_below e c Boolean Y12) (ok tt) → IsWellAsked type_ e (gives v)
yes_asked e s c v w h p = asked_of (gives (if_val s c v w)) h (past_part p this_part)

pub no_asked : (e : Environment) (s : Span) (c v w : Val) (t : PlainType) → IsWellAsked type_ e (gives (if_val s c v w)) → Runs (gives_below e c Boolean Y12) (ok tt) → Runs (rule e (gives v)) (ok t) → IsWellAsked type_ e (gives w)
no_asked e s c v w t h p q = asked_of (gives (if_val s c v w)) h (past_part p (past_part q this_part))

pub if_test : (e : Environment) (s : Span) (c v w : Val) (y : InferError) → IsRefused (gives_below e c Boolean Y12) y → IsRefused (rule e (gives (if_val s c v w))) y
if_test e s c v w y h = refused_here _ (is_condition c) _ y h

pub if_yes : (e : Environment) (s : Span) (c v w : Val) (y : InferError) → Runs (gives_below e c Boolean Y12) (ok tt) → IsRefused (rule e (gives v)) y → IsRefused (rule e (gives (if_val s c v w))) y
if_yes e s c v w y p h = past_refused _ (is_condition c) _ tt y p (refused_here _ _ _ y h)

pub if_no : (e : Environment) (s : Span) (c v w : Val) (t : PlainType) (y : InferError) → Runs (gives_below e c Boolean Y12) (ok tt) → Runs (rule e (gives v)) (ok t) → IsRefused (rule e (gives w)) y → IsRefused (rule e (gives (if_val s c v w))) y
if_no e s c v w t y p q h = past_refused _ (is_condition c) _ tt y p (past_refused _ _ _ t y q (refused_here _ _ _ y h))

pub if_end : (e : Environment) (s : Span) (c v w : Val) (t u : PlainType) (r : Result Ty InferError) → Runs (gives_below e c Boolean Y12) (ok tt) → Runs (rule e (gives v)) (ok t) → Runs (rule e (gives w)) (ok u) → IsAnswer (either_type e t u s) plain r → IsAnswer (rule e (gives (if_val s c v w))) plain r
if_end e s c v w t u r p q k h = past _ (is_condition c) _ _ tt r p (past _ _ _ _ t r q (past _ _ _ _ u r k h))

-- a lambda
pub lambda_asked : (e : Environment) (s : Span) (a : Abs) → IsWellAsked type_ e (gives (lambda_val s a)) → IsWellAsked type_ e (abstraction_gives a)
lambda_asked e s a h = asked_of (gives (lambda_val s a)) h this_part

pub lambda_refused : (e : Environment) (s : Span) (a : Abs) (y : InferError) → IsRefused (rule e (abstraction_gives a)) y → IsRefused (rule e (gives (lambda_val s a))) y
lambda_refused e s a y h = refused_here _ _ _ y h

pub lambda_end : (e : Environment) (s : Span) (a : Abs) (t : PlainType) (r : Result Ty InferError) → Runs (rule e (abstraction_gives a)) (ok t) → IsAnswer (formed e (Chan Respond t) s) plain r → IsAnswer (rule e (gives (lambda_val s a))) plain r
lambda_end e s a t r p h = past _ _ _ _ t r p h
