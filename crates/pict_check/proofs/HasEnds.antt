-- What values have, one lemma for each way that a body ends.
use Rattle.std.proofs.Common.{◌≡◌, List, refl, sym, ap, subst, Result, Some, None}
use Rattle.pict_syntax.specs.declared.code.Code.TheVariants.{Y4, Y12}
use Rattle.pict_syntax.specs.declared.span.Span.{Span}
use Rattle.pict_syntax.specs.Trees.{Val, Abs, FieldVals, fields_val, if_val, lambda_val}
use Rattle.pict_types.specs.Types.{Both, Read, Write, Respond, PlainType, Top, Int, Char, Str, Boolean, Var, Apply, Chan, Fields, Rec, PlainTypes, PlainLabels, PlainBounds, PlainArg}
use Rattle.pict_rules.specs.Environments.{Environment}
use Rattle.pict_rules.specs.Found.{none_found}
use Rattle.pict_rules.specs.Rules.{nothing_, type_, arguments_, gives, has, is_condition, fields_fit, abstraction_against, Rule, ok}
use Rattle.pict_rules.specs.Clauses.{check, done, gives_below, if_sent}
use Rattle.pict_rules.specs.Typing.{rule}
use Rattle.pict_rules.specs.Derivations.{Runs, give_, part_ok}
use Rattle.pict_rules.specs.Reached.{Asks, this_part, past_part}
use Rattle.pict_infer.specs.declared.error.InferError.{InferError}
use Rattle.pict_infer.specs.Answering.{IsRefused, IsAnswer, nothing}
use Rattle.pict_infer.specs.Asking.{IsWellAsked}
use Rattle.pict_infer.specs.Shaping.{IsNoRecord}
use Rattle.pict_infer.proofs.Asked.{asked_of}
use Rattle.pict_lines.specs.Counts.{sent}
use Rattle.pict_lines.proofs.Ends.{ends_with, past, past_refused, refused_here}

-- a conditional
pub has_test_asked : (e : Environment) (s : Span) (c v w : Val) (t : PlainType) → IsWellAsked nothing_ e (has (if_val s c v w) t) → IsWellAsked type_ e (gives c)
has_test_asked e s c v w t h = asked_of (is_condition c) (asked_of (has (if_val s c v w) t) h this_part) this_part

pub has_yes_asked : (e : Environment) (s : Span) (c v w : Val) (t : PlainType) → IsWellAsked nothing_ e (has (if_val s c v w) t) → Runs (gives_below e c Boolean Y12) (ok tt) → IsWellAsked nothing_ e (has v t)
has_yes_asked e s c v w t h p = asked_of (has (if_val s c v w) t) h (past_part p this_part)

pub has_no_asked : (e : Environment) (s : Span) (c v w : Val) (t : PlainType) → IsWellAsked nothing_ e (has (if_val s c v w) t) → Runs (gives_below e c Boolean Y12) (ok tt) → Runs (rule e (has v t)) (ok tt) → IsWellAsked nothing_ e (has w t)
has_no_asked e s c v w t h p q = asked_of (has (if_val s c v w) t) h (past_part p (past_part q this_part))

pub has_test : (e : Environment) (s : Span) (c v w : Val) (t : PlainType) (y : InferError) → IsRefused (gives_below e c Boolean Y12) y → IsRefused (rule e (has (if_val s c v w) t)) y
has_test e s c v w t y h = refused_here _ (is_condition c) _ y h

pub has_yes : (e : Environment) (s : Span) (c v w : Val) (t : PlainType) (y : InferError) → Runs (gives_below e c Boolean Y12) (ok tt) → IsRefused (rule e (has v t)) y → IsRefused (rule e (has (if_val s c v w) t)) y
has_yes e s c v w t y p h = past_refused _ (is_condition c) _ tt y p (refused_here _ _ _ y h)

pub has_end : (e : Environment) (s : Span) (c v w : Val) (t : PlainType) (r : Result (Unit {0}) InferError) → Runs (gives_below e c Boolean Y12) (ok tt) → Runs (rule e (has v t)) (ok tt) → IsAnswer (rule e (has w t)) nothing r → IsAnswer (rule e (has (if_val s c v w) t)) nothing r
has_end e s c v w t r p q h = past _ (is_condition c) _ _ tt r p (past _ _ _ _ tt r q (ends_with _ _ _ _ _ r (λ x. give_) h))

-- a value that gives a subtype of the type, by its form
pub other_asked : (e : Environment) (v w : Val) (t : PlainType) → v ≡ w → rule e (has w t) ≡ gives_below e w t Y4 → IsWellAsked nothing_ e (has v t) → IsWellAsked type_ e (gives v)
other_asked e v w t is k h =
    subst (λ (x : Val). IsWellAsked type_ e (gives x)) (sym is)
    (asked_of (has w t) (subst (λ (x : Val). IsWellAsked nothing_ e (has x t)) is h) (subst (λ z. Asks nothing_ z type_ e (gives w)) (sym k) this_part))

pub other_end : (e : Environment) (v w : Val) (t : PlainType) (r : Result (Unit {0}) InferError) → v ≡ w → rule e (has w t) ≡ gives_below e w t Y4 → IsAnswer (gives_below e v t Y4) nothing r → IsAnswer (rule e (has v t)) nothing r
other_end e v w t r is k h =
    subst (λ (x : Val). IsAnswer (rule e (has x t)) nothing r) (sym is) (subst (λ z. IsAnswer z nothing r) (sym k) (subst (λ (x : Val). IsAnswer (gives_below e x t Y4) nothing r) is h))

-- a lambda, against a type that is sent on, and against another
if_sent_some : (t r : PlainType) (k : PlainType → Rule nothing_) (d : Rule nothing_) → sent t ≡ Some r → if_sent t k d ≡ k r
if_sent_some Top r k d h = absurd (cc)
if_sent_some Int r k d h = absurd (cc)
if_sent_some Char r k d h = absurd (cc)
if_sent_some Str r k d h = absurd (cc)
if_sent_some Boolean r k d h = absurd (cc)
if_sent_some (Var i) r k d h = absurd (cc)
if_sent_some (Apply i ts) r k d h = absurd (cc)
if_sent_some (Chan Both u) r k d h = absurd (cc)
if_sent_some (Chan Read u) r k d h = absurd (cc)
if_sent_some (Chan Write u) r k d h = let e : u ≡ r = cc in ap k e
if_sent_some (Chan Respond u) r k d h = let e : u ≡ r = cc in ap k e
if_sent_some (Fields bs ps ls) r k d h = absurd (cc)
if_sent_some (Rec u) r k d h = absurd (cc)

if_sent_none : (t : PlainType) (k : PlainType → Rule nothing_) (d : Rule nothing_) → sent t ≡ None → if_sent t k d ≡ d
if_sent_none Top k d h = refl
if_sent_none Int k d h = refl
if_sent_none Char k d h = refl
if_sent_none Str k d h = refl
if_sent_none Boolean k d h = refl
if_sent_none (Var i) k d h = refl
if_sent_none (Apply i ts) k d h = refl
if_sent_none (Chan Both u) k d h = refl
if_sent_none (Chan Read u) k d h = refl
if_sent_none (Chan Write u) k d h = absurd (cc)
if_sent_none (Chan Respond u) k d h = absurd (cc)
if_sent_none (Fields bs ps ls) k d h = refl
if_sent_none (Rec u) k d h = refl

sent_rule : (e : Environment) (s : Span) (a : Abs) (t r : PlainType) → sent t ≡ Some r → rule e (has (lambda_val s a) t) ≡ check e (abstraction_against a r) done
sent_rule e s a t r h = if_sent_some t r (λ u. check e (abstraction_against a u) done) (gives_below e (lambda_val s a) t Y4) h

pub lambda_sent_asked : (e : Environment) (s : Span) (a : Abs) (t r : PlainType) → sent t ≡ Some r → IsWellAsked nothing_ e (has (lambda_val s a) t) → IsWellAsked nothing_ e (abstraction_against a r)
lambda_sent_asked e s a t r k h = asked_of (has (lambda_val s a) t) h (subst (λ z. Asks nothing_ z nothing_ e (abstraction_against a r)) (sym (sent_rule e s a t r k)) this_part)

pub lambda_sent_end : (e : Environment) (s : Span) (a : Abs) (t r : PlainType) (x : Result (Unit {0}) InferError) → sent t ≡ Some r → IsAnswer (rule e (abstraction_against a r)) nothing x → IsAnswer (rule e (has (lambda_val s a) t)) nothing x
lambda_sent_end e s a t r x k h = subst (λ z. IsAnswer z nothing x) (sym (sent_rule e s a t r k)) (ends_with _ _ _ _ _ x (λ u. give_) h)

other_rule : (e : Environment) (s : Span) (a : Abs) (t : PlainType) → sent t ≡ None → rule e (has (lambda_val s a) t) ≡ gives_below e (lambda_val s a) t Y4
other_rule e s a t h = if_sent_none t (λ u. check e (abstraction_against a u) done) (gives_below e (lambda_val s a) t Y4) h

pub lambda_below_asked : (e : Environment) (s : Span) (a : Abs) (t : PlainType) → sent t ≡ None → IsWellAsked nothing_ e (has (lambda_val s a) t) → IsWellAsked type_ e (gives (lambda_val s a))
lambda_below_asked e s a t k h = asked_of (has (lambda_val s a) t) h (subst (λ z. Asks nothing_ z type_ e (gives (lambda_val s a))) (sym (other_rule e s a t k)) this_part)

pub lambda_below_end : (e : Environment) (s : Span) (a : Abs) (t : PlainType) (x : Result (Unit {0}) InferError) → sent t ≡ None → IsAnswer (gives_below e (lambda_val s a) t Y4) nothing x → IsAnswer (rule e (has (lambda_val s a) t)) nothing x
lambda_below_end e s a t x k h = subst (λ z. IsAnswer z nothing x) (sym (other_rule e s a t k)) h

-- a record, where the type is none
record_rule : (e : Environment) (s : Span) (f : FieldVals) (t : PlainType) → IsNoRecord t → rule e (has (fields_val s f) t) ≡ gives_below e (fields_val s f) t Y4
record_rule e s f Top h = refl
record_rule e s f Int h = refl
record_rule e s f Char h = refl
record_rule e s f Str h = refl
record_rule e s f Boolean h = refl
record_rule e s f (Var i) h = refl
record_rule e s f (Apply i ts) h = refl
record_rule e s f (Chan m u) h = refl
record_rule e s f (Fields bs ps ls) h = absurd h
record_rule e s f (Rec u) h = refl

pub record_below_asked : (e : Environment) (s : Span) (f : FieldVals) (t : PlainType) → IsNoRecord t → IsWellAsked nothing_ e (has (fields_val s f) t) → IsWellAsked type_ e (gives (fields_val s f))
record_below_asked e s f t k h = asked_of (has (fields_val s f) t) h (subst (λ z. Asks nothing_ z type_ e (gives (fields_val s f))) (sym (record_rule e s f t k)) this_part)

pub record_below_end : (e : Environment) (s : Span) (f : FieldVals) (t : PlainType) (x : Result (Unit {0}) InferError) → IsNoRecord t → IsAnswer (gives_below e (fields_val s f) t Y4) nothing x → IsAnswer (rule e (has (fields_val s f) t)) nothing x
record_below_end e s f t x k h = subst (λ z. IsAnswer z nothing x) (sym (record_rule e s f t k)) h

-- a record, where the type is one
pub record_asked : (e : Environment) (s : Span) (f : FieldVals) (bs : PlainBounds) (ps : PlainTypes) (ls : PlainLabels) → IsWellAsked nothing_ e (has (fields_val s f) (Fields bs ps ls)) → IsWellAsked arguments_ e (fields_fit s f bs ps ls (none_found bs))
record_asked e s f bs ps ls h = asked_of (has (fields_val s f) (Fields bs ps ls)) h this_part

pub record_refused : (e : Environment) (s : Span) (f : FieldVals) (bs : PlainBounds) (ps : PlainTypes) (ls : PlainLabels) (y : InferError) → IsRefused (rule e (fields_fit s f bs ps ls (none_found bs))) y → IsRefused (rule e (has (fields_val s f) (Fields bs ps ls))) y
record_refused e s f bs ps ls y h = refused_here _ _ _ y h

pub record_done : (e : Environment) (s : Span) (f : FieldVals) (bs : PlainBounds) (ps : PlainTypes) (ls : PlainLabels) (args : List PlainArg) → Runs (rule e (fields_fit s f bs ps ls (none_found bs))) (ok args) → Runs (rule e (has (fields_val s f) (Fields bs ps ls))) (ok tt)
record_done e s f bs ps ls args h = part_ok h give_
