-- Abstractions, one lemma for each way that a body ends.
use Rattle.std.proofs.Common.{◌≡◌, ◌-◌, ℕ, List, length, take, Bool, true, false, if◌then◌else◌, refl, sym, ◌∙◌, ap, ap₂, subst, Result, Option, Some, None}
use Rattle.pict_syntax.specs.declared.code.Code.TheVariants.{Y4, Y8, Y14}
use Rattle.std.specs.Prelude.{IfNone, IfSome}
use Rattle.pict_syntax.specs.declared.name.Name.{Name}
use Rattle.pict_syntax.specs.declared.span.Span.{Span}
use Rattle.pict_syntax.specs.Grammar.{type_span, val_span}
use Rattle.pict_syntax.specs.Trees.{Abs, FieldPats, Pat, Proc, RType, TypeTree, Val, process_abs, function_abs}
use Rattle.pict_syntax.specs.Stops.{Stop}
use Rattle.pict_types.specs.Types.{PlainType, under}
use Rattle.pict_types.specs.Types as types
use Rattle.pict_types.specs.declared.context.Context.{Context}
use Rattle.pict_types.specs.declared.types.Bound.{Bound}
use Rattle.pict_types.specs.declared.types.Record.{Record}
use Rattle.pict_types.specs.declared.types.Ty.{Ty}
use Rattle.pict_types.specs.Entries.{variables}
use Rattle.pict_types.specs.Plain.{plain, plain_record}
use Rattle.pict_types.specs.PlainContext.{plain_context, type_context}
use Rattle.pict_types.specs.Kinds.{kinds_under, IsWellFormed}
use Rattle.pict_types.specs.Mentions.{lowered, mentions_innermost}
use Rattle.pict_types.proofs.Congruent.{three}
use Rattle.pict_normal.specs.Normal.{kind_stop, normal}
use Rattle.pict_sub.specs.Exposing.{exposure}
use Rattle.pict_rules.specs.Environments.{Environment, Extension, KnownType, context_of, extended, opened, shifted_by}
use Rattle.pict_rules.specs.Regular.{IsTypeIn, kinds_in}
use Rattle.pict_rules.specs.Rules.{Sort, nothing_, type_, pattern_, opened_, extension_, OpenedFields, TypedPattern, TypedFields, gives, has, abstraction_gives, abstraction_against, fields_against, fields_give, pattern_gives, pattern_against, process, is_subtype, Rule, expand, give, need, part, refuse, ok, stuck, unless_stopped}
use Rattle.pict_rules.specs.Clauses.{answering, argument_type, check, done, need_function, need_outside, with_fields, with_own}
use Rattle.pict_rules.specs.Shapes.{Function, function_by, sendable}
use Rattle.pict_rules.specs.Typing.{rule}
use Rattle.pict_rules.specs.Derivations.{Runs, give_, met, part_ok, refuse_}
use Rattle.pict_rules.specs.Reached.{Asks, this_part, past_need, past_part}
use Rattle.pict_rules.proofs.RegularAbstractions.{FunctionFormed, answering_formed}
use Rattle.pict_rules.proofs.RegularFields.{own_kinds}
use Rattle.pict_rules.proofs.RegularProcesses.{exposed_formed}
use Rattle.pict_infer.specs.declared.error.InferError.{InferError}
use Rattle.pict_infer.specs.Answering.{IsRefused, IsAnswer, nothing}
use Rattle.pict_infer.specs.Asking.{IsWellAsked}
use Rattle.pict_infer.specs.Opening.{against_fields}
use Rattle.pict_infer.specs.Steps.{expanded, changed_or_same}
use Rattle.pict_infer.proofs.Asked.{asked_of}
use Rattle.pict_infer.proofs.Forming.{exposed_itself, changed_or_same_is}
use Rattle.pict_infer.proofs.MadeKnown.{own_then_parts}
use Rattle.pict_infer.proofs.Through.{GoesOn, given, needed, refused, refused_on, refused_past, unstopped}
use Rattle.pict_infer.specs.Shaping.{IsNoRecord}
use Rattle.pict_lines.specs.Definitions.{body_type, function_with, record_answers}
use Rattle.pict_lines.specs.Functions.{IsNoFunction}
use Rattle.pict_lines.specs.Lines.{formed, outside}
use Rattle.pict_lines.proofs.Ends.{answer_past, expands, good_of, past, past_refused, refused_here}
use Rattle.pict_lines.proofs.HeadForms.{no_function}

-- A PROCESS ABSTRACTION GIVES A TYPE

pub pattern_asked : (e : Environment) (s : Span) (p : Pat) (q : Proc) → IsWellAsked type_ e (abstraction_gives (process_abs s p q)) → IsWellAsked pattern_ e (pattern_gives p)
pattern_asked e s p q h = asked_of (abstraction_gives (process_abs s p q)) h this_part

pub pattern_refused : (e : Environment) (s : Span) (p : Pat) (q : Proc) (y : InferError) → IsRefused (rule e (pattern_gives p)) y → IsRefused (rule e (abstraction_gives (process_abs s p q))) y
pattern_refused e s p q y h = refused_here _ _ _ y h

pub process_body_asked : (e d : Environment) (s : Span) (p : Pat) (q : Proc) (g : TypedPattern) → d ≡ extended e g.adds → IsWellAsked type_ e (abstraction_gives (process_abs s p q)) → Runs (rule e (pattern_gives p)) (ok g) → IsWellAsked nothing_ d (process q)
process_body_asked e d s p q g k h r = subst (λ z. IsWellAsked nothing_ z (process q)) (sym k) (asked_of (abstraction_gives (process_abs s p q)) h (past_part r this_part))

pub process_body_refused : (e d : Environment) (s : Span) (p : Pat) (q : Proc) (g : TypedPattern) (y : InferError) → d ≡ extended e g.adds → Runs (rule e (pattern_gives p)) (ok g) → IsRefused (rule d (process q)) y → IsRefused (rule e (abstraction_gives (process_abs s p q))) y
process_body_refused e d s p q g y k r h = past_refused _ _ _ g y r (refused_here _ _ _ y (subst (λ z. IsRefused (rule z (process q)) y) k h))

pub process_gives : (e d : Environment) (s : Span) (p : Pat) (q : Proc) (g : TypedPattern) → d ≡ extended e g.adds → Runs (rule e (pattern_gives p)) (ok g) → Runs (rule d (process q)) (ok tt) → Runs (rule e (abstraction_gives (process_abs s p q))) (ok g.has)
process_gives e d s p q g k r h = part_ok r (part_ok (subst (λ z. Runs (rule z (process q)) (ok tt)) k h) give_)

-- AND GOES AGAINST ONE

pub against_pattern_asked : (e : Environment) (s : Span) (p : Pat) (q : Proc) (t : PlainType) → IsWellAsked nothing_ e (abstraction_against (process_abs s p q) t) → IsWellAsked extension_ e (pattern_against p t)
against_pattern_asked e s p q t h = asked_of (abstraction_against (process_abs s p q) t) h this_part

pub against_pattern_refused : (e : Environment) (s : Span) (p : Pat) (q : Proc) (t : PlainType) (y : InferError) → IsRefused (rule e (pattern_against p t)) y → IsRefused (rule e (abstraction_against (process_abs s p q) t)) y
against_pattern_refused e s p q t y h = refused_here _ _ _ y h

pub against_process_asked : (e d : Environment) (s : Span) (p : Pat) (q : Proc) (t : PlainType) (x : Extension) → d ≡ extended e x → IsWellAsked nothing_ e (abstraction_against (process_abs s p q) t) → Runs (rule e (pattern_against p t)) (ok x) → IsWellAsked nothing_ d (process q)
against_process_asked e d s p q t x k h r = subst (λ z. IsWellAsked nothing_ z (process q)) (sym k) (asked_of (abstraction_against (process_abs s p q) t) h (past_part r this_part))

pub against_process_refused : (e d : Environment) (s : Span) (p : Pat) (q : Proc) (t : PlainType) (x : Extension) (y : InferError) → d ≡ extended e x → Runs (rule e (pattern_against p t)) (ok x) → IsRefused (rule d (process q)) y → IsRefused (rule e (abstraction_against (process_abs s p q) t)) y
against_process_refused e d s p q t x y k r h = past_refused _ _ _ x y r (refused_here _ _ _ y (subst (λ z. IsRefused (rule z (process q)) y) k h))

pub process_against : (e d : Environment) (s : Span) (p : Pat) (q : Proc) (t : PlainType) (x : Extension) → d ≡ extended e x → Runs (rule e (pattern_against p t)) (ok x) → Runs (rule d (process q)) (ok tt) → Runs (rule e (abstraction_against (process_abs s p q) t)) (ok tt)
process_against e d s p q t x k r h = part_ok r (part_ok (subst (λ z. Runs (rule z (process q)) (ok tt)) k h) give_)

-- A FUNCTION WITHOUT A RESULT TYPE GIVES A TYPE

pub own_fields_refused : (e : Environment) (s : Span) (f : FieldPats) (a : RType) (v : Val) (y : InferError) → IsRefused (rule e (fields_give f)) y → IsRefused (rule e (abstraction_gives (function_abs s f a v))) y
own_fields_refused e s f None v y h = refused_here _ _ _ y h
own_fields_refused e s f (Some a) v y h = refused_here _ _ _ y h

pub untyped_body_asked : (e d : Environment) (s : Span) (f : FieldPats) (v : Val) (g : TypedFields) → d ≡ with_fields e g.own g.adds → IsWellAsked type_ e (abstraction_gives (function_abs s f None v)) → Runs (rule e (fields_give f)) (ok g) → IsWellAsked type_ d (gives v)
untyped_body_asked e d s f v g k h r = subst (λ z. IsWellAsked type_ z (gives v)) (sym k) (asked_of (abstraction_gives (function_abs s f None v)) h (past_part r this_part))

pub untyped_body_refused : (e d : Environment) (s : Span) (f : FieldPats) (v : Val) (g : TypedFields) (y : InferError) → d ≡ with_fields e g.own g.adds → Runs (rule e (fields_give f)) (ok g) → IsRefused (rule d (gives v)) y → IsRefused (rule e (abstraction_gives (function_abs s f None v))) y
untyped_body_refused e d s f v g y k r h = past_refused _ _ _ g y r (refused_here _ _ _ y (subst (λ z. IsRefused (rule z (gives v)) y) k h))

-- the type that its body gives, outside the variables of the patterns
outsides : {t : Sort} (n : ℕ) (u : PlainType) (at : Span) (k : PlainType → Rule t) → GoesOn type_ t (outside n u at) (need_outside n u Y14 at k) k
outsides n u at k = go (mentions_innermost n u)
  where
    go : (b : Bool) → GoesOn type_ _ (if b then refuse Y14 at else give (lowered n u)) (if b then refuse Y14 at else k (lowered n u)) k
    go true = refused
    go false = given

pub untyped_refused : (e d : Environment) (s : Span) (f : FieldPats) (v : Val) (g : TypedFields) (t : PlainType) (y : InferError) → d ≡ with_fields e g.own g.adds → Runs (rule e (fields_give f)) (ok g) → Runs (rule d (gives v)) (ok t) → IsRefused (outside (opened g.adds) t (val_span v)) y → IsRefused (rule e (abstraction_gives (function_abs s f None v))) y
untyped_refused e d s f v g t y k r q h =
    past_refused _ _ _ g y r (past_refused _ _ _ t y (subst (λ z. Runs (rule z (gives v)) (ok t)) k q)
    (refused_on y (outsides (opened g.adds) t (val_span v) (λ u. formed e (argument_type g u) s)) h))

pub untyped_end : {T : Type 0} (w : T → PlainType) (e d : Environment) (s : Span) (f : FieldPats) (v : Val) (g : TypedFields) (t u : PlainType) (a : Result T InferError) → d ≡ with_fields e g.own g.adds → Runs (rule e (fields_give f)) (ok g) → Runs (rule d (gives v)) (ok t) → Runs (outside (opened g.adds) t (val_span v)) (ok u) → IsAnswer (formed e (argument_type g u) s) w a → IsAnswer (rule e (abstraction_gives (function_abs s f None v))) w a
untyped_end w e d s f v g t u a k r q o h =
    past _ _ _ _ g a r (past _ _ _ _ t a (subst (λ z. Runs (rule z (gives v)) (ok t)) k q)
    (answer_past _ u a (outsides (opened g.adds) t (val_span v) (λ u. formed e (argument_type g u) s)) o h))

-- AND WITH ONE

pub typed_result_refused : (e d : Environment) (s : Span) (f : FieldPats) (a : TypeTree) (v : Val) (g : TypedFields) (y : InferError) → d ≡ with_own e g.own → Runs (rule e (fields_give f)) (ok g) → IsRefused (expanded d a) y → IsRefused (rule e (abstraction_gives (function_abs s f (Some a) v))) y
typed_result_refused e d s f a v g y k r h =
    past_refused _ _ _ g y r (refused_on y (expands (with_own e g.own) a (λ t. check (with_fields e g.own g.adds) (has v (shifted_by (opened g.adds) t)) (formed e (argument_type g t) s)))
    (subst (λ z. IsRefused (expanded z a) y) k h))

pub typed_body_refused : (e d b : Environment) (s : Span) (f : FieldPats) (a : TypeTree) (v : Val) (g : TypedFields) (t : PlainType) (y : InferError) → d ≡ with_own e g.own → b ≡ with_fields e g.own g.adds → Runs (rule e (fields_give f)) (ok g) → Runs (expanded d a) (ok t) → IsRefused (rule b (has v (shifted_by (opened g.adds) t))) y → IsRefused (rule e (abstraction_gives (function_abs s f (Some a) v))) y
typed_body_refused e d b s f a v g t y k l r x h =
    past_refused _ _ _ g y r (refused_past t y (expands (with_own e g.own) a (λ t. check (with_fields e g.own g.adds) (has v (shifted_by (opened g.adds) t)) (formed e (argument_type g t) s)))
    (subst (λ z. Runs (expanded z a) (ok t)) k x) (refused_here _ _ _ y (subst (λ z. IsRefused (rule z (has v (shifted_by (opened g.adds) t))) y) l h)))

pub typed_end : {T : Type 0} (w : T → PlainType) (e d b : Environment) (s : Span) (f : FieldPats) (a : TypeTree) (v : Val) (g : TypedFields) (t : PlainType) (r : Result T InferError) → d ≡ with_own e g.own → b ≡ with_fields e g.own g.adds → Runs (rule e (fields_give f)) (ok g) → Runs (expanded d a) (ok t) → Runs (rule b (has v (shifted_by (opened g.adds) t))) (ok tt) → IsAnswer (formed e (argument_type g t) s) w r → IsAnswer (rule e (abstraction_gives (function_abs s f (Some a) v))) w r
typed_end w e d b s f a v g t r k l p x h q =
    past _ _ _ _ g r p (answer_past _ t r (expands (with_own e g.own) a (λ t. check (with_fields e g.own g.adds) (has v (shifted_by (opened g.adds) t)) (formed e (argument_type g t) s)))
    (subst (λ z. Runs (expanded z a) (ok t)) k x) (past _ _ _ _ tt r (subst (λ z. Runs (rule z (has v (shifted_by (opened g.adds) t))) (ok tt)) l h) q))

-- A FUNCTION AGAINST A TYPE

-- how its rule goes on with the type that its body has
abbrev Bodied : Environment → RType → PlainType → (PlainType → Rule nothing_) → Rule nothing_
Bodied d None u k = k u
Bodied d (Some a) u k = expand d a (λ t. need (is_subtype (context_of d) t u) Y4 (type_span a) (k t))

bodied : (d : Environment) (a : RType) (u : PlainType) (k : PlainType → Rule nothing_) → GoesOn type_ nothing_ (body_type d a u) (Bodied d a u k) k
bodied d None u k = given
bodied d (Some a) u k = unstopped (kind_stop d.names d.context a) (needed given)

-- and with the function that the type stands for
abbrev InsideBody : Environment → Val → OpenedFields → PlainType → Rule nothing_
InsideBody e v x t = check (with_fields e x.own x.adds) (has v (shifted_by (opened x.adds) t)) done

abbrev AfterFields : Environment → Span → FieldPats → RType → Val → Function → Rule nothing_
AfterFields e s f a v g = part e (fields_against s f g.binders g.positional g.labelled) (λ x. Bodied (with_own e x.own) a g.answer (InsideBody e v x))

function_rule : (e : Environment) (s : Span) (f : FieldPats) (a : RType) (v : Val) (t : PlainType) → rule e (abstraction_against (function_abs s f a v) t) ≡ need_function (answering e t) Y8 s (AfterFields e s f a v)
function_rule e s f None v t = refl
function_rule e s f (Some a) v t = refl

answered : (e : Environment) (s : Span) (f : FieldPats) (a : RType) (v : Val) (t : PlainType) (g : Function) → answering e t ≡ Some g → rule e (abstraction_against (function_abs s f a v) t) ≡ AfterFields e s f a v g
answered e s f a v t g h = function_rule e s f a v t ∙ ap (λ (o : Option Function). need_function o Y8 s (AfterFields e s f a v)) h

-- the same for all types that expose to the same
exposes_alike : (e : Environment) (t u : PlainType) → exposure (context_of e) t ≡ u → exposure (context_of e) u ≡ u → answering e t ≡ answering e u
exposes_alike e t u h k = ap (function_by (λ bs last. sendable (exposure (under (context_of e) bs) last))) (h ∙ sym k)

pub exposed_rule : (e : Environment) (s : Span) (f : FieldPats) (a : RType) (v : Val) (t u : PlainType) → exposure (context_of e) t ≡ u → exposure (context_of e) u ≡ u → rule e (abstraction_against (function_abs s f a v) t) ≡ rule e (abstraction_against (function_abs s f a v) u)
exposed_rule e s f a v t u h k =
    function_rule e s f a v t ∙ ap (λ (o : Option Function). need_function o Y8 s (AfterFields e s f a v)) (exposes_alike e t u h k) ∙ sym (function_rule e s f a v u)

pub exposed_asked : (e : Environment) (a : Abs) (t u : PlainType) → exposure (context_of e) t ≡ u → IsWellAsked nothing_ e (abstraction_against a t) → IsWellAsked nothing_ e (abstraction_against a u)
exposed_asked e a t u h k = record { labels = k.labels; regular = k.regular; asked = subst (IsTypeIn e) h (exposed_formed e t k.regular k.asked) }

-- no record, and so no function
none_of : (e : Environment) (t : PlainType) → IsNoRecord (exposure (context_of e) t) → answering e t ≡ None
none_of e t h = go (exposure (context_of e) t) h
  where
    go : (u : PlainType) → IsNoRecord u → function_by (λ bs last. sendable (exposure (under (context_of e) bs) last)) u ≡ None
    go types.Top k = refl
    go types.Int k = refl
    go types.Char k = refl
    go types.Str k = refl
    go types.Boolean k = refl
    go (types.Var i) k = refl
    go (types.Apply i ts) k = refl
    go (types.Chan m u) k = refl
    go (types.Fields bs ps ls) k = absurd k
    go (types.Rec u) k = refl

pub no_record : (e : Environment) (s : Span) (f : FieldPats) (a : RType) (v : Val) (t : PlainType) → IsNoRecord (exposure (context_of e) t) → Runs (rule e (abstraction_against (function_abs s f a v) t)) (stuck Y8 s)
no_record e s f a v t h =
    subst (λ r. Runs r (stuck Y8 s)) (sym (function_rule e s f a v t ∙ ap (λ (o : Option Function). need_function o Y8 s (AfterFields e s f a v)) (none_of e t h))) refuse_

pub no_answer : (e : Environment) (s : Span) (f : FieldPats) (a : RType) (v : Val) (t : PlainType) (y : InferError) → IsNoFunction (answering e t) s y → IsRefused (rule e (abstraction_against (function_abs s f a v) t)) y
no_answer e s f a v t y h = subst (λ r. IsRefused r y) (sym (function_rule e s f a v t)) (no_function (answering e t) s (AfterFields e s f a v) y h)

pub taken_asked : (e : Environment) (s : Span) (f : FieldPats) (a : RType) (v : Val) (t : PlainType) (g : Function) → answering e t ≡ Some g → IsWellAsked nothing_ e (abstraction_against (function_abs s f a v) t) → IsWellAsked opened_ e (fields_against s f g.binders g.positional g.labelled)
taken_asked e s f a v t g is h =
    asked_of (abstraction_against (function_abs s f a v) t) h (subst (λ r. Asks nothing_ r opened_ e (fields_against s f g.binders g.positional g.labelled)) (sym (answered e s f a v t g is)) this_part)

pub taken_refused : (e : Environment) (s : Span) (f : FieldPats) (a : RType) (v : Val) (t : PlainType) (g : Function) (y : InferError) → answering e t ≡ Some g → IsRefused (rule e (fields_against s f g.binders g.positional g.labelled)) y → IsRefused (rule e (abstraction_against (function_abs s f a v) t)) y
taken_refused e s f a v t g y is h = subst (λ r. IsRefused r y) (sym (answered e s f a v t g is)) (refused_here _ _ _ y h)

pub body_type_refused : (e d : Environment) (s : Span) (f : FieldPats) (a : RType) (v : Val) (t : PlainType) (g : Function) (x : OpenedFields) (y : InferError) → answering e t ≡ Some g → d ≡ with_own e x.own → Runs (rule e (fields_against s f g.binders g.positional g.labelled)) (ok x) → IsRefused (body_type d a g.answer) y → IsRefused (rule e (abstraction_against (function_abs s f a v) t)) y
body_type_refused e d s f a v t g x y is k r h =
    subst (λ q. IsRefused q y) (sym (answered e s f a v t g is))
    (past_refused _ _ _ x y r (refused_on y (bodied (with_own e x.own) a g.answer (InsideBody e v x)) (subst (λ z. IsRefused (body_type z a g.answer) y) k h)))

-- what its body is asked
bodied_asks : (d b : Environment) (a : RType) (u w : PlainType) (v : Val) (k : PlainType → PlainType) → Runs (body_type d a u) (ok w) → Asks nothing_ (Bodied d a u (λ t. check b (has v (k t)) done)) nothing_ b (has v (k w))
bodied_asks d b None u w v k give_ = this_part
bodied_asks d b (Some a) u w v k h = go (kind_stop d.names d.context a) (normal d.names d.context a) h
  where
    go : (o : Option Stop) (n : PlainType) → Runs {s = type_} (unless_stopped o (need (is_subtype (context_of d) n u) Y4 (type_span a) (give n))) (ok w) → Asks nothing_ (unless_stopped o (need (is_subtype (context_of d) n u) Y4 (type_span a) (check b (has v (k n)) done))) nothing_ b (has v (k w))
    go None n (met m give_) = past_need m this_part
    go (Some x) n p = elim p [ ]

pub against_body_asked : (e d b : Environment) (s : Span) (f : FieldPats) (a : RType) (v : Val) (t : PlainType) (g : Function) (x : OpenedFields) (w : PlainType) → answering e t ≡ Some g → d ≡ with_own e x.own → b ≡ with_fields e x.own x.adds → IsWellAsked nothing_ e (abstraction_against (function_abs s f a v) t) → Runs (rule e (fields_against s f g.binders g.positional g.labelled)) (ok x) → Runs (body_type d a g.answer) (ok w) → IsWellAsked nothing_ b (has v (shifted_by (opened x.adds) w))
against_body_asked e d b s f a v t g x w is k l h r p =
    subst (λ z. IsWellAsked nothing_ z (has v (shifted_by (opened x.adds) w))) (sym l)
    (asked_of (abstraction_against (function_abs s f a v) t) h
    (subst (λ q. Asks nothing_ q nothing_ (with_fields e x.own x.adds) (has v (shifted_by (opened x.adds) w))) (sym (answered e s f a v t g is))
    (past_part r (bodied_asks (with_own e x.own) (with_fields e x.own x.adds) a g.answer w v (shifted_by (opened x.adds)) (subst (λ z. Runs (body_type z a g.answer) (ok w)) k p)))))

pub against_body_refused : (e d b : Environment) (s : Span) (f : FieldPats) (a : RType) (v : Val) (t : PlainType) (g : Function) (x : OpenedFields) (w : PlainType) (y : InferError) → answering e t ≡ Some g → d ≡ with_own e x.own → b ≡ with_fields e x.own x.adds → Runs (rule e (fields_against s f g.binders g.positional g.labelled)) (ok x) → Runs (body_type d a g.answer) (ok w) → IsRefused (rule b (has v (shifted_by (opened x.adds) w))) y → IsRefused (rule e (abstraction_against (function_abs s f a v) t)) y
against_body_refused e d b s f a v t g x w y is k l r p h =
    subst (λ q. IsRefused q y) (sym (answered e s f a v t g is))
    (past_refused _ _ _ x y r
    (refused_past w y (bodied (with_own e x.own) a g.answer (InsideBody e v x)) (subst (λ z. Runs (body_type z a g.answer) (ok w)) k p)
    (refused_here _ _ _ y (subst (λ z. IsRefused (rule z (has v (shifted_by (opened x.adds) w))) y) l h))))

pub function_against : (e d b : Environment) (s : Span) (f : FieldPats) (a : RType) (v : Val) (t : PlainType) (g : Function) (x : OpenedFields) (w : PlainType) → answering e t ≡ Some g → d ≡ with_own e x.own → b ≡ with_fields e x.own x.adds → Runs (rule e (fields_against s f g.binders g.positional g.labelled)) (ok x) → Runs (body_type d a g.answer) (ok w) → Runs (rule b (has v (shifted_by (opened x.adds) w))) (ok tt) → Runs (rule e (abstraction_against (function_abs s f a v) t)) (ok tt)
function_against e d b s f a v t g x w is k l r p h =
    subst (λ q. Runs q (ok tt)) (sym (answered e s f a v t g is))
    (part_ok r ((bodied (with_own e x.own) a g.answer (InsideBody e v x)).on_ok w (ok tt) (subst (λ z. Runs (body_type z a g.answer) (ok w)) k p)
    (part_ok (subst (λ z. Runs (rule z (has v (shifted_by (opened x.adds) w))) (ok tt)) l h) give_)))

-- what its body is asked where a result type is written and nothing goes against it
pub typed_body_asked : (e d b : Environment) (s : Span) (f : FieldPats) (a : TypeTree) (v : Val) (g : TypedFields) (t : PlainType) → d ≡ with_own e g.own → b ≡ with_fields e g.own g.adds → IsWellAsked type_ e (abstraction_gives (function_abs s f (Some a) v)) → Runs (rule e (fields_give f)) (ok g) → Runs (expanded d a) (ok t) → IsWellAsked nothing_ b (has v (shifted_by (opened g.adds) t))
typed_body_asked e d b s f a v g t k l h r p =
    subst (λ z. IsWellAsked nothing_ z (has v (shifted_by (opened g.adds) t))) (sym l)
    (asked_of (abstraction_gives (function_abs s f (Some a) v)) h (past_part r (go (kind_stop e.names (with_own e g.own).context a) (normal e.names (with_own e g.own).context a) (subst (λ z. Runs (expanded z a) (ok t)) k p))))
  where
    go : (o : Option Stop) (n : PlainType) → Runs {s = type_} (unless_stopped o (give n)) (ok t) → Asks type_ (unless_stopped o (check (with_fields e g.own g.adds) (has v (shifted_by (opened g.adds) n)) (formed e (argument_type g n) s))) nothing_ (with_fields e g.own g.adds) (has v (shifted_by (opened g.adds) t))
    go None n give_ = this_part
    go (Some x) n q = elim q [ ]

-- THE TYPE OF AN ANSWER IS WELL FORMED

pub result_formed : (e d : Environment) (s : Span) (f : FieldPats) (a : RType) (v : Val) (t : PlainType) (g : Function) (x : OpenedFields) → answering e t ≡ Some g → d ≡ with_own e x.own → IsWellAsked nothing_ e (abstraction_against (function_abs s f a v) t) → Runs (rule e (fields_against s f g.binders g.positional g.labelled)) (ok x) → IsTypeIn d g.answer
result_formed e d s f a v t g x is k h r =
    let w = subst (FunctionFormed e) is (answering_formed e t h.regular h.asked) in
    let b = good_of (taken_asked e s f a v t g is h) r in
    subst (λ z. IsTypeIn z g.answer) (sym k)
    (subst (λ z. IsWellFormed e.names z g.answer) (sym (own_kinds e x.own ∙ ap (λ z. kinds_under (kinds_in e) z) b.0)) w.1)

-- type variables, and then what the parts under them add
pub fields_known : (e d b : Environment) (own : List KnownType) (x y : Extension) → d ≡ with_own e own → y ≡ x → b ≡ extended d y → b ≡ with_fields e own x
fields_known e d b own x y k is h = h ∙ ap₂ extended k is ∙ own_then_parts e own x

-- AS THE CODE HAS IT

-- the type of a body outside so many variables, at its place
pub outside_refused_at : (n m : ℕ) (t : PlainType) (s at : Span) (y : InferError) → n ≡ m → s ≡ at → IsRefused (outside n t s) y → IsRefused (outside m t at) y
outside_refused_at n m t s at y h k p = subst (λ z. IsRefused (outside m t z) y) k (subst (λ z. IsRefused (outside z t s) y) h p)

pub outside_given_at : (n m : ℕ) (t u : PlainType) (s at : Span) → n ≡ m → s ≡ at → Runs (outside n t s) (ok u) → Runs (outside m t at) (ok u)
outside_given_at n m t u s at h k p = subst (λ z. Runs (outside m t z) (ok u)) k (subst (λ z. Runs (outside z t s) (ok u)) h p)

-- what a type exposes to, by what is shown of it
pub exposure_is : (e : Environment) (c : Context) (o : Option Ty) (t : Ty) (u : PlainType) → plain_context c ≡ e.context → IfNone o (exposure (type_context c) (plain t) ≡ plain t) → IfSome o (λ v. plain v ≡ exposure (type_context c) (plain t)) → u ≡ changed_or_same o t → exposure (context_of e) (plain t) ≡ u
exposure_is e c o t u k n s is = ap (λ z. exposure (variables z) (plain t)) (sym k) ∙ sym (changed_or_same_is (exposure (type_context c) (plain t)) o t n s) ∙ sym is

-- an abstraction against a type that exposes to a record
pub against_record_answer : (e : Environment) (b : Abs) (s : Span) (f : FieldPats) (a : RType) (v : Val) (t : PlainType) (r : Record) (x : Result (Unit {0}) InferError) → b ≡ function_abs s f a v → exposure (context_of e) t ≡ plain_record r → IsAnswer (rule e (abstraction_against (function_abs s f a v) (plain_record r))) nothing x → IsAnswer (rule e (abstraction_against b t)) nothing x
against_record_answer e b s f a v t r x is h k =
    subst (λ z. IsAnswer (rule e (abstraction_against z t)) nothing x) (sym is)
    (subst (λ z. IsAnswer z nothing x) (sym (exposed_rule e s f a v t (plain_record r) h (exposed_itself (context_of e) (plain_record r) refl))) k)

pub against_record_asked : (e : Environment) (b : Abs) (s : Span) (f : FieldPats) (a : RType) (v : Val) (t : PlainType) (r : Record) → b ≡ function_abs s f a v → exposure (context_of e) t ≡ plain_record r → IsWellAsked nothing_ e (abstraction_against b t) → IsWellAsked nothing_ e (abstraction_against (function_abs s f a v) (plain_record r))
against_record_asked e b s f a v t r is h k = exposed_asked e (function_abs s f a v) t (plain_record r) h (subst (λ z. IsWellAsked nothing_ e (abstraction_against z t)) is k)

pub no_record_refused : (e : Environment) (b : Abs) (s : Span) (f : FieldPats) (a : RType) (v : Val) (t u : PlainType) → b ≡ function_abs s f a v → exposure (context_of e) t ≡ u → IsNoRecord u → Runs (rule e (abstraction_against b t)) (stuck Y8 s)
no_record_refused e b s f a v t u is h n =
    subst (λ z. Runs (rule e (abstraction_against z t)) (stuck Y8 s)) (sym is) (no_record e s f a v t (subst IsNoRecord (sym h) n))

-- the function that a record answers
pub record_answering : (e : Environment) (r : Record) (o : Option Function) → record_answers e r ≡ o → answering e (plain_record r) ≡ o
record_answering e r o h = ap (function_by (λ bs last. sendable (exposure (under (context_of e) bs) last))) (exposed_itself (context_of e) (plain_record r) refl) ∙ h

-- the fields of that record but for the last positional one
pub fields_of_record : (s : Span) (f : FieldPats) (r : Record) (u : PlainType) (bs : List Bound) (ps : List Ty) (ls : List (Name × Ty)) → bs ≡ r.binders.items → ps ≡ take (length r.positional.items - 1) r.positional.items → ls ≡ r.labelled.items
    → against_fields s f bs ps ls ≡ (let g = function_with r u in fields_against s f g.binders g.positional g.labelled)
fields_of_record s f r u bs ps ls h i k = three (against_fields s f) h i k
