-- The signatures of a `def`, one lemma for each way that a body ends.
use Rattle.std.proofs.Common.{◌≡◌, ◌≤◌, ◌<◌, ◌+◌, ◌-◌, ℕ, List, [], ◌∷◌, ◌++◌, length, get_or, take, drop, refl, sym, ◌∙◌, ap, ap₂, subst, Result, Ok, Err, Some, None, Global}
use Rattle.std.specs.Prelude.{Vec}
use Rattle.std.specs.Result.{IsErrAnd}
use Rattle.std.proofs.lemmas.List.{take_all, take-append-drop}
use Rattle.pict_syntax.specs.declared.code.Code.{Code}
use Rattle.pict_syntax.specs.declared.code.Code.TheVariants.{Y7}
use Rattle.pict_syntax.specs.declared.id.Id.{Id}
use Rattle.pict_syntax.specs.declared.span.Span.{Span}
use Rattle.pict_syntax.specs.declared.tree.Definition.{Definition as RDefinition}
use Rattle.pict_syntax.specs.PlainTrees.{abs_of, definitions_on}
use Rattle.pict_syntax.specs.Trees.{Abs, process_abs, function_abs, no_definitions, FieldPats, Pat, Proc, RType, Val}
use Rattle.pict_syntax.proofs.DeclarationLists.{definitions_more}
use Rattle.pict_syntax.proofs.ListLemmas.{on_ok}
use Rattle.pict_types.specs.Types.{PlainType, Chan, Fields, Respond}
use Rattle.pict_types.specs.declared.context.Context.{Context}
use Rattle.pict_types.specs.declared.types.Record.{Record}
use Rattle.pict_types.specs.declared.types.Ty.{Ty}
use Rattle.pict_types.specs.Plain.{plain, plain_record}
use Rattle.pict_types.specs.PlainContext.{names_of, plain_context}
use Rattle.pict_types.specs.Entries.{PlainContext}
use Rattle.pict_normal.specs.Normal.{and_type, kind_stop, normal}
use Rattle.pict_scope.specs.DistinctLabels.{AnnotationHasDistinctLabels}
use Rattle.pict_rules.specs.Environments.{Environment, KnownValue, context_of, opened, shifted_by, within}
use Rattle.pict_rules.specs.Rules.{Sort, nothing_, type_, environment_, fields_, pattern_, signature_, signatures_, Judgement, TypedFields, TypedPattern, pattern_gives, fields_give, has, declaration, signatures, signature, bodies, body, process_body, value_body, Signature, Answer, Rule, give, part, refuse, ok, stuck, unless_stopped, within_limits}
use Rattle.pict_rules.specs.Rules as rules
use Rattle.pict_rules.specs.Clauses.{argument_type, signature_values, with_own, with_signatures}
use Rattle.pict_rules.specs.Typing.{rule}
use Rattle.pict_rules.specs.Derivations.{Runs, give_, part_ok, part_stuck, refuse_}
use Rattle.pict_rules.specs.Reached.{this_part, past_part}
use Rattle.pict_infer.specs.declared.added.Added.{Added}
use Rattle.pict_infer.specs.declared.env.Env.{Env}
use Rattle.pict_infer.specs.declared.error.InferError.{InferError}
use Rattle.pict_infer.specs.declared.error.InferError.TheVariants.{Named, Memory}
use Rattle.pict_infer.specs.Adding.{extension_of}
use Rattle.pict_infer.specs.Answering.{IsAnswer, IsRefused}
use Rattle.pict_infer.specs.Asking.{IsWellAsked}
use Rattle.pict_infer.specs.Environments.{environment_of, GrewFrom}
use Rattle.pict_infer.specs.Steps.{annotated, expanded}
use Rattle.pict_infer.specs.Given.{record_given}
use Rattle.pict_infer.specs.Places.{environment_in}
use Rattle.pict_infer.proofs.Asked.{asked_of}
use Rattle.pict_infer.proofs.Through.{GoesOn, refused_on, refused_past}
use Rattle.pict_infer.proofs.Unused.{Passes, fields_pass, pattern_passes, with_others}
use Rattle.pict_lines.specs.declared.signatures.Inside.{Inside}
use Rattle.pict_lines.specs.declared.signatures.Signature.{Signature as TheSignature}
use Rattle.pict_lines.specs.Definitions.{AreInside, AreSigned, IsInside, IsSigned, SignAll, Signs, answering_record}
use Rattle.pict_lines.specs.Declaring.{defined}
use Rattle.pict_lines.specs.Lines.{formed}
use Rattle.pict_lines.proofs.Ends.{expands, past_refused, refused_here, formed_is, formed_on}
use Rattle.pict_lines.proofs.Rows.{Row, first_asked, one_more, row_all, row_asked, row_more, row_refused}

-- A SIGNATURE USES NO VALUE

passes_on : {s t : Sort} {e d : Environment} {j : Judgement t} {k : rules.Result t → Rule s} → Passes t (rule e j) (rule d j) → (a : Answer s) → Runs (part e j k) a → Runs (part d j k) a
passes_on h a (part_ok {x = x} p q) = part_ok (h.on _ p) q
passes_on h a (part_stuck p) = part_stuck (h.on _ p)

signature_passes : (e : Environment) (vs : List KnownValue) (x : Id) (a : Abs) (r : Answer signature_) → Runs (rule e (signature x a)) r → Runs (rule (with_others vs e) (signature x a)) r
signature_passes e vs x (process_abs s p q) r h = passes_on (pattern_passes p e vs) r h
signature_passes e vs x (function_abs s f None v) r h = passes_on (fields_pass f e vs) r h
signature_passes e vs x (function_abs s f (Some a) v) r h = passes_on (fields_pass f e vs) r h

-- so that it is all one whether the names before are known
before_names : (e : Environment) (ss : List Signature) (x : Id) (a : Abs) (r : Answer signature_) → Runs (rule (with_signatures e ss) (signature x a)) r → Runs (rule e (signature x a)) r
before_names e ss x a r h = signature_passes (with_signatures e ss) e.values x a r h

refused_before_names : (e : Environment) (ss : List Signature) (x : Id) (a : Abs) (y : InferError) → IsRefused (rule (with_signatures e ss) (signature x a)) y → IsRefused (rule e (signature x a)) y
refused_before_names e ss x a (Named c i told) h = before_names e ss x a (stuck c i) h
refused_before_names e ss x a Memory h = tt

-- SIGNATURES IN ORDER

abbrev definitions_row : (e : Environment) → Row RDefinition signatures_ e
definitions_row e = record {
  judged = λ xs. signatures (definitions_on no_definitions xs);
  next = λ xs x ss. part e (signature x.id (abs_of x.abs)) (λ s. give (ss ++ s ∷ []));
  more = λ xs x. ap (λ ds. rule e (signatures ds)) (definitions_more no_definitions xs x);
}

-- the names that are known so far, with what is known inside each body
pub record SignedSoFar (e d : Environment) (ds : List RDefinition) (xs : List Inside) : Type 0 where
  pub given : List Signature
  pub holds : Runs (rule e (signatures (definitions_on no_definitions ds))) (ok given)
  pub known : d ≡ with_signatures e given
  pub inside : AreInside (length (context_of e)) ds xs given

inside_more : (n : ℕ) (ds : List RDefinition) (xs : List Inside) (ss : List Signature) (d : RDefinition) (x : Inside) (s : Signature) → AreInside n ds xs ss → IsInside n (abs_of d.abs) x s → AreInside n (ds ++ d ∷ []) (xs ++ x ∷ []) (ss ++ s ∷ [])
inside_more n [] [] [] d x s h k = (k, tt)
inside_more n [] [] (r ∷ ss) d x s h k = absurd h
inside_more n [] (y ∷ xs) ss d x s h k = absurd h
inside_more n (c ∷ ds) [] ss d x s h k = absurd h
inside_more n (c ∷ ds) (y ∷ xs) [] d x s h k = absurd h
inside_more n (c ∷ ds) (y ∷ xs) (r ∷ ss) d x s h k = (h.0, inside_more n ds xs ss d x s h.1 k)

nearest : (ss : List Signature) (s : Signature) (vs : List KnownValue) → signature_values (ss ++ s ∷ []) vs ≡ record { name = s.name.name.0; has = s.has } ∷ signature_values ss vs
nearest [] s vs = refl
nearest (r ∷ ss) s vs = nearest ss s (record { name = r.name.name.0; has = r.has } ∷ vs)

one_more_name : (e : Environment) (ss : List Signature) (s : Signature) (x : Id) (t : PlainType) → s.name ≡ x → s.has ≡ t → (let d : Environment = record { names = e.names; context = e.context; values = record { name = x.name.0; has = t } ∷ signature_values ss e.values } in d) ≡ with_signatures e (ss ++ s ∷ [])
one_more_name e ss s x t n h =
    ap (λ (vs : List KnownValue). let d : Environment = record { names = e.names; context = e.context; values = vs } in d)
    (ap₂ (λ (y : Id) (u : PlainType). let v : KnownValue = record { name = y.name.0; has = u } in v ∷ signature_values ss e.values) (sym n) (sym h) ∙ sym (nearest ss s e.values))

pub none_signed : (e : Environment) (xs : List Inside) → xs ≡ [] → SignedSoFar e e [] xs
unfolding definitions_on
none_signed e xs h = record { given = []; holds = give_; known = refl; inside = subst (λ z. AreInside (length (context_of e)) [] z []) (sym h) tt }

pub one_signed : (e d f : Environment) (ds : List RDefinition) (i : ℕ) (a : RDefinition) (xs ys : List Inside) (y : TheSignature) → i < length ds → a ≡ get_or ds i a → SignedSoFar e d (take i ds) xs → IsSigned d a.id (abs_of a.abs) y → (let v : Environment = record { names = d.names; context = d.context; values = record { name = a.id.name.0; has = plain y.has } ∷ d.values } in f ≡ v) → ys ≡ xs ++ y.inside ∷ [] → SignedSoFar e f (take (i + 1) ds) ys
one_signed e d f ds i a xs ys y l is w s k z = record {
  given = w.given ++ s.given ∷ [];
  holds = row_more (definitions_row e) ds i a w.given (w.given ++ s.given ∷ []) l w.holds (part_ok here give_);
  known = k ∙ ap (λ (b : Environment). let v : Environment = record { names = b.names; context = b.context; values = record { name = a.id.name.0; has = plain y.has } ∷ b.values } in v) w.known ∙ one_more_name e w.given s.given a.id (plain y.has) s.name (sym s.has);
  inside = subst (λ c. AreInside (length (context_of e)) c ys (w.given ++ s.given ∷ [])) (sym (one_more ds i a l ∙ ap (λ (b : RDefinition). take i ds ++ b ∷ []) (sym is)))
      (subst (λ c. AreInside (length (context_of e)) (take i ds ++ a ∷ []) c (w.given ++ s.given ∷ [])) (sym z)
      (inside_more (length (context_of e)) (take i ds) xs w.given a y.inside s.given w.inside
      (subst (λ (b : Environment). IsInside (length (context_of b)) (abs_of a.abs) y.inside s.given) w.known s.inside)));
}
  where
    here : Runs (rule e (signature (get_or ds i a).id (abs_of (get_or ds i a).abs))) (ok s.given)
    here =
        subst (λ (b : RDefinition). Runs (rule e (signature b.id (abs_of b.abs))) (ok s.given)) is
        (before_names e w.given a.id (abs_of a.abs) (ok s.given) (subst (λ (b : Environment). Runs (rule b (signature a.id (abs_of a.abs))) (ok s.given)) w.known s.holds))

-- what is asked of the next one
pub signature_asked : (e d : Environment) (ds : List RDefinition) (i : ℕ) (a : RDefinition) (xs : List Inside) → i < length ds → a ≡ get_or ds i a → IsWellAsked signatures_ e (signatures (definitions_on no_definitions ds)) → SignedSoFar e d (take i ds) xs → IsWellAsked signature_ d (signature a.id (abs_of a.abs))
signature_asked e d ds i a xs l is h w =
    let next : IsWellAsked signature_ e (signature (get_or ds i a).id (abs_of (get_or ds i a).abs)) = row_asked (definitions_row e) ds i a w.given l h w.holds this_part in
    let here : IsWellAsked signature_ e (signature a.id (abs_of a.abs)) = subst (λ (b : RDefinition). IsWellAsked signature_ e (signature b.id (abs_of b.abs))) (sym is) next in
    let first : IsWellAsked signatures_ e (signatures (definitions_on no_definitions (take i ds))) =
    first_asked (definitions_row e) (take i ds) (drop i ds) (subst (λ z. IsWellAsked signatures_ e (signatures (definitions_on no_definitions z))) (sym (take-append-drop i ds)) h) in
    let whole : IsWellAsked environment_ e (declaration (defined (definitions_on no_definitions (take i ds)))) = record { labels = first.labels; regular = first.regular; asked = tt } in
    let inside : IsWellAsked nothing_ (with_signatures e w.given) (bodies w.given) = asked_of (declaration (defined (definitions_on no_definitions (take i ds)))) whole (past_part w.holds this_part) in
    subst (λ z. IsWellAsked signature_ z (signature a.id (abs_of a.abs))) (sym w.known) (record { labels = here.labels; regular = inside.regular; asked = tt })

pub signature_refused : (e d : Environment) (ds : List RDefinition) (i : ℕ) (a : RDefinition) (xs : List Inside) (y : InferError) → i < length ds → a ≡ get_or ds i a → SignedSoFar e d (take i ds) xs → IsRefused (rule d (signature a.id (abs_of a.abs))) y → IsRefused (rule e (signatures (definitions_on no_definitions ds))) y
signature_refused e d ds i a xs y l is w h =
    row_refused (definitions_row e) ds i a w.given y l w.holds
    (refused_here _ _ _ y
    (subst (λ (b : RDefinition). IsRefused (rule e (signature b.id (abs_of b.abs))) y) is
    (refused_before_names e w.given a.id (abs_of a.abs) y (subst (λ (b : Environment). IsRefused (rule b (signature a.id (abs_of a.abs))) y) w.known h))))

pub sign_err : (old new : Env) (ds : List RDefinition) (r : Result (Vec Inside Global) InferError) (y : InferError) → IsErrAnd r (λ z. z ≡ y) → IsRefused (rule (environment_of old) (signatures (definitions_on no_definitions ds))) y → SignAll old new ds r
sign_err old new ds (Ok v) y is h = absurd is
sign_err old new ds (Err z) y is h = subst (λ w. IsRefused (rule (environment_of old) (signatures (definitions_on no_definitions ds))) w) (sym is) h

pub all_signed : (old new : Env) (ds : List RDefinition) (i : ℕ) (xs : List Inside) → length ds ≤ i → GrewFrom old new → SignedSoFar (environment_of old) (environment_of new) (take i ds) xs → AreSigned old new ds xs
all_signed old new ds i xs l g w = record {
  given = w.given;
  holds = row_all (definitions_row (environment_of old)) ds i w.given l w.holds;
  known = w.known;
  inside = subst (λ z. AreInside (length (context_of (environment_of old))) z xs w.given) (take_all i ds l) w.inside;
  grew = g;
}

-- SIGNATURES

pub signed_pattern_asked : (e : Environment) (x : Id) (s : Span) (p : Pat) (q : Proc) → IsWellAsked signature_ e (signature x (process_abs s p q)) → IsWellAsked pattern_ e (pattern_gives p)
signed_pattern_asked e x s p q h = asked_of (signature x (process_abs s p q)) h this_part

pub signed_fields_asked : (e : Environment) (x : Id) (s : Span) (f : FieldPats) (a : RType) (v : Val) → IsWellAsked signature_ e (signature x (function_abs s f a v)) → IsWellAsked fields_ e (fields_give f)
signed_fields_asked e x s f a v h = record { labels = h.labels.0; regular = h.regular; asked = tt }

pub result_labels : (e : Environment) (x : Id) (s : Span) (f : FieldPats) (a : RType) (v : Val) → IsWellAsked signature_ e (signature x (function_abs s f a v)) → AnnotationHasDistinctLabels a
result_labels e x s f a v h = h.labels.1.0

pub signs_err : (e : Environment) (x : Id) (a : Abs) (r : Result TheSignature InferError) (y : InferError) → IsErrAnd r (λ z. z ≡ y) → IsRefused (rule e (signature x a)) y → Signs e x a r
signs_err e x a (Ok v) y is h = absurd is
signs_err e x a (Err z) y is h = subst (λ w. IsRefused (rule e (signature x a)) w) (sym is) h

-- an annotation is expanded in the context alone
pub annotated_here : (c : Context) (e : Environment) (r : RType) (s : Span) → names_of c ≡ e.names → plain_context c ≡ e.context → annotated (environment_in c) r s ≡ annotated e r s
annotated_here c e None s p q = refl
annotated_here c e (Some a) s p q = ap₂ (λ (ns : List (List ℕ)) (x : PlainContext). unless_stopped {s = type_} (kind_stop ns x a) (give (normal ns x a))) p q

-- the channel of the answer is put last
abbrev last_put : PlainType → PlainType → PlainType
last_put t (Fields bs ps ls) = Fields bs (and_type ps (Chan Respond t)) ls
last_put t _ = t

argument_is : (r : Record) (g : TypedFields) (t : PlainType) → plain_record r ≡ record_given g → answering_record r t ≡ argument_type g t
argument_is r g t h = ap (last_put t) h

-- the type of the argument, once as much is known as before
pub argument_refused : (e d : Environment) (r : Record) (g : TypedFields) (t : PlainType) (s : Span) (y : InferError) → d ≡ e → plain_record r ≡ record_given g → IsRefused (formed d (answering_record r t) s) y → IsRefused (formed e (argument_type g t) s) y
argument_refused e d r g t s y k is h = subst (λ u. IsRefused (formed e u s) y) (argument_is r g t is) (subst (λ z. IsRefused (formed z (answering_record r t) s) y) k h)

pub argument_given : (e d : Environment) (r : Record) (g : TypedFields) (t u : PlainType) (s : Span) → d ≡ e → plain_record r ≡ record_given g → Runs (formed d (answering_record r t) s) (ok u) → Runs (formed e (argument_type g t) s) (ok u)
argument_given e d r g t u s k is h = subst (λ v. Runs (formed e v s) (ok u)) (argument_is r g t is) (subst (λ z. Runs (formed z (answering_record r t) s) (ok u)) k h)

pub argument_answer : {T : Type 0} (f : T → PlainType) (e d : Environment) (r : Record) (g : TypedFields) (t : PlainType) (s : Span) (x : Result T InferError) → d ≡ e → plain_record r ≡ record_given g → IsAnswer (formed d (answering_record r t) s) f x → IsAnswer (formed e (argument_type g t) s) f x
argument_answer f e d r g t s x k is h = subst (λ v. IsAnswer (formed e v s) f x) (argument_is r g t is) (subst (λ z. IsAnswer (formed z (answering_record r t) s) f x) k h)

pub process_signed : (e d : Environment) (s : Span) (p : Pat) (x : Id) (q : Proc) (g : TypedPattern) (t : Ty) (y : Added) → d ≡ e → Runs (rule e (pattern_gives p)) (ok g) → Runs (formed d (Chan Respond g.has) s) (ok (plain t)) → extension_of y ≡ g.adds → y.base ≡ length (context_of e) → IsSigned e x (process_abs s p q) (record { has = t; inside = record { adds = y; answer = None } })
process_signed e d s p x q g t y k r i is b =
    let h = subst (λ z. Runs (formed z (Chan Respond g.has) s) (ok (plain t))) k i in
    let f = formed_is e (Chan Respond g.has) (plain t) s h in
    record {
      given = record { name = x; has = Chan Respond g.has; adds = g.adds; body = process_body q };
      holds = part_ok r ((formed_on e (Chan Respond g.has) s (give (record { name = x; has = Chan Respond g.has; adds = g.adds; body = process_body q }))).on_ok (plain t) (ok _) h give_);
      name = refl;
      has = f.1;
      inside = record { base = b; adds = is; body_ = refl };
    }

pub process_signature_refused : (e : Environment) (s : Span) (p : Pat) (x : Id) (q : Proc) (y : InferError) → IsRefused (rule e (pattern_gives p)) y → IsRefused (rule e (signature x (process_abs s p q))) y
process_signature_refused e s p x q y h = refused_here _ _ _ y h

pub process_signature_limits : (e d : Environment) (s : Span) (p : Pat) (x : Id) (q : Proc) (g : TypedPattern) (y : InferError) → d ≡ e → Runs (rule e (pattern_gives p)) (ok g) → IsRefused (formed d (Chan Respond g.has) s) y → IsRefused (rule e (signature x (process_abs s p q))) y
process_signature_limits e d s p x q g y k r h =
    past_refused _ _ _ g y r (refused_on y (formed_on e (Chan Respond g.has) s (give (record { name = x; has = Chan Respond g.has; adds = g.adds; body = process_body q }))) (subst (λ z. IsRefused (formed z (Chan Respond g.has) s) y) k h))

pub fields_signature_refused : (e : Environment) (s : Span) (f : FieldPats) (a : RType) (x : Id) (v : Val) (y : InferError) → IsRefused (rule e (fields_give f)) y → IsRefused (rule e (signature x (function_abs s f a v))) y
fields_signature_refused e s f None x v y h = refused_here _ _ _ y h
fields_signature_refused e s f (Some a) x v y h = refused_here _ _ _ y h

-- how the rule goes on with the result type, and then with the types of the argument and of the name
abbrev signature_with : Id → Val → TypedFields → PlainType → Signature
signature_with x v g t = record { name = x; has = Chan Respond (argument_type g t); adds = within g.own g.adds; body = value_body v (shifted_by (opened g.adds) t) }

abbrev Argued : Environment → Span → Id → Val → TypedFields → PlainType → Rule signature_
Argued e s x v g t =
    within_limits e (argument_type g t) s (
    within_limits e (Chan Respond (argument_type g t)) s (
    give (signature_with x v g t)))

results : (e d : Environment) (s : Span) (f : FieldPats) (a : RType) (x : Id) (v : Val) (g : TypedFields) → d ≡ with_own e g.own → Runs (rule e (fields_give f)) (ok g) → GoesOn type_ signature_ (annotated d a s) (rule e (signature x (function_abs s f a v))) (Argued e s x v g)
results e d s f None x v g k r = record { on_ok = λ u b p q. elim p [ ]; on_stuck = λ c i p. part_ok r (go c i p) }
  where
    go : (c : Code) (i : Span) → Runs {s = type_} (refuse Y7 s) (stuck c i) → Runs {s = signature_} (refuse Y7 s) (stuck c i)
    go c i refuse_ = refuse_
results e d s f (Some a) x v g k r = record {
  on_ok = λ u b p q. part_ok r ((expands (with_own e g.own) a (Argued e s x v g)).on_ok u b (subst (λ z. Runs (expanded z a) (ok u)) k p) q);
  on_stuck = λ c i p. part_ok r ((expands (with_own e g.own) a (Argued e s x v g)).on_stuck c i (subst (λ z. Runs (expanded z a) (stuck c i)) k p));
}

pub result_signature_refused : (e d : Environment) (s : Span) (f : FieldPats) (a : RType) (x : Id) (v : Val) (g : TypedFields) (y : InferError) → d ≡ with_own e g.own → Runs (rule e (fields_give f)) (ok g) → IsRefused (annotated d a s) y → IsRefused (rule e (signature x (function_abs s f a v))) y
result_signature_refused e d s f a x v g y k r h = refused_on y (results e d s f a x v g k r) h

pub argument_signature_refused : (e d : Environment) (s : Span) (f : FieldPats) (a : RType) (x : Id) (v : Val) (g : TypedFields) (t : PlainType) (y : InferError) → d ≡ with_own e g.own → Runs (rule e (fields_give f)) (ok g) → Runs (annotated d a s) (ok t) → IsRefused (formed e (argument_type g t) s) y → IsRefused (rule e (signature x (function_abs s f a v))) y
argument_signature_refused e d s f a x v g t y k r p h =
    refused_past t y (results e d s f a x v g k r) p (refused_on y (formed_on e (argument_type g t) s (within_limits e (Chan Respond (argument_type g t)) s (give (signature_with x v g t)))) h)

pub name_signature_refused : (e d : Environment) (s : Span) (f : FieldPats) (a : RType) (x : Id) (v : Val) (g : TypedFields) (t u : PlainType) (y : InferError) → d ≡ with_own e g.own → Runs (rule e (fields_give f)) (ok g) → Runs (annotated d a s) (ok t) → Runs (formed e (argument_type g t) s) (ok u) → IsRefused (formed e (Chan Respond u) s) y → IsRefused (rule e (signature x (function_abs s f a v))) y
name_signature_refused e d s f a x v g t u y k r p q h =
    let is = (formed_is e (argument_type g t) u s q).1 in
    refused_past t y (results e d s f a x v g k r) p
    (refused_past u y (formed_on e (argument_type g t) s (within_limits e (Chan Respond (argument_type g t)) s (give (signature_with x v g t)))) q
    (refused_on y (formed_on e (Chan Respond (argument_type g t)) s (give (signature_with x v g t))) (subst (λ z. IsRefused (formed e (Chan Respond z) s) y) is h)))

pub function_signed : (e d : Environment) (s : Span) (f : FieldPats) (a : RType) (x : Id) (v : Val) (g : TypedFields) (t u : PlainType) (w z : Ty) (y : Added) → d ≡ with_own e g.own → Runs (rule e (fields_give f)) (ok g) → Runs (annotated d a s) (ok t) → Runs (formed e (argument_type g t) s) (ok u) → Runs (formed e (Chan Respond u) s) (ok (plain w))
    → extension_of y ≡ within g.own g.adds → y.base ≡ length (context_of e) → plain z ≡ shifted_by (opened g.adds) t → IsSigned e x (function_abs s f a v) (record { has = w; inside = record { adds = y; answer = Some z } })
function_signed e d s f a x v g t u w z y k r p q h is b m =
    let i = (formed_is e (argument_type g t) u s q).1 in
    let h2 = subst (λ c. Runs (formed e (Chan Respond c) s) (ok (plain w))) i h in
    let j = (formed_is e (Chan Respond (argument_type g t)) (plain w) s h2).1 in
    record {
      given = signature_with x v g t;
      holds = (results e d s f a x v g k r).on_ok t (ok (signature_with x v g t)) p
          ((formed_on e (argument_type g t) s (within_limits e (Chan Respond (argument_type g t)) s (give (signature_with x v g t)))).on_ok u (ok (signature_with x v g t)) q
          ((formed_on e (Chan Respond (argument_type g t)) s (give (signature_with x v g t))).on_ok (plain w) (ok (signature_with x v g t)) h2 give_));
      name = refl;
      has = j;
      inside = record { base = b; adds = is; body_ = ap (value_body v) (sym m) };
    }
