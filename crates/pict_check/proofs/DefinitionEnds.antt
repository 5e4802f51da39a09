-- The definitions of a `def`, one lemma for each way that a body ends.
use Rattle.std.proofs.Common.{◌≡◌, ◌≤◌, ◌<◌, ◌+◌, ◌-◌, ℕ, zero, suc, List, [], ◌∷◌, ◌++◌, length, length-drop, get_or, drop, reverse, refl, sym, ◌∙◌, ap, subst, arith, Result, Ok, Err, Option, Some, None}
use Rattle.std.specs.Prelude.{OnOk, option_to_list}
use Rattle.std.proofs.lemmas.List.{length-reverse, reverse-append, drop_all}
use Rattle.pict_syntax.specs.declared.span.Span.{Span}
use Rattle.pict_syntax.specs.declared.tree.Definition.{Definition as RDefinition}
use Rattle.pict_syntax.specs.PlainTrees.{abs_of, definitions_on}
use Rattle.pict_syntax.specs.Trees.{Abs, process_abs, function_abs, Definitions, no_definitions, FieldPats, Pat, Proc, RType, Val}
use Rattle.pict_syntax.proofs.ListLemmas.{on_ok}
use Rattle.pict_types.specs.Types.{PlainType}
use Rattle.pict_rules.specs.Environments.{Environment, context_of, extended}
use Rattle.pict_rules.specs.Rules.{nothing_, environment_, has, process, declaration, signatures, bodies, body, Body, process_body, value_body, Signature, give, ok}
use Rattle.pict_rules.specs.Clauses.{with_signatures}
use Rattle.pict_rules.specs.Typing.{rule}
use Rattle.pict_rules.specs.Derivations.{Runs, give_, part_ok, part_stuck}
use Rattle.pict_rules.specs.Reached.{this_part, past_part}
use Rattle.pict_infer.specs.declared.env.Env.{Env}
use Rattle.pict_infer.specs.declared.error.InferError.{InferError}
use Rattle.pict_infer.specs.declared.error.InferError.TheVariants.{Named, Memory}
use Rattle.pict_infer.specs.Adding.{extension_of}
use Rattle.pict_infer.specs.Answering.{IsAnswer, IsRefused, nothing}
use Rattle.pict_infer.specs.Asking.{IsWellAsked}
use Rattle.pict_infer.specs.Environments.{environment_of, IsAsBefore}
use Rattle.pict_infer.proofs.Asked.{asked_of}
use Rattle.pict_lines.specs.declared.signatures.Inside.{Inside}
use Rattle.pict_lines.specs.Definitions.{AreAskedInside, AreInside, AreSigned, IsAskedInside, IsAskedOfBody, IsBody, IsInside}
use Rattle.pict_lines.specs.Declaring.{defined}
use Rattle.pict_lines.specs.Operators.{type_if}
use Rattle.pict_lines.proofs.Ends.{ends_with, past, refused_here}

-- BODIES

pub inside_count : (n : ℕ) (ds : List RDefinition) (xs : List Inside) (ss : List Signature) → AreInside n ds xs ss → length ds ≡ length xs
inside_count n [] [] [] h = refl
inside_count n [] [] (s ∷ ss) h = absurd h
inside_count n [] (x ∷ xs) ss h = absurd h
inside_count n (d ∷ ds) [] ss h = absurd h
inside_count n (d ∷ ds) (x ∷ xs) [] h = absurd h
inside_count n (d ∷ ds) (x ∷ xs) (s ∷ ss) h = ap suc (inside_count n ds xs ss h.1)

-- the signature of the next body
pub record IsNext (n : ℕ) (a : Abs) (x : Inside) (ss : List Signature) (i : ℕ) : Type 0 where
  pub given : Signature
  pub inside : IsInside n a x given
  pub here : drop i ss ≡ given ∷ drop (i + 1) ss

pub next_body : (n : ℕ) (ds : List RDefinition) (xs : List Inside) (ss : List Signature) (i : ℕ) (d : RDefinition) (x : Inside) → AreInside n ds xs ss → i < length ds → d ≡ get_or ds i d → x ≡ get_or xs i x → IsNext n (abs_of d.abs) x ss i
next_body n [] xs ss i d x h l is js = absurd (omega (arith, l))
next_body n (c ∷ ds) [] ss i d x h l is js = absurd h
next_body n (c ∷ ds) (y ∷ xs) [] i d x h l is js = absurd h
next_body n (c ∷ ds) (y ∷ xs) (s ∷ ss) zero d x h l is js = record {
  given = s;
  inside = subst (λ (b : RDefinition). IsInside n (abs_of b.abs) x s) (sym is) (subst (λ z. IsInside n (abs_of c.abs) z s) (sym js) h.0);
  here = refl;
}
next_body n (c ∷ ds) (y ∷ xs) (s ∷ ss) (suc i) d x h l is js =
    let r = next_body n ds xs ss i d x h.1 (omega (arith, l)) is js in
    let one : suc i + 1 ≡ suc (i + 1) = omega arith in
    record { given = r.given; inside = r.inside; here = r.here ∙ ap (λ k. r.given ∷ drop k (s ∷ ss)) (sym one) }

-- the bodies so far are right
pub record ArePast (e : Environment) (ss : List Signature) (i : ℕ) : Type 0 where
  pub on : (r : Result (Unit {0}) InferError) → IsAnswer (rule e (bodies (drop i ss))) nothing r → IsAnswer (rule e (bodies ss)) nothing r

pub one_past : (e d : Environment) (n i : ℕ) (a : Abs) (x : Inside) (ss : List Signature) (k : IsNext n a x ss i) → d ≡ e → ArePast e ss i → Runs (rule (extended d k.given.adds) (body k.given.body)) (ok tt) → ArePast e ss (i + 1)
one_past e d n i a x ss k is p h = record {
  on = λ r q. p.on r
      (subst (λ z. IsAnswer (rule e (bodies z)) nothing r) (sym k.here)
      (past _ _ _ nothing tt r (subst (λ z. Runs (rule (extended z k.given.adds) (body k.given.body)) (ok tt)) is h) (ends_with _ _ _ nothing nothing r (λ y. give_) q)));
}

pub next_body_refused : (e d : Environment) (n i : ℕ) (a : Abs) (x : Inside) (ss : List Signature) (y : InferError) (k : IsNext n a x ss i) → d ≡ e → ArePast e ss i → IsRefused (rule (extended d k.given.adds) (body k.given.body)) y → IsRefused (rule e (bodies ss)) y
next_body_refused e d n i a x ss y k is p h =
    p.on (Err y) (subst (λ z. IsRefused (rule e (bodies z)) y) (sym k.here) (refused_here _ _ _ y (subst (λ z. IsRefused (rule (extended z k.given.adds) (body k.given.body)) y) is h)))

inside_as_many : (n : ℕ) (ds : List RDefinition) (xs : List Inside) (ss : List Signature) → AreInside n ds xs ss → length ds ≡ length ss
inside_as_many n [] [] [] h = refl
inside_as_many n [] [] (s ∷ ss) h = absurd h
inside_as_many n [] (x ∷ xs) ss h = absurd h
inside_as_many n (d ∷ ds) [] ss h = absurd h
inside_as_many n (d ∷ ds) (x ∷ xs) [] h = absurd h
inside_as_many n (d ∷ ds) (x ∷ xs) (s ∷ ss) h = ap suc (inside_as_many n ds xs ss h.1)

pub all_past : (e : Environment) (n : ℕ) (ds : List RDefinition) (xs : List Inside) (ss : List Signature) (i : ℕ) → AreInside n ds xs ss → length ds ≤ i → ArePast e ss i → Runs (rule e (bodies ss)) (ok tt)
all_past e n ds xs ss i h l p = p.on (Ok tt) (subst (λ z. Runs (rule e (bodies z)) (ok tt)) (sym (drop_all i ss (omega (arith, l, inside_as_many n ds xs ss h)))) give_)

-- the next of what is left, the last of a list in reverse
pub record IsTakenNext (all : List Inside) (i : ℕ) (x : Inside) (rest : List Inside) : Type 0 where
  pub item : x ≡ get_or all i x
  pub left : reverse rest ≡ drop (i + 1) all

first_left : (x : Inside) (ys all : List Inside) (i : ℕ) → x ∷ ys ≡ drop i all → (x ≡ get_or all i x) × (ys ≡ drop (i + 1) all)
first_left x ys [] zero h = absurd (cc)
first_left x ys [] (suc i) h = absurd (cc)
first_left x ys (z ∷ all) zero h = (cc, cc)
first_left x ys (z ∷ all) (suc i) h =
    let k = first_left x ys all i h in
    let one : suc i + 1 ≡ suc (i + 1) = omega arith in
    (k.0, k.1 ∙ ap (λ n. drop n (z ∷ all)) (sym one))

pub taken_next : (all old rest : List Inside) (i : ℕ) (x : Inside) (o : Option Inside) → old ≡ rest ++ option_to_list o → o ≡ Some x → reverse old ≡ drop i all → IsTakenNext all i x rest
taken_next all old rest i x o is k h =
    let one : old ≡ rest ++ x ∷ [] = is ∙ ap (λ z. rest ++ option_to_list z) k in
    let f = first_left x (reverse rest) all i (sym (reverse-append rest (x ∷ [])) ∙ ap reverse (sym one) ∙ h) in
    record { item = f.0; left = f.1 }

pub none_taken : (n : ℕ) (ds : List RDefinition) (all : List Inside) (ss : List Signature) (old : List Inside) (i : ℕ) → AreInside n ds all ss → i < length ds → length old ≡ 0 → reverse old ≡ drop i all → ⊥
none_taken n ds all ss old i h l z q = omega (arith, l, z, inside_count n ds all ss h, length-reverse old, length-drop i all, ap length q)

-- what is asked of the next body
left_asked : (e : Environment) (ss : List Signature) (i : ℕ) → IsWellAsked nothing_ e (bodies ss) → IsWellAsked nothing_ e (bodies (drop i ss))
left_asked e ss zero h = h
left_asked e [] (suc i) h = h
left_asked e (s ∷ ss) (suc i) h = left_asked e ss i (record { labels = h.labels.1; regular = h.regular; asked = h.asked.1.1.1 })

pub next_body_asked : (e d : Environment) (ds : List RDefinition) (xs : List Inside) (i : ℕ) (b : RDefinition) (x : Inside) → d ≡ e → i < length ds → b ≡ get_or ds i b → x ≡ get_or xs i x → AreAskedInside e ds xs → IsAskedInside d (abs_of b.abs) x
next_body_asked e d ds xs i b x is l js ks h =
    let k = next_body (length (context_of e)) ds xs h.given i b x h.inside l js ks in
    subst (λ z. IsAskedInside z (abs_of b.abs) x) (sym is)
    (record {
      given = k.given;
      inside = k.inside;
      asked = asked_of (bodies (k.given ∷ drop (i + 1) h.given)) (subst (λ z. IsWellAsked nothing_ e (bodies z)) k.here (left_asked e h.given i h.asked)) this_part;
    })

-- ONE BODY

pub within_body : (e d : Environment) (a : Abs) (x : Inside) → d ≡ extended e (extension_of x.adds) → IsAskedInside e a x → IsAskedOfBody d a (type_if x.answer)
within_body e d a x is h = record {
  given = h.given.body;
  is = h.inside.body_;
  asked = subst (λ z. IsWellAsked nothing_ z (body h.given.body)) (sym (is ∙ ap (extended e) h.inside.adds)) h.asked;
}

pub body_answer : (e d : Environment) (n : ℕ) (a : Abs) (x : Inside) (s : Signature) (r : Result (Unit {0}) InferError) → d ≡ extended e (extension_of x.adds) → IsInside n a x s → IsAnswer (rule d (body s.body)) nothing r → IsAnswer (rule (extended e s.adds) (body s.body)) nothing r
body_answer e d n a x s r is h k = subst (λ z. IsAnswer (rule z (body s.body)) nothing r) (is ∙ ap (extended e) h.adds) k

process_is : (s : Span) (p : Pat) (q : Proc) (o : Option PlainType) (b : Body) → IsBody (process_abs s p q) o b → b ≡ process_body q
process_is s p q None b h = h
process_is s p q (Some t) b h = absurd h

pub judged_process_asked : (e : Environment) (a : Abs) (s : Span) (p : Pat) (q : Proc) (o : Option PlainType) → a ≡ process_abs s p q → IsAskedOfBody e a o → IsWellAsked nothing_ e (process q)
judged_process_asked e a s p q o is h =
    asked_of (body (process_body q))
    (subst (λ b. IsWellAsked nothing_ e (body b)) (process_is s p q o h.given (subst (λ z. IsBody z o h.given) is h.is)) h.asked) this_part

pub process_judged : (e : Environment) (a : Abs) (s : Span) (p : Pat) (q : Proc) (o : Option PlainType) (b : Body) (r : Result (Unit {0}) InferError) → a ≡ process_abs s p q → IsBody a o b → IsAnswer (rule e (process q)) nothing r → IsAnswer (rule e (body b)) nothing r
process_judged e a s p q o b r is h k =
    subst (λ z. IsAnswer (rule e (body z)) nothing r) (sym (process_is s p q o b (subst (λ z. IsBody z o b) is h))) (ends_with _ _ _ nothing nothing r (λ x. give_) k)

value_is : (s : Span) (f : FieldPats) (a : RType) (v : Val) (t : PlainType) (o : Option PlainType) (b : Body) → o ≡ Some t → IsBody (function_abs s f a v) o b → b ≡ value_body v t
value_is s f a v t o b is h = subst (λ z. IsBody (function_abs s f a v) z b) is h

pub judged_value_asked : (e : Environment) (a : Abs) (s : Span) (f : FieldPats) (r : RType) (v : Val) (t : PlainType) (o : Option PlainType) → a ≡ function_abs s f r v → o ≡ Some t → IsAskedOfBody e a o → IsWellAsked nothing_ e (has v t)
judged_value_asked e a s f r v t o is k h =
    asked_of (body (value_body v t))
    (subst (λ b. IsWellAsked nothing_ e (body b)) (value_is s f r v t o h.given k (subst (λ z. IsBody z o h.given) is h.is)) h.asked) this_part

pub value_judged : (e : Environment) (a : Abs) (s : Span) (f : FieldPats) (r : RType) (v : Val) (t : PlainType) (o : Option PlainType) (b : Body) (x : Result (Unit {0}) InferError) → a ≡ function_abs s f r v → o ≡ Some t → IsBody a o b → IsAnswer (rule e (has v t)) nothing x → IsAnswer (rule e (body b)) nothing x
value_judged e a s f r v t o b x is k h j =
    subst (λ z. IsAnswer (rule e (body z)) nothing x) (sym (value_is s f r v t o b k (subst (λ z. IsBody z o b) is h))) (ends_with _ _ _ nothing nothing x (λ y. give_) j)

pub never_without : (e : Environment) (a : Abs) (s : Span) (f : FieldPats) (r : RType) (v : Val) (o : Option PlainType) → a ≡ function_abs s f r v → o ≡ None → IsAskedOfBody e a o → ⊥
never_without e a s f r v o is k h = subst (λ z. IsBody (function_abs s f r v) z h.given) k (subst (λ z. IsBody z o h.given) is h.is)

-- THE WHOLE GROUP

pub bodies_asked : (old new : Env) (ds : List RDefinition) (xs : List Inside) → IsWellAsked environment_ (environment_of old) (declaration (defined (definitions_on no_definitions ds))) → AreSigned old new ds xs → AreAskedInside (environment_of new) ds xs
bodies_asked old new ds xs h w =
    subst (λ z. AreAskedInside z ds xs) (sym w.known)
    (record { given = w.given; inside = w.inside; asked = asked_of (declaration (defined (definitions_on no_definitions ds))) h (past_part w.holds this_part) })

pub signatures_refused : (e : Environment) (ds : Definitions) (y : InferError) → IsRefused (rule e (signatures ds)) y → IsRefused (rule e (declaration (defined ds))) y
signatures_refused e ds y h = refused_here _ _ _ y h

definitions_end : (e d : Environment) (ds : Definitions) (ss : List Signature) (r : Result (Unit {0}) InferError) → Runs (rule e (signatures ds)) (ok ss) → IsAnswer (rule (with_signatures e ss) (bodies ss)) nothing r → OnOk r (d ≡ with_signatures e ss) → IsAnswer (rule e (declaration (defined ds))) (λ _. d) r
definitions_end e d ds ss (Ok x) p h k = part_ok p (part_ok h (subst (λ z. Runs {s = environment_} (give (with_signatures e ss)) (ok z)) (sym k) give_))
definitions_end e d ds ss (Err (Named c i told)) p h k = part_ok p (part_stuck h)
definitions_end e d ds ss (Err Memory) p h k = tt

pub definitions_answer : (old mid new : Env) (ds : List RDefinition) (xs : List Inside) (r : Result (Unit {0}) InferError) → AreSigned old mid ds xs → ((ss : List Signature) → AreInside (length (context_of (environment_of mid))) ds xs ss → IsAnswer (rule (environment_of mid) (bodies ss)) nothing r) → OnOk r (IsAsBefore mid new) → IsAnswer (rule (environment_of old) (declaration (defined (definitions_on no_definitions ds)))) (λ _. environment_of new) r
definitions_answer old mid new ds xs r w h k =
    let inside = subst (λ (z : Environment). AreInside (length (context_of z)) ds xs w.given) (sym w.known) w.inside in
    definitions_end (environment_of old) (environment_of new) (definitions_on no_definitions ds) w.given r w.holds
    (subst (λ z. IsAnswer (rule z (bodies w.given)) nothing r) w.known (h w.given inside))
    (on_ok r (λ (s : IsAsBefore mid new). s.known ∙ w.known) k)
