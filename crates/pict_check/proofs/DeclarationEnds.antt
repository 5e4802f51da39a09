-- Declarations, one lemma for each way that a body ends.
use Rattle.std.proofs.Common.{◌≡◌, ℕ, ◌+◌, ◌<◌, List, length, get_or, take, Bool, true, false, if◌then◌else◌, sym, ap, ◌∙◌, subst, Result, Ok, Err, OnOk}
use Rattle.pict_syntax.specs.declared.span.Span.{Span}
use Rattle.pict_syntax.specs.declared.tree.Dec.{Dec as RDec}
use Rattle.pict_syntax.specs.Trees.{Dec, Pat, Proc, Val, no_decs, run_dec, let_dec, await_dec}
use Rattle.pict_syntax.specs.PlainTrees.{dec_of, decs_on}
use Rattle.pict_types.specs.Types.{PlainType}
use Rattle.pict_scope.specs.DistinctLabels.{DecHasDistinctLabels}
use Rattle.pict_rules.specs.Complete.{is_complete}
use Rattle.pict_rules.specs.Environments.{Environment, Extension, extended}
use Rattle.pict_rules.specs.Rules.{Judgement, nothing_, type_, environment_, extension_, pattern_, TypedPattern, gives, has, declaration, declarations, pattern_gives, pattern_against, process, Rule, give, ok, part}
use Rattle.pict_rules.specs.Clauses.{check, empty_record}
use Rattle.pict_rules.specs.Typing.{rule}
use Rattle.pict_rules.specs.Derivations.{Runs, give_, part_ok}
use Rattle.pict_rules.specs.Reached.{Asks, this_part, past_part}
use Rattle.pict_infer.specs.declared.error.InferError.{InferError}
use Rattle.pict_infer.specs.declared.env.Env.{Env}
use Rattle.pict_infer.specs.Answering.{IsRefused, IsAnswer, nothing}
use Rattle.pict_infer.specs.Environments.{environment_of, known_entries, known_names, GrewFrom, IsAsBefore}
use Rattle.pict_infer.specs.Patterns.{GoesAgainst}
use Rattle.pict_infer.specs.Asking.{IsWellAsked}
use Rattle.pict_infer.proofs.Asked.{asked_of}
use Rattle.pict_lines.proofs.Grown.{grew_after}
use Rattle.pict_lines.proofs.Ends.{past_refused, refused_here}
use Rattle.pict_lines.proofs.Rows.{row_asked, row_more, row_refused}
use Rattle.pict_check.proofs.RowEnds.{declarations_row}

-- the place of a declaration doesn't matter
pub placed : (e : Environment) (d f : Dec) → IsWellAsked environment_ e (declaration d) → (DecHasDistinctLabels d → DecHasDistinctLabels f) → IsWellAsked environment_ e (declaration f)
placed e d f h k = record { labels = k h.labels; regular = h.regular; asked = tt }

-- A PROCESS THAT RUNS

pub run_asked : (e : Environment) (s : Span) (p : Proc) → IsWellAsked environment_ e (declaration (run_dec s p)) → IsWellAsked nothing_ e (process p)
run_asked e s p h = asked_of (declaration (run_dec s p)) h this_part

run_refused : (e : Environment) (s : Span) (p : Proc) (y : InferError) → IsRefused (rule e (process p)) y → IsRefused (rule e (declaration (run_dec s p))) y
run_refused e s p y h = refused_here _ _ _ y h

run_done : (e d : Environment) (s : Span) (p : Proc) → d ≡ e → Runs (rule e (process p)) (ok tt) → Runs (rule e (declaration (run_dec s p))) (ok d)
run_done e d s p k h = subst (λ z. Runs (rule e (declaration (run_dec s p))) (ok z)) (sym k) (part_ok h give_)

pub run_end : (old new : Env) (s : Span) (p : Proc) (r : Result (Unit {0}) InferError) → OnOk r (IsAsBefore old new) → IsAnswer (rule (environment_of old) (process p)) nothing r → IsAnswer (rule (environment_of old) (declaration (run_dec s p))) (λ _. environment_of new) r
run_end old new s p (Ok x) k h = run_done (environment_of old) (environment_of new) s p k.known h
run_end old new s p (Err y) k h = run_refused (environment_of old) s p y h

-- A VALUE THAT IS AWAITED

pub await_asked : (e : Environment) (s : Span) (v : Val) → IsWellAsked environment_ e (declaration (await_dec s v)) → IsWellAsked nothing_ e (has v empty_record)
await_asked e s v h = asked_of (declaration (await_dec s v)) h this_part

await_refused : (e : Environment) (s : Span) (v : Val) (y : InferError) → IsRefused (rule e (has v empty_record)) y → IsRefused (rule e (declaration (await_dec s v))) y
await_refused e s v y h = refused_here _ _ _ y h

await_done : (e d : Environment) (s : Span) (v : Val) → d ≡ e → Runs (rule e (has v empty_record)) (ok tt) → Runs (rule e (declaration (await_dec s v))) (ok d)
await_done e d s v k h = subst (λ z. Runs (rule e (declaration (await_dec s v))) (ok z)) (sym k) (part_ok h give_)

pub await_end : (old new : Env) (s : Span) (v : Val) (r : Result (Unit {0}) InferError) → OnOk r (IsAsBefore old new) → IsAnswer (rule (environment_of old) (has v empty_record)) nothing r → IsAnswer (rule (environment_of old) (declaration (await_dec s v))) (λ _. environment_of new) r
await_end old new s v (Ok x) k h = await_done (environment_of old) (environment_of new) s v k.known h
await_end old new s v (Err y) k h = await_refused (environment_of old) s v y h

-- A VALUE WITH A PATTERN

abbrev Complete : Environment → Pat → Val → Rule environment_
Complete e p v = part e (pattern_gives p) (λ g. check e (has v g.has) (give (extended e g.adds)))

abbrev Against : Environment → Pat → Val → Rule environment_
Against e p v = part e (gives v) (λ t. part e (pattern_against p t) (λ x. give (extended e x)))

let_rule : (e : Environment) (s : Span) (p : Pat) (v : Val) (b : Bool) → is_complete e.names e.context p ≡ b → rule e (declaration (let_dec s p v)) ≡ (if b then Complete e p v else Against e p v)
let_rule e s p v b h = ap (λ (z : Bool). if z then Complete e p v else Against e p v) h

pub let_value_asked : (e : Environment) (s : Span) (p : Pat) (v : Val) → is_complete e.names e.context p ≡ false → IsWellAsked environment_ e (declaration (let_dec s p v)) → IsWellAsked type_ e (gives v)
let_value_asked e s p v c h = asked_of (declaration (let_dec s p v)) h (subst (λ z. Asks environment_ z type_ e (gives v)) (sym (let_rule e s p v false c)) this_part)

pub let_value_refused : (e : Environment) (s : Span) (p : Pat) (v : Val) (y : InferError) → is_complete e.names e.context p ≡ false → IsRefused (rule e (gives v)) y → IsRefused (rule e (declaration (let_dec s p v))) y
let_value_refused e s p v y c h = subst (λ z. IsRefused z y) (sym (let_rule e s p v false c)) (refused_here _ _ _ y h)

pub let_against_asked : (e : Environment) (s : Span) (p : Pat) (v : Val) (t : PlainType) → is_complete e.names e.context p ≡ false → IsWellAsked environment_ e (declaration (let_dec s p v)) → Runs (rule e (gives v)) (ok t) → IsWellAsked extension_ e (pattern_against p t)
let_against_asked e s p v t c h q = asked_of (declaration (let_dec s p v)) h (subst (λ z. Asks environment_ z extension_ e (pattern_against p t)) (sym (let_rule e s p v false c)) (past_part q this_part))

let_against_refused : (e : Environment) (s : Span) (p : Pat) (v : Val) (t : PlainType) (y : InferError) → is_complete e.names e.context p ≡ false → Runs (rule e (gives v)) (ok t) → IsRefused (rule e (pattern_against p t)) y → IsRefused (rule e (declaration (let_dec s p v))) y
let_against_refused e s p v t y c q h = subst (λ z. IsRefused z y) (sym (let_rule e s p v false c)) (past_refused _ _ _ t y q (refused_here _ _ _ y h))

let_against_done : (e d : Environment) (s : Span) (p : Pat) (v : Val) (t : PlainType) (x : Extension) → is_complete e.names e.context p ≡ false → Runs (rule e (gives v)) (ok t) → Runs (rule e (pattern_against p t)) (ok x) → d ≡ extended e x → Runs (rule e (declaration (let_dec s p v))) (ok d)
let_against_done e d s p v t x c q r k = subst (λ z. Runs z (ok d)) (sym (let_rule e s p v false c)) (part_ok q (part_ok r (subst (λ z. Runs {s = environment_} (give (extended e x)) (ok z)) (sym k) give_)))

pub against_end : (old mid new : Env) (s : Span) (p : Pat) (v : Val) (t : PlainType) (r : Result (Unit {0}) InferError) → is_complete (known_names old) (known_entries old) p ≡ false → Runs (rule (environment_of old) (gives v)) (ok t) → IsAsBefore old mid
    → GoesAgainst mid new (pattern_against p t) r → IsAnswer (rule (environment_of old) (declaration (let_dec s p v))) (λ _. environment_of new) r
against_end old mid new s p v t (Ok x) c q k h =
    let_against_done (environment_of old) (environment_of new) s p v t h.adds c q (subst (λ z. Runs (rule z (pattern_against p t)) (ok h.adds)) k.known h.holds) (h.known ∙ ap (λ z. extended z h.adds) k.known)
against_end old mid new s p v t (Err y) c q k h = let_against_refused (environment_of old) s p v t y c q (subst (λ z. IsRefused (rule z (pattern_against p t)) y) k.known h)

pub against_grew : (old mid new : Env) (j : Judgement extension_) (r : Result (Unit {0}) InferError) → IsAsBefore old mid → GoesAgainst mid new j r → OnOk r (GrewFrom old new)
against_grew old mid new j (Ok x) k h = grew_after old mid new k h.grew
against_grew old mid new j (Err y) k h = tt

-- and where the pattern gives the type
pub let_pattern_asked : (e : Environment) (s : Span) (p : Pat) (v : Val) → is_complete e.names e.context p ≡ true → IsWellAsked environment_ e (declaration (let_dec s p v)) → IsWellAsked pattern_ e (pattern_gives p)
let_pattern_asked e s p v c h = asked_of (declaration (let_dec s p v)) h (subst (λ z. Asks environment_ z pattern_ e (pattern_gives p)) (sym (let_rule e s p v true c)) this_part)

pub let_pattern_refused : (e : Environment) (s : Span) (p : Pat) (v : Val) (y : InferError) → is_complete e.names e.context p ≡ true → IsRefused (rule e (pattern_gives p)) y → IsRefused (rule e (declaration (let_dec s p v))) y
let_pattern_refused e s p v y c h = subst (λ z. IsRefused z y) (sym (let_rule e s p v true c)) (refused_here _ _ _ y h)

pub let_has_asked : (e : Environment) (s : Span) (p : Pat) (v : Val) (g : TypedPattern) → is_complete e.names e.context p ≡ true → IsWellAsked environment_ e (declaration (let_dec s p v)) → Runs (rule e (pattern_gives p)) (ok g) → IsWellAsked nothing_ e (has v g.has)
let_has_asked e s p v g c h q = asked_of (declaration (let_dec s p v)) h (subst (λ z. Asks environment_ z nothing_ e (has v g.has)) (sym (let_rule e s p v true c)) (past_part q this_part))

pub let_has_refused : (e : Environment) (s : Span) (p : Pat) (v : Val) (g : TypedPattern) (y : InferError) → is_complete e.names e.context p ≡ true → Runs (rule e (pattern_gives p)) (ok g) → IsRefused (rule e (has v g.has)) y → IsRefused (rule e (declaration (let_dec s p v))) y
let_has_refused e s p v g y c q h = subst (λ z. IsRefused z y) (sym (let_rule e s p v true c)) (past_refused _ _ _ g y q (refused_here _ _ _ y h))

pub let_has_done : (e d : Environment) (s : Span) (p : Pat) (v : Val) (g : TypedPattern) → is_complete e.names e.context p ≡ true → Runs (rule e (pattern_gives p)) (ok g) → Runs (rule e (has v g.has)) (ok tt) → d ≡ extended e g.adds → Runs (rule e (declaration (let_dec s p v))) (ok d)
let_has_done e d s p v g c q r k = subst (λ z. Runs z (ok d)) (sym (let_rule e s p v true c)) (part_ok q (part_ok r (subst (λ z. Runs {s = environment_} (give (extended e g.adds)) (ok z)) (sym k) give_)))

-- DECLARATIONS IN ORDER

pub declaration_more : (e d f : Environment) (xs : List RDec) (i : ℕ) (a : RDec) → i < length xs → Runs (rule e (declarations (decs_on no_decs (take i xs)))) (ok d) → Runs (rule d (declaration (dec_of (get_or xs i a)))) (ok f) → Runs (rule e (declarations (decs_on no_decs (take (i + 1) xs)))) (ok f)
declaration_more e d f xs i a h p q = row_more (declarations_row e) xs i a d f h p (part_ok q give_)

pub declaration_refused : (e d : Environment) (xs : List RDec) (i : ℕ) (a : RDec) (y : InferError) → i < length xs → Runs (rule e (declarations (decs_on no_decs (take i xs)))) (ok d) → IsRefused (rule d (declaration (dec_of (get_or xs i a)))) y → IsRefused (rule e (declarations (decs_on no_decs xs))) y
declaration_refused e d xs i a y h p q = row_refused (declarations_row e) xs i a d y h p (refused_here _ _ _ y q)

pub declaration_asked : (e d : Environment) (xs : List RDec) (i : ℕ) (a : RDec) → i < length xs → IsWellAsked environment_ e (declarations (decs_on no_decs xs)) → Runs (rule e (declarations (decs_on no_decs (take i xs)))) (ok d) → IsWellAsked environment_ d (declaration (dec_of (get_or xs i a)))
declaration_asked e d xs i a h q p = row_asked (declarations_row e) xs i a d h q p this_part
