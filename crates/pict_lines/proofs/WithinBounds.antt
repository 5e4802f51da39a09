-- Arguments below the bounds of their type fields, one after the other; and the ends of fields and of applications.
use Rattle.std.proofs.Common.{◌≡◌, ◌<◌, ◌≤◌, ◌+◌, ℕ, zero, suc, List, [], ◌∷◌, ◌++◌, map, length, get_or, take, drop, drop-cons, refl, sym, ◌∙◌, ap, subst, add-one, arith, Option, Some, None, option_map, Result, Bool, true, false}
use Rattle.std.proofs.lemmas.List.{length-take-le}
use Rattle.pict_syntax.specs.declared.code.Code.TheVariants.{Y4, Y9, Y10}
use Rattle.pict_syntax.specs.declared.span.Span.{Span}
use Rattle.pict_types.specs.declared.types.Bound.{Bound}
use Rattle.pict_types.specs.declared.types.Arg.{Arg}
use Rattle.pict_types.specs.Types.{PlainType, PlainBound, Free, Below, Operator, PlainBounds, PlainArg, no_bound, bounds}
use Rattle.pict_types.specs.Plain.{plain_arg, plain_args, plain_bound, plain_bounds}
use Rattle.pict_types.specs.Kinds.{Kind, BoundIsWellFormed, BoundsAreWellFormed}
use Rattle.pict_types.specs.Instances.{ArgsAreWellFormed}
use Rattle.pict_types.specs.Replacing.{FitTheirFields, arguments, replace, type_in}
use Rattle.pict_types.proofs.Items.{bounds_next}
use Rattle.pict_types.proofs.Rows.{bounds_end, count_bounds_length}
use Rattle.pict_normal.specs.Normal.{size_stop}
use Rattle.pict_normal.specs.Written.{kinds_with}
use Rattle.pict_rules.specs.Environments.{Environment}
use Rattle.pict_rules.specs.Found.{Found, argument_in}
use Rattle.pict_rules.specs.Found as found
use Rattle.pict_rules.specs.Regular.{kinds_in, FitFirst, FoundFits, kinds_found, kinds_of_fields}
use Rattle.pict_rules.specs.Clauses.{done, expect, within_bound, within_bounds}
use Rattle.pict_rules.specs.Rules.{Sort, nothing_, arguments_, type_, Rule, Answer, ensure, give, ok, stuck}
use Rattle.pict_rules.specs.Rules as rules
use Rattle.pict_rules.specs.Shapes.{nth_bound}
use Rattle.pict_rules.specs.Derivations.{Runs, give_}
use Rattle.pict_rules.proofs.RegularArguments.{fit_fields, found_formed}
use Rattle.pict_infer.specs.declared.error.InferError.{InferError}
use Rattle.pict_infer.specs.declared.error.InferError.TheVariants.{Named, Memory}
use Rattle.pict_infer.specs.Answering.{IsAnswer, IsRefused, nothing}
use Rattle.pict_infer.specs.Steps.{below}
use Rattle.pict_infer.proofs.Through.{GoesOn, given, needed, refused, refused_on, refused_past, unstopped}
use Rattle.pict_lines.specs.Lines.{all_found, application_end, as_expected, fields_end, formed, within_all, within_one}
use Rattle.pict_lines.proofs.Ends.{answer_past, ensured, formed_is, formed_on, given_is}
use Rattle.pict_lines.proofs.Finding.{args_more}
use Rattle.pict_lines.proofs.PutIn.{bound_under}
use Rattle.pict_scope.proofs.Reading.{taken}
use Rattle.pict_infer.proofs.OpenedBinders.{nth_is}

-- ONE BOUND

within_on : {s t : Sort} {l : Rule s} {q : Rule t} {k : rules.Result s → Rule t} (e : Environment) (n : Span) (b : PlainBound) (earlier : List PlainArg) (a : PlainArg) (at : Span) → GoesOn s t l q k → GoesOn s t (within_bound e n b earlier a Y9 at l) (within_bound e n b earlier a Y9 at q) k
within_on e n Free earlier a at g = g
within_on e n (Operator ms) earlier a at g = g
within_on e n (Below b) earlier a at g = unstopped (size_stop e.context (replace (arguments earlier) b) n) (needed g)

-- and how a rule goes on
pub within_then : {t : Sort} (e : Environment) (n : Span) (b : PlainBound) (earlier : List PlainArg) (a : PlainArg) (at : Span) (r : Rule t) → GoesOn nothing_ t (within_one e n b earlier a at) (within_bound e n b earlier a Y9 at r) (λ x. r)
within_then e n b earlier a at r = within_on e n b earlier a at given

-- a bound with the earlier arguments put in, and the argument below it
pub bound_refused : (e : Environment) (n : Span) (b : PlainType) (earlier : List PlainArg) (a : PlainArg) (at : Span) (y : InferError) → IsRefused (formed e (replace (arguments earlier) b) n) y → IsRefused (within_one e n (Below b) earlier a at) y
bound_refused e n b earlier a at y h = refused_on y (formed_on e (replace (arguments earlier) b) n (below e (type_in a) (replace (arguments earlier) b) Y9 at)) h

pub bound_end : (e : Environment) (n : Span) (b u t : PlainType) (earlier : List PlainArg) (a : PlainArg) (at : Span) (r : Result (Unit {0}) InferError) → t ≡ type_in a → Runs (formed e (replace (arguments earlier) b) n) (ok u) → IsAnswer (below e t u Y9 at) nothing r → IsAnswer (within_one e n (Below b) earlier a at) nothing r
bound_end e n b u t earlier a at r is p h =
    let k = formed_is e (replace (arguments earlier) b) u n p in
    answer_past nothing u r (formed_on e (replace (arguments earlier) b) n (below e (type_in a) (replace (arguments earlier) b) Y9 at)) p
    (subst (λ z. IsAnswer (below e z (replace (arguments earlier) b) Y9 at) nothing r) is (subst (λ w. IsAnswer (below e t w Y9 at) nothing r) k.1 h))

-- ALL BOUNDS

pub withins_then : {t : Sort} (e : Environment) (n : Span) (bs : PlainBounds) (earlier args : List PlainArg) (r : Rule t) → GoesOn nothing_ t (within_bounds e n bs earlier args Y9 done) (within_bounds e n bs earlier args Y9 r) (λ x. r)
withins_then e n no_bound earlier args r = given
withins_then e n (bounds b bs) earlier [] r = refused
withins_then e n (bounds b bs) earlier (a ∷ args) r = within_on e n b earlier a n (withins_then e n bs (earlier ++ a ∷ []) args r)

-- what is left once so many are below theirs
abbrev Left : Environment → Span → List Bound → List Arg → ℕ → Rule nothing_
Left e n bs args i = within_bounds e n (plain_bounds (drop i bs)) (plain_args (take i args)) (plain_args (drop i args)) Y9 done

-- it answers for all
pub record IsLeft (e : Environment) (n : Span) (bs : List Bound) (args : List Arg) (i : ℕ) : Type 0 where
  pub goes : (r : Answer nothing_) → Runs (Left e n bs args i) r → Runs (within_all e n (plain_bounds bs) (plain_args args)) r

next_dropped : (xs : List Arg) (i : ℕ) (d : Arg) → i < length xs → d ≡ get_or xs i d → drop i xs ≡ d ∷ drop (i + 1) xs
next_dropped xs i d h is =
    let e : drop i xs ≡ get_or xs i d ∷ drop (i + 1) xs = rw (add-one, drop-cons xs i d) refl in
    e ∙ ap (λ z. z ∷ drop (i + 1) xs) (sym is)

-- as many arguments as type fields
pub fit_length : (args : List Arg) (bs : List Bound) → FitTheirFields (plain_args args) (plain_bounds bs) → length args ≡ length bs
fit_length [] [] h = refl
fit_length [] (b ∷ bs) h = absurd h
fit_length (a ∷ args) [] h = absurd h
fit_length (a ∷ args) (b ∷ bs) h = ap suc (fit_length args bs h.1)

left_next : (e : Environment) (n : Span) (bs : List Bound) (args : List Arg) (i : ℕ) (b : Bound) (a : Arg) → i < length bs → i < length args → b ≡ get_or bs i b → a ≡ get_or args i a
    → Left e n bs args i ≡ within_bound e n (plain_bound b) (plain_args (take i args)) (plain_arg a) Y9 n (Left e n bs args (i + 1))
left_next e n bs args i b a h k at is =
    ap (λ (z : PlainBounds). within_bounds e n z (plain_args (take i args)) (plain_args (drop i args)) Y9 done) (bounds_next bs i b h at)
    ∙ ap (λ (z : List PlainArg). within_bounds e n (bounds (plain_bound b) (plain_bounds (drop (i + 1) bs))) (plain_args (take i args)) z Y9 done) (ap plain_args (next_dropped args i a k is))
    ∙ ap (λ (z : List PlainArg). within_bound e n (plain_bound b) (plain_args (take i args)) (plain_arg a) Y9 n (within_bounds e n (plain_bounds (drop (i + 1) bs)) z (plain_args (drop (i + 1) args)) Y9 done))
    (sym (ap plain_args (taken args i a k is) ∙ args_more (take i args) a))

pub one_below : (e : Environment) (n : Span) (bs : List Bound) (args : List Arg) (i : ℕ) (b : Bound) (a : Arg) → i < length bs → i < length args → b ≡ get_or bs i b → a ≡ get_or args i a
    → Runs (within_one e n (plain_bound b) (plain_args (take i args)) (plain_arg a) n) (ok tt) → IsLeft e n bs args i → IsLeft e n bs args (i + 1)
one_below e n bs args i b a h k at is p x = record {
  goes = λ r q. x.goes r
      (subst (λ z. Runs z r) (sym (left_next e n bs args i b a h k at is)) ((within_then e n (plain_bound b) (plain_args (take i args)) (plain_arg a) n (Left e n bs args (i + 1))).on_ok tt r p q));
}

pub one_above : (e : Environment) (n : Span) (bs : List Bound) (args : List Arg) (i : ℕ) (b : Bound) (a : Arg) (y : InferError) → i < length bs → i < length args → b ≡ get_or bs i b → a ≡ get_or args i a
    → IsRefused (within_one e n (plain_bound b) (plain_args (take i args)) (plain_arg a) n) y → IsLeft e n bs args i → IsRefused (within_all e n (plain_bounds bs) (plain_args args)) y
one_above e n bs args i b a (Named c j told) h k at is p x =
    x.goes (stuck c j)
    (subst (λ z. Runs z (stuck c j)) (sym (left_next e n bs args i b a h k at is)) ((within_then e n (plain_bound b) (plain_args (take i args)) (plain_arg a) n (Left e n bs args (i + 1))).on_stuck c j p))
one_above e n bs args i b a Memory h k at is p x = tt

pub all_below : (e : Environment) (n : Span) (bs : List Bound) (args : List Arg) (i : ℕ) → length bs ≤ i → IsLeft e n bs args i → Runs (within_all e n (plain_bounds bs) (plain_args args)) (ok tt)
all_below e n bs args i h x =
    x.goes (ok tt) (subst (λ (z : PlainBounds). Runs (within_bounds e n z (plain_args (take i args)) (plain_args (drop i args)) Y9 done) (ok tt)) (sym (bounds_end bs i h)) give_)

-- what the bound of one of them, and the arguments before it, are asked
fit_before : (args : List Arg) (bs : PlainBounds) (i : ℕ) → FitTheirFields (plain_args args) bs → FitFirst (plain_args (take i args)) bs
fit_before args bs zero h = tt
fit_before [] bs (suc i) h = tt
fit_before (a ∷ args) no_bound (suc i) h = absurd h
fit_before (a ∷ args) (bounds b bs) (suc i) h = (h.0, fit_before args bs i h.1)

pub before_formed : (ns : List (List ℕ)) (ks : List Kind) (args : List Arg) (i : ℕ) → ArgsAreWellFormed ns ks (plain_args args) → ArgsAreWellFormed ns ks (plain_args (take i args))
before_formed ns ks args zero h = tt
before_formed ns ks [] (suc i) h = tt
before_formed ns ks (a ∷ args) (suc i) h = (h.0, before_formed ns ks args i h.1)

args_length : (args : List Arg) → length (plain_args args) ≡ length args
args_length [] = refl
args_length (a ∷ args) = ap suc (args_length args)

pub bound_formed : (e : Environment) (bs : List Bound) (args : List Arg) (i : ℕ) (b : Bound) → i < length bs → b ≡ get_or bs i b → BoundsAreWellFormed e.names (kinds_in e) (plain_bounds bs) → FitTheirFields (plain_args args) (plain_bounds bs)
    → BoundIsWellFormed e.names (kinds_with (plain_args (take i args)) (kinds_in e)) (plain_bound b)
bound_formed e bs args i b h is w f =
    let n = fit_length args bs f in
    let m : length (plain_args (take i args)) ≡ i = args_length (take i args) ∙ length-take-le i args (omega (arith, h, n)) in
    let c = count_bounds_length bs in
    subst (λ d. BoundIsWellFormed e.names (kinds_with (plain_args (take i args)) (kinds_in e)) d) (ap (λ j. nth_bound j (plain_bounds bs)) m ∙ nth_is bs i b h is)
    (bound_under e.names (kinds_in e) (plain_bounds bs) (plain_args (take i args)) w (fit_before args (plain_bounds bs) i f) (omega (arith, h, m, c)))

-- FIELDS END

ends : (e : Environment) (n : Span) (bs : PlainBounds) (g : Found) → GoesOn arguments_ arguments_ (all_found g n) (fields_end e n bs g) (λ args. within_bounds e n bs [] args Y9 (give args))
ends e n bs g = ensured (found.all_found g) Y10 n given

pub end_missing : (e : Environment) (n : Span) (bs : PlainBounds) (g : Found) (y : InferError) → IsRefused (all_found g n) y → IsRefused (fields_end e n bs g) y
end_missing e n bs g y h = refused_on y (ends e n bs g) h

pub end_above : (e : Environment) (n : Span) (bs : PlainBounds) (g : Found) (args : List PlainArg) (y : InferError) → Runs (all_found g n) (ok args) → IsRefused (within_all e n bs args) y → IsRefused (fields_end e n bs g) y
end_above e n bs g args y p h = refused_past args y (ends e n bs g) p (refused_on y (withins_then e n bs [] args (give args)) h)

pub end_done : (e : Environment) (n : Span) (bs : PlainBounds) (g : Found) (args : List PlainArg) → Runs (all_found g n) (ok args) → Runs (within_all e n bs args) (ok tt) → Runs (fields_end e n bs g) (ok args)
end_done e n bs g args p h = (ends e n bs g).on_ok args (ok args) p ((withins_then e n bs [] args (give args)).on_ok tt (ok args) h give_)

-- the arguments are those that are found
all_is : (g : Found) (n : Span) (args : List PlainArg) → Runs (all_found g n) (ok args) → args ≡ map argument_in g
all_is g n args h = go (found.all_found g) h
  where
    go : (b : Bool) → Runs {s = arguments_} (ensure b Y10 n (give (map argument_in g))) (ok args) → args ≡ map argument_in g
    go true p = given_is arguments_ (map argument_in g) args p
    go false p = elim p [ ]

pub all_formed : (e : Environment) (g : Found) (n : Span) (args : List PlainArg) → Runs (all_found g n) (ok args) → FoundFits e g → ArgsAreWellFormed e.names (kinds_in e) args
all_formed e g n args p h = subst (ArgsAreWellFormed e.names (kinds_in e)) (sym (all_is g n args p)) (found_formed e g h)

pub all_fit : (g : Found) (n : Span) (bs : PlainBounds) (args : List PlainArg) → Runs (all_found g n) (ok args) → kinds_found g ≡ kinds_of_fields bs → FitTheirFields args bs
all_fit g n bs args p h = subst (λ z. FitTheirFields z bs) (sym (all_is g n args p)) (fit_fields g bs h)

-- AN APPLICATION ENDS

expected_then : {t : Sort} (e : Environment) (x : Option PlainType) (u : PlainType) (n : Span) (r : Rule t) → GoesOn nothing_ t (as_expected e x u n) (expect e x u Y4 n r) (λ z. r)
expected_then e None u n r = given
expected_then e (Some t) u n r = needed given

pub none_expected : {A : Type 0} (e : Environment) (o : Option A) (f : A → PlainType) (u : PlainType) (n : Span) → o ≡ None → Runs (as_expected e (option_map f o) u n) (ok tt)
none_expected e None f u n h = give_
none_expected e (Some x) f u n h = absurd cc

answers : (e : Environment) (n : Span) (u : PlainType) (args : List PlainArg) (x : Option PlainType)
    → GoesOn type_ type_ (formed e (replace (arguments args) u) n) (application_end e n u args x) (λ z. expect e x (replace (arguments args) u) Y4 n (give (replace (arguments args) u)))
answers e n u args x = formed_on e (replace (arguments args) u) n (expect e x (replace (arguments args) u) Y4 n (give (replace (arguments args) u)))

pub answer_limits : (e : Environment) (n : Span) (u : PlainType) (args : List PlainArg) (x : Option PlainType) (y : InferError) → IsRefused (formed e (replace (arguments args) u) n) y → IsRefused (application_end e n u args x) y
answer_limits e n u args x y h = refused_on y (answers e n u args x) h

pub answer_above : (e : Environment) (n : Span) (u v : PlainType) (args : List PlainArg) (x : Option PlainType) (y : InferError) → Runs (formed e (replace (arguments args) u) n) (ok v) → IsRefused (as_expected e x v n) y → IsRefused (application_end e n u args x) y
answer_above e n u v args x y p h =
    let k = formed_is e (replace (arguments args) u) v n p in
    refused_past v y (answers e n u args x) p
    (refused_on y (expected_then e x (replace (arguments args) u) n (give (replace (arguments args) u))) (subst (λ z. IsRefused (as_expected e x z n) y) k.1 h))

pub answer_done : (e : Environment) (n : Span) (u v : PlainType) (args : List PlainArg) (x : Option PlainType) → Runs (formed e (replace (arguments args) u) n) (ok v) → Runs (as_expected e x v n) (ok tt) → Runs (application_end e n u args x) (ok v)
answer_done e n u v args x p h =
    let k = formed_is e (replace (arguments args) u) v n p in
    subst (λ z. Runs (application_end e n u args x) (ok z)) (sym k.1)
    ((answers e n u args x).on_ok v (ok (replace (arguments args) u)) p
    ((expected_then e x (replace (arguments args) u) n (give (replace (arguments args) u))).on_ok tt (ok (replace (arguments args) u)) (subst (λ z. Runs (as_expected e x z n) (ok tt)) k.1 h) give_))
