-- What a step puts for variables, put in at once with the values around.
use Rattle.std.proofs.Common.{ℕ, zero, suc, ◌+◌, ◌-◌, ◌<◌, ◌≤◌, ◌≡◌, Bool, true, false, if◌then◌else◌, List, [], ◌∷◌, length, refl, sym, ap, ◌∙◌, arith, cond, nat_lt, unwrap_or, pos}
use Rattle.std.proofs.lemmas.Bool.Decides.{nat_tests}
use Rattle.std.specs.List.{slice_get}
use Rattle.pict_core.specs.Term.{Val, Process, Var, Int}
use Rattle.pict_core.specs.Substitution.{replace, replace_value, substitution, substitute}
use Rattle.pict_core.proofs.Substituting.{past}
use Rattle.pict_code.specs.Standing.{closing}
use Rattle.pict_code.proofs.Agreeing.{agree}
use Rattle.pict_core.proofs.Replacing.{replace-after}
use Rattle.pict_desk.proofs.Variables.{HasNoVar, value_stays}

-- the values of the levels below n, and from n on these
abbrev pub extended : ℕ → (ℕ → Val) → List Val → ℕ → Val
extended n values bound level = if nat_lt level n then values level else unwrap_or (slice_get bound (level - n)) (Int (pos 0))

within : (vs : List Val) (i : ℕ) (d e : Val) → i < length vs → unwrap_or (slice_get vs i) d ≡ unwrap_or (slice_get vs i) e
within [] i d e h = absurd (omega arith)
within (v ∷ vs) zero d e h = refl
within (v ∷ vs) (suc i) d e h = within vs i d e (omega arith)

bound_inside : (n : ℕ) (values : ℕ → Val) (bound : List Val) (level : ℕ) (b : Bool) → nat_lt level (n + length bound) ≡ b → n ≤ level
    → unwrap_or (slice_get bound (level - n)) (Var (level - n - length bound)) ≡ cond b (extended n values bound level) (Var (level - (n + length bound)))
bound_inside n values bound level true e h =
    let test : nat_lt level n ≡ false = grind (arith, nat_tests) in
    let low : level - n < length bound = grind (arith, nat_tests) in
    within bound (level - n) _ (Int (pos 0)) low ∙ sym (ap (λ t. cond t (values level) (unwrap_or (slice_get bound (level - n)) (Int (pos 0)))) test)
bound_inside n values bound level false e h =
    let high : length bound ≤ level - n = grind (arith, nat_tests) in
    past bound (level - n) _ high ∙ ap Var (omega arith)

put_variable : (n : ℕ) (values : ℕ → Val) (bound : List Val) → ((level : ℕ) → HasNoVar (values level)) → (level : ℕ) (b : Bool) → nat_lt level n ≡ b
    → replace_value (substitution 0 bound) (cond b (values level) (Var (level - n))) ≡ (closing (n + length bound) (extended n values bound)).variable level
put_variable n values bound o level true e =
    let test : nat_lt level (n + length bound) ≡ true = grind (arith, nat_tests) in
    value_stays (substitution 0 bound) (λ _. refl) (values level) (o level)
    ∙ sym (ap (λ t. cond t (values level) (unwrap_or (slice_get bound (level - n)) (Int (pos 0)))) e)
    ∙ sym (ap (λ t. cond t (extended n values bound level) (Var (level - (n + length bound)))) test)
put_variable n values bound o level false e =
    let low : n ≤ level = grind (arith, nat_tests) in
    let zero_test : nat_lt (level - n) 0 ≡ false = grind (arith, nat_tests) in
    let same : level - n - 0 ≡ level - n = omega arith in
    ap (λ t. cond t (Var (level - n)) (unwrap_or (slice_get bound (level - n - 0)) (Var (level - n - length bound)))) zero_test
    ∙ ap (λ i. unwrap_or (slice_get bound i) (Var (level - n - length bound))) same
    ∙ bound_inside n values bound level _ refl low

-- The values bound by a message, or a new channel, put into a body whose outer variables have values: the body under as
-- many variables more, with these values beside them.
pub put_closed : (n : ℕ) (values : ℕ → Val) (bound : List Val) → ((level : ℕ) → HasNoVar (values level)) → (p : Process)
    → substitute 0 bound (replace (closing n values) p) ≡ replace (closing (n + length bound) (extended n values bound)) p
put_closed n values bound o p =
    replace-after (substitution 0 bound) (closing n values) p
    ∙ agree _ _ (λ _. refl) p (λ level h. put_variable n values bound o level _ refl)
