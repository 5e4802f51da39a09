-- The own type variables of a record pattern are taken back.
use Rattle.std.proofs.Common.{◌≡◌, ◌≤◌, ◌+◌, ℕ, List, [], ◌++◌, length, refl, sym, ◌∙◌, ap, arith}
use Rattle.pict_types.specs.declared.context.Context.{Context}
use Rattle.pict_types.specs.Entries.{PlainContext, variables}
use Rattle.pict_types.specs.PlainContext.{names_of, plain_context, type_context}
use Rattle.pict_rules.specs.Environments.{Environment, KnownType, entries_of}
use Rattle.pict_rules.specs.Clauses.{with_own}
use Rattle.pict_infer.specs.declared.known.Binder.{Binder}
use Rattle.pict_infer.specs.Knowing.{known_types}
use Rattle.pict_infer.specs.Places.{environment_in}
use Rattle.pict_infer.proofs.Depths.{types_length}
use Rattle.pict_infer.proofs.Growing.{environment}
use Rattle.pict_infer.proofs.OpenedBinders.{alone}
use Rattle.pict_infer.proofs.TakenBack.{taken_back}
use Rattle.pict_rules.proofs.OwnBinders.{opened_count}

-- what was taken is what was open, and the environment is as it was
pub record IsClosed (before after : Environment) (own taken : List KnownType) : Type 0 where
  pub own_ : taken ≡ own
  pub same : after ≡ before

pub closed : (n0 n1 n2 : List (List ℕ)) (c0 c1 c2 : PlainContext) (own taken : List KnownType) → alone n1 c1 ≡ with_own (alone n0 c0) own → c1 ≡ entries_of taken ++ c2 → length c2 ≡ length c0 → n2 ≡ n1 → IsClosed (alone n0 c0) (alone n2 c2) own taken
closed n0 n1 n2 c0 c1 c2 own taken i t l n =
    let b = taken_back c0 own taken c1 c2 (ap (λ (z : Environment). z.context) i) t l in
    record { own_ = b.own_; same = environment n2 n0 c2 c0 [] [] (n ∙ ap (λ (z : Environment). z.names) i) b.left_ refl }

-- so many more than before
pub more_open : (n0 n1 : List (List ℕ)) (c0 c1 : PlainContext) (own : List KnownType) (taken : List Binder) → alone n1 c1 ≡ with_own (alone n0 c0) own → known_types taken ≡ own → length (variables c1) ≡ length (variables c0) + length taken
more_open n0 n1 c0 c1 own taken i h = omega (arith, ap (λ (z : Environment). length (variables z.context)) i, opened_count own c0, types_length taken, ap length h)

-- the same of contexts
pub record_closed : (c0 c1 c2 : Context) (own : List KnownType) (taken : List Binder) (n : ℕ) → environment_in c1 ≡ with_own (environment_in c0) own → plain_context c1 ≡ entries_of (known_types taken) ++ plain_context c2 → length (plain_context c2) ≡ n → n ≡ length (plain_context c0)
    → names_of c2 ≡ names_of c1 → IsClosed (environment_in c0) (environment_in c2) own (known_types taken)
record_closed c0 c1 c2 own taken n i t l k m = closed (names_of c0) (names_of c1) (names_of c2) (plain_context c0) (plain_context c1) (plain_context c2) own (known_types taken) i t (l ∙ k) m

pub as_many : (c0 c2 : Context) → environment_in c2 ≡ environment_in c0 → length (type_context c0) ≡ length (type_context c2)
as_many c0 c2 h = ap (λ (z : Environment). length (variables z.context)) (sym h)

pub as_many_more : (c0 c1 : Context) (own : List KnownType) (taken : List Binder) → environment_in c1 ≡ with_own (environment_in c0) own → known_types taken ≡ own → length (type_context c1) ≡ length (type_context c0) + length taken
as_many_more c0 c1 own taken i h = more_open (names_of c0) (names_of c1) (plain_context c0) (plain_context c1) own taken i h

pub no_fewer : (m n : ℕ) → m ≡ n → m ≤ n
no_fewer m n h = omega (arith, h)

pub room_for : (m n k b : ℕ) → m ≡ n + k → b ≡ m → k ≤ b
room_for m n k b h i = omega (arith, h, i)

pub base_back : (m n k b x : ℕ) → m ≡ n + k → b ≡ m → x + k ≡ b → x ≡ n
base_back m n k b x h i j = omega (arith, h, i, j)
