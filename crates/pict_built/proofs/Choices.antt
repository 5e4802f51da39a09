-- What holds or doesn't.
use Rattle.std.proofs.Common.{ℕ, ◌<◌, ◌⊎◌, inl, inr, Bool, true, false, List, [], ◌∷◌, IsTrue, refl, arith}
use Rattle.std.specs.List.{AllByRecursion}
use Rattle.std.proofs.lemmas.Bool.{cases_lt}

abbrev pub Decided : Type 0 → Type 0
Decided P = P ⊎ ¬ P

pub both : {P Q : Type 0} → Decided P → Decided Q → Decided (P × Q)
both (inl p) (inl q) = inl (p, q)
both (inl p) (inr never) = inr (λ h. never h.1)
both (inr never) q = inr (λ h. never h.0)

pub all_three : {P Q R : Type 0} → Decided P → Decided Q → Decided R → Decided (P × Q × R)
all_three (inl p) (inl q) (inl r) = inl (p, q, r)
all_three (inl p) (inl q) (inr never) = inr (λ h. never h.2)
all_three (inl p) (inr never) r = inr (λ h. never h.1)
all_three (inr never) q r = inr (λ h. never h.0)

pub all_four : {P Q R S : Type 0} → Decided P → Decided Q → Decided R → Decided S → Decided (P × Q × R × S)
all_four (inl p) (inl q) (inl r) (inl s) = inl (p, q, r, s)
all_four (inl p) (inl q) (inl r) (inr never) = inr (λ h. never h.3)
all_four (inl p) (inl q) (inr never) s = inr (λ h. never h.2)
all_four (inl p) (inr never) r s = inr (λ h. never h.1)
all_four (inr never) q r s = inr (λ h. never h.0)

pub true_or_not : (b : Bool) → Decided (IsTrue b)
true_or_not true = inl refl
true_or_not false = inr (λ h. cc)

pub all_or_not : {A : Type 0} {P : A → Type 0} → ((x : A) → Decided (P x)) → (xs : List A) → Decided (AllByRecursion P xs)
all_or_not p [] = inl tt
all_or_not p (x ∷ xs) = both (p x) (all_or_not p xs)

pub less_or_not : (m n : ℕ) → Decided (m < n)
less_or_not m n = elim (cases_lt m n) [ inl less ↦ inl less | inr more ↦ inr (λ less. omega (arith, less, more)) ]
