-- Phases that each have exactly one answer have exactly one answer one after another; and what two phases went through.
use Rattle.std.proofs.Common.{◌⊎◌, inl, inr, refl, sym, ap, subst}
use Rattle.pict_gather.specs.Phases.{Phase, accepts, refuses, Follows, Then, Exactly}

one_follows : {E A B : Type 0} (said : Phase E A) (Next : A → Phase E B → Type 0) → ((x : A) → Exactly (Next x)) → Exactly (Follows said Next)
one_follows (accepts x) Next next = next x
one_follows (refuses e) Next next = (refuses e, refl, λ s is. is)

pub one_then : {E A B : Type 0} (First : Phase E A → Type 0) (Next : A → Phase E B → Type 0) → Exactly First → ((x : A) → Exactly (Next x)) → Exactly (Then First Next)
one_then {E = E} {A = A} {B = B} First Next (said, is, only) next =
    let one = one_follows said Next next in (
      one.0,
      (said, is, one.1),
      λ answer (other, also, comes).
          let P : Phase E A → Type 0 = λ s. Follows s Next answer in
          one.2 answer (subst P (only other also) comes),
    )

-- what two phases went through that accepted
pub accepted_then : {E A B : Type 0} (First : Phase E A → Type 0) (Next : A → Phase E B → Type 0) (b : B) → Then First Next (accepts b) → (x : A) × First (accepts x) × Next x (accepts b)
accepted_then First Next b (accepts x, is, next) = (x, is, next)
accepted_then First Next b (refuses e, is, same) = absurd cc

-- what it refuses, or else this
abbrev pub refusal_of : {E A : Type 0} → Phase E A → E → E
refusal_of (accepts x) e = e
refusal_of (refuses f) e = f

-- what two phases went through that refused
pub refused_then : {E A B : Type 0} (First : Phase E A → Type 0) (Next : A → Phase E B → Type 0) (e : E) → Then First Next (refuses e) → First (refuses e) ⊎ ((x : A) × First (accepts x) × Next x (refuses e))
refused_then First Next e (accepts x, is, next) = inr (x, is, next)
refused_then First Next e (refuses f, is, same) = inl (subst (λ g. First (refuses g)) (sym (ap (λ p. refusal_of p e) same)) is)
