-- Phases one after another: each begins where the one before accepted, and the first refusal is the answer.
use Rattle.std.specs.Prelude.{◌≡◌}

-- what a phase answers: what it makes of its input, or why that is refused
pub data Phase (E A : Type 0) : Type 0 where
  accepts : A → Phase E A
  refuses : E → Phase E A

-- an answer behind a phase that answered this
abbrev pub Follows : {E A B : Type 0} → Phase E A → (A → Phase E B → Type 0) → Phase E B → Type 0
Follows (accepts x) Next answer = Next x answer
Follows (refuses e) Next answer = answer ≡ refuses e

-- one phase, then another over what the first accepted
abbrev pub Then : {E A B : Type 0} → (Phase E A → Type 0) → (A → Phase E B → Type 0) → Phase E B → Type 0
Then {E = E} {A = A} First Next answer = (said : Phase E A) × First said × Follows said Next answer

-- there is exactly one of which P holds
abbrev pub Exactly : {A : Type 0} → (A → Type 0) → Type 0
Exactly {A = A} P = (x : A) × P x × ((y : A) → P y → y ≡ x)
