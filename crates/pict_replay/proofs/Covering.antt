-- Names that have each short text.
use Rattle.std.proofs.Common.{◌≡◌, ℕ, zero, suc, ◌≤◌, ◌<◌, ◌⊎◌, inl, inr, List, [], ◌∷◌, ◌++◌, Some, map, length, refl, sym, ap, subst, arith}
use Rattle.std.specs.List.{AllByRecursion}
use Rattle.std.proofs.lemmas.Bool.{cases_eq}
use Rattle.pict_replay.proofs.Renaming.{HasNumber}

-- the text is one of these
abbrev Among : List ℕ → List (List ℕ) → Type 0
Among text [] = ⊥
Among text (x ∷ xs) = (x ≡ text) ⊎ Among text xs

among_left : (text : List ℕ) (xs ys : List (List ℕ)) → Among text xs → Among text (xs ++ ys)
among_left text [] ys h = absurd h
among_left text (x ∷ xs) ys (inl e) = inl e
among_left text (x ∷ xs) ys (inr h) = inr (among_left text xs ys h)

among_right : (text : List ℕ) (xs ys : List (List ℕ)) → Among text ys → Among text (xs ++ ys)
among_right text [] ys h = h
among_right text (x ∷ xs) ys h = inr (among_right text xs ys h)

among_map : (b : ℕ) (text : List ℕ) (xs : List (List ℕ)) → Among text xs → Among (b ∷ text) (map (λ t. b ∷ t) xs)
among_map b text [] h = absurd h
among_map b text (x ∷ xs) (inl e) = inl (ap (λ t. b ∷ t) e)
among_map b text (x ∷ xs) (inr h) = inr (among_map b text xs h)

pub numbered : (text : List ℕ) (xs : List (List ℕ)) → Among text xs → HasNumber xs text
numbered text [] h = absurd h
numbered text (x ∷ xs) (inl e) = (0, ap Some e)
numbered text (x ∷ xs) (inr h) = let n = numbered text xs h in (suc n.0, n.1)

-- each of these behind each number below b
abbrev behind_each : List (List ℕ) → ℕ → List (List ℕ)
behind_each xs zero = []
behind_each xs (suc b) = map (λ t. b ∷ t) xs ++ behind_each xs b

among_each : (xs : List (List ℕ)) (b x : ℕ) (text : List ℕ) → x < b → Among text xs → Among (x ∷ text) (behind_each xs b)
among_each xs zero x text few h = absurd (omega (arith, few))
among_each xs (suc b) x text few h = elim (cases_eq x b) [
  | inl e ↦ among_left (x ∷ text) (map (λ t. b ∷ t) xs) (behind_each xs b) (subst (λ y. Among (y ∷ text) (map (λ t. b ∷ t) xs)) (sym e) (among_map b text xs h))
  | inr d ↦ among_right (x ∷ text) (map (λ t. b ∷ t) xs) (behind_each xs b) (among_each xs b x text (omega (arith, few, d)) h)
]

-- the texts of at most n numbers below a bound
abbrev short_texts : ℕ → ℕ → List (List ℕ)
short_texts bound zero = [] ∷ []
short_texts bound (suc n) = [] ∷ behind_each (short_texts bound n) bound

short_among : (bound n : ℕ) (text : List ℕ) → AllByRecursion (λ b. b < bound) text → length text ≤ n → Among text (short_texts bound n)
short_among bound zero [] h few = inl refl
short_among bound zero (x ∷ text) h few = absurd (omega (arith, few))
short_among bound (suc n) [] h few = inl refl
short_among bound (suc n) (x ∷ text) h few = inr (among_each (short_texts bound n) bound x text h.0 (short_among bound n text h.1 (omega (arith, few))))

-- names that have each such text
pub record Covers (bound n : ℕ) (names : List (List ℕ)) : Type 0 where
  pub has : (text : List ℕ) → AllByRecursion (λ b. b < bound) text → length text ≤ n → HasNumber names text

pub covering : (bound n : ℕ) → (names : List (List ℕ)) × Covers bound n names
covering bound n = (short_texts bound n, record { has = λ text h few. numbered text (short_texts bound n) (short_among bound n text h few) })
