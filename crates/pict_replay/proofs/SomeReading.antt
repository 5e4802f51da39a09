-- Each text is lines of choices, or has a first line that is none.
use Rattle.std.proofs.Common.{ℕ, zero, suc, ◌+◌, ◌<◌, ◌≤◌, ◌≡◌, ◌^◌, ◌⊎◌, inl, inr, List, [], ◌∷◌, ◌++◌, length, refl, ap, ◌∙◌, subst, arith}
use Rattle.std.proofs.lemmas.Bool.{cases_eq}
use Rattle.pict_core.specs.Places.{Place}
use Rattle.pict_replay.specs.Files.{choice_text, BeginsWithChoices, BeginsWithChoice, IsChoices, IsFirstBadChoice}
use Rattle.pict_replay.specs.Laws.{SomeChoices}
use Rattle.pict_replay.proofs.OneReading.{none_yet, one_more, shorter, first_bad}

-- ---- deciding

abbrev pub Behind : List ℕ → List ℕ → Type 0
Behind front text = (rest : List ℕ) × (text ≡ front ++ rest)

pub behind : (front text : List ℕ) → Behind front text ⊎ (Behind front text → ⊥)
behind [] text = inl (text, refl)
behind (x ∷ front) [] = inr (λ h. let e = h.1 in cc)
behind (x ∷ front) (y ∷ text) = elim (cases_eq y x) [
  | inl e ↦ elim (behind front text) [
    | inl h ↦ inl (h.0, ap (λ z. z ∷ text) e ∙ ap (λ l. x ∷ l) h.1)
    | inr n ↦ inr (λ h. n (h.0, (let f = h.1 in cc)))
  ]
  | inr n ↦ inr (λ h. n (let f = h.1 in cc))
]

-- some number below a bound
abbrev pub Below : (ℕ → Type 0) → ℕ → Type 0
Below P bound = (n : ℕ) × (n < bound) × P n

pub below : (P : ℕ → Type 0) → ((n : ℕ) → P n ⊎ (P n → ⊥)) → (bound : ℕ) → Below P bound ⊎ (Below P bound → ⊥)
below P decide zero = inr (λ h. let l = h.1 in omega (arith, l))
below P decide (suc bound) = elim (decide bound) [
  | inl h ↦ inl (bound, omega arith, h)
  | inr n ↦ elim (below P decide bound) [
    | inl h ↦ inl (h.0, (let l = h.1 in omega (arith, l)), h.2)
    | inr m ↦ inr (λ h. elim (cases_eq h.0 bound) [
      | inl e ↦ n (subst P e h.2)
      | inr d ↦ m (h.0, (let l = h.1 in omega (arith, l, d)), h.2)
    ])
  ]
]

abbrev Line : List ℕ → ℕ → ℕ → Type 0
Line text i j = Behind (choice_text (record { ready = i; partner = j })) text

begins : (text : List ℕ) → BeginsWithChoice text ⊎ (BeginsWithChoice text → ⊥)
begins text = elim (below (λ i. Below (Line text i) (2 ^ 64)) (λ i. below (Line text i) (λ j. behind (choice_text (record { ready = i; partner = j })) text) (2 ^ 64)) (2 ^ 64)) [
  | inl h ↦ let i = h.0 in let j = h.2.0 in inl (record { ready = i; partner = j }, h.2.2.0, (h.1, h.2.1), h.2.2.1)
  | inr n ↦ inr (λ b. n (b.0.ready, b.2.0, (b.0.partner, b.2.1, (b.1, b.3))))
]

-- ---- line after line

abbrev pub Some : List ℕ → Type 0
Some text = (places : List Place) × (rest : List ℕ) × BeginsWithChoices text places rest × (BeginsWithChoice rest → ⊥)

on_and_on : (text : List ℕ) (fuel : ℕ) (places : List Place) (rest : List ℕ) → BeginsWithChoices text places rest → length rest ≤ fuel → Some text
on_and_on text zero places rest x few = elim (begins rest) [
  | inl b ↦ absurd (let s = shorter rest b.1 b.0 b.3 in omega (arith, s, few))
  | inr n ↦ (places, rest, x, n)
]
on_and_on text (suc fuel) places rest x few = elim (begins rest) [
  | inl b ↦ on_and_on text fuel (places ++ b.0 ∷ []) b.1 (one_more text rest b.1 places b.0 x b.2.0 b.2.1 b.3) (let s = shorter rest b.1 b.0 b.3 in omega (arith, s, few))
  | inr n ↦ (places, rest, x, n)
]

pub as_many : (text : List ℕ) → Some text
as_many text = on_and_on text (length text) [] text (none_yet text) (omega arith)

pub some_choices : SomeChoices
some_choices text = by (as_many text)
  where
    by : Some text → ((places : List Place) × IsChoices text places) ⊎ ((k : ℕ) × IsFirstBadChoice text k)
    by (places, [], x, n) = inl (places, x)
    by (places, y ∷ rest, x, n) = inr (length places + 1, first_bad text (y ∷ rest) places (length places + 1) x refl (λ e. cc) n)
