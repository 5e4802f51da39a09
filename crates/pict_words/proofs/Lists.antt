-- Lists of a known length.
use Rattle.std.proofs.Common.{◌≡◌, ℕ, ◌<◌, ◌≤◌, List, [], ◌∷◌, length, get_or, arith, Bor, refl, subst}
use Rattle.pict_words.specs.Plain.{texts_of}
use Rattle.pict_words.specs.Asked.{Found, FoundSeed}

pub two_words : (words : List (Bor (List ℕ))) (d : Bor (List ℕ)) → 2 ≤ length words → length words < 3 → texts_of words ≡ (get_or words 0 d).now ∷ (get_or words 1 d).now ∷ []
two_words [] d p q = absurd (omega arith)
two_words (x ∷ []) d p q = absurd (omega arith)
two_words (x ∷ y ∷ []) d p q = refl
two_words (x ∷ y ∷ z ∷ rest) d p q = absurd (omega arith)

pub three_words : (words : List (Bor (List ℕ))) (d : Bor (List ℕ)) → 3 ≤ length words → length words < 4 → texts_of words ≡ (get_or words 0 d).now ∷ (get_or words 1 d).now ∷ (get_or words 2 d).now ∷ []
three_words [] d p q = absurd (omega arith)
three_words (x ∷ []) d p q = absurd (omega arith)
three_words (x ∷ y ∷ []) d p q = absurd (omega arith)
three_words (x ∷ y ∷ z ∷ []) d p q = refl
three_words (x ∷ y ∷ z ∷ w ∷ rest) d p q = absurd (omega arith)

pub four_words : (words : List (Bor (List ℕ))) (d : Bor (List ℕ)) → 4 ≤ length words → length words < 5 → texts_of words ≡ (get_or words 0 d).now ∷ (get_or words 1 d).now ∷ (get_or words 2 d).now ∷ (get_or words 3 d).now ∷ []
four_words [] d p q = absurd (omega arith)
four_words (x ∷ []) d p q = absurd (omega arith)
four_words (x ∷ y ∷ []) d p q = absurd (omega arith)
four_words (x ∷ y ∷ z ∷ []) d p q = absurd (omega arith)
four_words (x ∷ y ∷ z ∷ u ∷ []) d p q = refl
four_words (x ∷ y ∷ z ∷ u ∷ v ∷ rest) d p q = absurd (omega arith)

pub five_words : (words : List (Bor (List ℕ))) (d : Bor (List ℕ)) → 5 ≤ length words → length words < 6
    → texts_of words ≡ (get_or words 0 d).now ∷ (get_or words 1 d).now ∷ (get_or words 2 d).now ∷ (get_or words 3 d).now ∷ (get_or words 4 d).now ∷ []
five_words [] d p q = absurd (omega arith)
five_words (x ∷ []) d p q = absurd (omega arith)
five_words (x ∷ y ∷ []) d p q = absurd (omega arith)
five_words (x ∷ y ∷ z ∷ []) d p q = absurd (omega arith)
five_words (x ∷ y ∷ z ∷ u ∷ []) d p q = absurd (omega arith)
five_words (x ∷ y ∷ z ∷ u ∷ v ∷ []) d p q = refl
five_words (x ∷ y ∷ z ∷ u ∷ v ∷ w ∷ rest) d p q = absurd (omega arith)

-- what isn't found in these words isn't found in the same ones
pub none_in : (r : Type 0) (words lent : List (List ℕ)) → words ≡ lent → (r → (name : List ℕ) → Found name lent → ⊥) → r → (name : List ℕ) → Found name words → ⊥
none_in r words lent same none e name found = none e name (subst (Found name) same found)

pub six_words : (words : List (Bor (List ℕ))) (d : Bor (List ℕ)) → 6 ≤ length words → length words < 7
    → texts_of words ≡ (get_or words 0 d).now ∷ (get_or words 1 d).now ∷ (get_or words 2 d).now ∷ (get_or words 3 d).now ∷ (get_or words 4 d).now ∷ (get_or words 5 d).now ∷ []
six_words [] d p q = absurd (omega arith)
six_words (x ∷ []) d p q = absurd (omega arith)
six_words (x ∷ y ∷ []) d p q = absurd (omega arith)
six_words (x ∷ y ∷ z ∷ []) d p q = absurd (omega arith)
six_words (x ∷ y ∷ z ∷ u ∷ []) d p q = absurd (omega arith)
six_words (x ∷ y ∷ z ∷ u ∷ v ∷ []) d p q = absurd (omega arith)
six_words (x ∷ y ∷ z ∷ u ∷ v ∷ w ∷ []) d p q = refl
six_words (x ∷ y ∷ z ∷ u ∷ v ∷ w ∷ t ∷ rest) d p q = absurd (omega arith)

pub seven_words : (words : List (Bor (List ℕ))) (d : Bor (List ℕ)) → 7 ≤ length words → length words < 8
    → texts_of words ≡ (get_or words 0 d).now ∷ (get_or words 1 d).now ∷ (get_or words 2 d).now ∷ (get_or words 3 d).now ∷ (get_or words 4 d).now ∷ (get_or words 5 d).now ∷ (get_or words 6 d).now ∷ []
seven_words [] d p q = absurd (omega arith)
seven_words (x ∷ []) d p q = absurd (omega arith)
seven_words (x ∷ y ∷ []) d p q = absurd (omega arith)
seven_words (x ∷ y ∷ z ∷ []) d p q = absurd (omega arith)
seven_words (x ∷ y ∷ z ∷ u ∷ []) d p q = absurd (omega arith)
seven_words (x ∷ y ∷ z ∷ u ∷ v ∷ []) d p q = absurd (omega arith)
seven_words (x ∷ y ∷ z ∷ u ∷ v ∷ w ∷ []) d p q = absurd (omega arith)
seven_words (x ∷ y ∷ z ∷ u ∷ v ∷ w ∷ t ∷ []) d p q = refl
seven_words (x ∷ y ∷ z ∷ u ∷ v ∷ w ∷ t ∷ s ∷ rest) d p q = absurd (omega arith)

-- what isn't found with a seed in these words isn't found in the same ones
pub none_seeded_in : (r : Type 0) (words lent : List (List ℕ)) → words ≡ lent → (r → (name : List ℕ) → FoundSeed name lent → ⊥) → r → (name : List ℕ) → FoundSeed name words → ⊥
none_seeded_in r words lent same none e name found = none e name (subst (FoundSeed name) same found)
