-- Values of two words each, by their indices, as words of a block.
use Rattle.std.specs.Prelude.{ℕ, ◌≤◌, ◌+◌, List, [], ◌∷◌, ◌++◌, take, drop, length, slice_index_or}

-- the two words at an index
abbrev pub pair_at : List (ℕ × ℕ) → ℕ → ℕ × ℕ
pair_at values index = slice_index_or values index (0, 0)

-- two words a value, in the order of the indices
abbrev pub gathered : List (ℕ × ℕ) → List ℕ → List ℕ
gathered values [] = []
gathered values (index ∷ indices) = (pair_at values index).0 ∷ (pair_at values index).1 ∷ gathered values indices

-- the indices increase, from this one on
abbrev pub AreRising : ℕ → List ℕ → Type 0
AreRising low [] = Unit {0}
AreRising low (index ∷ indices) = (low ≤ index) × AreRising (index + 1) indices

-- words that are written over others, from index `first` on
abbrev pub overlaid : ℕ → List ℕ → List ℕ → List ℕ
overlaid first new words = take first words ++ (new ++ drop (first + length new) words)
