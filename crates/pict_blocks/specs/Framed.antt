-- The values of a frame as the words of a block.
use Rattle.std.specs.Prelude.{ℕ, suc, List, ◌∷◌}
pub use Rattle.pict_region.specs.Values.{gathered, AreRising}

-- the words of a block of the node with this number, behind its link
abbrev pub node_words : List (ℕ × ℕ) → ℕ → List ℕ → List ℕ
node_words values number frame = suc number ∷ gathered values frame
