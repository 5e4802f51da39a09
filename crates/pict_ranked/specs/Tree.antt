-- A complete binary tree of counts in one list: node 1 is the root, and nodes 2k and 2k + 1 stand below node k.
use Rattle.std.specs.Prelude.{ℕ, ◌+◌, ◌*◌, ◌^◌, ◌<◌, ◌≤◌, ◌≡◌, ◌⊎◌, List, [], ◌∷◌, length, slice_index_or}
use Rattle.std.specs.Int.{IsPowerOfTwo}

-- the sum of counts
abbrev pub total : List ℕ → ℕ
total [] = 0
total (count ∷ counts) = count + total counts

abbrev pub node : List ℕ → ℕ → ℕ
node nodes k = slice_index_or nodes k 0

-- as many leaves as a complete tree has, or none
abbrev pub IsWidth : ℕ → Type 0
IsWidth width = (width < 2 ^ 32) × ((width ≡ 0) ⊎ IsPowerOfTwo width)

-- The leaves are the nodes from the width on. The count of each node above them is the sum of the two below it.
pub record IsTree (width : ℕ) (nodes : List ℕ) : Type 0 where
  pub complete : IsWidth width
  pub size : length nodes ≡ 2 * width
  pub sums : (k : ℕ) → 1 ≤ k → k < width → node nodes k ≡ node nodes (2 * k) + node nodes (2 * k + 1)
