-- The least numbers of lines, each of one line and of those behind it.
use Rattle.std.specs.Prelude.{ℕ, ◌≡◌, Bool, false, nat_lt, min, List, drop, slice_get, Option, Some, None}
use Rattle.pict_replay.specs.Replayed.{Line, is_overdue}

-- the number, where there is one, is below k
abbrev pub is_below : ℕ → Option ℕ → Bool
is_below k None = false
is_below k (Some n) = nat_lt n k

abbrev pub least_of : ℕ → Option ℕ → ℕ
least_of n None = n
least_of n (Some m) = min n m

-- The number at index i is below k exactly where one of the lines from i on has a number below k; and behind the last line
-- there is none.
abbrev pub AreLeast : List Line → List ℕ → Type 0
AreLeast lines least = (k i : ℕ) → is_overdue k (drop i lines) ≡ is_below k (slice_get least i)
