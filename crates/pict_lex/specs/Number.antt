-- Where a number begins.
use Rattle.std.specs.Prelude.{◌≡◌, ◌<◌, ◌⊎◌, ℕ, List, IsTrue, length, slice_index}
use Rattle.std.specs.Char.{is_ascii_digit}

-- a digit stands there, or a minus and a digit right after it
abbrev pub BeginsNumber : List ℕ → Type 0
BeginsNumber rest =
    ((0 < length rest) × IsTrue (is_ascii_digit (slice_index rest 0)))
    ⊎ ((1 < length rest) × (slice_index rest 0 ≡ 45) × IsTrue (is_ascii_digit (slice_index rest 1)))
