-- The words that a seed gives, and what is chosen by them.
use Rattle.std.specs.Prelude.{ℕ, ◌%◌, nat_le, if◌then◌else◌}
use Rattle.rand_pcg.specs.Lcg.{Lcg, started, increment_of}
use Rattle.rand_pcg.specs.Pcg.{pcg32, multiplier_64}

-- the generator that begins at a seed, in stream 54
abbrev pub generator : ℕ → Lcg
generator seed = started 64 multiplier_64 seed (increment_of 64 54)

-- One of so many, from 0, and the generator afterwards: the next word modulo their number, or 0 without a word where there
-- are not two.
unfoldable pub chosen : ℕ → Lcg → ℕ × Lcg
chosen count g = if nat_le count 1 then (0, g) else ((pcg32 g).0 % count, (pcg32 g).1)
