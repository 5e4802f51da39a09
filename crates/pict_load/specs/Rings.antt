-- The rings of a number, as the words of a generator draw them.
use Rattle.std.specs.Prelude.{ℕ, ◌+◌, ◌%◌, List, [], ◌∷◌}
use Rattle.rand_core.specs.Steps.{first_words}
use Rattle.rand_pcg.specs.Pcg.{pcg32}
use Rattle.pict_seed.specs.Stream.{generator}
use Rattle.pict_load.specs.declared.rings.Ring.{Ring}

-- two words make a ring
abbrev pub ring_of : ℕ → ℕ → Ring
ring_of first second = record { size = 100 + first % 100; token = 10000 + second % 10000 }

-- the rings that these words make, two words each
abbrev pub drawn : List ℕ → List Ring
drawn (first ∷ second ∷ words) = ring_of first second ∷ drawn words
drawn _ = []

-- six words of the generator that begins at a number make three rings
unfoldable pub rings_of : ℕ → List Ring
rings_of n = drawn (first_words pcg32 6 (generator n))
