-- Three rings of six words.
use Rattle.std.proofs.Common.{◌≡◌, ℕ, [], ◌∷◌, refl, ap, ◌∙◌}
use Rattle.rand_core.specs.Steps.{first_words}
use Rattle.rand_pcg.specs.Lcg.{Lcg}
use Rattle.rand_pcg.specs.Pcg.{pcg32}
use Rattle.pict_seed.specs.Stream.{generator}
use Rattle.pict_load.specs.declared.rings.Ring.{Ring}
use Rattle.pict_load.specs.Rings.{ring_of, drawn, rings_of}

-- a ring by two words, and the generator behind them
abbrev pub ring_at : (Lcg → ℕ × Lcg) → Lcg → Ring
ring_at step g = ring_of (step g).0 (step (step g).1).0

abbrev pub behind : (Lcg → ℕ × Lcg) → Lcg → Lcg
behind step g = (step (step g).1).1

drawn_three : (step : Lcg → ℕ × Lcg) (g : Lcg) → drawn (first_words step 6 g) ≡ ring_at step g ∷ ring_at step (behind step g) ∷ ring_at step (behind step (behind step g)) ∷ []
unfolding first_words
drawn_three step g = refl

three_drawn : (step : Lcg → ℕ × Lcg) (g g1 g2 : Lcg) (a b c : Ring) → a ≡ ring_at step g → g1 ≡ behind step g → b ≡ ring_at step g1 → g2 ≡ behind step g1 → c ≡ ring_at step g2 → a ∷ b ∷ c ∷ [] ≡ drawn (first_words step 6 g)
three_drawn step g g1 g2 a b c x y z u v = cc (drawn_three step g)

pub three_rings : (n : ℕ) (g g1 g2 : Lcg) (a b c : Ring) → g ≡ generator n → a ≡ ring_at pcg32 g → g1 ≡ behind pcg32 g → b ≡ ring_at pcg32 g1 → g2 ≡ behind pcg32 g1 → c ≡ ring_at pcg32 g2 → a ∷ b ∷ c ∷ [] ≡ rings_of n
unfolding rings_of
three_rings n g g1 g2 a b c begins x y z u v = three_drawn pcg32 g g1 g2 a b c x y z u v ∙ ap (λ s. drawn (first_words pcg32 6 s)) begins
