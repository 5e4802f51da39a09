-- What is chosen, by how many there are.
use Rattle.std.proofs.Common.{ℕ, ◌≡◌, ◌≤◌, ◌<◌, Bool, true, false, cond, refl, sym, ap, subst, arith}
use Rattle.std.specs.Prelude.{nat_le, ◌%◌}
use Rattle.std.proofs.lemmas.Bool.Decides.{nat_tests}
use Rattle.rand_pcg.specs.Lcg.{Lcg}
use Rattle.rand_pcg.specs.Pcg.{pcg32}
use Rattle.pict_seed.specs.Stream.{chosen}

pub chosen_few : (count : ℕ) (g : Lcg) → count ≤ 1 → chosen count g ≡ (0, g)
unfolding chosen
chosen_few count g h = let t : nat_le count 1 ≡ true = grind (arith, nat_tests, h) in ap (λ b. cond {A = ℕ × Lcg} b (0, g) ((pcg32 g).0 % count, (pcg32 g).1)) t

pub chosen_more : (count : ℕ) (g : Lcg) → 2 ≤ count → chosen count g ≡ ((pcg32 g).0 % count, (pcg32 g).1)
unfolding chosen
chosen_more count g h = let t : nat_le count 1 ≡ false = grind (arith, nat_tests, h) in ap (λ b. cond {A = ℕ × Lcg} b (0, g) ((pcg32 g).0 % count, (pcg32 g).1)) t

pub chosen_below : (count : ℕ) (g : Lcg) → 1 ≤ count → (chosen count g).0 < count
chosen_below count g h = go (nat_le count 1) refl
  where
    go : (b : Bool) → nat_le count 1 ≡ b → (chosen count g).0 < count
    go true t = let few : count ≤ 1 = grind (arith, nat_tests) in subst (λ (z : ℕ × Lcg). z.0 < count) (sym (chosen_few count g few)) h
    go false t = let more : 2 ≤ count = grind (arith, nat_tests) in subst (λ (z : ℕ × Lcg). z.0 < count) (sym (chosen_more count g more)) (omega arith)
