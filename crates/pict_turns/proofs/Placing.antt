-- Blocks that are freed, made and pushed.
use Rattle.std.proofs.Common.{◌≡◌, ◌≢◌, ◌==◌, ℕ, ◌+◌, ◌≤◌, Bool, true, false, cond, sym, subst, arith, ⊎_elim}
use Rattle.std.proofs.lemmas.Bool.{cases_eq}
use Rattle.std.proofs.lemmas.Bool.Decides.{nat_tests}
use Rattle.pict_region.specs.RegionState.{RegionState, spare, KeepsOtherWidths}

-- a block that is given back leaves no width fewer free blocks
pub given_spare : (old new : RegionState) (width : ℕ) → spare new width ≡ spare old width + 1 → KeepsOtherWidths old new width → (w : ℕ) → spare old w ≤ spare new w
given_spare old new width more others w = ⊎_elim
    (λ (same : w ≡ width). subst (λ k. spare old k ≤ spare new k) (sym same) (omega (arith, more)))
    (λ (apart : w ≢ width). omega (arith, others w apart))
    (cases_eq w width)

-- a block that is taken leaves one fewer of its width
pub taken_spare : (mid new : RegionState) (width : ℕ) → spare new width + 1 ≡ spare mid width → KeepsOtherWidths mid new width → (w : ℕ) (b : Bool) → (w == width) ≡ b → spare mid w ≤ spare new w + cond b 1 0
taken_spare mid new width less others w true e =
    let same : width ≡ w = grind (arith, nat_tests) in
    subst (λ k. spare mid k ≤ spare new k + 1) same (omega (arith, less))
taken_spare mid new width less others w false e =
    let apart : w ≢ width = grind (arith, nat_tests) in
    omega (arith, others w apart)
