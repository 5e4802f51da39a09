-- Variables renumbered under binders.
use Rattle.std.proofs.Common.{◌≡◌, ℕ, zero, suc, ◌+◌, ◌-◌, ◌≤◌, ◌<◌, refl, ◌∙◌, ap, arith}
use Rattle.pict_types.specs.Types.{PlainBounds, no_bound, bounds, count_bounds}
use Rattle.pict_types.specs.Renaming.{beyond_all, beyond_times, plus}

pub times_low : (f : ℕ → ℕ) (d i : ℕ) → i < d → beyond_times d f i ≡ i
times_low f zero i h = absurd (omega arith)
times_low f (suc d) zero h = refl
times_low f (suc d) (suc i) h = ap suc (times_low f d i (omega arith))

pub times_high : (f : ℕ → ℕ) (d i : ℕ) → d ≤ i → beyond_times d f i ≡ f (i - d) + d
times_high f zero i h =
    let e : i ≡ i - 0 = omega arith in
    ap f e ∙ omega arith
times_high f (suc d) zero h = absurd (omega arith)
times_high f (suc d) (suc i) h =
    let e : i - d ≡ suc i - suc d = omega arith in
    let r : beyond_times d f i ≡ f (i - d) + d = times_high f d i (omega arith) in
    ap suc (r ∙ ap (λ x. f x + d) e) ∙ omega arith

-- under the type fields of a record
pub times_all : (f : ℕ → ℕ) (d : ℕ) (bs : PlainBounds) → beyond_all bs (beyond_times d f) ≡ beyond_times (d + count_bounds bs) f
times_all f d no_bound = ap (λ n. beyond_times n f) (omega arith)
times_all f d (bounds b bs) = times_all f (suc d) bs ∙ ap (λ n. beyond_times n f) (omega arith)

pub times_up : (k d i : ℕ) → d ≤ i → i + k ≡ beyond_times d (plus k) i
times_up k d i h = omega (arith, times_high (plus k) d i h)

pub times_down : (k d i : ℕ) → d ≤ i → i - d - k + d ≡ beyond_times d (λ j. j - k) i
times_down k d i h = omega (arith, times_high (λ j. j - k) d i h)
