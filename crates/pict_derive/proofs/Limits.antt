-- A depth that is held at the greatest `u64`, against the limit of depths.
use Rattle.std.proofs.Common.{◌≡◌, ℕ, ◌<◌, ◌≤◌, min, arith, Ok, Err}
use Rattle.std.specs.Prelude.{Result, IsErrAnd}
use Rattle.pict_derive.specs.declared.whole.DeriveError.{DeriveError}
use Rattle.pict_derive.specs.declared.whole.DeriveError.TheVariants.{TooDeep, Memory}
use Rattle.pict_syntax.specs.declared.limits.TheConstants.{DEPTH_LIMIT}

pub above : (result depth d told : ℕ) → result ≡ min told 18446744073709551615 → d ≡ told → result ≡ depth → DEPTH_LIMIT < result → (DEPTH_LIMIT < d) × (depth ≡ min d 18446744073709551615)
above result depth d told is deep same more = (omega arith, omega arith)

pub within : (result d told : ℕ) → result ≡ min told 18446744073709551615 → d ≡ told → result ≤ DEPTH_LIMIT → d ≤ DEPTH_LIMIT
within result d told is deep less = omega arith

pub not_above : (d : ℕ) → d ≤ DEPTH_LIMIT → DEPTH_LIMIT < d → ⊥
not_above d less more = omega arith

-- the depth that was told
pub the_depth : (result depth d told : ℕ) → result ≡ min told 18446744073709551615 → d ≡ told → depth ≡ min d 18446744073709551615 → result ≡ depth
the_depth result depth d told is deep at = omega arith

-- want of memory isn't the refusal of a depth
pub never_too_deep : {A : Type 0} (result : Result A DeriveError) (depth : ℕ) → IsErrAnd result (λ e. e ≡ Memory) → result ≡ Err (TooDeep depth) → ⊥
never_too_deep (Ok x) depth memory is = cc
never_too_deep (Err e) depth memory is = cc
