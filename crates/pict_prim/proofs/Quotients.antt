-- The quotient of two numbers, wrapped to 64 bits.
use Rattle.std.proofs.Common.{ℕ, zero, suc, ◌/◌, ◌^◌, ◌≤◌, ◌≡◌, ℤ, pos, negsuc, neg_ℤ, ap, ◌∙◌, sym, arith, int_div, FitsSigned}
use Rattle.std.proofs.Math.Nat.{div-le_self}
use Rattle.std.specs.Int.{w64, int_wrap, int_wrapping_div, cast_signed, cast_unsigned}
use Rattle.std.proofs.lemmas.Int.{to_z-of_z}

abbrev pub IsWrapped : ℤ → Type 0
IsWrapped z = int_wrap w64 z ≡ cast_signed w64 (cast_unsigned w64 z)

wrap_pos : (n : ℕ) → n ≤ 2 ^ 63 → IsWrapped (pos n)
unfolding int_wrap
wrap_pos n h = ap (cast_signed w64) (omega arith)

wrap_negsuc : (n : ℕ) → suc n ≤ 2 ^ 63 → IsWrapped (negsuc n)
unfolding int_wrap
wrap_negsuc n h = ap (cast_signed w64) (omega arith)

wrap_neg : (n : ℕ) → n ≤ 2 ^ 63 → IsWrapped (neg_ℤ (pos n))
wrap_neg zero h = wrap_pos zero h
wrap_neg (suc n) h = wrap_negsuc n h

pub quotient_wraps : (a b : ℤ) → FitsSigned w64 a → IsWrapped (int_div a b)
quotient_wraps (pos a) (pos b) f = wrap_pos (a / b) (omega (arith, div-le_self a b, f.sfits))
quotient_wraps (pos a) (negsuc b) f = wrap_neg (a / suc b) (omega (arith, div-le_self a (suc b), f.sfits))
quotient_wraps (negsuc a) (pos b) f = wrap_neg (suc a / b) (omega (arith, div-le_self (suc a) b, f.sfits))
quotient_wraps (negsuc a) (negsuc b) f = wrap_pos (suc a / suc b) (omega (arith, div-le_self (suc a) (suc b), f.sfits))

-- the quotient as the code computes it
pub quotient_is : (a b r : ℤ) → FitsSigned w64 a → FitsSigned w64 b → FitsSigned w64 r → r ≡ int_wrapping_div w64 (cast_signed w64 (cast_unsigned w64 a)) (cast_signed w64 (cast_unsigned w64 b))
    → cast_signed w64 (cast_unsigned w64 r) ≡ int_wrap w64 (int_div a b)
quotient_is a b r f g h e =
    to_z-of_z w64 r h ∙ e ∙ ap (λ x. int_wrapping_div w64 x (cast_signed w64 (cast_unsigned w64 b))) (to_z-of_z w64 a f) ∙ ap (int_wrapping_div w64 a) (to_z-of_z w64 b g) ∙ sym (quotient_wraps a b f)
