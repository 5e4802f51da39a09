-- Numbers that are read back from their decimal texts.
use Rattle.std.proofs.Common.{◌≡◌, ℕ, suc, ◌<◌, ◌≤◌, ◌^◌, List, ◌∷◌, length, Result, Ok, Err, ℤ, pos, negsuc, FitsSigned, w64, inl, inr, refl, ◌∙◌, ap, subst, arith}
use Rattle.std.specs.Fmt.{decimal, signed_decimal}
use Rattle.std.specs.Str.{IsAscii}
use Rattle.std.specs.Str.Parse.{AllDigits, digits_value, ParsesSigned}
use Rattle.std.specs.Result.{OkIff}
use Rattle.std.proofs.Math.IntN.{neg_ℤ}
use Rattle.std.proofs.lemmas.Fmt.{parse-signed_decimal, decimal_is_IsNumeral}
use Rattle.std.proofs.lemmas.Str.Parse.{parse_signed_minus, numerals_by_value, tells_digits}
use Rattle.pict_syntax.specs.Tokens.{IsNumber}
use Rattle.pict_lex.proofs.NumberLemmas.{number_ascii}

signed_number : (z : ℤ) → FitsSigned w64 z → IsNumber (signed_decimal z)
signed_number (pos n) fits = inl (decimal_is_IsNumeral n (omega arith)).0
signed_number (negsuc n) fits = inr (decimal (suc n), (decimal_is_IsNumeral (suc n) (omega arith)).0, refl)

pub signed_ascii : (z : ℤ) → FitsSigned w64 z → IsAscii (signed_decimal z)
signed_ascii z fits = number_ascii (signed_decimal z) (signed_number z fits)

minus_given : {E : Type 0} (n : ℕ) (r : Result ℤ E)
    → OkIff r (AllDigits 10 (decimal (suc n)) × (0 < length (decimal (suc n))) × (digits_value 10 (decimal (suc n)) ≤ 2 ^ 63)) (neg_ℤ (pos (digits_value 10 (decimal (suc n)))))
    → AllDigits 10 (decimal (suc n)) → 0 < length (decimal (suc n)) → digits_value 10 (decimal (suc n)) ≡ suc n → suc n ≤ 2 ^ 63 → r ≡ Ok (negsuc n)
minus_given n (Ok x) p digits some value few = ap Ok (p.1 ∙ ap (λ k. neg_ℤ (pos k)) value)
minus_given n (Err e) p digits some value few = absurd (p (digits, some, omega arith))

minus_read : {E : Type 0} (n : ℕ) (r : Result ℤ E) → suc n ≤ 2 ^ 63 → ParsesSigned w64 10 (45 ∷ decimal (suc n)) r → r ≡ Ok (negsuc n)
minus_read n r few parsed =
    let numeral = decimal_is_IsNumeral (suc n) (omega arith) in
    minus_given n r (parse_signed_minus (numerals_by_value (AllDigits 10) tells_digits) w64 (45 ∷ decimal (suc n)) r parsed refl) numeral.0.1 numeral.0.0 numeral.1 few

pub signed_read : {E : Type 0} (z : ℤ) (bytes : List ℕ) (r : Result ℤ E) → FitsSigned w64 z → bytes ≡ signed_decimal z → ParsesSigned w64 10 bytes r → r ≡ Ok z
signed_read (pos n) bytes r fits e parsed = parse-signed_decimal w64 (pos n) bytes r fits (omega arith) e parsed
signed_read (negsuc n) bytes r fits e parsed = minus_read n r (omega arith) (subst (λ b. ParsesSigned w64 10 b r) e parsed)
