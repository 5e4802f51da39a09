-- Digits, and what stands for the value of a number.
use Rattle.std.proofs.Common.{◌≡◌, ◌≢◌, ℕ, zero, suc, ◌<◌, ◌≤◌, true, false, List, [], ◌∷◌, length, take, drop, get_or, cond, sym, ◌∙◌, ap, subst, arith, inl, inr, ◌==◌, true≢false, Result, Ok, Err, Option}
use Rattle.std.specs.Option.{IfNone}
use Rattle.std.specs.Result.{result_ok}
use Rattle.std.proofs.lemmas.Int.{ints}
use lib.IntN.{ℤ, pos, negsuc}
use Rattle.std.specs.Char.{digit_value, is_ascii_digit}
use Rattle.std.specs.Int.{IsInRange}
use Rattle.std.specs.Str.{IsAscii}
use Rattle.std.specs.Str.Parse.{IsNumeral, AllDigits, without_leading_sign, without_leading_plus, signed_digits_value, ParsesSigned}
use mir.Val.{SFits}
use mir.Syntax.{w64}
use Rattle.std.proofs.lemmas.Bool.{cases_lt}
use Rattle.std.proofs.lemmas.List.{length-take-le}
use Rattle.std.proofs.lemmas.Bool.Decides.{nat_tests}
use Rattle.std.proofs.lemmas.Str.Parse.{digit_from_value}
use Rattle.pict_syntax.specs.Tokens.{IsNumber, IsWithin64Bits}
use Rattle.pict_syntax.proofs.ItemLemmas.{different}
use Rattle.pict_lex.specs.Number.{BeginsNumber}

digit_below : (byte : ℕ) → is_ascii_digit byte ≡ true → digit_value byte < 10
digit_below byte h = grind (arith, nat_tests)

-- digits from facts for each place
pub digits_taken : (xs : List ℕ) (n : ℕ) → ((k : ℕ) → k < n → is_ascii_digit (get_or xs k 0) ≡ true) → n ≤ length xs → AllDigits 10 (take n xs)
digits_taken xs zero each h = tt
digits_taken [] (suc n) each h = absurd (omega arith)
digits_taken (x ∷ xs) (suc n) each h = (digit_below x (each zero (omega arith)), digits_taken xs n (λ k below. each (suc k) (omega arith)) (omega arith))

-- a number without a minus
pub plain_number : (xs : List ℕ) (n : ℕ) → 0 < n → n ≤ length xs → ((k : ℕ) → k < n → is_ascii_digit (get_or xs k 0) ≡ true) → IsNumber (take n xs)
plain_number xs n some h each = let size : length (take n xs) ≡ n = length-take-le n xs h in inl (omega arith, digits_taken xs n each h)

-- a number with one
pub minus_number : (xs : List ℕ) (n : ℕ) → 1 < n → n ≤ length xs → get_or xs 0 0 ≡ 45 → ((k : ℕ) → 1 ≤ k → k < n → is_ascii_digit (get_or xs k 0) ≡ true) → IsNumber (take n xs)
minus_number xs zero some h minus each = absurd (omega arith)
minus_number [] (suc n) some h minus each = absurd (omega arith)
minus_number (x ∷ xs) (suc n) some h minus each =
    let size : length (take n xs) ≡ n = length-take-le n xs (omega arith) in
    inr (take n xs, (omega arith, digits_taken xs n (λ k below. each (suc k) (omega arith) (omega arith)) (omega arith)), ap (λ b. b ∷ take n xs) minus)

no_sign : (byte : ℕ) → IsInRange 48 57 byte → ((byte == 45) ≡ false) × ((byte == 43) ≡ false)
no_sign byte h = (different byte 45 (λ e. omega arith), different byte 43 (λ e. omega arith))

-- the digits of a number, behind its minus
pub numeral_of : (bytes : List ℕ) → IsNumber bytes → IsNumeral 10 (without_leading_sign bytes)
numeral_of [] (inl h) = absurd (omega (arith, h.0))
numeral_of (byte ∷ more) (inl h) =
    let signs : ((byte == 45) ≡ false) × ((byte == 43) ≡ false) = no_sign byte (digit_from_value byte h.1.0) in
    let same : without_leading_sign (byte ∷ more) ≡ byte ∷ more =
    ap (λ t. cond t (drop 1 (byte ∷ more)) (without_leading_plus (byte ∷ more))) signs.0 ∙ ap (λ t. drop (cond t 1 0) (byte ∷ more)) signs.1 in
    subst (IsNumeral 10) (sym same) h
numeral_of bytes (inr (digits, h, e)) = subst (IsNumeral 10) (sym (ap without_leading_sign e)) h

ascii_digits : (bytes : List ℕ) (i : ℕ) → AllDigits 10 bytes → get_or bytes i 0 < 128
ascii_digits [] i h = omega arith
ascii_digits (byte ∷ more) zero h = let range : IsInRange 48 57 byte = digit_from_value byte h.0 in omega arith
ascii_digits (byte ∷ more) (suc i) h = ascii_digits more i h.1

minus_ascii : (digits : List ℕ) (i : ℕ) → AllDigits 10 digits → get_or (45 ∷ digits) i 0 < 128
minus_ascii digits zero h = omega arith
minus_ascii digits (suc i) h = ascii_digits digits i h

pub number_ascii : (bytes : List ℕ) → IsNumber bytes → IsAscii bytes
number_ascii bytes (inl h) i = ascii_digits bytes i h.1
number_ascii bytes (inr (digits, h, e)) i = subst (λ b. get_or b i 0 < 128) (sym e) (minus_ascii digits i h.1)

digit_not_45 : (byte : ℕ) → byte ≡ 45 → is_ascii_digit byte ≡ false
digit_not_45 byte h = ap is_ascii_digit h

-- the number at the front, as far as digits go
pub minus_read : (xs : List ℕ) (n : ℕ) → BeginsNumber xs → get_or xs 0 0 ≡ 45 → 1 ≤ n → n ≤ length xs → ((k : ℕ) → 1 ≤ k → k < n → is_ascii_digit (get_or xs k 0) ≡ true)
    → (n < length xs → is_ascii_digit (get_or xs n 0) ≡ false) → IsNumber (take n xs)
minus_read xs n (inl begins) minus some within each longest = let no : is_ascii_digit (get_or xs 0 0) ≡ false = digit_not_45 (get_or xs 0 0) minus in absurd (true≢false (sym begins.1 ∙ no))
minus_read xs n (inr begins) minus some within each longest = elim (cases_lt 1 n) [
  | inl more ↦ minus_number xs n more within minus each
  | inr less ↦ let one : n ≡ 1 = omega arith in absurd (true≢false (sym begins.2 ∙ ap (λ k. is_ascii_digit (get_or xs k 0)) (sym one) ∙ longest (omega (arith, begins.0))))
]

pub plain_read : (xs : List ℕ) (n : ℕ) → BeginsNumber xs → get_or xs 0 0 ≢ 45 → n ≤ length xs → ((k : ℕ) → 0 ≤ k → k < n → is_ascii_digit (get_or xs k 0) ≡ true)
    → (n < length xs → is_ascii_digit (get_or xs n 0) ≡ false) → IsNumber (take n xs)
plain_read xs n (inr begins) plain within each longest = absurd (plain begins.1)
plain_read xs n (inl begins) plain within each longest = elim (cases_lt 0 n) [
  | inl more ↦ plain_number xs n more within (λ k below. each k (omega arith) below)
  | inr less ↦ let none : n ≡ 0 = omega arith in absurd (true≢false (sym begins.1 ∙ ap (λ k. is_ascii_digit (get_or xs k 0)) (sym none) ∙ longest (omega (arith, begins.0))))
]

-- a number within 64 bits fits the type
pub within_fits : (z : ℤ) → IsWithin64Bits z → SFits w64 z
within_fits (pos n) h = record { sfits = omega (arith, ints, h.1) }
within_fits (negsuc n) h = record { sfits = omega (arith, ints, h.0) }

out_of_range_by : {E : Type 0} (bytes : List ℕ) (r : Result ℤ E) → IsNumber bytes → ParsesSigned w64 10 bytes r → IfNone (result_ok r) (¬ IsWithin64Bits (signed_digits_value 10 bytes))
out_of_range_by bytes (Ok n) is parsed = tt
out_of_range_by bytes (Err e) is parsed = λ within. parsed (numeral_of bytes is, within_fits (signed_digits_value 10 bytes) within)

-- a number that isn't parsed is out of range
pub out_of_range : {E : Type 0} (bytes text : List ℕ) (r : Result ℤ E) (o : Option ℤ) → IsNumber bytes → text ≡ bytes → ParsesSigned w64 10 text r → o ≡ result_ok r
    → IfNone o (¬ IsWithin64Bits (signed_digits_value 10 bytes))
out_of_range bytes text r o is same parsed found =
    subst (λ x. IfNone x (¬ IsWithin64Bits (signed_digits_value 10 bytes))) (sym found) (out_of_range_by bytes r is (subst (λ t. ParsesSigned w64 10 t r) same parsed))
