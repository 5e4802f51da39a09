-- Words and numbers at the front of a text: the longest is a token, or it is a number out of range.
use Rattle.std.proofs.Common.{◌≡◌, ◌≢◌, ℕ, zero, suc, ◌<◌, ◌≤◌, Bool, true, false, ◌⊎◌, inl, inr, List, [], ◌∷◌, length, take, drop, get_or, Some, refl, sym, ◌∙◌, arith, true≢false}
use lib.IntN.{ℤ, pos, negsuc}
use Rattle.std.specs.Prelude.{◌-◌, ◌^◌}
use Rattle.std.specs.Char.{is_ascii_alphabetic, is_ascii_digit}
use Rattle.std.specs.Int.Signed.{clash_ℤ}
use Rattle.std.specs.Str.Parse.{signed_digits_value}
use Rattle.std.proofs.lemmas.Bool.{cases_Bool}
use Rattle.std.proofs.lemmas.Int.{by_lt_z}
use Rattle.std.proofs.lemmas.List.{take-append-drop}
use Rattle.pict_syntax.specs.declared.code.Code.TheVariants.{L4}
use Rattle.pict_syntax.specs.declared.token.Keyword.{Keyword}
use Rattle.pict_syntax.specs.declared.token.Keyword.TheVariants.{And, Def, Else, False, If, Import, New, Rec, Run, Then, True, TypeDefinition, Val, BoolType, CharType, IntType, StringType, TopType, TypeKind}
use Rattle.pict_syntax.specs.Tokens.{Form, identifier, keyword, number, is_word_byte, IsWord, keyword_text, IsNumber, IsWithin64Bits}
use Rattle.pict_syntax.specs.Cuts.{token}
use Rattle.pict_syntax.proofs.CutLemmas.{Outcome, piece, stop, IsOutcome}
use Rattle.pict_lex.specs.Number.{BeginsNumber}
use Rattle.pict_lex.specs.Scan.{IsToken}
use Rattle.pict_lex.proofs.RunLemmas.{word_taken}
use Rattle.pict_lex.proofs.NumberLemmas.{minus_read, plain_read}
use Rattle.pict_lex.proofs.FrontLemmas.{word_token, number_token, number_out}
use Rattle.pict_total.proofs.Choices.{same_or_not, find, one_or_none}

-- reading goes on here, or stops
abbrev pub HasOutcome : List ℕ → Type 0
HasOutcome rest = (o : Outcome) × IsOutcome rest o

-- with a token
pub of_token : (rest : List ℕ) (form : Form) (len : ℕ) → IsToken rest form len → HasOutcome rest
of_token rest form len h = (piece (token (take len rest) form) (drop len rest), (sym (take-append-drop len rest), h.piece))

-- how many bytes at the front pass a test
record Passes (test : ℕ → Bool) (xs : List ℕ) : Type 0 where
  size : ℕ
  within : size ≤ length xs
  each : (k : ℕ) → k < size → test (get_or xs k 0) ≡ true
  ends : size < length xs → test (get_or xs size 0) ≡ false

one_more : (test : ℕ → Bool) (x : ℕ) (xs : List ℕ) → test x ≡ true → Passes test xs → Passes test (x ∷ xs)
one_more test x xs passed r = record { size = suc r.size; within = (let h = r.within in omega arith); each = each; ends = λ h. r.ends (omega arith) }
  where
    each : (k : ℕ) → k < suc r.size → test (get_or (x ∷ xs) k 0) ≡ true
    each zero h = passed
    each (suc k) h = r.each k (omega arith)

passes : (test : ℕ → Bool) (xs : List ℕ) → Passes test xs
passes test [] = record { size = 0; within = omega arith; each = λ k h. absurd (omega arith); ends = λ h. absurd (omega arith) }
passes test (x ∷ xs) = elim (cases_Bool (test x)) [
  | inl passed ↦ one_more test x xs passed (passes test xs)
  | inr failed ↦ record { size = 0; within = omega arith; each = λ k h. absurd (omega arith); ends = λ h. failed }
]

abbrev keywords : List Keyword
keywords = And ∷ Def ∷ Else ∷ False ∷ If ∷ Import ∷ New ∷ Rec ∷ Run ∷ Then ∷ True ∷ TypeDefinition ∷ Val ∷ BoolType ∷ CharType ∷ IntType ∷ StringType ∷ TopType ∷ TypeKind ∷ []

keyword_back : (k : Keyword) → find keyword_text keywords (keyword_text k) ≡ Some k
keyword_back k = elim k as (λ k. find keyword_text keywords (keyword_text k) ≡ Some k) [ And ↦ refl | Def ↦ refl | Else ↦ refl | False ↦ refl | If ↦ refl | Import ↦ refl | New ↦ refl | Rec ↦ refl | Run ↦ refl | Then ↦ refl | True ↦ refl | TypeDefinition ↦ refl | Val ↦ refl | BoolType ↦ refl | CharType ↦ refl | IntType ↦ refl | StringType ↦ refl | TopType ↦ refl | TypeKind ↦ refl ]

word_form : (rest : List ℕ) (len : ℕ) → 0 < len → len ≤ length rest → is_ascii_alphabetic (get_or rest 0 0) ≡ true → (len < length rest → is_word_byte (get_or rest len 0) ≡ false)
    → IsWord (take len rest) → HasOutcome rest
word_form rest len some within letter ends word = elim (one_or_none keyword_text keywords keyword_back (take len rest)) [
  | inl k ↦ of_token rest (keyword k.0) len (word_token rest len (keyword k.0) some within letter ends k.1 tt)
  | inr none ↦ of_token rest (identifier (take len rest)) len (word_token rest len (identifier (take len rest)) some within letter ends (refl, word, none) tt)
]

-- a letter begins a word
pub at_letter : (x : ℕ) (xs : List ℕ) → is_ascii_alphabetic x ≡ true → HasOutcome (x ∷ xs)
at_letter x xs letter = by (passes is_word_byte xs)
  where
    by : Passes is_word_byte xs → HasOutcome (x ∷ xs)
    by run = word_form (x ∷ xs) (suc run.size) (omega arith) (let h = run.within in omega arith) letter (λ h. run.ends (omega arith))
        (word_taken (x ∷ xs) (suc run.size) (omega arith) (let h = run.within in omega arith) letter (inside run))
      where
        inside : (run : Passes is_word_byte xs) (k : ℕ) → 0 < k → k < suc run.size → is_word_byte (get_or (x ∷ xs) k 0) ≡ true
        inside run zero some below = absurd (omega arith)
        inside run (suc k) some below = run.each k (omega arith)

-- a number is within 64 bits or not
within_or_not : (z : ℤ) → IsWithin64Bits z ⊎ ¬ IsWithin64Bits z
within_or_not z =
    by_lt_z z (negsuc (2 ^ 63 - 1)) (λ low. inr (λ h. clash_ℤ low h.0))
    (λ above. by_lt_z (pos (2 ^ 63 - 1)) z (λ high. inr (λ h. clash_ℤ high h.1)) (λ below. inl (above, below)))

number_by : (rest : List ℕ) (len : ℕ) → BeginsNumber rest → len ≤ length rest → IsNumber (take len rest) → (len < length rest → is_ascii_digit (get_or rest len 0) ≡ false) → HasOutcome rest
number_by rest len begins within is ends = elim (within_or_not (signed_digits_value 10 (take len rest))) [
  | inl fits ↦ of_token rest (number (signed_digits_value 10 (take len rest))) len (number_token rest len (signed_digits_value 10 (take len rest)) begins within is ends refl fits)
  | inr out ↦ (stop L4 0, (number_out rest len begins within is ends out, refl))
]

-- a number begins here
pub at_number : (rest : List ℕ) → BeginsNumber rest → HasOutcome rest
at_number [] begins = absurd (none begins)
  where
    none : ¬ BeginsNumber []
    none (inl h) = omega (arith, h.0)
    none (inr h) = omega (arith, h.0)
at_number (x ∷ xs) begins = by (same_or_not x 45)
  where
    minus : Passes is_ascii_digit xs → x ≡ 45 → HasOutcome (x ∷ xs)
    minus run e = number_by (x ∷ xs) (suc run.size) begins (let h = run.within in omega arith)
        (minus_read (x ∷ xs) (suc run.size) begins e (omega arith) (let h = run.within in omega arith) (inside run) (λ h. run.ends (omega arith)))
        (λ h. run.ends (omega arith))
      where
        inside : (run : Passes is_ascii_digit xs) (k : ℕ) → 1 ≤ k → k < suc run.size → is_ascii_digit (get_or (x ∷ xs) k 0) ≡ true
        inside run zero some below = absurd (omega arith)
        inside run (suc k) some below = run.each k (omega arith)

    plain : Passes is_ascii_digit (x ∷ xs) → x ≢ 45 → HasOutcome (x ∷ xs)
    plain run other = number_by (x ∷ xs) run.size begins run.within (plain_read (x ∷ xs) run.size begins other run.within (λ k some below. run.each k below) run.ends) run.ends

    by : (x ≡ 45) ⊎ (x ≢ 45) → HasOutcome (x ∷ xs)
    by (inl e) = minus (passes is_ascii_digit xs) e
    by (inr other) = plain (passes is_ascii_digit (x ∷ xs)) other

digit_or_not : (byte : ℕ) → (is_ascii_digit byte ≡ true) ⊎ (is_ascii_digit byte ≡ false)
digit_or_not byte = cases_Bool (is_ascii_digit byte)

-- whether a number begins here
pub number_or_not : (rest : List ℕ) → BeginsNumber rest ⊎ ¬ BeginsNumber rest
number_or_not [] = inr (λ h. elim h [ inl d ↦ omega (arith, d.0) | inr m ↦ omega (arith, m.0) ])
number_or_not (x ∷ []) = elim (digit_or_not x) [
  | inl passed ↦ inl (inl (omega arith, passed))
  | inr failed ↦ inr (λ h. elim h [ inl d ↦ true≢false (sym d.1 ∙ failed) | inr m ↦ omega (arith, m.0) ])
]
number_or_not (x ∷ y ∷ xs) = elim (digit_or_not x) [
  | inl passed ↦ inl (inl (omega arith, passed))
  | inr failed ↦ elim (same_or_not x 45) [
    | inl minus ↦ elim (digit_or_not y) [
      | inl digit ↦ inl (inr (omega arith, minus, digit))
      | inr other ↦ inr (λ h. elim h [ inl d ↦ true≢false (sym d.1 ∙ failed) | inr m ↦ true≢false (sym m.2 ∙ other) ])
    ]
    | inr plain ↦ inr (λ h. elim h [ inl d ↦ true≢false (sym d.1 ∙ failed) | inr m ↦ plain m.1 ])
  ]
]
