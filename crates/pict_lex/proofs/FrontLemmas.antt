-- What may begin at the front of a text, by its first byte, and so how long the longest token there is.
use Rattle.std.proofs.Common.{◌≡◌, ◌≢◌, ℕ, zero, suc, ◌+◌, ◌<◌, ◌≤◌, ◌⊎◌, true, false, List, [], ◌∷◌, ◌++◌, length, take, drop, get_or, refl, sym, ◌∙◌, ap, subst, arith, inl, inr, true≢false}
use lib.IntN.{ℤ}
use Rattle.std.specs.Char.{digit_value, is_ascii_alphabetic, is_ascii_digit}
use Rattle.std.specs.Int.{IsInRange}
use Rattle.std.specs.Str.Parse.{AllDigits, signed_digits_value}
use Rattle.std.proofs.lemmas.Bool.{cases_lt}
use Rattle.std.proofs.lemmas.Bool.Decides.{nat_tests}
use Rattle.std.proofs.lemmas.List.{take-append-drop, length-append, length-take-le}
use Rattle.std.proofs.lemmas.Str.Parse.{digit_from_value}
use Rattle.pict_syntax.specs.declared.token.SymbolName.TheVariants.{Plus, Minus, Star, PlusDollar, EqualsEquals, LessLess, LessEquals, GreaterGreater, GreaterEquals}
use Rattle.pict_syntax.specs.declared.token.Keyword.{Keyword}
use Rattle.pict_syntax.specs.declared.token.Keyword.TheVariants.{And, Def, Else, False, If, Import, New, Rec, Run, Then, True, TypeDefinition, Val, BoolType, CharType, IntType, StringType, TopType, TypeKind}
use Rattle.pict_syntax.specs.declared.token.Sign.TheVariants.{Bang, Question, QuestionStar, Equals, Bar, OpenParen, CloseParen, OpenBracket, CloseBracket, Colon, Semicolon, Less, Greater, Backslash, Caret, Slash, Hash, Underscore, Arrow}
use Rattle.pict_syntax.specs.Tokens.{Form, identifier, symbol, keyword, number, character, string, sign, is_word_byte, IsWord, keyword_text, IsNumber, IsWithin64Bits, Spells}
use Rattle.pict_syntax.specs.Cuts.{IsLongest, IsWithinRange, BeginsNothing, IsNumberOutOfRange}
use Rattle.pict_syntax.proofs.FormLemmas.{digit_is_digit}
use Rattle.pict_lex.specs.declared.mark.Mark.{Mark}
use Rattle.pict_lex.specs.declared.mark.Mark.TheVariants.{Sign, Symbol}
use Rattle.pict_lex.specs.Mark.{mark_text, mark_form}
use Rattle.pict_lex.specs.Number.{BeginsNumber}
use Rattle.pict_lex.specs.Scan.{IsToken, IsOther}
use Rattle.pict_lex.proofs.RunLemmas.{all_at}

-- what begins with the first byte of a token
pub data Front (bytes : List ℕ) : Type 0 where
  is_word : IsWord bytes → Front bytes
  is_number : IsNumber bytes → Front bytes
  is_mark : (mark : Mark) → bytes ≡ mark_text mark → Front bytes
  is_literal : (quote : ℕ) (more : List ℕ) → bytes ≡ quote ∷ more → (quote ≡ 34) ⊎ (quote ≡ 39) → Front bytes

keyword_word : (k : Keyword) → IsWord (keyword_text k)
keyword_word And = (refl, (refl, (refl, tt)))
keyword_word Def = (refl, (refl, (refl, tt)))
keyword_word Else = (refl, (refl, (refl, (refl, tt))))
keyword_word False = (refl, (refl, (refl, (refl, (refl, tt)))))
keyword_word If = (refl, (refl, tt))
keyword_word Import = (refl, (refl, (refl, (refl, (refl, (refl, tt))))))
keyword_word New = (refl, (refl, (refl, tt)))
keyword_word Rec = (refl, (refl, (refl, tt)))
keyword_word Run = (refl, (refl, (refl, tt)))
keyword_word Then = (refl, (refl, (refl, (refl, tt))))
keyword_word True = (refl, (refl, (refl, (refl, tt))))
keyword_word TypeDefinition = (refl, (refl, (refl, (refl, tt))))
keyword_word Val = (refl, (refl, (refl, tt)))
keyword_word BoolType = (refl, (refl, (refl, (refl, tt))))
keyword_word CharType = (refl, (refl, (refl, (refl, tt))))
keyword_word IntType = (refl, (refl, (refl, tt)))
keyword_word StringType = (refl, (refl, (refl, (refl, (refl, (refl, tt))))))
keyword_word TopType = (refl, (refl, (refl, tt)))
keyword_word TypeKind = (refl, (refl, (refl, (refl, tt))))

pub sort_form : (bytes : List ℕ) (form : Form) → Spells bytes form → Front bytes
sort_form bytes (identifier text) h = is_word (subst IsWord (sym h.0) h.1)
sort_form bytes (keyword k) h = is_word (subst IsWord (sym h) (keyword_word k))
sort_form bytes (symbol s) h = is_mark (Symbol s) h
sort_form bytes (sign s) h = is_mark (Sign s) h
sort_form bytes (number n) h = is_number h.0
sort_form bytes (character v) (item, is, e, f) = is_literal 39 _ e (inr refl)
sort_form bytes (string v) (items, are, e, f) = is_literal 34 _ e (inl refl)

-- a mark begins with no letter and no digit, and has one byte or two
pub mark_facts : (mark : Mark) → (is_ascii_alphabetic (get_or (mark_text mark) 0 0) ≡ false) × (is_ascii_digit (get_or (mark_text mark) 0 0) ≡ false)
    × ((length (mark_text mark) ≡ 1) ⊎ (length (mark_text mark) ≡ 2))
mark_facts (Sign Bang) = (refl, refl, inl refl)
mark_facts (Sign Question) = (refl, refl, inl refl)
mark_facts (Sign QuestionStar) = (refl, refl, inr refl)
mark_facts (Sign Equals) = (refl, refl, inl refl)
mark_facts (Sign Bar) = (refl, refl, inl refl)
mark_facts (Sign OpenParen) = (refl, refl, inl refl)
mark_facts (Sign CloseParen) = (refl, refl, inl refl)
mark_facts (Sign OpenBracket) = (refl, refl, inl refl)
mark_facts (Sign CloseBracket) = (refl, refl, inl refl)
mark_facts (Sign Colon) = (refl, refl, inl refl)
mark_facts (Sign Semicolon) = (refl, refl, inl refl)
mark_facts (Sign Less) = (refl, refl, inl refl)
mark_facts (Sign Greater) = (refl, refl, inl refl)
mark_facts (Sign Backslash) = (refl, refl, inl refl)
mark_facts (Sign Caret) = (refl, refl, inl refl)
mark_facts (Sign Slash) = (refl, refl, inl refl)
mark_facts (Sign Hash) = (refl, refl, inl refl)
mark_facts (Sign Underscore) = (refl, refl, inl refl)
mark_facts (Sign Arrow) = (refl, refl, inr refl)
mark_facts (Symbol Plus) = (refl, refl, inl refl)
mark_facts (Symbol Minus) = (refl, refl, inl refl)
mark_facts (Symbol Star) = (refl, refl, inl refl)
mark_facts (Symbol PlusDollar) = (refl, refl, inr refl)
mark_facts (Symbol EqualsEquals) = (refl, refl, inr refl)
mark_facts (Symbol LessLess) = (refl, refl, inr refl)
mark_facts (Symbol LessEquals) = (refl, refl, inr refl)
mark_facts (Symbol GreaterGreater) = (refl, refl, inr refl)
mark_facts (Symbol GreaterEquals) = (refl, refl, inr refl)

mark_some : (mark : Mark) → 0 < length (mark_text mark)
mark_some mark = elim (mark_facts mark).2 [ inl e ↦ omega arith | inr e ↦ omega arith ]

mark_short : (mark : Mark) → length (mark_text mark) ≤ 2
mark_short mark = elim (mark_facts mark).2 [ inl e ↦ omega arith | inr e ↦ omega arith ]

at_front : (others more : List ℕ) (k : ℕ) → k < length others → get_or (others ++ more) k 0 ≡ get_or others k 0
at_front [] more k h = absurd (omega arith)
at_front (x ∷ others) more zero h = refl
at_front (x ∷ others) more (suc k) h = at_front others more k (omega arith)

front_at : (rest others more : List ℕ) (k : ℕ) → rest ≡ others ++ more → k < length others → get_or rest k 0 ≡ get_or others k 0
front_at rest others more k e h = ap (λ t. get_or t k 0) e ∙ at_front others more k h

word_some : (bytes : List ℕ) → IsWord bytes → (0 < length bytes) × (is_ascii_alphabetic (get_or bytes 0 0) ≡ true)
word_some [] h = absurd h
word_some (first ∷ more) h = (omega arith, h.0)

word_inside : (bytes : List ℕ) (k : ℕ) → IsWord bytes → 0 < k → k < length bytes → is_word_byte (get_or bytes k 0) ≡ true
word_inside [] k h some below = absurd h
word_inside (first ∷ more) zero h some below = absurd (omega arith)
word_inside (first ∷ more) (suc k) h some below = all_at (λ byte. is_word_byte byte ≡ true) more k (omega arith) h.1

digit_byte : (byte : ℕ) → digit_value byte < 10 → is_ascii_digit byte ≡ true
digit_byte byte h = let range : IsInRange 48 57 byte = digit_from_value byte h in digit_is_digit byte range

digit_at_place : (digits : List ℕ) (k : ℕ) → AllDigits 10 digits → k < length digits → is_ascii_digit (get_or digits k 0) ≡ true
digit_at_place [] k h below = absurd (omega arith)
digit_at_place (byte ∷ more) zero h below = digit_byte byte h.0
digit_at_place (byte ∷ more) (suc k) h below = digit_at_place more k h.1 (omega arith)

-- a number begins with a digit, or with a minus and a digit
number_begins : (bytes : List ℕ) → IsNumber bytes → BeginsNumber bytes
number_begins bytes (inl h) = inl (h.0, digit_at_place bytes 0 h.1 h.0)
number_begins bytes (inr (digits, h, e)) =
    let some : 0 < length digits = h.0 in
    let size : length bytes ≡ suc (length digits) = ap length e in
    inr (omega arith, ap (λ t. get_or t 0 0) e, ap (λ t. is_ascii_digit (get_or t 1 0)) e ∙ digit_at_place digits 0 h.1 h.0)

number_inside : (bytes : List ℕ) (k : ℕ) → IsNumber bytes → 0 < k → k < length bytes → is_ascii_digit (get_or bytes k 0) ≡ true
number_inside bytes k (inl h) some below = digit_at_place bytes k h.1 below
number_inside bytes zero (inr (digits, h, e)) some below = absurd (omega arith)
number_inside bytes (suc k) (inr (digits, h, e)) some below =
    let size : length bytes ≡ suc (length digits) = ap length e in
    ap (λ t. is_ascii_digit (get_or t (suc k) 0)) e ∙ digit_at_place digits k h.1 (omega arith)

begins_longer : (rest others more : List ℕ) → rest ≡ others ++ more → BeginsNumber others → BeginsNumber rest
begins_longer rest others more e (inl h) =
    let size : length rest ≡ length others + length more = ap length e ∙ length-append others more in
    let some : 0 < length others = h.0 in
    inl (omega arith, ap is_ascii_digit (front_at rest others more 0 e h.0) ∙ h.1)
begins_longer rest others more e (inr h) =
    let size : length rest ≡ length others + length more = ap length e ∙ length-append others more in
    let some : 1 < length others = h.0 in
    inr (omega arith, front_at rest others more 0 e (omega arith) ∙ h.1, ap is_ascii_digit (front_at rest others more 1 e h.0) ∙ h.2)

digit_no_letter : (byte : ℕ) → is_ascii_digit byte ≡ true → is_ascii_alphabetic byte ≡ false
digit_no_letter byte h = grind (arith, nat_tests)

number_no_letter : (rest : List ℕ) → BeginsNumber rest → is_ascii_alphabetic (get_or rest 0 0) ≡ false
number_no_letter rest (inl h) = digit_no_letter (get_or rest 0 0) h.1
number_no_letter rest (inr h) = ap is_ascii_alphabetic h.1

quote_no_letter : (quote : ℕ) → (quote ≡ 34) ⊎ (quote ≡ 39) → is_ascii_alphabetic quote ≡ false
quote_no_letter quote (inl e) = ap is_ascii_alphabetic e
quote_no_letter quote (inr e) = ap is_ascii_alphabetic e

-- the word at the front is the longest token
pub word_longest : (rest : List ℕ) (len : ℕ) → 0 < len → len ≤ length rest → is_ascii_alphabetic (get_or rest 0 0) ≡ true
    → (len < length rest → is_word_byte (get_or rest len 0) ≡ false) → IsLongest (take len rest) (drop len rest)
word_longest rest len some within letter longest others form spelled (more, e) =
    subst (λ n. length others ≤ n) (sym (length-take-le len rest within)) (by (sort_form others form spelled) (sym (take-append-drop len rest) ∙ e))
  where
    clash : (b : ℕ) → is_ascii_alphabetic b ≡ false → get_or rest 0 0 ≡ b → ⊥
    clash b other same = true≢false (sym letter ∙ ap is_ascii_alphabetic same ∙ other)

    short : IsWord others → rest ≡ others ++ more → length others ≤ len
    short word text = elim (cases_lt len (length others)) [
      | inl longer ↦ let size : length rest ≡ length others + length more = ap length text ∙ length-append others more in
          absurd (true≢false (sym (word_inside others len word some longer) ∙ ap is_word_byte (sym (front_at rest others more len text longer)) ∙ longest (omega arith)))
      | inr fits ↦ fits
    ]

    by : Front others → rest ≡ others ++ more → length others ≤ len
    by (is_word word) text = short word text
    by (is_number is) text = absurd (true≢false (sym letter ∙ number_no_letter rest (begins_longer rest others more text (number_begins others is))))
    by (is_mark mark same) text = absurd (clash (get_or (mark_text mark) 0 0) (mark_facts mark).0
        (front_at rest others more 0 text (subst (λ t. 0 < length t) (sym same) (mark_some mark)) ∙ ap (λ t. get_or t 0 0) same))
    by (is_literal quote behind same is) text = absurd (clash quote (quote_no_letter quote is) (ap (λ t. get_or t 0 0) text ∙ ap (λ t. get_or (t ++ more) 0 0) same))

pub word_token : (rest : List ℕ) (len : ℕ) (form : Form) → 0 < len → len ≤ length rest → is_ascii_alphabetic (get_or rest 0 0) ≡ true
    → (len < length rest → is_word_byte (get_or rest len 0) ≡ false) → Spells (take len rest) form → IsWithinRange form → IsToken rest form len
word_token rest len form some within letter longest spelled in_range =
    record { some = some; within = within; piece = (spelled, in_range, word_longest rest len some within letter longest) }

number_some : (bytes : List ℕ) → IsNumber bytes → 0 < length bytes
number_some bytes (inl h) = h.0
number_some bytes (inr (digits, h, e)) = let size : length bytes ≡ suc (length digits) = ap length e in omega arith

-- a number that begins with a minus has two bytes or more
minus_longer : (bytes : List ℕ) → IsNumber bytes → is_ascii_digit (get_or bytes 0 0) ≡ false → 2 ≤ length bytes
minus_longer bytes (inl h) plain = absurd (true≢false (sym (digit_at_place bytes 0 h.1 h.0) ∙ plain))
minus_longer bytes (inr (digits, h, e)) plain = let size : length bytes ≡ suc (length digits) = ap length e in let some : 0 < length digits = h.0 in omega arith

quote_no_number : (rest : List ℕ) (quote : ℕ) → (quote ≡ 34) ⊎ (quote ≡ 39) → get_or rest 0 0 ≡ quote → ¬ BeginsNumber rest
quote_no_number rest quote (inl e) same (inl h) = true≢false (sym h.1 ∙ ap is_ascii_digit (same ∙ e))
quote_no_number rest quote (inr e) same (inl h) = true≢false (sym h.1 ∙ ap is_ascii_digit (same ∙ e))
quote_no_number rest quote (inl e) same (inr h) = let other : ◌≡◌ {A = ℕ} 45 34 = sym h.1 ∙ same ∙ e in omega (arith, other)
quote_no_number rest quote (inr e) same (inr h) = let other : ◌≡◌ {A = ℕ} 45 39 = sym h.1 ∙ same ∙ e in omega (arith, other)

-- the number at the front is the longest token
pub number_longest : (rest : List ℕ) (len : ℕ) → BeginsNumber rest → len ≤ length rest → IsNumber (take len rest)
    → (len < length rest → is_ascii_digit (get_or rest len 0) ≡ false) → IsLongest (take len rest) (drop len rest)
number_longest rest len begins within is longest others form spelled (more, e) =
    by (sort_form others form spelled) (sym (take-append-drop len rest) ∙ e)
  where
    size : length (take len rest) ≡ len
    size = length-take-le len rest within

    some : 0 < length (take len rest)
    some = number_some (take len rest) is

    first : 0 < len → get_or rest 0 0 ≡ get_or (take len rest) 0 0
    first positive = front_at rest (take len rest) (drop len rest) 0 (sym (take-append-drop len rest)) some

    by : Front others → rest ≡ others ++ more → length others ≤ length (take len rest)
    by (is_word word) text = let w : (0 < length others) × (is_ascii_alphabetic (get_or others 0 0) ≡ true) = word_some others word in
        absurd (true≢false (sym w.1 ∙ ap is_ascii_alphabetic (sym (front_at rest others more 0 text w.0)) ∙ number_no_letter rest begins))
    by (is_number other) text = elim (cases_lt len (length others)) [
      | inl longer ↦ let all : length rest ≡ length others + length more = ap length text ∙ length-append others more in
          absurd (true≢false (sym (number_inside others len other (omega (arith, some, size)) longer) ∙ ap is_ascii_digit (sym (front_at rest others more len text longer)) ∙ longest (omega arith)))
      | inr fits ↦ omega (arith, fits, size)
    ]
    by (is_mark mark same) text =
        let same_first : get_or rest 0 0 ≡ get_or (mark_text mark) 0 0 = front_at rest others more 0 text (subst (λ t. 0 < length t) (sym same) (mark_some mark)) ∙ ap (λ t. get_or t 0 0) same in
        let plain : is_ascii_digit (get_or (take len rest) 0 0) ≡ false = ap is_ascii_digit (sym (first (omega (arith, some, size))) ∙ same_first) ∙ (mark_facts mark).1 in
        let short : length others ≤ 2 = subst (λ t. length t ≤ 2) (sym same) (mark_short mark) in
        omega (arith, short, minus_longer (take len rest) is plain)
    by (is_literal quote behind same quoted) text = absurd (quote_no_number rest quote quoted (ap (λ t. get_or t 0 0) text ∙ ap (λ t. get_or (t ++ more) 0 0) same) begins)

pub number_token : (rest : List ℕ) (len : ℕ) (n : ℤ) → BeginsNumber rest → len ≤ length rest → IsNumber (take len rest)
    → (len < length rest → is_ascii_digit (get_or rest len 0) ≡ false) → n ≡ signed_digits_value 10 (take len rest) → IsWithin64Bits n → IsToken rest (number n) len
number_token rest len n begins within is longest value in_range =
    let size : length (take len rest) ≡ len = length-take-le len rest within in
    let some : 0 < length (take len rest) = number_some (take len rest) is in
    record { some = omega arith; within = within; piece = ((is, value), in_range, number_longest rest len begins within is longest) }

pub number_out : (rest : List ℕ) (len : ℕ) → BeginsNumber rest → len ≤ length rest → IsNumber (take len rest)
    → (len < length rest → is_ascii_digit (get_or rest len 0) ≡ false) → ¬ IsWithin64Bits (signed_digits_value 10 (take len rest)) → IsNumberOutOfRange rest
number_out rest len begins within is longest out =
    record {
      bytes = take len rest;
      after = drop len rest;
      value = signed_digits_value 10 (take len rest);
      is = sym (take-append-drop len rest);
      spelled = (is, refl);
      longest = number_longest rest len begins within is longest;
      out_of_range = out;
    }

two_list : (xs : List ℕ) → length xs ≡ 2 → xs ≡ get_or xs 0 0 ∷ get_or xs 1 0 ∷ []
two_list [] h = absurd (omega arith)
two_list (x ∷ []) h = absurd (omega arith)
two_list (x ∷ y ∷ []) h = refl
two_list (x ∷ y ∷ z ∷ xs) h = absurd (omega arith)

one_list : (xs : List ℕ) → length xs ≡ 1 → xs ≡ get_or xs 0 0 ∷ []
one_list [] h = absurd (omega arith)
one_list (x ∷ []) h = refl
one_list (x ∷ y ∷ xs) h = absurd (omega arith)

-- no sign or symbol name of two bytes begins here
abbrev pub NoTwo : List ℕ → Type 0
NoTwo rest = (mark : Mark) → 1 < length rest → mark_text mark ≢ get_or rest 0 0 ∷ get_or rest 1 0 ∷ []

-- where nothing else begins, a token is a sign or symbol name
only_marks : (rest others more : List ℕ) → IsOther rest → Front others → rest ≡ others ++ more → (mark : Mark) × (others ≡ mark_text mark)
only_marks rest others more other (is_word word) text = let w : (0 < length others) × (is_ascii_alphabetic (get_or others 0 0) ≡ true) = word_some others word in
    absurd (true≢false (sym w.1 ∙ ap is_ascii_alphabetic (sym (front_at rest others more 0 text w.0)) ∙ other.no_letter))
only_marks rest others more other (is_number is) text = absurd (other.no_number (begins_longer rest others more text (number_begins others is)))
only_marks rest others more other (is_mark mark same) text = (mark, same)
only_marks rest others more other (is_literal quote behind same (inl e)) text = absurd (other.no_quote.0 (ap (λ t. get_or t 0 0) text ∙ ap (λ t. get_or (t ++ more) 0 0) same ∙ e))
only_marks rest others more other (is_literal quote behind same (inr e)) text = absurd (other.no_quote.1 (ap (λ t. get_or t 0 0) text ∙ ap (λ t. get_or (t ++ more) 0 0) same ∙ e))

mark_one : (rest others more : List ℕ) (mark : Mark) → NoTwo rest → rest ≡ others ++ more → others ≡ mark_text mark → length others ≡ 1
mark_one rest others more mark none text same = elim (mark_facts mark).2 [
  | inl one ↦ ap length same ∙ one
  | inr two ↦
      let len : length others ≡ 2 = ap length same ∙ two in
      let size : length rest ≡ length others + length more = ap length text ∙ length-append others more in
      absurd (none mark (omega arith) (sym same ∙ two_list others len
      ∙ ap (λ b. b ∷ get_or others 1 0 ∷ []) (sym (front_at rest others more 0 text (omega arith)))
      ∙ ap (λ b. get_or rest 0 0 ∷ b ∷ []) (sym (front_at rest others more 1 text (omega arith)))))
]

-- the one byte of a sign or symbol name
pub mark_token : (rest : List ℕ) (mark : Mark) → IsOther rest → NoTwo rest → mark_text mark ≡ get_or rest 0 0 ∷ [] → IsToken rest (mark_form mark) 1
mark_token rest mark other none same =
    let positive : 0 < length rest = other.some in
    let size : length (take 1 rest) ≡ 1 = length-take-le 1 rest (omega arith) in
    let taken : take 1 rest ≡ get_or rest 0 0 ∷ [] = one_list (take 1 rest) size ∙ ap (λ b. b ∷ []) (sym (front_at rest (take 1 rest) (drop 1 rest) 0 (sym (take-append-drop 1 rest)) (omega arith))) in
    record {
      some = omega arith;
      within = omega arith;
      piece = (
        spells mark (taken ∙ sym same),
        in_range mark,
        λ others form spelled begins.
            let text : rest ≡ others ++ begins.0 = sym (take-append-drop 1 rest) ∙ begins.1 in
            let found : (m : Mark) × (others ≡ mark_text m) = only_marks rest others begins.0 other (sort_form others form spelled) text in
            let one : length others ≡ 1 = mark_one rest others begins.0 found.0 none text found.1 in omega arith,
      );
    }
  where
    spells : (m : Mark) → take 1 rest ≡ mark_text m → Spells (take 1 rest) (mark_form m)
    spells (Sign s) e = e
    spells (Symbol s) e = e

    in_range : (m : Mark) → IsWithinRange (mark_form m)
    in_range (Sign s) = tt
    in_range (Symbol s) = tt

first_is : (rest : List ℕ) → 0 < length rest → rest ≡ get_or rest 0 0 ∷ drop 1 rest
first_is [] h = absurd (omega arith)
first_is (x ∷ xs) h = refl

-- nothing begins here
pub nothing_begins : (rest : List ℕ) → IsOther rest → NoTwo rest → ((mark : Mark) → mark_text mark ≢ get_or rest 0 0 ∷ []) → BeginsNothing rest
nothing_begins rest other none no_one =
    record {
      first = get_or rest 0 0;
      more = drop 1 rest;
      is = first_is rest other.some;
      no_blank = other.no_blank;
      no_literal = other.no_quote;
      no_comment = other.no_comment;
      no_token = λ bytes form spelled begins.
          let found : (m : Mark) × (bytes ≡ mark_text m) = only_marks rest bytes begins.0 other (sort_form bytes form spelled) begins.1 in
          let one : length bytes ≡ 1 = mark_one rest bytes begins.0 found.0 none begins.1 found.1 in
          no_one found.0 (sym found.1 ∙ one_list bytes one ∙ ap (λ b. b ∷ []) (sym (front_at rest bytes begins.0 0 begins.1 (omega arith))));
    }
