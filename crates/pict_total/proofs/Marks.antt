-- Signs and symbol names at the front of a text, where nothing else begins there.
use Rattle.std.proofs.Common.{◌≡◌, ◌≢◌, ℕ, ◌≤◌, ◌⊎◌, Bool, true, false, ◌==◌, if◌then◌else◌, inl, inr, List, [], ◌∷◌, ◌++◌, length, Some, refl, sym, ◌∙◌, ap, subst, arith}
use Rattle.std.specs.Char.{is_ascii_alphabetic, is_ascii_digit}
use Rattle.pict_syntax.specs.declared.code.Code.TheVariants.{L1}
use Rattle.pict_syntax.specs.declared.token.SymbolName.{SymbolName}
use Rattle.pict_syntax.specs.declared.token.SymbolName.TheVariants.{Plus, Minus, Star, PlusDollar, EqualsEquals, LessLess, LessEquals, GreaterGreater, GreaterEquals}
use Rattle.pict_syntax.specs.declared.token.Sign.{Sign}
use Rattle.pict_syntax.specs.declared.token.Sign.TheVariants.{Bang, Question, QuestionStar, Equals, Bar, OpenParen, CloseParen, OpenBracket, CloseBracket, Colon, Semicolon, Less, Greater, Backslash, Caret, Slash, Hash, Underscore, Arrow}
use Rattle.pict_syntax.specs.Tokens.{Form, identifier, symbol, keyword, number, character, string, sign, symbol_text, sign_text, Spells}
use Rattle.pict_syntax.specs.Comments.{BeginsWith, opening}
use Rattle.pict_syntax.specs.Cuts.{token, IsLongest, IsWithinRange, IsBlank}
use Rattle.pict_syntax.proofs.FormLemmas.{family, family_of, other, none, family_spelled, first_byte, never_empty, never_none}
use Rattle.pict_syntax.proofs.ItemLemmas.{different}
use Rattle.pict_syntax.proofs.CutLemmas.{piece, stop}
use Rattle.pict_total.proofs.Choices.{same_or_not, find, one_or_none}
use Rattle.pict_total.proofs.Words.{HasOutcome}

abbrev symbols : List SymbolName
symbols = Plus ∷ Minus ∷ Star ∷ PlusDollar ∷ EqualsEquals ∷ LessLess ∷ LessEquals ∷ GreaterGreater ∷ GreaterEquals ∷ []

abbrev signs : List Sign
signs = Bang ∷ Question ∷ QuestionStar ∷ Equals ∷ Bar ∷ OpenParen ∷ CloseParen ∷ OpenBracket ∷ CloseBracket ∷ Colon ∷ Semicolon ∷ Less ∷ Greater ∷ Backslash ∷ Caret ∷ Slash ∷ Hash ∷ Underscore ∷ Arrow ∷ []

symbol_back : (s : SymbolName) → find symbol_text symbols (symbol_text s) ≡ Some s
symbol_back s = elim s as (λ s. find symbol_text symbols (symbol_text s) ≡ Some s) [ Plus ↦ refl | Minus ↦ refl | Star ↦ refl | PlusDollar ↦ refl | EqualsEquals ↦ refl | LessLess ↦ refl | LessEquals ↦ refl | GreaterGreater ↦ refl | GreaterEquals ↦ refl ]

sign_back : (s : Sign) → find sign_text signs (sign_text s) ≡ Some s
sign_back s = elim s as (λ s. find sign_text signs (sign_text s) ≡ Some s) [ Bang ↦ refl | Question ↦ refl | QuestionStar ↦ refl | Equals ↦ refl | Bar ↦ refl | OpenParen ↦ refl | CloseParen ↦ refl | OpenBracket ↦ refl | CloseBracket ↦ refl | Colon ↦ refl | Semicolon ↦ refl | Less ↦ refl | Greater ↦ refl | Backslash ↦ refl | Caret ↦ refl | Slash ↦ refl | Hash ↦ refl | Underscore ↦ refl | Arrow ↦ refl ]

-- a sign or a symbol name
data IsMark : Form → Type 0 where
  is_symbol : (s : SymbolName) → IsMark (symbol s)
  is_sign : (s : Sign) → IsMark (sign s)

-- the bytes are one
record Marks (bytes : List ℕ) : Type 0 where
  form : Form
  is : IsMark form
  spelled : Spells bytes form

abbrev NoMark : List ℕ → Type 0
NoMark bytes = (form : Form) → IsMark form → ¬ Spells bytes form

mark_or_not : (bytes : List ℕ) → Marks bytes ⊎ NoMark bytes
mark_or_not bytes = elim (one_or_none symbol_text symbols symbol_back bytes) [
  | inl s ↦ inl (record { form = symbol s.0; is = is_symbol s.0; spelled = s.1 })
  | inr no_symbol ↦ elim (one_or_none sign_text signs sign_back bytes) [
    | inl s ↦ inl (record { form = sign s.0; is = is_sign s.0; spelled = s.1 })
    | inr no_sign ↦ inr (λ form is. neither no_symbol no_sign form is)
  ]
]
  where
    neither : ((s : SymbolName) → bytes ≢ symbol_text s) → ((s : Sign) → bytes ≢ sign_text s) → (form : Form) → IsMark form → ¬ Spells bytes form
    neither f g form (is_symbol s) e = f s e
    neither f g form (is_sign s) e = g s e

mark_in_range : (form : Form) → IsMark form → IsWithinRange form
mark_in_range form (is_symbol s) = tt
mark_in_range form (is_sign s) = tt

mark_other : (form : Form) → IsMark form → family_of form ≡ other
mark_other form (is_symbol s) = refl
mark_other form (is_sign s) = refl

other_mark : (form : Form) → family_of form ≡ other → IsMark form
other_mark (symbol s) e = is_symbol s
other_mark (sign s) e = is_sign s
other_mark (identifier t) e = cc
other_mark (keyword k) e = cc
other_mark (number n) e = cc
other_mark (character v) e = cc
other_mark (string v) e = cc

symbol_short : (s : SymbolName) → length (symbol_text s) ≤ 2
symbol_short s = elim s as (λ s. length (symbol_text s) ≤ 2) [ Plus ↦ omega arith | Minus ↦ omega arith | Star ↦ omega arith | PlusDollar ↦ omega arith | EqualsEquals ↦ omega arith | LessLess ↦ omega arith | LessEquals ↦ omega arith | GreaterGreater ↦ omega arith | GreaterEquals ↦ omega arith ]

sign_short : (s : Sign) → length (sign_text s) ≤ 2
sign_short s = elim s as (λ s. length (sign_text s) ≤ 2) [ Bang ↦ omega arith | Question ↦ omega arith | QuestionStar ↦ omega arith | Equals ↦ omega arith | Bar ↦ omega arith | OpenParen ↦ omega arith | CloseParen ↦ omega arith | OpenBracket ↦ omega arith | CloseBracket ↦ omega arith | Colon ↦ omega arith | Semicolon ↦ omega arith | Less ↦ omega arith | Greater ↦ omega arith | Backslash ↦ omega arith | Caret ↦ omega arith | Slash ↦ omega arith | Hash ↦ omega arith | Underscore ↦ omega arith | Arrow ↦ omega arith ]

mark_short : (bytes : List ℕ) (form : Form) → IsMark form → Spells bytes form → length bytes ≤ 2
mark_short bytes form (is_symbol s) e = subst (λ t. length t ≤ 2) (sym e) (symbol_short s)
mark_short bytes form (is_sign s) e = subst (λ t. length t ≤ 2) (sym e) (sign_short s)

-- no other token begins with this byte, with these behind it
pub record OnlyMarks (first : ℕ) (more : List ℕ) : Type 0 where
  pub no_letter : is_ascii_alphabetic first ≡ false
  pub no_digit : is_ascii_digit first ≡ false
  pub no_quote : (first ≢ 34) × (first ≢ 39)
  pub no_number : first ≡ 45 → (digit : ℕ) (others : List ℕ) → more ≡ digit ∷ others → is_ascii_digit digit ≡ false

family_minus : (bytes : List ℕ) → ((digit : ℕ) (others : List ℕ) → bytes ≡ digit ∷ others → is_ascii_digit digit ≡ false) → family (45 ∷ bytes) ≡ other
family_minus [] h = refl
family_minus (byte ∷ bytes) h = rw (h byte bytes refl) refl

none_or_other : (b : Bool) → ((if b then none else other) ≡ other) ⊎ ((if b then none else other) ≡ none)
none_or_other true = inr refl
none_or_other false = inl refl

family_no_minus : (first : ℕ) (bytes : List ℕ) → (first == 34) ≡ false → (first == 39) ≡ false → (first == 45) ≡ false → is_ascii_alphabetic first ≡ false → is_ascii_digit first ≡ false
    → (family (first ∷ bytes) ≡ other) ⊎ (family (first ∷ bytes) ≡ none)
family_no_minus first bytes a b c d e = rw (a, b, c, d, e) (none_or_other _)

-- so a token that begins there is one
only_marks : (first : ℕ) (more bytes after : List ℕ) (form : Form) → OnlyMarks first more → Spells bytes form → first ∷ more ≡ bytes ++ after → IsMark form
only_marks first more bytes after form only spelled e = by (first_byte bytes after form first more spelled e)
  where
    by : (others : List ℕ) × (bytes ≡ first ∷ others) → IsMark form
    by (others, f) = at_place (same_or_not first 45)
      where
        told : family (first ∷ others) ≡ family_of form
        told = ap family (sym f) ∙ family_spelled bytes form spelled

        tail : more ≡ others ++ after
        tail = let g : first ∷ more ≡ first ∷ (others ++ after) = e ∙ ap (λ t. t ++ after) f in cc

        at_place : (first ≡ 45) ⊎ (first ≢ 45) → IsMark form
        at_place (inl minus) = other_mark form (sym told ∙ ap (λ b. family (b ∷ others)) minus
            ∙ family_minus others (λ digit rest g. only.no_number minus digit (rest ++ after) (tail ∙ ap (λ t. t ++ after) g)))
        at_place (inr plain) = elim (family_no_minus first others (different first 34 only.no_quote.0) (different first 39 only.no_quote.1) (different first 45 plain) only.no_letter only.no_digit) [
          | inl h ↦ other_mark form (sym told ∙ h)
          | inr h ↦ absurd (never_none bytes form spelled (ap family f ∙ h))
        ]

-- where no sign or symbol name of two bytes begins, a token has one
one_byte : (first : ℕ) (more bytes after : List ℕ) (form : Form) → OnlyMarks first more → ((second : ℕ) (others : List ℕ) → more ≡ second ∷ others → NoMark (first ∷ second ∷ []))
    → Spells bytes form → first ∷ more ≡ bytes ++ after → bytes ≡ first ∷ []
one_byte first more [] after form only no_two spelled e = absurd (never_empty form spelled)
one_byte first more (a ∷ []) after form only no_two spelled e = let same : a ≡ first = cc in ap (λ b. b ∷ []) same
one_byte first more (a ∷ b ∷ []) after form only no_two spelled e =
    let same : a ≡ first = cc in
    let tail : more ≡ b ∷ after = cc in
    absurd (no_two b after tail form (only_marks first more (a ∷ b ∷ []) after form only spelled e) (subst (λ c. Spells (c ∷ b ∷ []) form) same spelled))
one_byte first more (a ∷ b ∷ c ∷ bytes) after form only no_two spelled e =
    let short : length (a ∷ b ∷ c ∷ bytes) ≤ 2 = mark_short (a ∷ b ∷ c ∷ bytes) form (only_marks first more (a ∷ b ∷ c ∷ bytes) after form only spelled e) spelled in
    absurd (omega arith)

mark_piece : (bytes after : List ℕ) → Marks bytes → IsLongest bytes after → HasOutcome (bytes ++ after)
mark_piece bytes after m longest = (piece (token bytes m.form) after, (refl, (m.spelled, mark_in_range m.form m.is, longest)))

at_two : (first second : ℕ) (more : List ℕ) → OnlyMarks first (second ∷ more) → Marks (first ∷ second ∷ []) → HasOutcome (first ∷ second ∷ more)
at_two first second more only m =
    mark_piece (first ∷ second ∷ []) more m (λ bytes form spelled begins. mark_short bytes form (only_marks first (second ∷ more) bytes begins.0 form only spelled begins.1) spelled)

at_one : (first : ℕ) (more : List ℕ) → OnlyMarks first more → ((second : ℕ) (others : List ℕ) → more ≡ second ∷ others → NoMark (first ∷ second ∷ []))
    → ¬ IsBlank first → ¬ BeginsWith opening (first ∷ more) → HasOutcome (first ∷ more)
at_one first more only no_two no_blank no_comment = by (mark_or_not (first ∷ []))
  where
    by : Marks (first ∷ []) ⊎ NoMark (first ∷ []) → HasOutcome (first ∷ more)
    by (inl m) = mark_piece (first ∷ []) more m (λ bytes form spelled begins. let size : length bytes ≡ 1 = ap length (one_byte first more bytes begins.0 form only no_two spelled begins.1) in omega arith)
    by (inr no_mark) = (
      stop L1 0,
      inl (
        record {
          first = first;
          more = more;
          is = refl;
          no_blank = no_blank;
          no_literal = only.no_quote;
          no_comment = no_comment;
          no_token = λ bytes form spelled begins.
              no_mark form (only_marks first more bytes begins.0 form only spelled begins.1) (subst (λ b. Spells b form) (one_byte first more bytes begins.0 form only no_two spelled begins.1) spelled);
        },
        refl,
      ),
    )

-- a sign or symbol name, or nothing
pub at_mark : (first : ℕ) (more : List ℕ) → OnlyMarks first more → ¬ IsBlank first → ¬ BeginsWith opening (first ∷ more) → HasOutcome (first ∷ more)
at_mark first [] only no_blank no_comment = at_one first [] only (λ second others e. cc) no_blank no_comment
at_mark first (second ∷ more) only no_blank no_comment = elim (mark_or_not (first ∷ second ∷ [])) [
  | inl m ↦ at_two first second more only m
  | inr no_two ↦ at_one first (second ∷ more) only (λ b others e. let same : second ≡ b = cc in subst (λ c. NoMark (first ∷ c ∷ [])) same no_two) no_blank no_comment
]
