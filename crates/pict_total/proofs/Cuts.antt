-- Reading a text from left to right: at each place it goes on by one piece or stops, so it comes to the end or to a stop.
use Rattle.std.proofs.Common.{◌≡◌, ◌≢◌, ℕ, zero, suc, ◌+◌, ◌<◌, ◌≤◌, ◌⊎◌, true, false, inl, inr, List, [], ◌∷◌, ◌++◌, length, drop, get_or, Option, Some, None, refl, sym, ◌∙◌, ap, subst, arith, append_assoc}
use Rattle.std.specs.Char.{is_ascii_alphabetic, is_ascii_digit}
use Rattle.std.proofs.lemmas.Bool.{cases_Bool}
use Rattle.std.proofs.lemmas.List.{length-append}
use Rattle.pict_syntax.specs.declared.code.Code.{Code}
use Rattle.pict_syntax.specs.declared.code.Code.TheVariants.{L5}
use Rattle.pict_syntax.specs.declared.span.Span.{Span}
use Rattle.pict_syntax.specs.Comments.{BeginsWith, opening, closing, inside_bytes, IsComment}
use Rattle.pict_syntax.specs.Cuts.{Piece, blank, comment, token, piece_bytes, IsBlank, IsPiece, joined_pieces, IsCut, IsWholeCut, Stops, extent, IsLexStop}
use Rattle.pict_syntax.proofs.CommentLemmas.{behind, behind_comment, comment_found}
use Rattle.pict_syntax.proofs.FormLemmas.{never_empty}
use Rattle.pict_syntax.proofs.CutLemmas.{piece, stop}
use Rattle.pict_lex.specs.Number.{BeginsNumber}
use Rattle.pict_total.specs.Laws.{SomeWholeCut}
use Rattle.pict_total.proofs.Choices.{same_or_not}
use Rattle.pict_total.proofs.Words.{HasOutcome, at_letter, at_number, number_or_not}
use Rattle.pict_total.proofs.Marks.{at_mark}
use Rattle.pict_total.proofs.Literals.{at_string, at_character}

-- ---- comments

comment_or_not : (rest : List ℕ) → BeginsWith opening rest ⊎ ¬ BeginsWith opening rest
comment_or_not [] = inr (λ h. let e = h.1 in cc)
comment_or_not (a ∷ []) = inr (λ h. let e = h.1 in cc)
comment_or_not (a ∷ b ∷ more) = by (same_or_not a 123) (same_or_not b 42)
  where
    by : (a ≡ 123) ⊎ (a ≢ 123) → (b ≡ 42) ⊎ (b ≢ 42) → BeginsWith opening (a ∷ b ∷ more) ⊎ ¬ BeginsWith opening (a ∷ b ∷ more)
    by (inl e) (inl f) = inl (more, ap (λ x. x ∷ b ∷ more) e ∙ ap (λ y. 123 ∷ y ∷ more) f)
    by (inr other) f = inr (λ h. other (let e = h.1 in cc))
    by e (inr other) = inr (λ h. other (let f = h.1 in cc))

-- a comment begins here: it is closed, or never
at_comment : (rest : List ℕ) → BeginsWith opening rest → HasOutcome rest
at_comment rest (text, e) = by (behind 1 text) refl
  where
    by : (o : Option (List ℕ)) → behind 1 text ≡ o → HasOutcome rest
    by (Some after) h = (let c : (bytes : List ℕ) × IsComment bytes × (opening ++ text ≡ bytes ++ after) = comment_found text after h in (piece (comment c.0) after, (e ∙ c.2, c.1)))
    by None h = (
      stop L5 0,
      (
        (
          (text, e),
          λ bytes is begins.
              let there : behind 1 text ≡ Some begins.0 = sym (ap (λ t. behind 1 (drop 2 t)) e) ∙ ap (λ t. behind 1 (drop 2 t)) begins.1 ∙ behind_comment bytes begins.0 is in
              let never : None ≡ Some begins.0 = sym h ∙ there in cc,
        ),
        refl,
      ),
    )

-- ---- one place

blank_or_not : (byte : ℕ) → IsBlank byte ⊎ ¬ IsBlank byte
blank_or_not byte = by (same_or_not byte 32) (same_or_not byte 9) (same_or_not byte 13) (same_or_not byte 10)
  where
    by : (byte ≡ 32) ⊎ (byte ≢ 32) → (byte ≡ 9) ⊎ (byte ≢ 9) → (byte ≡ 13) ⊎ (byte ≢ 13) → (byte ≡ 10) ⊎ (byte ≢ 10) → IsBlank byte ⊎ ¬ IsBlank byte
    by (inl e) t r n = inl (inl e)
    by (inr s) (inl e) r n = inl (inr (inl e))
    by (inr s) (inr t) (inl e) n = inl (inr (inr (inl e)))
    by (inr s) (inr t) (inr r) (inl e) = inl (inr (inr (inr e)))
    by (inr s) (inr t) (inr r) (inr n) = inr (λ h. elim h [ inl e ↦ s e | inr h ↦ elim h [ inl e ↦ t e | inr h ↦ elim h [ inl e ↦ r e | inr e ↦ n e ] ] ])

no_digit_here : (first : ℕ) (more : List ℕ) → ¬ BeginsNumber (first ∷ more) → (is_ascii_digit first ≡ true) ⊎ (is_ascii_digit first ≡ false) → is_ascii_digit first ≡ false
no_digit_here first more h (inl digit) = absurd (h (inl (omega arith, digit)))
no_digit_here first more h (inr other) = other

no_digit_next : (first : ℕ) (more : List ℕ) → ¬ BeginsNumber (first ∷ more) → first ≡ 45 → (digit : ℕ) (others : List ℕ) → more ≡ digit ∷ others → is_ascii_digit digit ≡ false
no_digit_next first more h minus digit others e = by (cases_Bool (is_ascii_digit digit))
  where
    by : (is_ascii_digit digit ≡ true) ⊎ (is_ascii_digit digit ≡ false) → is_ascii_digit digit ≡ false
    by (inl is) = absurd (h (inr (let size : length more ≡ suc (length others) = ap length e in omega arith, minus, ap (λ t. is_ascii_digit (get_or t 0 0)) e ∙ is)))
    by (inr other) = other

-- where no blank, letter or number begins
at_sign : (first : ℕ) (more : List ℕ) → ¬ IsBlank first → is_ascii_alphabetic first ≡ false → ¬ BeginsNumber (first ∷ more)
    → (first ≡ 34) ⊎ (first ≢ 34) → (first ≡ 39) ⊎ (first ≢ 39) → BeginsWith opening (first ∷ more) ⊎ ¬ BeginsWith opening (first ∷ more) → HasOutcome (first ∷ more)
at_sign first more no_blank no_letter no_number (inl e) s c = subst (λ b. HasOutcome (b ∷ more)) (sym e) (at_string more)
at_sign first more no_blank no_letter no_number (inr d) (inl e) c = subst (λ b. HasOutcome (b ∷ more)) (sym e) (at_character more)
at_sign first more no_blank no_letter no_number (inr d) (inr s) (inl begins) = at_comment (first ∷ more) begins
at_sign first more no_blank no_letter no_number (inr d) (inr s) (inr no_comment) =
    at_mark first more
    (record {
      no_letter = no_letter;
      no_digit = no_digit_here first more no_number (cases_Bool (is_ascii_digit first));
      no_quote = (d, s);
      no_number = no_digit_next first more no_number;
    })
    no_blank no_comment

-- reading goes on or stops at each place before the end
pub some_outcome : (first : ℕ) (more : List ℕ) → HasOutcome (first ∷ more)
some_outcome first more = by (blank_or_not first) (cases_Bool (is_ascii_alphabetic first)) (number_or_not (first ∷ more))
  where
    by : IsBlank first ⊎ ¬ IsBlank first → (is_ascii_alphabetic first ≡ true) ⊎ (is_ascii_alphabetic first ≡ false) → BeginsNumber (first ∷ more) ⊎ ¬ BeginsNumber (first ∷ more) → HasOutcome (first ∷ more)
    by (inl is) l n = (piece (blank first) more, (refl, is))
    by (inr no_blank) (inl letter) n = at_letter first more letter
    by (inr no_blank) (inr no_letter) (inl begins) = at_number (first ∷ more) begins
    by (inr no_blank) (inr no_letter) (inr no_number) = at_sign first more no_blank no_letter no_number (same_or_not first 34) (same_or_not first 39) (comment_or_not (first ∷ more))

-- ---- the whole text

-- a piece has a byte or more
piece_some : (p : Piece) (after : List ℕ) → IsPiece p after → 0 < length (piece_bytes p)
piece_some (blank byte) after is = omega arith
piece_some (comment bytes) after (inside, is, e) = let size : length bytes ≡ suc (suc (length (inside_bytes inside ++ closing))) = ap length e in omega arith
piece_some (token [] form) after is = absurd (never_empty form is.0)
piece_some (token (first ∷ bytes) form) after is = omega arith

-- reading comes to the end, or to a stop
data Reads (bytes : List ℕ) : Type 0 where
  whole : (pieces : List Piece) → IsWholeCut bytes pieces → Reads bytes
  part : (pieces : List Piece) (rest : List ℕ) (code : Code) (at : ℕ) → IsCut bytes pieces rest → Stops code rest at → Reads bytes

cut_more : (bytes : List ℕ) (p : Piece) (after : List ℕ) (pieces : List Piece) (rest : List ℕ) → bytes ≡ piece_bytes p ++ after → IsPiece p after → IsCut after pieces rest → IsCut bytes (p ∷ pieces) rest
cut_more bytes p after pieces rest e is cut = record {
  whole = e ∙ ap (λ t. piece_bytes p ++ t) cut.whole ∙ sym (append_assoc (piece_bytes p) (joined_pieces pieces) rest);
  each = (subst (IsPiece p) cut.whole is, cut.each);
}

piece_more : (bytes : List ℕ) (p : Piece) (after : List ℕ) → bytes ≡ piece_bytes p ++ after → IsPiece p after → Reads after → Reads bytes
piece_more bytes p after e is (whole pieces cut) = whole (p ∷ pieces) (cut_more bytes p after pieces [] e is cut)
piece_more bytes p after e is (part pieces rest code at cut stops) = part (p ∷ pieces) rest code at (cut_more bytes p after pieces rest e is cut) stops

reads_on : (n : ℕ) (bytes : List ℕ) → length bytes ≤ suc n → HasOutcome bytes → ((after : List ℕ) → length after ≤ n → Reads after) → Reads bytes
reads_on n bytes short (piece p after, (e, is)) further = piece_more bytes p after e is (further after (let size : length bytes ≡ length (piece_bytes p) + length after = ap length e ∙ length-append (piece_bytes p) after in
    let some = piece_some p after is in omega arith))
reads_on n bytes short (stop code at, stops) further = part [] bytes code at (record { whole = refl; each = tt }) stops

reads : (n : ℕ) (bytes : List ℕ) → length bytes ≤ n → Reads bytes
reads n [] short = whole [] (record { whole = refl; each = tt })
reads zero (first ∷ more) short = absurd (omega arith)
reads (suc n) (first ∷ more) short = reads_on n (first ∷ more) short (some_outcome first more) (reads n)

pub some_whole_cut : SomeWholeCut
some_whole_cut text bytes = by (reads (length bytes) bytes (omega arith))
  where
    by : Reads bytes → ((pieces : List Piece) × IsWholeCut bytes pieces) ⊎ ((code : Code) × (span : Span) × IsLexStop text bytes code span)
    by (whole pieces is) = inl (pieces, is)
    by (part pieces rest code at cut stops) = inr (
      code,
      record { text = text; start = length (joined_pieces pieces) + at; end = length (joined_pieces pieces) + at + extent code },
      record { pieces = pieces; rest = rest; read = cut; at = at; stops = stops; place = refl },
    )
