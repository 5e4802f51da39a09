-- Characters and strings at the front of a text: a token, or why reading stops in it.
use Rattle.std.proofs.Common.{◌≡◌, ◌≢◌, ℕ, zero, suc, ◌+◌, ◌-◌, ◌<◌, ◌≤◌, true, false, ◌⊎◌, inl, inr, List, [], ◌∷◌, ◌++◌, length, drop, map, get_or, refl, sym, ◌∙◌, ap, subst, arith, append_assoc, true≢false, add-one}
use Rattle.std.specs.Char.{is_ascii_hexdigit}
use Rattle.std.specs.Int.{is_in_range}
use Rattle.std.proofs.Math.Seq.{drop-append_seam}
use Rattle.std.proofs.lemmas.Bool.{cases_Bool}
use Rattle.std.proofs.lemmas.Bool.Decides.{nat_tests}
use Rattle.std.proofs.lemmas.List.{length-append}
use Rattle.pict_syntax.specs.declared.code.Code.TheVariants.{L1, L2, L3}
use Rattle.pict_syntax.specs.Tokens.{character, string, Item, plain, newline, tab, backslash, double_quote, single_quote, hexadecimal, item_bytes, item_value, IsItem, AreItems, items_bytes, IsPrintable}
use Rattle.pict_syntax.specs.Comments.{BeginsWith}
use Rattle.pict_syntax.specs.Cuts.{IsInLiteral, IsBadByte, IsCutOff, IsBadEscape}
use Rattle.pict_syntax.proofs.LiteralLemmas.{printable_tested}
use Rattle.pict_syntax.proofs.CutLemmas.{stop}
use Rattle.pict_lex.proofs.DueLemmas.{item_at}
use Rattle.pict_lex.proofs.QuotedLemmas.{character_token, HasItems, string_token}
use Rattle.pict_total.proofs.Choices.{same_or_not}
use Rattle.pict_total.proofs.Words.{HasOutcome, of_token}

-- a literal can't go on here
data Broken (after : List ℕ) : Type 0 where
  cut : IsCutOff after → Broken after
  bad : IsBadByte after → Broken after
  escape : IsBadEscape after → Broken after

-- what stands where an item or the quote is due
data Due (quote : ℕ) (after : List ℕ) : Type 0 where
  item : (i : Item) (more : List ℕ) → IsItem quote i → after ≡ item_bytes i ++ more → Due quote after
  quoted : (more : List ℕ) → after ≡ quote ∷ more → Due quote after
  broken : Broken after → Due quote after

no_escape : (letter : ℕ) (more : List ℕ) → letter ≢ 110 → letter ≢ 116 → letter ≢ 92 → letter ≢ 34 → letter ≢ 39
    → ((high low : ℕ) → IsItem 34 (hexadecimal high low) → ¬ BeginsWith (item_bytes (hexadecimal high low)) (92 ∷ letter ∷ more)) → IsBadEscape (92 ∷ letter ∷ more)
no_escape letter more no_n no_t no_b no_d no_s no_x = (letter ∷ more, refl, (λ e. cc), none)
  where
    none : (i : Item) → IsItem 34 i → ¬ BeginsWith (item_bytes i) (92 ∷ letter ∷ more)
    none (plain byte) is (rest, e) = is.1 cc
    none newline is (rest, e) = no_n cc
    none tab is (rest, e) = no_t cc
    none backslash is (rest, e) = no_b cc
    none double_quote is (rest, e) = no_d cc
    none single_quote is (rest, e) = no_s cc
    none (hexadecimal high low) is begins = no_x high low is begins

hexadecimal_byte : (byte : ℕ) → (is_ascii_hexdigit byte ≡ true) ⊎ (is_ascii_hexdigit byte ≡ false)
hexadecimal_byte byte = cases_Bool (is_ascii_hexdigit byte)

-- `\x` without two hexadecimal digits
no_digits : (more : List ℕ) → ((high low : ℕ) (rest : List ℕ) → more ≡ high ∷ low ∷ rest → IsItem 34 (hexadecimal high low) → ⊥) → IsBadEscape (92 ∷ 120 ∷ more)
no_digits more none = no_escape 120 more (λ e. omega (arith, e)) (λ e. omega (arith, e)) (λ e. omega (arith, e)) (λ e. omega (arith, e)) (λ e. omega (arith, e))
    (λ high low is begins. none high low begins.0 (let f = begins.1 in cc) is)

-- behind `\x`
due_hexadecimal : (quote : ℕ) (more : List ℕ) → Due quote (92 ∷ 120 ∷ more)
due_hexadecimal quote [] = broken (escape (no_digits [] (λ high low rest e is. cc)))
due_hexadecimal quote (byte ∷ []) = broken (escape (no_digits (byte ∷ []) (λ high low rest e is. cc)))
due_hexadecimal quote (a ∷ b ∷ more) = by (hexadecimal_byte a) (hexadecimal_byte b)
  where
    by : (is_ascii_hexdigit a ≡ true) ⊎ (is_ascii_hexdigit a ≡ false) → (is_ascii_hexdigit b ≡ true) ⊎ (is_ascii_hexdigit b ≡ false) → Due quote (92 ∷ 120 ∷ a ∷ b ∷ more)
    by (inl high) (inl low) = item (hexadecimal a b) more (high, low) refl
    by (inr other) low = broken (escape (no_digits (a ∷ b ∷ more) (λ h l rest e is. let same : a ≡ h = cc in true≢false (sym is.0 ∙ ap is_ascii_hexdigit (sym same) ∙ other))))
    by high (inr other) = broken (escape (no_digits (a ∷ b ∷ more) (λ h l rest e is. let same : b ≡ l = cc in true≢false (sym is.1 ∙ ap is_ascii_hexdigit (sym same) ∙ other))))

due_escape : (quote : ℕ) (more : List ℕ) → Due quote (92 ∷ more)
due_escape quote [] = broken (cut (inr (inl refl)))
due_escape quote (letter ∷ more) = by (same_or_not letter 110) (same_or_not letter 116) (same_or_not letter 92) (same_or_not letter 34) (same_or_not letter 39) (same_or_not letter 120)
  where
    short : (i : Item) (n : ℕ) → IsItem quote i → item_bytes i ≡ 92 ∷ n ∷ [] → letter ≡ n → Due quote (92 ∷ letter ∷ more)
    short i n is bytes e = item i more is (ap (λ l. 92 ∷ l ∷ more) e ∙ ap (λ b. b ++ more) (sym bytes))

    by : (letter ≡ 110) ⊎ (letter ≢ 110) → (letter ≡ 116) ⊎ (letter ≢ 116) → (letter ≡ 92) ⊎ (letter ≢ 92) → (letter ≡ 34) ⊎ (letter ≢ 34) → (letter ≡ 39) ⊎ (letter ≢ 39) → (letter ≡ 120) ⊎ (letter ≢ 120)
        → Due quote (92 ∷ letter ∷ more)
    by (inl e) t b d s x = short newline 110 tt refl e
    by (inr n) (inl e) b d s x = short tab 116 tt refl e
    by (inr n) (inr t) (inl e) d s x = short backslash 92 tt refl e
    by (inr n) (inr t) (inr b) (inl e) s x = short double_quote 34 tt refl e
    by (inr n) (inr t) (inr b) (inr d) (inl e) x = short single_quote 39 tt refl e
    by (inr n) (inr t) (inr b) (inr d) (inr s) (inl e) = subst (λ l. Due quote (92 ∷ l ∷ more)) (sym e) (due_hexadecimal quote more)
    by (inr n) (inr t) (inr b) (inr d) (inr s) (inr x) = broken (escape (no_escape letter more n t b d s (λ high low is begins. x cc)))

not_printable : (byte : ℕ) → is_in_range 32 126 byte ≡ false → ¬ IsPrintable byte
not_printable byte h p = grind (arith, nat_tests)

due_at : (quote : ℕ) (after : List ℕ) → Due quote after
due_at quote [] = broken (cut (inl refl))
due_at quote (byte ∷ more) = by (same_or_not byte quote) (same_or_not byte 10) (same_or_not byte 92) (cases_Bool (is_in_range 32 126 byte))
  where
    by : (byte ≡ quote) ⊎ (byte ≢ quote) → (byte ≡ 10) ⊎ (byte ≢ 10) → (byte ≡ 92) ⊎ (byte ≢ 92) → (is_in_range 32 126 byte ≡ true) ⊎ (is_in_range 32 126 byte ≡ false) → Due quote (byte ∷ more)
    by (inl e) l b p = quoted more (ap (λ x. x ∷ more) e)
    by (inr q) (inl e) b p = broken (cut (inr (inr (more, ap (λ x. x ∷ more) e))))
    by (inr q) (inr l) (inl e) p = subst (λ x. Due quote (x ∷ more)) (sym e) (due_escape quote more)
    by (inr q) (inr l) (inr b) (inl p) = item (plain byte) more (printable_tested byte p, b, q) refl
    by (inr q) (inr l) (inr b) (inr p) = broken (bad (byte, more, refl, not_printable byte p, l))

-- ---- where a literal can't go on

behind_literal : (rest after : List ℕ) → IsInLiteral rest after → (length rest - length after) + length after ≡ length rest
behind_literal rest after l =
    let size : length rest ≡ suc (length (items_bytes l.items ++ after)) = ap length l.spelled in
    let parts : length (items_bytes l.items ++ after) ≡ length (items_bytes l.items) + length after = length-append (items_bytes l.items) after in
    omega arith

stops_in : (rest after : List ℕ) → IsInLiteral rest after → Broken after → HasOutcome rest
stops_in rest after l (cut h) = (stop L2 0, inl (after, l, h, refl))
stops_in rest after l (bad h) = (stop L1 (length rest - length after), inr (after, l, h, behind_literal rest after l))
stops_in rest after l (escape h) = (stop L3 (length rest - length after), (after, l, h, behind_literal rest after l))

-- ---- strings

-- from here a string goes on to its quote, or to where it can't go on
data Goes (after : List ℕ) : Type 0 where
  closed : (items : List Item) (more : List ℕ) → AreItems 34 items → after ≡ items_bytes items ++ (34 ∷ more) → Goes after
  stopped : (items : List Item) (more : List ℕ) → AreItems 34 items → after ≡ items_bytes items ++ more → Broken more → Goes after

item_some : (i : Item) → 0 < length (item_bytes i)
item_some (plain byte) = omega arith
item_some newline = omega arith
item_some tab = omega arith
item_some backslash = omega arith
item_some double_quote = omega arith
item_some single_quote = omega arith
item_some (hexadecimal high low) = omega arith

one_item_more : (after : List ℕ) (i : Item) (more : List ℕ) → IsItem 34 i → after ≡ item_bytes i ++ more → Goes more → Goes after
one_item_more after i more is e (closed items behind are f) =
    closed (i ∷ items) behind (is, are) (e ∙ ap (λ t. item_bytes i ++ t) f ∙ sym (append_assoc (item_bytes i) (items_bytes items) (34 ∷ behind)))
one_item_more after i more is e (stopped items behind are f why) =
    stopped (i ∷ items) behind (is, are) (e ∙ ap (λ t. item_bytes i ++ t) f ∙ sym (append_assoc (item_bytes i) (items_bytes items) behind)) why

shorter : (n : ℕ) (after : List ℕ) (i : Item) (more : List ℕ) → length after ≤ n → after ≡ item_bytes i ++ more → suc (length more) ≤ n
shorter n after i more short e =
    let size : length after ≡ length (item_bytes i) + length more = ap length e ∙ length-append (item_bytes i) more in
    let some : 0 < length (item_bytes i) = item_some i in
    omega arith

goes_by : (n : ℕ) (after : List ℕ) → length after ≤ suc n → Due 34 after → ((more : List ℕ) → length more ≤ n → Goes more) → Goes after
goes_by n after short (quoted more e) further = closed [] more tt e
goes_by n after short (broken why) further = stopped [] after tt refl why
goes_by n after short (item i more is e) further = one_item_more after i more is e (further more (let h = shorter (suc n) after i more short e in omega arith))

goes : (n : ℕ) (after : List ℕ) → length after ≤ n → Goes after
goes zero [] short = stopped [] [] tt refl (cut (inl refl))
goes zero (byte ∷ more) short = absurd (omega arith)
goes (suc n) after short = goes_by n after short (due_at 34 after) (goes n)

-- a quote begins a string
pub at_string : (after : List ℕ) → HasOutcome (34 ∷ after)
at_string after = by (goes (length after) after (omega arith))
  where
    whole : (items : List Item) (more : List ℕ) → AreItems 34 items → after ≡ items_bytes items ++ (34 ∷ more) → HasItems (34 ∷ after) (suc (length (items_bytes items))) (map item_value items)
    whole items more are e =
        let behind : drop (length (items_bytes items)) after ≡ 34 ∷ more = ap (drop (length (items_bytes items))) e ∙ drop-append_seam (items_bytes items) (34 ∷ more) in
        let size : length after ≡ length (items_bytes items) + length (34 ∷ more) = ap length e ∙ length-append (items_bytes items) (34 ∷ more) in
        record {
          items = items;
          are = are;
          within = omega arith;
          spelled = ap (λ t. 34 ∷ t) (e ∙ ap (λ t. items_bytes items ++ t) (sym behind));
          values_are = refl;
          place = omega arith;
        }

    by : Goes after → HasOutcome (34 ∷ after)
    by (closed items more are e) =
        of_token (34 ∷ after) (string (map item_value items)) (suc (length (items_bytes items)) + 1)
        (string_token (34 ∷ after) (suc (length (items_bytes items))) (map item_value items) (whole items more are e)
        (more, ap (drop (length (items_bytes items))) e ∙ drop-append_seam (items_bytes items) (34 ∷ more)))
    by (stopped items more are e why) =
        stops_in (34 ∷ after) more (record { quote = 34; items = items; takes = inl refl; are = are; spelled = ap (λ t. 34 ∷ t) e }) why

-- ---- characters

quote_or_not : (more : List ℕ) → BeginsWith (39 ∷ []) more ⊎ ¬ BeginsWith (39 ∷ []) more
quote_or_not [] = inr (λ h. let e = h.1 in cc)
quote_or_not (byte ∷ more) = elim (same_or_not byte 39) [
  | inl e ↦ inl (more, ap (λ b. b ∷ more) e)
  | inr other ↦ inr (λ h. other (let e = h.1 in cc))
]

at_seam : (xs : List ℕ) (y : ℕ) (ys : List ℕ) → get_or (xs ++ y ∷ ys) (length xs) 0 ≡ y
at_seam [] y ys = refl
at_seam (x ∷ xs) y ys = at_seam xs y ys

-- a quote begins a character
pub at_character : (after : List ℕ) → HasOutcome (39 ∷ after)
at_character after = by (due_at 39 after)
  where
    one : (i : Item) (more behind : List ℕ) → IsItem 39 i → after ≡ item_bytes i ++ more → more ≡ 39 ∷ behind → HasOutcome (39 ∷ after)
    one i more behind is e quote =
        let size : length after ≡ length (item_bytes i) + length more = ap length e ∙ length-append (item_bytes i) more in
        let more_size : length more ≡ suc (length behind) = ap length quote in
        let last : get_or (39 ∷ after) (length (item_bytes i) + 1) 0 ≡ 39 =
        ap (λ k. get_or (39 ∷ after) k 0) (add-one (length (item_bytes i))) ∙ ap (λ t. get_or t (length (item_bytes i)) 0) (e ∙ ap (λ t. item_bytes i ++ t) quote) ∙ at_seam (item_bytes i) 39 behind in
        of_token (39 ∷ after) (character (item_value i)) (length (item_bytes i) + 2)
        (character_token (39 ∷ after) (item_value i) (length (item_bytes i)) (after, refl) (item_at 39 i after more (item_value i) (length (item_bytes i)) is e refl refl (item_some i)) (omega arith) last)

    by : Due 39 after → HasOutcome (39 ∷ after)
    by (quoted more e) = (stop L2 0, inr (inl (more, ap (λ t. 39 ∷ t) e), refl))
    by (broken why) = stops_in (39 ∷ after) after (record { quote = 39; items = []; takes = inr (refl, refl); are = tt; spelled = refl }) why
    by (item i more is e) = elim (quote_or_not more) [
      | inl quote ↦ one i more quote.0 is e quote.1
      | inr lone ↦ (stop L2 0, inr (inr (i, more, is, ap (λ t. 39 ∷ t) e, lone), refl))
    ]
