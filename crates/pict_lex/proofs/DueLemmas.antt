-- Items that stand where one is due, and bytes that begin none.
use Rattle.std.proofs.Common.{◌≡◌, ◌≢◌, ℕ, ◌+◌, ◌*◌, ◌<◌, ◌≤◌, true, List, [], ◌∷◌, ◌++◌, length, drop, get_or, refl, sym, ◌∙◌, ap, arith}
use Rattle.std.specs.Char.{digit_value, is_ascii_hexdigit}
use Rattle.pict_syntax.specs.Tokens.{plain, newline, tab, backslash, double_quote, single_quote, hexadecimal, item_bytes, item_value, IsItem, IsPrintable}
use Rattle.pict_syntax.specs.Tokens as tokens
use Rattle.pict_lex.specs.Due.{IsDue, IsItemAt}
use Rattle.std.proofs.Math.Seq.{drop-append_seam}
use Rattle.std.proofs.lemmas.List.{length-append}
use Rattle.pict_lex.specs.declared.literal.Due.TheVariants.{Item}

-- the first two elements, and the first, of a list
pub two_front : (xs : List ℕ) → 2 ≤ length xs → xs ≡ get_or xs 0 0 ∷ get_or xs 1 0 ∷ drop 2 xs
two_front [] h = absurd (omega arith)
two_front (x ∷ []) h = absurd (omega arith)
two_front (x ∷ y ∷ xs) h = refl

pub one_front : (xs : List ℕ) → 1 ≤ length xs → xs ≡ get_or xs 0 0 ∷ drop 1 xs
one_front [] h = absurd (omega arith)
one_front (x ∷ xs) h = refl

drop_front : (xs ys : List ℕ) → drop (length xs) (xs ++ ys) ≡ ys
drop_front xs ys = drop-append_seam xs ys

-- an item at the front of a text
pub item_at : (quote : ℕ) (item : tokens.Item) (after more : List ℕ) (value len : ℕ) → IsItem quote item → after ≡ item_bytes item ++ more → value ≡ item_value item
    → len ≡ length (item_bytes item) → 0 < len → IsItemAt quote after value len
item_at quote item after more value len is bytes v n positive =
    let rest : drop len after ≡ more = ap (drop len) bytes ∙ ap (λ k. drop k (item_bytes item ++ more)) n ∙ drop_front (item_bytes item) more in
    let size : length after ≡ length (item_bytes item) + length more = ap length bytes ∙ length-append (item_bytes item) more in
    record { item = item; is = is; bytes = bytes ∙ ap (λ t. item_bytes item ++ t) (sym rest); value_is = v; len_is = n; within = omega arith; some = positive }

-- an escape of one letter
pub escape_item : (item : tokens.Item) (letter value : ℕ) (more : List ℕ) → IsItem 34 item → item_bytes item ≡ 92 ∷ letter ∷ [] → value ≡ item_value item
    → (other : ℕ) → other ≡ letter → IsDue 34 (92 ∷ other ∷ more) (Item value 2)
escape_item item letter value more is bytes v other e =
    item_at 34 item (92 ∷ other ∷ more) more value 2 is (ap (λ l. 92 ∷ l ∷ more) e ∙ ap (λ b. b ++ more) (sym bytes)) v (ap length (sym bytes)) (omega arith)

pub hexadecimal_item : (digits : List ℕ) (high low : ℕ) → 2 ≤ length digits → is_ascii_hexdigit (get_or digits 0 0) ≡ true → is_ascii_hexdigit (get_or digits 1 0) ≡ true
    → high ≡ digit_value (get_or digits 0 0) → low ≡ digit_value (get_or digits 1 0) → IsDue 34 (92 ∷ 120 ∷ digits) (Item (16 * high + low) 4)
hexadecimal_item digits high low len is_high is_low h l =
    item_at 34 (hexadecimal (get_or digits 0 0) (get_or digits 1 0)) (92 ∷ 120 ∷ digits) (drop 2 digits) (16 * high + low) 4 (is_high, is_low)
    (ap (λ d. 92 ∷ 120 ∷ d) (two_front digits len)) (ap (λ n. 16 * n + low) h ∙ ap (λ n. 16 * digit_value (get_or digits 0 0) + n) l) refl (omega arith)

-- a byte that stands for itself
pub plain_item : (quote : ℕ) (after : List ℕ) → 1 ≤ length after → IsPrintable (get_or after 0 0) → get_or after 0 0 ≢ 92 → get_or after 0 0 ≢ quote → IsDue quote after (Item (get_or after 0 0) 1)
plain_item quote after len printable no_backslash no_quote =
    item_at quote (plain (get_or after 0 0)) after (drop 1 after) (get_or after 0 0) 1 (printable, no_backslash, no_quote) (one_front after len) refl refl (omega arith)
