-- How values are written: 34 is `"`, 39 `'`, 61 `=`, 91 `[`, 92 `\`, 93 `]`, 99 `c`, 115 `s`, and 32 a space.
use Rattle.std.specs.Prelude.{ℕ, ◌/◌, ◌%◌, ◌==◌, ◌&&◌, nat_le, if◌then◌else◌, Bool, true, false, List, [], ◌∷◌, ◌++◌, map, codes}
use Rattle.std.specs.Fmt.{decimal, signed_decimal, digit_glyph}
use Rattle.std.specs.List.{join_with_byte}
use Rattle.pict_syntax.specs.Names.{text_of}
use Rattle.pict_syntax.specs.Tokens.{Item, plain, newline, tab, backslash, double_quote, single_quote, hexadecimal, items_bytes}
use Rattle.pict_syntax.specs.Primitives.{primitive_text}
use Rattle.pict_core.specs.Term.{Val, Vals, Labelled, Var, Chan, Int, Char, Boolean, Text, PrimitiveVal, Record, no_vals, more_vals, no_labelled, more_labelled}

abbrev pub truth_text : Bool → List ℕ
truth_text true = codes "true"
truth_text false = codes "false"

-- How a byte is written between quotes of this kind: the backslash and the quote behind a backslash, `\n`, `\t`, bytes
-- 0x20 to 0x7E as they are, and every other byte as `\x` with two lower-case digits.
abbrev pub item_of : ℕ → ℕ → Item
item_of quote byte =
    if byte == 92 then backslash else
    if byte == 10 then newline else
    if byte == 9 then tab else
    if byte == quote then (if quote == 34 then double_quote else single_quote) else
    if nat_le 32 byte && nat_le byte 126 then plain byte else
    hexadecimal (digit_glyph false (byte / 16)) (digit_glyph false (byte % 16))

abbrev pub quoted : ℕ → List ℕ → List ℕ
quoted quote bytes = quote ∷ (items_bytes (map (item_of quote) bytes) ++ quote ∷ [])

abbrev pub in_brackets : List (List ℕ) → List ℕ
in_brackets texts = 91 ∷ (join_with_byte 32 texts ++ 93 ∷ [])

-- A variable is `s` and its level, a channel `c` and its number. A record shows its positional fields, then those with
-- labels as `label=value`, in its own order.
abbrev mutual
  pub value_text : List (List ℕ) → Val → List ℕ
  value_text names (Var level) = 115 ∷ decimal level
  value_text names (Chan number) = 99 ∷ decimal number
  value_text names (Int n) = signed_decimal n
  value_text names (Char byte) = quoted 39 (byte ∷ [])
  value_text names (Boolean b) = truth_text b
  value_text names (Text bytes) = quoted 34 bytes
  value_text names (PrimitiveVal p) = primitive_text p
  value_text names (Record vs ls) = in_brackets (positional_texts names vs ++ labelled_texts names ls)

  pub positional_texts : List (List ℕ) → Vals → List (List ℕ)
  positional_texts names no_vals = []
  positional_texts names (more_vals v vs) = value_text names v ∷ positional_texts names vs

  pub labelled_texts : List (List ℕ) → Labelled → List (List ℕ)
  labelled_texts names no_labelled = []
  labelled_texts names (more_labelled label v ls) = (text_of names label ++ (61 ∷ value_text names v)) ∷ labelled_texts names ls
