-- A line is no shorter than a string that it shows.
use Rattle.std.proofs.Common.{ℕ, ◌<◌, ◌≤◌, ◌^◌, List, [], ◌∷◌, ◌++◌, length, map, arith, length-append}
use Rattle.std.proofs.lemmas.List.{length-map}
use Rattle.std.specs.Fmt.{decimal}
use Rattle.std.specs.List.{AllByRecursion}
use Rattle.pict_syntax.specs.Tokens.{Item, plain, newline, tab, backslash, double_quote, single_quote, hexadecimal, item_bytes, items_bytes}
use Rattle.pict_core.specs.Term.{Text}
use Rattle.pict_core.specs.Step.{Label, Comm}
use Rattle.pict_show.specs.Values.{item_of, quoted}
use Rattle.pict_trace.specs.Lines.{line_text, lines_text}
use Rattle.pict_ranges.specs.Ranges.{IsShort}

pub item_some : (i : Item) → 1 ≤ length (item_bytes i)
item_some (plain byte) = omega arith
item_some newline = omega arith
item_some tab = omega arith
item_some backslash = omega arith
item_some double_quote = omega arith
item_some single_quote = omega arith
item_some (hexadecimal high low) = omega arith

pub items_long : (items : List Item) → length items ≤ length (items_bytes items)
items_long [] = omega arith
items_long (i ∷ is) =
    let r = items_long is in
    let s = item_some i in
    let e = length-append (item_bytes i) (items_bytes is) in
    omega (arith, r, s, e)

quoted_long : (quote : ℕ) (bytes : List ℕ) → length bytes ≤ length (quoted quote bytes)
quoted_long quote bytes =
    let r = items_long (map (item_of quote) bytes) in
    let m = length-map bytes (item_of quote) in
    let e = length-append (items_bytes (map (item_of quote) bytes)) (quote ∷ []) in
    omega (arith, r, m, e)

module _ (names : List (List ℕ)) where
  -- the line of a string
  text_long : (number channel : ℕ) (bytes : List ℕ) → length bytes ≤ length (line_text names number (Comm channel (Text bytes)))
  text_long number channel bytes =
      let q = quoted_long 34 bytes in
      let a = length-append (decimal channel) (32 ∷ quoted 34 bytes) in
      let b = length-append (99 ∷ (decimal channel ++ (32 ∷ quoted 34 bytes))) (10 ∷ []) in
      let c = length-append (decimal number) (32 ∷ ((99 ∷ (decimal channel ++ (32 ∷ quoted 34 bytes))) ++ 10 ∷ [])) in
      omega (arith, q, a, b, c)

  short_line : (number : ℕ) (label : Label) → length (line_text names number label) < 2 ^ 63 → IsShort label
  short_line number (Comm channel (Text bytes)) few = let long = text_long number channel bytes in omega (arith, few, long)
  short_line number label few = tt

  pub short_lines : (labels : List (ℕ × Label)) → length (lines_text names labels) < 2 ^ 63 → AllByRecursion (λ (l : ℕ × Label). IsShort l.1) labels
  short_lines [] few = tt
  short_lines (l ∷ ls) few =
      let e = length-append (line_text names l.0 l.1) (lines_text names ls) in
      (short_line l.0 l.1 (omega (arith, few, e)), short_lines ls (omega (arith, few, e)))
