-- The parts of a written value are no longer than the value; so it is one of finitely many.
use Rattle.std.proofs.Common.{◌≡◌, ℕ, zero, suc, ◌+◌, ◌≤◌, ◌<◌, ◌^◌, inl, inr, List, [], ◌∷◌, ◌++◌, length, map, Some, None, IsTrue, refl, sym, ◌∙◌, arith}
use Rattle.std.specs.Char.{is_ascii_alphabetic}
use Rattle.std.specs.Fmt.{decimal}
use Rattle.std.specs.List.{AllByRecursion, join_with_byte}
use Rattle.std.proofs.lemmas.Bool.{cases_lt}
use Rattle.std.proofs.lemmas.Bool.Decides.{nat_tests}
use Rattle.std.proofs.lemmas.List.{length-append}
use Rattle.std.proofs.lemmas.Option.{slice_get_past}
use Rattle.pict_syntax.specs.Names.{text_of}
use Rattle.pict_syntax.specs.Tokens.{IsWord, is_word_byte, Item, plain, newline, tab, backslash, double_quote, single_quote, hexadecimal, item_bytes, items_bytes}
use Rattle.pict_core.specs.Term.{Val, Vals, Labelled, Var, Chan, Int, Char, Boolean, Text, PrimitiveVal, Record, no_vals, more_vals, no_labelled, more_labelled}
use Rattle.pict_core.specs.Step.{Quiet, Comm, Print}
use Rattle.pict_show.specs.Values.{item_of, quoted, value_text, positional_texts, labelled_texts}
use Rattle.pict_trace.specs.Lines.{shown_text, line_text}
use Rattle.pict_trace.specs.Readable.{IsOrderly, AreOrderly, LabelsAfter, IsReadable, nesting, nesting_all, nesting_labelled, labels_of, labels_of_all, labels_of_labelled, labels_in_line}
use Rattle.pict_trace.proofs.Unique.{name_stands}
use Rattle.pict_replay.specs.Replayed.{Line}
use Rattle.pict_replay.proofs.Searching.{IsShort, IsWithin, AreWithin, LabelledWithin}

-- ---- texts beside each other

-- the bytes of these, and one for each
abbrev sum_of : List (List ℕ) → ℕ
sum_of [] = 0
sum_of (t ∷ ts) = length t + 1 + sum_of ts

join_sum : (ts : List (List ℕ)) → sum_of ts ≤ length (join_with_byte 32 ts) + 1
join_sum [] = omega arith
join_sum (x ∷ []) = omega arith
join_sum (x ∷ y ∷ ts) =
    let r = join_sum (y ∷ ts) in
    let e = length-append x (32 ∷ join_with_byte 32 (y ∷ ts)) in
    omega (arith, r, e)

sum_append : (xs ys : List (List ℕ)) → sum_of (xs ++ ys) ≡ sum_of xs + sum_of ys
sum_append [] ys = omega arith
sum_append (x ∷ xs) ys = let r = sum_append xs ys in omega (arith, r)

record_parts : (names : List (List ℕ)) (vs : Vals) (ls : Labelled) → sum_of (positional_texts names vs) + sum_of (labelled_texts names ls) ≤ length (value_text names (Record vs ls))
record_parts names vs ls =
    let texts = positional_texts names vs ++ labelled_texts names ls in
    let a = join_sum texts in
    let b = sum_append (positional_texts names vs) (labelled_texts names ls) in
    let c = length-append (join_with_byte 32 texts) (93 ∷ []) in
    omega (arith, a, b, c)

item_some : (i : Item) → 1 ≤ length (item_bytes i)
item_some (plain byte) = omega arith
item_some newline = omega arith
item_some tab = omega arith
item_some backslash = omega arith
item_some double_quote = omega arith
item_some single_quote = omega arith
item_some (hexadecimal high low) = omega arith

items_long : (quote : ℕ) (bytes : List ℕ) → length bytes ≤ length (items_bytes (map (item_of quote) bytes))
items_long quote [] = omega arith
items_long quote (b ∷ bytes) =
    let r = items_long quote bytes in
    let s = item_some (item_of quote b) in
    let e = length-append (item_bytes (item_of quote b)) (items_bytes (map (item_of quote) bytes)) in
    omega (arith, r, s, e)

quoted_long : (quote : ℕ) (bytes : List ℕ) → length bytes ≤ length (quoted quote bytes)
quoted_long quote bytes =
    let r = items_long quote bytes in
    let e = length-append (items_bytes (map (item_of quote) bytes)) (quote ∷ []) in
    omega (arith, r, e)

label_long : (names : List (List ℕ)) (l : ℕ) (v : Val) → length (text_of names l ++ (61 ∷ value_text names v)) ≡ length (text_of names l) + (length (value_text names v) + 1)
label_long names l v = let e = length-append (text_of names l) (61 ∷ value_text names v) in omega (arith, e)

-- ---- words

word_byte : (b : ℕ) → IsTrue (is_word_byte b) → b < 2 ^ 8
word_byte b h = grind (arith, nat_tests, h)

letter_byte : (b : ℕ) → IsTrue (is_ascii_alphabetic b) → b < 2 ^ 8
letter_byte b h = grind (arith, nat_tests, h)

word_bytes : (t : List ℕ) → AllByRecursion (λ b. IsTrue (is_word_byte b)) t → AllByRecursion (λ b. b < 2 ^ 8) t
word_bytes [] h = tt
word_bytes (b ∷ bs) h = (word_byte b h.0, word_bytes bs h.1)

bytes_of_word : (t : List ℕ) → IsWord t → AllByRecursion (λ b. b < 2 ^ 8) t
bytes_of_word [] h = absurd h
bytes_of_word (b ∷ bs) h = (letter_byte b h.0, word_bytes bs h.1)

number_below : (names : List (List ℕ)) (l : ℕ) → IsWord (text_of names l) → l < length names
number_below names l h = elim (cases_lt l (length names)) [
  | inl few ↦ few
  | inr many ↦ let past = slice_get_past names l many in let there = name_stands names l h in let never : None ≡ Some (text_of names l) = sym past ∙ there in absurd cc
]

-- ---- finitely many

module _ (names : List (List ℕ)) where
  mutual
    pub within : (d n : ℕ) (v : Val) → IsOrderly names v → nesting v ≤ d → length (value_text names v) ≤ n → IsWithin (length names) d n v
    within d n (Var x) h low few = absurd h
    within d n (Chan x) h low few = h
    within d n (Int x) h low few = h
    within d n (Char x) h low few = h
    within d n (Boolean x) h low few = tt
    within d n (Text bytes) h low few = let q = quoted_long 34 bytes in (h, omega (arith, few, q))
    within d n (PrimitiveVal x) h low few = tt
    within zero n (Record vs ls) h low few = absurd (omega (arith, low))
    within (suc e) n (Record vs ls) h low few =
        let parts = record_parts names vs ls in (
          e,
          refl,
          all_within e n n vs h.0 (omega (arith, low)) (omega (arith, few, parts)) (omega arith),
          labelled_within e n n [] ls h.1 (omega (arith, low)) (omega (arith, few, parts)) (omega arith),
        )

    all_within : (e n k : ℕ) (vs : Vals) → AreOrderly names vs → nesting_all vs ≤ e → sum_of (positional_texts names vs) ≤ k → k ≤ n → AreWithin (length names) e n k vs
    all_within e n k no_vals h low few most = tt
    all_within e n zero (more_vals v vs) h low few most = absurd (omega (arith, few))
    all_within e n (suc j) (more_vals v vs) h low few most =
        (j, refl, within e n v h.0 (omega (arith, low)) (omega (arith, few, most)), all_within e n j vs h.1 (omega (arith, low)) (omega (arith, few)) (omega (arith, most)))

    labelled_within : (e n k : ℕ) (before : List ℕ) (ls : Labelled) → LabelsAfter names before ls → nesting_labelled ls ≤ e → sum_of (labelled_texts names ls) ≤ k → k ≤ n → LabelledWithin (length names) e n k ls
    labelled_within e n k before no_labelled h low few most = tt
    labelled_within e n zero before (more_labelled l v ls) h low few most = absurd (omega (arith, few))
    labelled_within e n (suc j) before (more_labelled l v ls) h low few most =
        let long = label_long names l v in (
          j,
          refl,
          number_below names l h.0.0,
          within e n v h.2 (omega (arith, low)) (omega (arith, few, most, long)),
          labelled_within e n j (text_of names l) ls h.3 (omega (arith, low)) (omega (arith, few)) (omega (arith, most)),
        )

-- ---- labels are short

all_join : (P : List ℕ → Type 0) (xs ys : List (List ℕ)) → AllByRecursion P xs → AllByRecursion P ys → AllByRecursion P (xs ++ ys)
all_join P [] ys h k = k
all_join P (x ∷ xs) ys h k = (h.0, all_join P xs ys h.1 k)

module _ (names : List (List ℕ)) (n : ℕ) where
  abbrev AreShort : List (List ℕ) → Type 0
  AreShort texts = AllByRecursion (IsShort (2 ^ 8) n) texts

  mutual
    pub labels_short : (v : Val) → IsOrderly names v → length (value_text names v) ≤ n → AreShort (labels_of names v)
    labels_short (Record vs ls) h few =
        let parts = record_parts names vs ls in
        all_join (IsShort (2 ^ 8) n) (labels_of_all names vs) (labels_of_labelled names ls) (all_short vs h.0 (omega (arith, few, parts))) (labelled_short [] ls h.1 (omega (arith, few, parts)))
    labels_short (Var x) h few = tt
    labels_short (Chan x) h few = tt
    labels_short (Int x) h few = tt
    labels_short (Char x) h few = tt
    labels_short (Boolean x) h few = tt
    labels_short (Text x) h few = tt
    labels_short (PrimitiveVal x) h few = tt

    all_short : (vs : Vals) → AreOrderly names vs → sum_of (positional_texts names vs) ≤ n → AreShort (labels_of_all names vs)
    all_short no_vals h few = tt
    all_short (more_vals v vs) h few = all_join (IsShort (2 ^ 8) n) (labels_of names v) (labels_of_all names vs) (labels_short v h.0 (omega (arith, few))) (all_short vs h.1 (omega (arith, few)))

    labelled_short : (before : List ℕ) (ls : Labelled) → LabelsAfter names before ls → sum_of (labelled_texts names ls) ≤ n → AreShort (labels_of_labelled names ls)
    labelled_short before no_labelled h few = tt
    labelled_short before (more_labelled l v ls) h few =
        let long = label_long names l v in (
          (bytes_of_word (text_of names l) h.0.0, omega (arith, few, long)),
          all_join (IsShort (2 ^ 8) n) (labels_of names v) (labels_of_labelled names ls) (labels_short v h.2 (omega (arith, few, long))) (labelled_short (text_of names l) ls h.3 (omega (arith, few))),
        )

-- ---- lines

pub value_in_line : (names : List (List ℕ)) (number channel : ℕ) (v : Val) → length (value_text names v) ≤ length (line_text names number (Comm channel v))
value_in_line names number channel v =
    let a = length-append (decimal channel) (32 ∷ value_text names v) in
    let b = length-append (99 ∷ (decimal channel ++ (32 ∷ value_text names v))) (10 ∷ []) in
    let c = length-append (decimal number) (32 ∷ (shown_text names (Comm channel v) ++ 10 ∷ [])) in
    omega (arith, a, b, c)

pub bytes_in_line : (names : List (List ℕ)) (number : ℕ) (bytes : List ℕ) → length bytes ≤ length (line_text names number (Print bytes))
bytes_in_line names number bytes =
    let q = quoted_long 34 bytes in
    let b = length-append (shown_text names (Print bytes)) (10 ∷ []) in
    let c = length-append (decimal number) (32 ∷ (shown_text names (Print bytes) ++ 10 ∷ [])) in
    omega (arith, q, b, c)

pub line_short : (names : List (List ℕ)) (n : ℕ) (line : Line) → IsReadable names line → length (line_text names line.0 line.1) ≤ n → AreShort names n (labels_in_line names line)
line_short names n (number, Comm channel v) (few, (below, (h, low))) short = let long = value_in_line names number channel v in labels_short names n v h (omega (arith, short, long))
line_short names n (number, Print bytes) h short = tt
line_short names n (number, Quiet) h short = tt
