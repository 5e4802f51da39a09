-- The text of a value tells the value, and where it ends.
use Rattle.std.proofs.Common.{◌≡◌, ◌≢◌, ℕ, suc, zero, ◌+◌, ◌<◌, ◌^◌, Bool, true, false, not, List, [], ◌∷◌, ◌++◌, Option, Some, None, map, pos, negsuc, refl, sym, ◌∙◌, ap, subst, if◌then◌else◌, ◌==◌, inl, inr, ◌⊎◌, append_assoc, append-nil, arith, slice_get, unwrap_or, ◌*◌, ◌/◌, ◌%◌, ◌&&◌, nat_le, IsTrue, ⊎_elim}
use Rattle.std.specs.Char.{digit_value, is_ascii_alphabetic, is_ascii_digit, is_ascii_hexdigit}
use Rattle.std.specs.Int.{IsInRange}
use Rattle.std.specs.Str.{bytes_eq}
use Rattle.std.specs.Fmt.{decimal, digit_glyph}
use Rattle.std.specs.List.{flat_map, AllByRecursion}
use Rattle.std.specs.Str.Parse.{IsNumeral, AllDigits}
use Rattle.std.proofs.lemmas.Bool.{cases_Bool, false≢true}
use Rattle.std.proofs.lemmas.Bool.Decides.{nat_tests, Decides-eqb}
use Rattle.std.proofs.lemmas.Fmt.{decimal_is_IsNumeral, decimal_injective}
use Rattle.std.proofs.lemmas.Str.Parse.{digit_from_value}
use Rattle.pict_syntax.proofs.FormLemmas.{digit_no_letter}
use Rattle.pict_syntax.specs.Names.{text_of, HasNoRepeats}
use Rattle.pict_syntax.specs.Tokens.{IsWord, is_word_byte, Item, plain, newline, tab, backslash, double_quote, single_quote, hexadecimal, IsItem, item_value, AreItems, items_bytes}
use Rattle.pict_syntax.specs.declared.primitive.Primitive.TheVariants as primitive
use Rattle.pict_core.specs.Term.{Val, Vals, Labelled, Var, Chan, Int, Char, Boolean, Text, PrimitiveVal, Record, no_vals, more_vals, no_labelled, more_labelled}
use Rattle.pict_core.specs.Step.{Label, Quiet, Comm, Print}
use Rattle.pict_show.specs.Values.{item_of, value_text, quoted, positional_texts, labelled_texts}
use Rattle.pict_syntax.specs.Primitives.{primitive_text, primitives}
use Rattle.pict_trace.specs.Lines.{shown_text, line_text, lines_text}
use Rattle.pict_trace.specs.Readable.{IsReadable, IsReadableLabel, IsOrderly, AreOrderly, LabelsAfter, AreBytes}
use Rattle.pict_trace.specs.Reading.{is_end, Ends, IsBare, spaced_labels}
use Rattle.pict_show.specs.Pending.{rest_text, fields_text}
use Rattle.pict_syntax.proofs.ItemLemmas.{items_unique, no_item_at_quote, NoItem}
use Rattle.pict_show.proofs.Pieces.{first_positional, first_labelled, rest_positional, rest_labelled}

-- ---- a run of bytes of one class

abbrev pub all_of : (ℕ → Bool) → List ℕ → Bool
all_of p [] = true
all_of p (b ∷ bs) = if p b then all_of p bs else false

-- no byte of the class begins these
abbrev pub Stops : (ℕ → Bool) → List ℕ → Type 0
Stops p [] = Unit {0}
Stops p (b ∷ bs) = p b ≡ false

pub all_parts : (p : ℕ → Bool) (b : ℕ) (bs : List ℕ) → all_of p (b ∷ bs) ≡ true → (p b ≡ true) × (all_of p bs ≡ true)
all_parts p b bs h = elim (cases_Bool (p b)) [
  | inl t ↦ (t, sym (ap (λ t. if t then all_of p bs else false) t) ∙ h)
  | inr f ↦ absurd (false≢true (sym (ap (λ t. if t then all_of p bs else false) f) ∙ h))
]

pub run_same : (p : ℕ → Bool) (xs ys a b : List ℕ) → all_of p xs ≡ true → all_of p ys ≡ true → Stops p a → Stops p b → xs ++ a ≡ ys ++ b → (xs ≡ ys) × (a ≡ b)
run_same p [] [] a b h k s t e = (refl, e)
run_same p [] (y ∷ ys) a b h k s t e = let f : p y ≡ false = subst (Stops p) e s in absurd (false≢true (sym f ∙ (all_parts p y ys k).0))
run_same p (x ∷ xs) [] a b h k s t e = let f : p x ≡ false = subst (Stops p) (sym e) t in absurd (false≢true (sym f ∙ (all_parts p x xs h).0))
run_same p (x ∷ xs) (y ∷ ys) a b h k s t e =
    let heads : x ≡ y = cc in
    let tails : xs ++ a ≡ ys ++ b = cc in
    let r : (xs ≡ ys) × (a ≡ b) = run_same p xs ys a b (all_parts p x xs h).1 (all_parts p y ys k).1 s t tails in
    (cc, r.1)

-- ---- values without quotes and brackets

abbrev pub is_solid : ℕ → Bool
is_solid b = not (is_end b)

pub stops_solid : (a : List ℕ) → Ends a → Stops is_solid a
stops_solid [] h = tt
stops_solid (b ∷ bs) h = ap not h

digit_range : (b : ℕ) → digit_value b < 10 → IsInRange 48 57 b
digit_range b h = digit_from_value b h

pub digit_solid : (b : ℕ) → IsInRange 48 57 b → is_solid b ≡ true
digit_solid b h = grind (arith, nat_tests)

digit_word : (b : ℕ) → IsInRange 48 57 b → is_word_byte b ≡ true
digit_word b h = grind (arith, nat_tests)

digit_is : (b : ℕ) → IsInRange 48 57 b → is_ascii_digit b ≡ true
digit_is b h = grind (arith, nat_tests)

pub digits_all : (p : ℕ → Bool) → ((b : ℕ) → IsInRange 48 57 b → p b ≡ true) → (ds : List ℕ) → AllDigits 10 ds → all_of p ds ≡ true
digits_all p h [] d = refl
digits_all p h (b ∷ bs) d = ap (λ t. if t then all_of p bs else false) (h b (digit_range b d.0)) ∙ digits_all p h bs d.1

pub first_digit : (ds : List ℕ) → IsNumeral 10 ds → (d : ℕ) × (rest : List ℕ) × (ds ≡ d ∷ rest) × IsInRange 48 57 d
first_digit [] h = absurd (omega (arith, h.0))
first_digit (d ∷ rest) h = (d, rest, refl, digit_range d h.1.0)

-- 0, 1 for a number, 2 for a channel, else 3
abbrev after_first : ℕ → List ℕ → ℕ
after_first k [] = 3
after_first k (b ∷ bs) = if is_ascii_digit b then k else 3

abbrev family_by : Bool → ℕ → List ℕ → ℕ
family_by digit b bs = if digit then 0 else (if b == 45 then after_first 1 bs else (if b == 99 then after_first 2 bs else 3))

abbrev family : List ℕ → ℕ
family [] = 3
family (b ∷ bs) = family_by (is_ascii_digit b) b bs

abbrev family_of : Val → ℕ
family_of (Int (pos n)) = 0
family_of (Int (negsuc n)) = 1
family_of (Chan number) = 2
family_of _ = 3

family_digits : (ds : List ℕ) → IsNumeral 10 ds → family ds ≡ 0
family_digits ds h = let f = first_digit ds h in ap family f.2 ∙ ap (λ t. family_by t f.0 f.1) (digit_is f.0 f.3)

family_after : (k : ℕ) (ds : List ℕ) → IsNumeral 10 ds → after_first k ds ≡ k
family_after k ds h = let f = first_digit ds h in ap (after_first k) f.2 ∙ ap (λ t. if t then k else 3) (digit_is f.0 f.3)

pub numeral : (n : ℕ) → n < 2 ^ 64 → IsNumeral 10 (decimal n)
numeral n h = (decimal_is_IsNumeral n h).0

family_value : (names : List (List ℕ)) (v : Val) → IsBare v → IsOrderly names v → family (value_text names v) ≡ family_of v
family_value names (Int (pos n)) b h = family_digits (decimal n) (numeral n (omega arith))
family_value names (Int (negsuc n)) b h = family_after 1 (decimal (suc n)) (numeral (suc n) (omega arith))
family_value names (Chan number) b h = family_after 2 (decimal number) (numeral number (omega arith))
family_value names (Boolean true) b h = refl
family_value names (Boolean false) b h = refl
family_value names (PrimitiveVal p) b h = elim p as (λ p. family (primitive_text p) ≡ 3) [ primitive.Print ↦ refl | _ ↦ refl ]
family_value names v b h = absurd b

-- truth values and primitives from their texts
abbrev word_in : List Val → List ℕ → Option Val
word_in [] text = None
word_in (v ∷ vs) text = if bytes_eq text (value_text [] v) then Some v else word_in vs text

abbrev words : List Val
words = Boolean true ∷ Boolean false ∷ map PrimitiveVal primitives

primitive_back : (names : List (List ℕ)) (v : Val) → IsBare v → family_of v ≡ 3 → word_in words (value_text names v) ≡ Some v
primitive_back names (Boolean true) b h = refl
primitive_back names (Boolean false) b h = refl
primitive_back names (PrimitiveVal p) b h = elim p as (λ p. word_in words (primitive_text p) ≡ Some (PrimitiveVal p)) [ primitive.Print ↦ refl | _ ↦ refl ]
primitive_back names (Int (pos n)) b h = absurd (omega arith)
primitive_back names (Int (negsuc n)) b h = absurd (omega arith)
primitive_back names (Chan number) b h = absurd (omega arith)
primitive_back names v b h = absurd b

same_words : (names : List (List ℕ)) (v w : Val) → IsBare v → IsBare w → family_of v ≡ 3 → family_of w ≡ 3 → value_text names v ≡ value_text names w → v ≡ w
same_words names v w b d f g e = let same : Some v ≡ Some w = sym (primitive_back names v b f) ∙ ap (word_in words) e ∙ primitive_back names w d g in cc

bare_same : (names : List (List ℕ)) (v w : Val) → IsBare v → IsBare w → IsOrderly names v → IsOrderly names w → value_text names v ≡ value_text names w → v ≡ w
bare_same names v w b d h k e = by v w b d h k e (sym (family_value names v b h) ∙ ap family e ∙ family_value names w d k)
  where
    by : (v w : Val) → IsBare v → IsBare w → IsOrderly names v → IsOrderly names w → value_text names v ≡ value_text names w → family_of v ≡ family_of w → v ≡ w
    by (Int (pos m)) (Int (pos n)) b d h k e f = let same : m ≡ n = decimal_injective m n (omega arith) (omega arith) e in ap (λ n. Int (pos n)) same
    by (Int (negsuc m)) (Int (negsuc n)) b d h k e f =
        let t : decimal (suc m) ≡ decimal (suc n) = cc in
        let s : suc m ≡ suc n = decimal_injective (suc m) (suc n) (omega arith) (omega arith) t in
        let same : m ≡ n = omega arith in ap (λ n. Int (negsuc n)) same
    by (Chan m) (Chan n) b d h k e f =
        let t : decimal m ≡ decimal n = cc in
        let same : m ≡ n = decimal_injective m n (omega arith) (omega arith) t in ap Chan same
    by (Boolean x) w b d h k e f = same_words names (Boolean x) w b d refl (sym f) e
    by (PrimitiveVal p) w b d h k e f = same_words names (PrimitiveVal p) w b d refl (sym f) e
    by v (Boolean y) b d h k e f = same_words names v (Boolean y) b d f refl e
    by v (PrimitiveVal q) b d h k e f = same_words names v (PrimitiveVal q) b d f refl e
    by v w b d h k e f = grind arith

pub bare_solid : (names : List (List ℕ)) (v : Val) → IsBare v → IsOrderly names v → all_of is_solid (value_text names v) ≡ true
bare_solid names (Int (pos n)) b h = digits_all is_solid digit_solid (decimal n) (numeral n (omega arith)).1
bare_solid names (Int (negsuc n)) b h = digits_all is_solid digit_solid (decimal (suc n)) (numeral (suc n) (omega arith)).1
bare_solid names (Chan number) b h = digits_all is_solid digit_solid (decimal number) (numeral number (omega arith)).1
bare_solid names (Boolean true) b h = refl
bare_solid names (Boolean false) b h = refl
bare_solid names (PrimitiveVal p) b h = elim p as (λ p. all_of is_solid (primitive_text p) ≡ true) [ primitive.Print ↦ refl | _ ↦ refl ]
bare_solid names v b h = absurd b

bare_unique : (names : List (List ℕ)) (v w : Val) (a c : List ℕ) → IsBare v → IsBare w → IsOrderly names v → IsOrderly names w → Ends a → Ends c → value_text names v ++ a ≡ value_text names w ++ c → (v ≡ w) × (a ≡ c)
bare_unique names v w a c b d h k ends ends' e =
    let r = run_same is_solid (value_text names v) (value_text names w) a c (bare_solid names v b h) (bare_solid names w d k) (stops_solid a ends) (stops_solid c ends') e in
    (bare_same names v w b d h k r.0, r.1)

-- ---- literals

abbrev pub tail : List ℕ → List ℕ
tail [] = []
tail (b ∷ bs) = bs

pub record IsItemFor (quote byte : ℕ) (item : Item) : Type 0 where
  pub is : IsItem quote item
  pub value : item_value item ≡ byte

picked : {A : Type 0} (P : A → Type 0) (t : Bool) (x y : A) → (t ≡ true → P x) → (t ≡ false → P y) → P (if t then x else y)
picked P true x y f g = f refl
picked P false x y f g = g refl

glyph_value : (d : ℕ) → d < 16 → (digit_value (digit_glyph false d) ≡ d) × IsTrue (is_ascii_hexdigit (digit_glyph false d))
glyph_value zero h = (refl, refl)
glyph_value (suc zero) h = (refl, refl)
glyph_value (suc (suc zero)) h = (refl, refl)
glyph_value (suc (suc (suc zero))) h = (refl, refl)
glyph_value (suc (suc (suc (suc zero)))) h = (refl, refl)
glyph_value (suc (suc (suc (suc (suc zero))))) h = (refl, refl)
glyph_value (suc (suc (suc (suc (suc (suc zero)))))) h = (refl, refl)
glyph_value (suc (suc (suc (suc (suc (suc (suc zero))))))) h = (refl, refl)
glyph_value (suc (suc (suc (suc (suc (suc (suc (suc zero)))))))) h = (refl, refl)
glyph_value (suc (suc (suc (suc (suc (suc (suc (suc (suc zero))))))))) h = (refl, refl)
glyph_value (suc (suc (suc (suc (suc (suc (suc (suc (suc (suc zero)))))))))) h = (refl, refl)
glyph_value (suc (suc (suc (suc (suc (suc (suc (suc (suc (suc (suc zero))))))))))) h = (refl, refl)
glyph_value (suc (suc (suc (suc (suc (suc (suc (suc (suc (suc (suc (suc zero)))))))))))) h = (refl, refl)
glyph_value (suc (suc (suc (suc (suc (suc (suc (suc (suc (suc (suc (suc (suc zero))))))))))))) h = (refl, refl)
glyph_value (suc (suc (suc (suc (suc (suc (suc (suc (suc (suc (suc (suc (suc (suc zero)))))))))))))) h = (refl, refl)
glyph_value (suc (suc (suc (suc (suc (suc (suc (suc (suc (suc (suc (suc (suc (suc (suc zero))))))))))))))) h = (refl, refl)
glyph_value (suc (suc (suc (suc (suc (suc (suc (suc (suc (suc (suc (suc (suc (suc (suc (suc d)))))))))))))))) h = absurd (omega arith)

pub item_for : (quote byte : ℕ) → (quote ≡ 34) ⊎ (quote ≡ 39) → byte < 2 ^ 8 → IsItemFor quote byte (item_of quote byte)
item_for quote byte q h =
    let plain_or : byte ≢ 92 → byte ≢ quote → IsItemFor quote byte (if nat_le 32 byte && nat_le byte 126 then plain byte else hexadecimal (digit_glyph false (byte / 16)) (digit_glyph false (byte % 16)))
    = λ n m. picked (IsItemFor quote byte) (nat_le 32 byte && nat_le byte 126) (plain byte) (hexadecimal (digit_glyph false (byte / 16)) (digit_glyph false (byte % 16)))
    (λ t. record { is = (grind (arith, nat_tests, t), n, m); value = refl })
    (λ f. let high = glyph_value (byte / 16) (omega arith) in let low = glyph_value (byte % 16) (omega arith) in record { is = (high.1, low.1); value = ap (λ a. 16 * a + digit_value (digit_glyph false (byte % 16))) high.0 ∙ ap (λ a. 16 * (byte / 16) + a) low.0 ∙ omega arith }) in
    picked (IsItemFor quote byte) (byte == 92) backslash _ (λ t. record { is = tt; value = sym ((Decides-eqb byte 92).0 t) }) (λ n92.
    picked (IsItemFor quote byte) (byte == 10) newline _ (λ t. record { is = tt; value = sym ((Decides-eqb byte 10).0 t) }) (λ n10.
    picked (IsItemFor quote byte) (byte == 9) tab _ (λ t. record { is = tt; value = sym ((Decides-eqb byte 9).0 t) }) (λ n9.
    picked (IsItemFor quote byte) (byte == quote) _ _
    (λ t. picked (IsItemFor quote byte) (quote == 34) double_quote single_quote
    (λ u. record { is = tt; value = sym ((Decides-eqb quote 34).0 u) ∙ sym ((Decides-eqb byte quote).0 t) })
    (λ u. record { is = tt; value = ⊎_elim (λ e. absurd (grind (arith, nat_tests, u, e))) (λ e. sym e) q ∙ sym ((Decides-eqb byte quote).0 t) }))
    (λ m. plain_or (λ e. grind (arith, nat_tests, n92, e)) (λ e. grind (arith, nat_tests, m, e))))))

pub items_are : (quote : ℕ) (bytes : List ℕ) → (quote ≡ 34) ⊎ (quote ≡ 39) → AreBytes bytes → AreItems quote (map (item_of quote) bytes)
items_are quote [] q h = tt
items_are quote (b ∷ bs) q h = ((item_for quote b q h.0).is, items_are quote bs q h.1)

items_back : (quote : ℕ) (bytes : List ℕ) → (quote ≡ 34) ⊎ (quote ≡ 39) → AreBytes bytes → map item_value (map (item_of quote) bytes) ≡ bytes
items_back quote [] q h = refl
items_back quote (b ∷ bs) q h = let first = (item_for quote b q h.0).value in let others = items_back quote bs q h.1 in cc

pub no_backslash : (quote : ℕ) → (quote ≡ 34) ⊎ (quote ≡ 39) → quote ≢ 92
no_backslash quote (inl e) f = omega (arith, e, f)
no_backslash quote (inr e) f = omega (arith, e, f)

pub quoted_unique : (quote : ℕ) (xs ys a c : List ℕ) → (quote ≡ 34) ⊎ (quote ≡ 39) → AreBytes xs → AreBytes ys → quoted quote xs ++ a ≡ quoted quote ys ++ c → (xs ≡ ys) × (a ≡ c)
quoted_unique quote xs ys a c q h k e =
    let is = map (item_of quote) xs in
    let js = map (item_of quote) ys in
    let none : (more : List ℕ) → NoItem quote (quote ∷ more) = λ more. no_item_at_quote quote more (no_backslash quote q) in
    let t : items_bytes is ++ (quote ∷ a) ≡ items_bytes js ++ (quote ∷ c)
    = sym (append_assoc (items_bytes is) (quote ∷ []) a) ∙ ap tail e ∙ append_assoc (items_bytes js) (quote ∷ []) c in
    let r : (is ≡ js) × (quote ∷ a ≡ quote ∷ c) = items_unique quote is js (quote ∷ a) (quote ∷ c) (items_are quote xs q h) (items_are quote ys q k) (none a) (none c) t in
    (sym (items_back quote xs q h) ∙ ap (map item_value) r.0 ∙ items_back quote ys q k, ap tail r.1)

-- ---- what the first byte tells

-- 1, 2, 3 for a record, a character, a string; 4 where no value begins
abbrev pub lead_by : Bool → Bool → Bool → Bool → ℕ
lead_by a b c d = if a then 1 else (if b then 2 else (if c then 3 else (if d then 4 else 0)))

abbrev pub lead : List ℕ → ℕ
lead [] = 4
lead (b ∷ bs) = lead_by (b == 91) (b == 39) (b == 34) (is_end b)

abbrev pub lead_of : Val → ℕ
lead_of (Record vs ls) = 1
lead_of (Char byte) = 2
lead_of (Text bytes) = 3
lead_of _ = 0

lead_digit : (b : ℕ) (bs : List ℕ) → IsInRange 48 57 b → lead (b ∷ bs) ≡ 0
lead_digit b bs h = grind (arith, nat_tests)

lead_letter : (b : ℕ) (bs : List ℕ) → is_ascii_alphabetic b ≡ true → lead (b ∷ bs) ≡ 0
lead_letter b bs h = grind (arith, nat_tests)

lead_digits : (ds a : List ℕ) → IsNumeral 10 ds → lead (ds ++ a) ≡ 0
lead_digits ds a h = let f = first_digit ds h in ap (λ t. lead (t ++ a)) f.2 ∙ lead_digit f.0 (f.1 ++ a) f.3

pub lead_value : (names : List (List ℕ)) (v : Val) (a : List ℕ) → IsOrderly names v → lead (value_text names v ++ a) ≡ lead_of v
lead_value names (Var level) a h = absurd h
lead_value names (Record vs ls) a h = refl
lead_value names (Char byte) a h = refl
lead_value names (Text bytes) a h = refl
lead_value names (Int (pos n)) a h = lead_digits (decimal n) a (numeral n (omega arith))
lead_value names (Int (negsuc n)) a h = refl
lead_value names (Chan number) a h = refl
lead_value names (Boolean true) a h = refl
lead_value names (Boolean false) a h = refl
lead_value names (PrimitiveVal p) a h = elim p as (λ p. lead (primitive_text p ++ a) ≡ 0) [ primitive.Print ↦ refl | _ ↦ refl ]

-- ---- labels

word_rest : (more : List ℕ) → AllByRecursion (λ byte. IsTrue (is_word_byte byte)) more → all_of is_word_byte more ≡ true
word_rest [] h = refl
word_rest (b ∷ bs) h = ap (λ t. if t then all_of is_word_byte bs else false) h.0 ∙ word_rest bs h.1

letter_word : (b : ℕ) → is_ascii_alphabetic b ≡ true → is_word_byte b ≡ true
letter_word b h = grind (arith, nat_tests)

pub word_all : (x : List ℕ) → IsWord x → all_of is_word_byte x ≡ true
word_all [] h = absurd h
word_all (b ∷ bs) h = ap (λ t. if t then all_of is_word_byte bs else false) (letter_word b h.0) ∙ word_rest bs h.1

-- the word, and what is behind its `=`
pub label_unique : (x y a c : List ℕ) → IsWord x → IsWord y → x ++ (61 ∷ a) ≡ y ++ (61 ∷ c) → (x ≡ y) × (a ≡ c)
label_unique x y a c h k e = let r : (x ≡ y) × (61 ∷ a ≡ 61 ∷ c) = run_same is_word_byte x y (61 ∷ a) (61 ∷ c) (word_all x h) (word_all y k) refl refl e in (r.0, ap tail r.1)

abbrev worded : List ℕ → Bool
worded [] = true
worded (b ∷ bs) = if is_ascii_alphabetic b then all_of is_word_byte (b ∷ bs) else true

worded_digits : (ds : List ℕ) → IsNumeral 10 ds → worded ds ≡ true
worded_digits ds h = let f = first_digit ds h in ap worded f.2 ∙ ap (λ t. if t then all_of is_word_byte (f.0 ∷ f.1) else true) (digit_no_letter f.0 f.3)

bare_worded : (names : List (List ℕ)) (v : Val) → IsBare v → IsOrderly names v → worded (value_text names v) ≡ true
bare_worded names (Int (pos n)) b h = worded_digits (decimal n) (numeral n (omega arith))
bare_worded names (Int (negsuc n)) b h = refl
bare_worded names (Chan number) b h = digits_all is_word_byte digit_word (decimal number) (numeral number (omega arith)).1
bare_worded names (Boolean true) b h = refl
bare_worded names (Boolean false) b h = refl
bare_worded names (PrimitiveVal p) b h = elim p as (λ p. worded (primitive_text p) ≡ true) [ primitive.Print ↦ refl | _ ↦ refl ]
bare_worded names v b h = absurd b

end_no_word : (b : ℕ) → is_end b ≡ true → is_word_byte b ≡ false
end_no_word b h = grind (arith, nat_tests)

stops_word : (a : List ℕ) → Ends a → Stops is_word_byte a
stops_word [] h = tt
stops_word (b ∷ bs) h = end_no_word b h

text_no_label : (t x a c : List ℕ) → worded t ≡ true → lead t ≢ 4 → IsWord x → Ends a → t ++ a ≡ x ++ (61 ∷ c) → ⊥
text_no_label [] x a c w l h ends e = l refl
text_no_label t [] a c w l h ends e = absurd h
text_no_label (b ∷ bs) (y ∷ ys) a c w l h ends e =
    let same : y ≡ b = cc in
    let letter : is_ascii_alphabetic b ≡ true = subst (λ z. is_ascii_alphabetic z ≡ true) same h.0 in
    let all : all_of is_word_byte (b ∷ bs) ≡ true = sym (ap (λ t. if t then all_of is_word_byte (b ∷ bs) else true) letter) ∙ w in
    let r : (b ∷ bs ≡ y ∷ ys) × (a ≡ 61 ∷ c) = run_same is_word_byte (b ∷ bs) (y ∷ ys) a (61 ∷ c) all (word_all (y ∷ ys) h) (stops_word a ends) refl e in
    let f : false ≡ true = subst Ends r.1 ends in absurd (false≢true f)

pub lead_word : (x a : List ℕ) → IsWord x → lead (x ++ a) ≡ 0
lead_word [] a h = absurd h
lead_word (b ∷ bs) a h = lead_letter b (bs ++ a) h.0

pub no_label : (names : List (List ℕ)) (v : Val) (x a c : List ℕ) → IsOrderly names v → IsWord x → Ends a → value_text names v ++ a ≡ x ++ (61 ∷ c) → ⊥
no_label names v x a c h w ends e = by v h e (sym (lead_value names v a h) ∙ ap lead e ∙ lead_word x (61 ∷ c) w)
  where
    bare : (v : Val) → IsBare v → lead_of v ≡ 0 → IsOrderly names v → value_text names v ++ a ≡ x ++ (61 ∷ c) → ⊥
    bare v b l h e = text_no_label (value_text names v) x a c (bare_worded names v b h) (λ f. omega (arith, sym (ap lead (append-nil (value_text names v))) ∙ lead_value names v [] h, l, f)) w ends e

    by : (v : Val) → IsOrderly names v → value_text names v ++ a ≡ x ++ (61 ∷ c) → lead_of v ≡ 0 → ⊥
    by (Int n) h e l = bare (Int n) tt l h e
    by (Chan n) h e l = bare (Chan n) tt l h e
    by (Boolean b) h e l = bare (Boolean b) tt l h e
    by (PrimitiveVal p) h e l = bare (PrimitiveVal p) tt l h e
    by (Var level) h e l = absurd h
    by (Char byte) h e l = omega (arith, l)
    by (Text bytes) h e l = omega (arith, l)
    by (Record vs ls) h e l = omega (arith, l)

-- ---- names

pub name_stands : (names : List (List ℕ)) (l : ℕ) → IsWord (text_of names l) → slice_get names l ≡ Some (text_of names l)
name_stands names l h = by (slice_get names l) h
  where
    by : (o : Option (List ℕ)) → IsWord (unwrap_or o []) → o ≡ Some (unwrap_or o [])
    by None h = absurd h
    by (Some t) h = refl

name_same : (names : List (List ℕ)) (l m : ℕ) → HasNoRepeats names → IsWord (text_of names l) → text_of names l ≡ text_of names m → l ≡ m
name_same names l m d h e = d l m (text_of names l) (name_stands names l h) (name_stands names m (subst IsWord e h) ∙ ap Some (sym e))

-- ---- fields, each behind a space

abbrev pub spaced : List (List ℕ) → Vals → List ℕ → List ℕ
spaced names no_vals r = r
spaced names (more_vals v vs) r = 32 ∷ (value_text names v ++ spaced names vs r)

labels_spaced : (names : List (List ℕ)) (ls : Labelled) (r : List ℕ) → flat_map (λ t. 32 ∷ t) (labelled_texts names ls) ++ r ≡ spaced_labels names ls r
labels_spaced names no_labelled r = refl
labels_spaced names (more_labelled l v ls) r =
    let others = flat_map (λ t. 32 ∷ t) (labelled_texts names ls) in
    ap (λ t. 32 ∷ t) (append_assoc (text_of names l ++ (61 ∷ value_text names v)) others r ∙ append_assoc (text_of names l) (61 ∷ value_text names v) (others ++ r)
    ∙ ap (λ t. text_of names l ++ (61 ∷ (value_text names v ++ t))) (labels_spaced names ls r))

all_spaced : (names : List (List ℕ)) (vs : Vals) (ls : Labelled) (r : List ℕ) → flat_map (λ t. 32 ∷ t) (positional_texts names vs ++ labelled_texts names ls) ++ r ≡ spaced names vs (spaced_labels names ls r)
all_spaced names no_vals ls r = labels_spaced names ls r
all_spaced names (more_vals v vs) ls r =
    let others = flat_map (λ t. 32 ∷ t) (positional_texts names vs ++ labelled_texts names ls) in
    ap (λ t. 32 ∷ t) (append_assoc (value_text names v) others r ∙ ap (λ t. value_text names v ++ t) (all_spaced names vs ls r))

rest_spaced : (names : List (List ℕ)) (vs : Vals) (ls : Labelled) (a : List ℕ) → rest_text names vs ls ++ a ≡ spaced names vs (spaced_labels names ls (93 ∷ a))
rest_spaced names vs ls a = append_assoc (flat_map (λ t. 32 ∷ t) (positional_texts names vs ++ labelled_texts names ls)) (93 ∷ []) a ∙ all_spaced names vs ls (93 ∷ a)

-- fields as they stand in brackets: none, or each behind a space where one is put first
pub opened : (names : List (List ℕ)) (vs : Vals) (ls : Labelled) (a : List ℕ) → AreOrderly names vs → LabelsAfter names [] ls
    → ((fields_text names vs ls ++ a ≡ 93 ∷ a) × (vs ≡ no_vals) × (ls ≡ no_labelled)) ⊎ ((32 ∷ (fields_text names vs ls ++ a) ≡ spaced names vs (spaced_labels names ls (93 ∷ a))) × (lead (fields_text names vs ls ++ a) ≢ 4))
opened names no_vals no_labelled a h k = inl (refl, refl, refl)
opened names no_vals (more_labelled l v ls) a h k =
    inr (
      ap (λ t. t ++ a) (sym (rest_labelled names l v ls)) ∙ rest_spaced names no_vals (more_labelled l v ls) a,
      λ f. omega (arith, sym (ap lead (ap (λ t. t ++ a) (first_labelled names l v ls) ∙ append_assoc (text_of names l) (61 ∷ (value_text names v ++ rest_text names no_vals ls)) a) ∙ lead_word (text_of names l) ((61 ∷ (value_text names v ++ rest_text names no_vals ls)) ++ a) k.0.0) ∙ f),
    )
opened names (more_vals v vs) ls a h k =
    inr (
      ap (λ t. t ++ a) (sym (rest_positional names v vs ls)) ∙ rest_spaced names (more_vals v vs) ls a,
      λ f. let g : lead_of v ≡ 4 = sym (ap lead (ap (λ t. t ++ a) (first_positional names v vs ls) ∙ append_assoc (value_text names v) (rest_text names vs ls) a) ∙ lead_value names v (rest_text names vs ls ++ a) h.0) ∙ f in no_four v g,
    )
  where
    no_four : (v : Val) → lead_of v ≢ 4
    no_four v e = grind arith

-- ---- all values

-- what may stand behind positional fields: `]`, or a field with a label
abbrev pub Closes : List ℕ → Type 0
Closes r = ((a : List ℕ) × (r ≡ 93 ∷ a)) ⊎ ((x : List ℕ) × (c : List ℕ) × IsWord x × (r ≡ 32 ∷ (x ++ (61 ∷ c))))

pub closes_labels : (names : List (List ℕ)) (before : List ℕ) (ls : Labelled) (a : List ℕ) → LabelsAfter names before ls → Closes (spaced_labels names ls (93 ∷ a))
closes_labels names before no_labelled a h = inl (a, refl)
closes_labels names before (more_labelled l v ls) a h = inr (text_of names l, value_text names v ++ spaced_labels names ls (93 ∷ a), h.0.0, refl)

closes_ends : (r : List ℕ) → Closes r → Ends r
closes_ends r (inl (a, e)) = subst Ends (sym e) refl
closes_ends r (inr (x, c, w, e)) = subst Ends (sym e) refl

pub ends_spaced : (names : List (List ℕ)) (vs : Vals) (r : List ℕ) → Closes r → Ends (spaced names vs r)
ends_spaced names no_vals r h = closes_ends r h
ends_spaced names (more_vals v vs) r h = refl

pub ends_labels : (names : List (List ℕ)) (ls : Labelled) (a : List ℕ) → Ends (spaced_labels names ls (93 ∷ a))
ends_labels names no_labelled a = refl
ends_labels names (more_labelled l v ls) a = refl

bare_if : (names : List (List ℕ)) (w : Val) → IsOrderly names w → lead_of w ≡ 0 → IsBare w
bare_if names (Int n) h e = tt
bare_if names (Chan n) h e = tt
bare_if names (Boolean b) h e = tt
bare_if names (PrimitiveVal p) h e = tt
bare_if names (Var level) h e = absurd h
bare_if names (Char byte) h e = absurd (omega (arith, e))
bare_if names (Text bytes) h e = absurd (omega (arith, e))
bare_if names (Record vs ls) h e = absurd (omega (arith, e))

abbrev pub first_of_bytes : List ℕ → ℕ
first_of_bytes [] = 0
first_of_bytes (b ∷ bs) = b

pub never_same : (a c : List ℕ) → ¬ (93 ∷ a ≡ 32 ∷ c)
never_same a c e = omega (arith, ap first_of_bytes e)

value_or_label : (names : List (List ℕ)) (v : Val) (r a : List ℕ) → Closes r → IsOrderly names v → Ends a → r ≡ 32 ∷ (value_text names v ++ a) → ⊥
value_or_label names v r a (inl (c, f)) h ends e = never_same c (value_text names v ++ a) (sym f ∙ e)
value_or_label names v r a (inr (x, c, w, f)) h ends e = no_label names v x a c h w ends (ap tail (sym e ∙ f))

same_lead : (names : List (List ℕ)) (v w : Val) (a c : List ℕ) → IsOrderly names v → IsOrderly names w → value_text names v ++ a ≡ value_text names w ++ c → lead_of v ≡ lead_of w
same_lead names v w a c h k e = sym (lead_value names v a h) ∙ ap lead e ∙ lead_value names w c k

mutual
  value_by : (names : List (List ℕ)) → HasNoRepeats names → (v w : Val) (a c : List ℕ) → IsOrderly names v → IsOrderly names w → Ends a → Ends c
      → value_text names v ++ a ≡ value_text names w ++ c → lead_of v ≡ lead_of w → (v ≡ w) × (a ≡ c)
  value_by names d (Record vs ls) (Record vs' ls') a c h k s t e f =
      let inner : fields_text names vs ls ++ a ≡ fields_text names vs' ls' ++ c = ap tail e in
      elim (opened names vs ls a h.0 h.1) [
        | inl x ↦ elim (opened names vs' ls' c k.0 k.1) [
          | inl y ↦ (ap (λ l. Record l ls) (x.1 ∙ sym y.1) ∙ ap (Record vs') (x.2 ∙ sym y.2), ap tail (sym x.0 ∙ inner ∙ y.0))
          | inr y ↦ absurd (y.1 (ap lead (sym inner ∙ x.0)))
        ]
        | inr x ↦ elim (opened names vs' ls' c k.0 k.1) [
          | inl y ↦ absurd (x.1 (ap lead (inner ∙ y.0)))
          | inr y ↦
              (let all = vals_by names d vs vs' (spaced_labels names ls (93 ∷ a)) (spaced_labels names ls' (93 ∷ c)) h.0 k.0 (closes_labels names [] ls a h.1) (closes_labels names [] ls' c k.1) (sym x.0 ∙ ap (λ t. 32 ∷ t) inner ∙ y.0) in
              let others = labels_by names d ls ls' [] [] a c h.1 k.1 all.1 in
              (ap (λ l. Record l ls) all.0 ∙ ap (Record vs') others.0, others.1))
        ]
      ]
  value_by names d (Record vs ls) w a c h k s t e f = absurd (omega (arith, f))
  value_by names d (Char x) (Char y) a c h k s t e f = let r : (x ∷ [] ≡ y ∷ []) × (a ≡ c) = quoted_unique 39 (x ∷ []) (y ∷ []) a c (inr refl) (h, tt) (k, tt) e in let same : x ≡ y = (let g = r.0 in cc) in (ap Char same, r.1)
  value_by names d (Char x) w a c h k s t e f = absurd (omega (arith, f))
  value_by names d (Text x) (Text y) a c h k s t e f = let r = quoted_unique 34 x y a c (inl refl) h k e in (ap Text r.0, r.1)
  value_by names d (Text x) w a c h k s t e f = absurd (omega (arith, f))
  value_by names d (Var x) w a c h k s t e f = absurd h
  value_by names d (Int x) w a c h k s t e f = bare_unique names (Int x) w a c tt (bare_if names w k (sym f)) h k s t e
  value_by names d (Chan x) w a c h k s t e f = bare_unique names (Chan x) w a c tt (bare_if names w k (sym f)) h k s t e
  value_by names d (Boolean x) w a c h k s t e f = bare_unique names (Boolean x) w a c tt (bare_if names w k (sym f)) h k s t e
  value_by names d (PrimitiveVal x) w a c h k s t e f = bare_unique names (PrimitiveVal x) w a c tt (bare_if names w k (sym f)) h k s t e

  vals_by : (names : List (List ℕ)) → HasNoRepeats names → (vs ws : Vals) (r q : List ℕ) → AreOrderly names vs → AreOrderly names ws → Closes r → Closes q
      → spaced names vs r ≡ spaced names ws q → (vs ≡ ws) × (r ≡ q)
  vals_by names d no_vals no_vals r q h k s t e = (refl, e)
  vals_by names d no_vals (more_vals w ws) r q h k s t e = absurd (value_or_label names w r (spaced names ws q) s k.0 (ends_spaced names ws q t) e)
  vals_by names d (more_vals v vs) no_vals r q h k s t e = absurd (value_or_label names v q (spaced names vs r) t h.0 (ends_spaced names vs r s) (sym e))
  vals_by names d (more_vals v vs) (more_vals w ws) r q h k s t e =
      let first = value_by names d v w (spaced names vs r) (spaced names ws q) h.0 k.0 (ends_spaced names vs r s) (ends_spaced names ws q t) (ap tail e) (same_lead names v w (spaced names vs r) (spaced names ws q) h.0 k.0 (ap tail e)) in
      let others = vals_by names d vs ws r q h.1 k.1 s t first.1 in
      (ap (λ x. more_vals x vs) first.0 ∙ ap (more_vals w) others.0, others.1)

  labels_by : (names : List (List ℕ)) → HasNoRepeats names → (ls ms : Labelled) (x y a c : List ℕ) → LabelsAfter names x ls → LabelsAfter names y ms
      → spaced_labels names ls (93 ∷ a) ≡ spaced_labels names ms (93 ∷ c) → (ls ≡ ms) × (a ≡ c)
  labels_by names d no_labelled no_labelled x y a c h k e = (refl, ap tail e)
  labels_by names d no_labelled (more_labelled m w ms) x y a c h k e = absurd (never_same _ _ e)
  labels_by names d (more_labelled l v ls) no_labelled x y a c h k e = absurd (never_same _ _ (sym e))
  labels_by names d (more_labelled l v ls) (more_labelled m w ms) x y a c h k e =
      let r = label_unique (text_of names l) (text_of names m) (value_text names v ++ spaced_labels names ls (93 ∷ a)) (value_text names w ++ spaced_labels names ms (93 ∷ c)) h.0.0 k.0.0 (ap tail e) in
      let label = name_same names l m d h.0.0 r.0 in
      let value = value_by names d v w (spaced_labels names ls (93 ∷ a)) (spaced_labels names ms (93 ∷ c)) h.2 k.2 (ends_labels names ls a) (ends_labels names ms c) r.1 (same_lead names v w (spaced_labels names ls (93 ∷ a)) (spaced_labels names ms (93 ∷ c)) h.2 k.2 r.1) in
      let others = labels_by names d ls ms (text_of names l) (text_of names m) a c h.3 k.3 value.1 in
      (ap (λ t. more_labelled t v ls) label ∙ ap (λ t. more_labelled m t ls) value.0 ∙ ap (more_labelled m w) others.0, others.1)

-- No value's text is a proper beginning of another's where a space, a newline or `]` follows each.
pub value_unique : (names : List (List ℕ)) → HasNoRepeats names → (v w : Val) (a c : List ℕ) → IsOrderly names v → IsOrderly names w → Ends a → Ends c
    → value_text names v ++ a ≡ value_text names w ++ c → (v ≡ w) × (a ≡ c)
value_unique names d v w a c h k s t e = value_by names d v w a c h k s t e (same_lead names v w a c h k e)

-- ---- the same under two tables of names: where the text ends

bare_ends : (names others : List (List ℕ)) (v w : Val) (a c : List ℕ) → IsBare v → IsBare w → IsOrderly names v → IsOrderly others w → Ends a → Ends c → value_text names v ++ a ≡ value_text others w ++ c → a ≡ c
bare_ends names others v w a c b d h k ends ends' e = (run_same is_solid (value_text names v) (value_text others w) a c (bare_solid names v b h) (bare_solid others w d k) (stops_solid a ends) (stops_solid c ends') e).1

other_lead : (names others : List (List ℕ)) (v w : Val) (a c : List ℕ) → IsOrderly names v → IsOrderly others w → value_text names v ++ a ≡ value_text others w ++ c → lead_of v ≡ lead_of w
other_lead names others v w a c h k e = sym (lead_value names v a h) ∙ ap lead e ∙ lead_value others w c k

mutual
  ends_by : (names others : List (List ℕ)) (v w : Val) (a c : List ℕ) → IsOrderly names v → IsOrderly others w → Ends a → Ends c
      → value_text names v ++ a ≡ value_text others w ++ c → lead_of v ≡ lead_of w → a ≡ c
  ends_by names others (Record vs ls) (Record vs' ls') a c h k s t e f =
      let inner : fields_text names vs ls ++ a ≡ fields_text others vs' ls' ++ c = ap tail e in
      elim (opened names vs ls a h.0 h.1) [
        | inl x ↦ elim (opened others vs' ls' c k.0 k.1) [
          | inl y ↦ ap tail (sym x.0 ∙ inner ∙ y.0)
          | inr y ↦ absurd (y.1 (ap lead (sym inner ∙ x.0)))
        ]
        | inr x ↦ elim (opened others vs' ls' c k.0 k.1) [
          | inl y ↦ absurd (x.1 (ap lead (inner ∙ y.0)))
          | inr y ↦
              labels_end names others ls ls' [] [] a c h.1 k.1
              (vals_end names others vs vs' (spaced_labels names ls (93 ∷ a)) (spaced_labels others ls' (93 ∷ c)) h.0 k.0 (closes_labels names [] ls a h.1) (closes_labels others [] ls' c k.1) (sym x.0 ∙ ap (λ t. 32 ∷ t) inner ∙ y.0))
        ]
      ]
  ends_by names others (Record vs ls) w a c h k s t e f = absurd (omega (arith, f))
  ends_by names others (Char x) (Char y) a c h k s t e f = (quoted_unique 39 (x ∷ []) (y ∷ []) a c (inr refl) (h, tt) (k, tt) e).1
  ends_by names others (Char x) w a c h k s t e f = absurd (omega (arith, f))
  ends_by names others (Text x) (Text y) a c h k s t e f = (quoted_unique 34 x y a c (inl refl) h k e).1
  ends_by names others (Text x) w a c h k s t e f = absurd (omega (arith, f))
  ends_by names others (Var x) w a c h k s t e f = absurd h
  ends_by names others (Int x) w a c h k s t e f = bare_ends names others (Int x) w a c tt (bare_if others w k (sym f)) h k s t e
  ends_by names others (Chan x) w a c h k s t e f = bare_ends names others (Chan x) w a c tt (bare_if others w k (sym f)) h k s t e
  ends_by names others (Boolean x) w a c h k s t e f = bare_ends names others (Boolean x) w a c tt (bare_if others w k (sym f)) h k s t e
  ends_by names others (PrimitiveVal x) w a c h k s t e f = bare_ends names others (PrimitiveVal x) w a c tt (bare_if others w k (sym f)) h k s t e

  vals_end : (names others : List (List ℕ)) (vs ws : Vals) (r q : List ℕ) → AreOrderly names vs → AreOrderly others ws → Closes r → Closes q
      → spaced names vs r ≡ spaced others ws q → r ≡ q
  vals_end names others no_vals no_vals r q h k s t e = e
  vals_end names others no_vals (more_vals w ws) r q h k s t e = absurd (value_or_label others w r (spaced others ws q) s k.0 (ends_spaced others ws q t) e)
  vals_end names others (more_vals v vs) no_vals r q h k s t e = absurd (value_or_label names v q (spaced names vs r) t h.0 (ends_spaced names vs r s) (sym e))
  vals_end names others (more_vals v vs) (more_vals w ws) r q h k s t e =
      vals_end names others vs ws r q h.1 k.1 s t (ends_by names others v w (spaced names vs r) (spaced others ws q) h.0 k.0 (ends_spaced names vs r s) (ends_spaced others ws q t) (ap tail e) (other_lead names others v w (spaced names vs r) (spaced others ws q) h.0 k.0 (ap tail e)))

  pub labels_end : (names others : List (List ℕ)) (ls ms : Labelled) (x y a c : List ℕ) → LabelsAfter names x ls → LabelsAfter others y ms
      → spaced_labels names ls (93 ∷ a) ≡ spaced_labels others ms (93 ∷ c) → a ≡ c
  labels_end names others no_labelled no_labelled x y a c h k e = ap tail e
  labels_end names others no_labelled (more_labelled m w ms) x y a c h k e = absurd (never_same _ _ e)
  labels_end names others (more_labelled l v ls) no_labelled x y a c h k e = absurd (never_same _ _ (sym e))
  labels_end names others (more_labelled l v ls) (more_labelled m w ms) x y a c h k e =
      let r = label_unique (text_of names l) (text_of others m) (value_text names v ++ spaced_labels names ls (93 ∷ a)) (value_text others w ++ spaced_labels others ms (93 ∷ c)) h.0.0 k.0.0 (ap tail e) in
      labels_end names others ls ms (text_of names l) (text_of others m) a c h.3 k.3
      (ends_by names others v w (spaced_labels names ls (93 ∷ a)) (spaced_labels others ms (93 ∷ c)) h.2 k.2 (ends_labels names ls a) (ends_labels others ms c) r.1 (other_lead names others v w (spaced_labels names ls (93 ∷ a)) (spaced_labels others ms (93 ∷ c)) h.2 k.2 r.1))

-- Two records end at the same place, whatever is behind them.
pub record_ends : (names others : List (List ℕ)) (vs ws : Vals) (ls ms : Labelled) (a c : List ℕ) → IsOrderly names (Record vs ls) → IsOrderly others (Record ws ms) → value_text names (Record vs ls) ++ a ≡ value_text others (Record ws ms) ++ c → a ≡ c
record_ends names others vs ws ls ms a c h k e =
    let inner : fields_text names vs ls ++ a ≡ fields_text others ws ms ++ c = ap tail e in
    elim (opened names vs ls a h.0 h.1) [
      | inl x ↦ elim (opened others ws ms c k.0 k.1) [
        | inl y ↦ ap tail (sym x.0 ∙ inner ∙ y.0)
        | inr y ↦ absurd (y.1 (ap lead (sym inner ∙ x.0)))
      ]
      | inr x ↦ elim (opened others ws ms c k.0 k.1) [
        | inl y ↦ absurd (x.1 (ap lead (inner ∙ y.0)))
        | inr y ↦
            labels_end names others ls ms [] [] a c h.1 k.1
            (vals_end names others vs ws (spaced_labels names ls (93 ∷ a)) (spaced_labels others ms (93 ∷ c)) h.0 k.0 (closes_labels names [] ls a h.1) (closes_labels others [] ms c k.1) (sym x.0 ∙ ap (λ t. 32 ∷ t) inner ∙ y.0))
      ]
    ]

-- Two values with the same text in front, each followed by a space, a newline or `]`, end at the same place, whatever
-- their tables of names are.
pub value_ends : (names others : List (List ℕ)) (v w : Val) (a c : List ℕ) → IsOrderly names v → IsOrderly others w → Ends a → Ends c
    → value_text names v ++ a ≡ value_text others w ++ c → a ≡ c
value_ends names others v w a c h k s t e = ends_by names others v w a c h k s t e (other_lead names others v w a c h k e)

-- ---- lines

pub number_unique : (m n : ℕ) (a c : List ℕ) → m < 2 ^ 64 → n < 2 ^ 64 → decimal m ++ (32 ∷ a) ≡ decimal n ++ (32 ∷ c) → (m ≡ n) × (a ≡ c)
number_unique m n a c h k e =
    let r = run_same is_ascii_digit (decimal m) (decimal n) (32 ∷ a) (32 ∷ c) (digits_all is_ascii_digit digit_is (decimal m) (numeral m h).1) (digits_all is_ascii_digit digit_is (decimal n) (numeral n k).1) refl refl e in
    (decimal_injective m n h k r.0, ap tail r.1)

shown_unique : (names : List (List ℕ)) → HasNoRepeats names → (l k : Label) (a c : List ℕ) → IsReadableLabel names l → IsReadableLabel names k
    → shown_text names l ++ (10 ∷ a) ≡ shown_text names k ++ (10 ∷ c) → (l ≡ k) × (a ≡ c)
shown_unique names d Quiet k a c h i e = absurd h
shown_unique names d l Quiet a c h i e = absurd i
shown_unique names d (Comm m v) (Comm n w) a c h i e =
    let e' : decimal m ++ (32 ∷ (value_text names v ++ (10 ∷ a))) ≡ decimal n ++ (32 ∷ (value_text names w ++ (10 ∷ c)))
    = sym (append_assoc (decimal m) (32 ∷ value_text names v) (10 ∷ a)) ∙ ap tail e ∙ append_assoc (decimal n) (32 ∷ value_text names w) (10 ∷ c) in
    let r = number_unique m n (value_text names v ++ (10 ∷ a)) (value_text names w ++ (10 ∷ c)) (let b = h.0 in omega (arith, b)) (let b = i.0 in omega (arith, b)) e' in
    let q = value_unique names d v w (10 ∷ a) (10 ∷ c) h.1.0 i.1.0 refl refl r.1 in
    (ap (λ t. Comm t v) r.0 ∙ ap (Comm n) q.0, ap tail q.1)
shown_unique names d (Comm m v) (Print y) a c h i e = absurd (let f = ap first_of_bytes e in omega (arith, f))
shown_unique names d (Print x) (Comm n w) a c h i e = absurd (let f = ap first_of_bytes e in omega (arith, f))
shown_unique names d (Print x) (Print y) a c h i e =
    let r = quoted_unique 34 x y (10 ∷ a) (10 ∷ c) (inl refl) h i (ap tail (ap tail (ap tail (ap tail (ap tail (ap tail e)))))) in
    (ap Print r.0, ap tail r.1)

line_unique : (names : List (List ℕ)) → HasNoRepeats names → (l k : ℕ × Label) (a c : List ℕ) → IsReadable names l → IsReadable names k
    → line_text names l.0 l.1 ++ a ≡ line_text names k.0 k.1 ++ c → (l ≡ k) × (a ≡ c)
line_unique names d (m, l) (n, k) a c h i e =
    let e' : decimal m ++ (32 ∷ (shown_text names l ++ (10 ∷ a))) ≡ decimal n ++ (32 ∷ (shown_text names k ++ (10 ∷ c)))
    = ap (λ t. decimal m ++ (32 ∷ t)) (sym (append_assoc (shown_text names l) (10 ∷ []) a)) ∙ sym (append_assoc (decimal m) (32 ∷ (shown_text names l ++ 10 ∷ [])) a)
    ∙ e ∙ append_assoc (decimal n) (32 ∷ (shown_text names k ++ 10 ∷ [])) c ∙ ap (λ t. decimal n ++ (32 ∷ t)) (append_assoc (shown_text names k) (10 ∷ []) c) in
    let r = number_unique m n (shown_text names l ++ (10 ∷ a)) (shown_text names k ++ (10 ∷ c)) h.0 i.0 e' in
    let q = shown_unique names d l k a c h.1 i.1 r.1 in
    (ap (λ t. (t, l)) r.0 ∙ ap (λ t. (n, t)) q.0, q.1)

pub line_some : (names : List (List ℕ)) (l : ℕ × Label) (a : List ℕ) → IsReadable names l → line_text names l.0 l.1 ++ a ≢ []
line_some names l a h e = by (decimal l.0) (numeral l.0 h.0) e
  where
    by : (ds : List ℕ) → IsNumeral 10 ds → (ds ++ (32 ∷ (shown_text names l.1 ++ 10 ∷ []))) ++ a ≢ []
    by [] n e = omega (arith, n.0)
    by (d ∷ ds) n e = cc

-- A text is the lines of at most one list of numbered labels.
pub lines_unique : (names : List (List ℕ)) → HasNoRepeats names → (xs ys : List (ℕ × Label)) → AllByRecursion (IsReadable names) xs → AllByRecursion (IsReadable names) ys
    → lines_text names xs ≡ lines_text names ys → xs ≡ ys
lines_unique names d [] [] h k e = refl
lines_unique names d [] (y ∷ ys) h k e = absurd (line_some names y (lines_text names ys) k.0 (sym e))
lines_unique names d (x ∷ xs) [] h k e = absurd (line_some names x (lines_text names xs) h.0 e)
lines_unique names d (x ∷ xs) (y ∷ ys) h k e =
    let r = line_unique names d x y (lines_text names xs) (lines_text names ys) h.0 k.0 e in
    let others = lines_unique names d xs ys h.1 k.1 r.1 in
    (ap (λ t. t ∷ xs) r.0 ∙ ap (λ t. y ∷ t) others)
