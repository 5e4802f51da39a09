-- Characters and strings: the token at the front of a text, or why there is none.
use Rattle.std.proofs.Common.{◌≡◌, ◌≢◌, ℕ, ◌+◌, ◌-◌, ◌<◌, ◌≤◌, List, [], ◌∷◌, ◌++◌, length, take, drop, map, get_or, suc, refl, sym, ◌∙◌, ap, subst, arith, append_assoc}
use Rattle.std.proofs.Math.Seq.{drop-append_seam, take-append_seam, drop-cons}
use Rattle.std.proofs.lemmas.List.{length-append, length-drop, drop-drop}
use Rattle.pict_syntax.specs.Tokens.{Form, character, string, Item, item_bytes, item_value, IsItem, AreItems, items_bytes, Spells}
use Rattle.pict_syntax.specs.Comments.{BeginsWith}
use Rattle.pict_syntax.specs.Cuts.{token, IsLongest, IsWithinRange, IsPiece}
use Rattle.pict_syntax.proofs.ItemLemmas.{item_unique, items_unique, no_item_at_quote}
use Rattle.pict_syntax.proofs.FormLemmas.{family_of, single, double, at_single, at_double}
use Rattle.pict_lex.specs.Due.{IsItemAt}
use Rattle.pict_lex.specs.Scan.{IsToken}

-- a token from its bytes
pub token_from : (rest bytes after : List ℕ) (form : Form) (len : ℕ) → rest ≡ bytes ++ after → len ≡ length bytes → 0 < len → Spells bytes form → IsWithinRange form → IsLongest bytes after
    → IsToken rest form len
token_from rest bytes after form len e n positive spelled in_range longest =
    let taken : take len rest ≡ bytes = ap (λ k. take k rest) n ∙ ap (take (length bytes)) e ∙ take-append_seam bytes after in
    let dropped : drop len rest ≡ after = ap (λ k. drop k rest) n ∙ ap (drop (length bytes)) e ∙ drop-append_seam bytes after in
    let size : length rest ≡ length bytes + length after = ap length e ∙ length-append bytes after in
    record {
      some = positive;
      within = omega arith;
      piece = subst (λ b. IsPiece (token b form) (drop len rest)) (sym taken) (subst (λ a. IsPiece (token bytes form) a) (sym dropped) (spelled, in_range, longest));
    }

by_single : (item : Item) (after : List ℕ) → IsItem 39 item → (others : List ℕ) (form : Form) → family_of form ≡ single → Spells others form → BeginsWith others ((39 ∷ (item_bytes item ++ 39 ∷ [])) ++ after)
    → length others ≤ length (39 ∷ (item_bytes item ++ 39 ∷ []))
by_single item after is others (character value) family (other, is_other, e, v) (rest, f) =
    let text : 39 ∷ (item_bytes item ++ (39 ∷ after)) ≡ 39 ∷ (item_bytes other ++ (39 ∷ rest)) =
    ap (λ t. 39 ∷ t) (sym (append_assoc (item_bytes item) (39 ∷ []) after)) ∙ f ∙ ap (λ t. t ++ rest) e ∙ ap (λ t. 39 ∷ t) (append_assoc (item_bytes other) (39 ∷ []) rest) in
    let behind : item_bytes item ++ (39 ∷ after) ≡ item_bytes other ++ (39 ∷ rest) = cc in
    let same : item ≡ other = (item_unique 39 item other (39 ∷ after) (39 ∷ rest) is is_other behind).0 in
    let size : length others ≡ length (39 ∷ (item_bytes item ++ 39 ∷ [])) = ap length (e ∙ ap (λ i. 39 ∷ (item_bytes i ++ 39 ∷ [])) (sym same)) in
    omega arith
by_single item after is others form family h f = cc

longest_character : (item : Item) (after : List ℕ) → IsItem 39 item → IsLongest (39 ∷ (item_bytes item ++ 39 ∷ [])) after
longest_character item after is others form spelled (rest, e) =
    by_single item after is others form (at_single others rest form ((item_bytes item ++ 39 ∷ []) ++ after) spelled e) spelled (rest, e)

-- the character with an item that its quote follows
pub character_token : (rest : List ℕ) (value len : ℕ) → BeginsWith (39 ∷ []) rest → IsItemAt 39 (drop 1 rest) value len → len + 1 < length rest → get_or rest (len + 1) 0 ≡ 39
    → IsToken rest (character value) (len + 2)
character_token rest value len (more, begins) at within quote =
    let tail : drop 1 rest ≡ more = ap (drop 1) begins in
    let behind : drop len (drop 1 rest) ≡ 39 ∷ drop (suc (len + 1)) rest =
    drop-drop len 1 rest ∙ (let n : 1 + len ≡ len + 1 = omega arith in ap (λ k. drop k rest) n) ∙ drop-cons rest (len + 1) 0 within ∙ ap (λ b. b ∷ drop (suc (len + 1)) rest) quote in
    let text : rest ≡ 39 ∷ (item_bytes at.item ++ (39 ∷ drop (suc (len + 1)) rest)) =
    begins ∙ ap (λ t. 39 ∷ t) (sym tail ∙ at.bytes ∙ ap (λ t. item_bytes at.item ++ t) behind) in
    let whole : rest ≡ (39 ∷ (item_bytes at.item ++ 39 ∷ [])) ++ drop (suc (len + 1)) rest =
    text ∙ ap (λ t. 39 ∷ t) (sym (append_assoc (item_bytes at.item) (39 ∷ []) (drop (suc (len + 1)) rest))) in
    let size : length (39 ∷ (item_bytes at.item ++ 39 ∷ [])) ≡ suc (length (item_bytes at.item) + 1) = ap (λ n. suc n) (length-append (item_bytes at.item) (39 ∷ [])) in
    let len_is : len ≡ length (item_bytes at.item) = at.len_is in
    token_from rest (39 ∷ (item_bytes at.item ++ 39 ∷ [])) (drop (suc (len + 1)) rest) (character value) (len + 2) whole (omega arith) (omega arith)
    (at.item, at.is, refl, at.value_is) tt (longest_character at.item (drop (suc (len + 1)) rest) at.is)

by_double : (items : List Item) (after : List ℕ) → AreItems 34 items → (others : List ℕ) (form : Form) → family_of form ≡ double → Spells others form
    → BeginsWith others ((34 ∷ (items_bytes items ++ 34 ∷ [])) ++ after) → length others ≤ length (34 ∷ (items_bytes items ++ 34 ∷ []))
by_double items after are others (string values) family (found, are_found, e, v) (rest, f) =
    let text : 34 ∷ (items_bytes items ++ (34 ∷ after)) ≡ 34 ∷ (items_bytes found ++ (34 ∷ rest)) =
    ap (λ t. 34 ∷ t) (sym (append_assoc (items_bytes items) (34 ∷ []) after)) ∙ f ∙ ap (λ t. t ++ rest) e ∙ ap (λ t. 34 ∷ t) (append_assoc (items_bytes found) (34 ∷ []) rest) in
    let behind : items_bytes items ++ (34 ∷ after) ≡ items_bytes found ++ (34 ∷ rest) = cc in
    let same : items ≡ found = (items_unique 34 items found (34 ∷ after) (34 ∷ rest) are are_found (no_item_at_quote 34 after no_backslash) (no_item_at_quote 34 rest no_backslash) behind).0 in
    let size : length others ≡ length (34 ∷ (items_bytes items ++ 34 ∷ [])) = ap length (e ∙ ap (λ i. 34 ∷ (items_bytes i ++ 34 ∷ [])) (sym same)) in
    omega arith
  where
    no_backslash : ◌≢◌ {A = ℕ} 34 92
    no_backslash h = omega (arith, h)
by_double items after are others form family h f = cc

longest_string : (items : List Item) (after : List ℕ) → AreItems 34 items → IsLongest (34 ∷ (items_bytes items ++ 34 ∷ [])) after
longest_string items after are others form spelled (rest, e) =
    by_double items after are others form (at_double others rest form ((items_bytes items ++ 34 ∷ []) ++ after) spelled e) spelled (rest, e)

-- The items of a string that are read: where the reading of a literal has come to.
pub record HasItems (rest : List ℕ) (at : ℕ) (values : List ℕ) : Type 0 where
  pub items : List Item
  pub are : AreItems 34 items
  pub within : at ≤ length rest
  pub spelled : rest ≡ 34 ∷ (items_bytes items ++ drop at rest)
  pub values_are : values ≡ map item_value items
  pub place : at ≡ 1 + length (items_bytes items)

items_last : (items : List Item) (item : Item) → items_bytes (items ++ item ∷ []) ≡ items_bytes items ++ item_bytes item
items_last [] item = append_nil (item_bytes item)
  where
    append_nil : (xs : List ℕ) → xs ++ [] ≡ xs
    append_nil [] = refl
    append_nil (x ∷ xs) = ap (λ t. x ∷ t) (append_nil xs)
items_last (first ∷ items) item = ap (λ t. item_bytes first ++ t) (items_last items item) ∙ sym (append_assoc (item_bytes first) (items_bytes items) (item_bytes item))

values_last : (items : List Item) (item : Item) → map item_value (items ++ item ∷ []) ≡ map item_value items ++ item_value item ∷ []
values_last [] item = refl
values_last (first ∷ items) item = ap (λ t. item_value first ∷ t) (values_last items item)

are_last : (items : List Item) (item : Item) → AreItems 34 items → IsItem 34 item → AreItems 34 (items ++ item ∷ [])
are_last [] item are is = (is, tt)
are_last (first ∷ items) item are is = (are.0, are_last items item are.1 is)

-- one item more
pub one_item_more : (rest : List ℕ) (at value len : ℕ) (values : List ℕ) → HasItems rest at values → IsItemAt 34 (drop at rest) value len → HasItems rest (at + len) (values ++ value ∷ [])
one_item_more rest at value len values had more =
    let behind : drop len (drop at rest) ≡ drop (at + len) rest = drop-drop len at rest in
    let size : length (drop at rest) ≡ length rest - at = length-drop at rest in
    let within : len ≤ length (drop at rest) = more.within in
    let room : at ≤ length rest = had.within in
    let text : drop at rest ≡ item_bytes more.item ++ drop (at + len) rest = more.bytes ∙ ap (λ t. item_bytes more.item ++ t) behind in
    let bytes : items_bytes (had.items ++ more.item ∷ []) ≡ items_bytes had.items ++ item_bytes more.item = items_last had.items more.item in
    let count : length (items_bytes had.items ++ item_bytes more.item) ≡ length (items_bytes had.items) + length (item_bytes more.item) = length-append (items_bytes had.items) (item_bytes more.item) in
    let here : at ≡ 1 + length (items_bytes had.items) = had.place in
    let more_len : len ≡ length (item_bytes more.item) = more.len_is in
    let place : at + len ≡ 1 + length (items_bytes had.items ++ item_bytes more.item) = omega arith in
    record {
      items = had.items ++ more.item ∷ [];
      are = are_last had.items more.item had.are more.is;
      within = omega arith;
      spelled = had.spelled ∙ ap (λ t. 34 ∷ (items_bytes had.items ++ t)) text ∙ ap (λ t. 34 ∷ t) (sym (append_assoc (items_bytes had.items) (item_bytes more.item) (drop (at + len) rest)))
          ∙ ap (λ t. 34 ∷ (t ++ drop (at + len) rest)) (sym bytes);
      values_are = ap (λ v. v ++ value ∷ []) had.values_are ∙ ap (λ v. map item_value had.items ++ v ∷ []) more.value_is ∙ sym (values_last had.items more.item);
      place = place ∙ ap (λ t. 1 + length t) (sym bytes);
    }

-- the string whose quote stands here
pub string_token : (rest : List ℕ) (at : ℕ) (values : List ℕ) → HasItems rest at values → BeginsWith (34 ∷ []) (drop at rest) → IsToken rest (string values) (at + 1)
string_token rest at values had (after, e) =
    let whole : rest ≡ (34 ∷ (items_bytes had.items ++ 34 ∷ [])) ++ after =
    had.spelled ∙ ap (λ t. 34 ∷ (items_bytes had.items ++ t)) e ∙ ap (λ t. 34 ∷ t) (sym (append_assoc (items_bytes had.items) (34 ∷ []) after)) in
    let size : length (34 ∷ (items_bytes had.items ++ 34 ∷ [])) ≡ suc (length (items_bytes had.items) + 1) = ap (λ n. suc n) (length-append (items_bytes had.items) (34 ∷ [])) in
    let here : at ≡ 1 + length (items_bytes had.items) = had.place in
    token_from rest (34 ∷ (items_bytes had.items ++ 34 ∷ [])) after (string values) (at + 1) whole (omega arith) (omega arith)
    (had.items, had.are, refl, had.values_are) tt (longest_string had.items after had.are)
