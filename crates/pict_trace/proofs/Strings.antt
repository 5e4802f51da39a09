-- Reading bytes between quotes.
use Rattle.std.proofs.Common.{◌≡◌, ◌≢◌, ◌⊎◌, inl, inr, ℕ, ◌<◌, ◌^◌, List, [], ◌∷◌, ◌++◌, map, refl, sym, ◌∙◌, ap, subst, append_assoc, append-nil, arith}
use Rattle.pict_syntax.specs.Tokens.{Item, IsItem, item_bytes, item_value, items_bytes}
use Rattle.pict_syntax.proofs.ItemLemmas.{item_unique, NoItem, no_item_at, no_item_at_quote, no_item_at_end, no_item_at_backslash, no_escape}
use Rattle.pict_lex.specs.Due.{IsDue}
use Rattle.pict_lex.specs.declared.literal.Due.{Due}
use Rattle.pict_show.specs.Values.{item_of}
use Rattle.pict_trace.specs.Readable.{AreBytes}
use Rattle.pict_trace.specs.Reading.{BeginsNoByte, EndsNoString, string_end}
use Rattle.pict_trace.proofs.Unique.{item_for, no_backslash}

-- what reads the whole string reads the rest of it from here
abbrev pub Must : List ℕ → List ℕ → Type 0
Must after rest = (bytes end : List ℕ) → AreBytes bytes → after ≡ string_end bytes end → (more : List ℕ) × AreBytes more × (rest ≡ string_end more end)

-- where no item begins no byte does
pub no_byte : (quote : ℕ) (after : List ℕ) → (quote ≡ 34) ⊎ (quote ≡ 39) → NoItem quote after → BeginsNoByte quote after
no_byte quote after q none byte rest small e = none (item_of quote byte) (item_for quote byte q small).is (rest, e)

-- the byte at the front, and what is behind it
pub byte_same : (quote a b : ℕ) (r s : List ℕ) → (quote ≡ 34) ⊎ (quote ≡ 39) → a < 2 ^ 8 → b < 2 ^ 8 → item_bytes (item_of quote a) ++ r ≡ item_bytes (item_of quote b) ++ s → (a ≡ b) × (r ≡ s)
byte_same quote a b r s q h k e =
    let f = item_for quote a q h in
    let g = item_for quote b q k in
    let same = item_unique quote (item_of quote a) (item_of quote b) r s f.is g.is e in
    (sym f.value ∙ ap item_value same.0 ∙ g.value, same.1)

-- an item that is read otherwise than it is written
pub no_byte_as_written : (quote : ℕ) (item : Item) (after rest : List ℕ) → (quote ≡ 34) ⊎ (quote ≡ 39) → IsItem quote item → after ≡ item_bytes item ++ rest
    → item_bytes item ≢ item_bytes (item_of quote (item_value item)) → BeginsNoByte quote after
no_byte_as_written quote item after rest q is e other byte behind small f =
    let g = item_for quote byte q small in
    let same = item_unique quote item (item_of quote byte) rest behind is g.is (sym e ∙ f) in
    other (ap item_bytes (same.0 ∙ ap (item_of quote) (sym (ap item_value same.0 ∙ g.value))))

-- one byte further
pub must_step : (after rest more : List ℕ) (byte : ℕ) → Must after rest → byte < 2 ^ 8 → rest ≡ item_bytes (item_of 34 byte) ++ more → Must after more
must_step after rest more byte must small e bytes end are f = let m = must bytes end are f in by m.0 m.1 m.2
  where
    by : (ms : List ℕ) → AreBytes ms → rest ≡ string_end ms end → (ns : List ℕ) × AreBytes ns × (more ≡ string_end ns end)
    by [] h g = absurd (no_item_at_quote 34 end (λ f. omega (arith, f)) (item_of 34 byte) (item_for 34 byte (inl refl) small).is (more, sym g ∙ e))
    by (m ∷ ms) h g =
        let same = byte_same 34 byte m more (items_bytes (map (item_of 34) ms) ++ (34 ∷ end)) (inl refl) small h.0
        (sym e ∙ g ∙ append_assoc (item_bytes (item_of 34 m)) (items_bytes (map (item_of 34) ms)) (34 ∷ end)) in
        (ms, h.1, same.1)

-- no string goes on here
pub string_bad : (after rest : List ℕ) → Must after rest → ((r : List ℕ) → rest ≢ 34 ∷ r) → BeginsNoByte 34 rest → EndsNoString after
string_bad after rest must no_quote none bytes end x = let m = must bytes end x.are x.whole in by m.0 m.1 m.2
  where
    by : (ms : List ℕ) → AreBytes ms → rest ≡ string_end ms end → ⊥
    by [] h g = no_quote end g
    by (m ∷ ms) h g = none m (items_bytes (map (item_of 34) ms) ++ (34 ∷ end)) h.0 (g ∙ append_assoc (item_bytes (item_of 34 m)) (items_bytes (map (item_of 34) ms)) (34 ∷ end))

-- the bytes so far, with one more
pub bytes_more : (bytes new : List ℕ) (byte : ℕ) (rest more : List ℕ) → new ≡ bytes ++ byte ∷ [] → rest ≡ item_bytes (item_of 34 byte) ++ more
    → items_bytes (map (item_of 34) bytes) ++ rest ≡ items_bytes (map (item_of 34) new) ++ more
bytes_more bytes new byte rest more is e = by bytes ∙ ap (λ l. items_bytes (map (item_of 34) l) ++ more) (sym is)
  where
    by : (bs : List ℕ) → items_bytes (map (item_of 34) bs) ++ rest ≡ items_bytes (map (item_of 34) (bs ++ byte ∷ [])) ++ more
    by [] = e ∙ ap (λ t. t ++ more) (sym (append-nil (item_bytes (item_of 34 byte))))
    by (b ∷ bs) = append_assoc (item_bytes (item_of 34 b)) (items_bytes (map (item_of 34) bs)) rest ∙ ap (λ t. item_bytes (item_of 34 b) ++ t) (by bs)
        ∙ sym (append_assoc (item_bytes (item_of 34 b)) (items_bytes (map (item_of 34) (bs ++ byte ∷ []))) more)

-- where no item is due none begins
pub no_item_due : (quote : ℕ) (after : List ℕ) (due : Due) → (quote ≡ 34) ⊎ (quote ≡ 39) → IsDue quote after due → ((byte len : ℕ) → due ≢ Due.Item byte len) → NoItem quote after
no_item_due quote after (Due.Item byte len) q h other = absurd (other byte len refl)
no_item_due quote after Due.Quote q (rest, e) other = subst (NoItem quote) (sym e) (no_item_at_quote quote rest (no_backslash quote q))
no_item_due quote after Due.CutOff q (inl e) other = subst (NoItem quote) (sym e) (no_item_at_end quote)
no_item_due quote after Due.CutOff q (inr (inl e)) other = subst (NoItem quote) (sym e) (no_item_at_backslash quote)
no_item_due quote after Due.CutOff q (inr (inr (rest, e))) other = subst (NoItem quote) (sym e) (no_item_at quote 10 rest (λ f. omega (arith, f)) (λ is. let low = is.0 in omega (arith, low.0)))
no_item_due quote after Due.BadByte q (byte, more, e, unprintable, other_line) other =
    subst (NoItem quote) (sym e) (no_item_at quote byte more (λ f. unprintable (omega (arith, f), omega (arith, f))) (λ is. unprintable is.0))
no_item_due quote after Due.BadEscape q (more, e, some, none) other = subst (NoItem quote) (sym e) (no_escape 34 quote more (subst (NoItem 34) e none))

pub are_more : (bytes new : List ℕ) (byte : ℕ) → new ≡ bytes ++ byte ∷ [] → AreBytes bytes → byte < 2 ^ 8 → AreBytes new
are_more bytes new byte is h small = subst AreBytes (sym is) (by bytes h)
  where
    by : (bs : List ℕ) → AreBytes bs → AreBytes (bs ++ byte ∷ [])
    by [] h = (small, tt)
    by (b ∷ bs) h = (h.0, by bs h.1)
