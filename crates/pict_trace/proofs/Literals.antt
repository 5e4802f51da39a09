-- Characters and strings, read back from their texts.
use Rattle.std.proofs.Common.{◌≡◌, ◌≢◌, inl, inr, ℕ, ◌<◌, ◌^◌, List, [], ◌∷◌, ◌++◌, map, refl, sym, ◌∙◌, ap, append_assoc, append-nil, arith, rules}
use Rattle.pict_syntax.specs.Tokens.{item_bytes, items_bytes}
use Rattle.pict_syntax.specs.declared.bytes.Bytes.{Bytes}
use Rattle.pict_core.specs.Plain.{plain_val}
use Rattle.pict_core.specs.declared.value.CoreVal.{the_lemmas}
use Rattle.pict_core.specs.declared.value.CoreVal.TheVariants as value
use Rattle.pict_core.specs.Term.{Val, Char, Text}
use Rattle.pict_show.specs.Values.{value_text, item_of}
use Rattle.pict_trace.specs.Readable.{IsOrderly}
use Rattle.pict_trace.specs.Reading.{Ends, EndsString, string_end, Reads, BeginsNoValue}
use Rattle.pict_trace.proofs.Unique.{lead, lead_of, lead_value, tail, quoted_unique}
use Rattle.pict_trace.proofs.Strings.{byte_same}

pub string_closed : (bytes rest : List ℕ) → (items_bytes (map (item_of 34) bytes) ++ 34 ∷ []) ++ rest ≡ string_end bytes rest
string_closed bytes rest = append_assoc (items_bytes (map (item_of 34) bytes)) (34 ∷ []) rest

pub string_found : (names : List (List ℕ)) (after bytes rest : List ℕ) → EndsString after bytes rest → Ends rest → Reads names 0 (34 ∷ after) (Text bytes) rest
string_found names after bytes rest x ends = record { orderly = x.are; low = omega arith; ends = ends; whole = ap (λ t. 34 ∷ t) (x.whole ∙ sym (string_closed bytes rest)) }

-- a value behind a double quote is a string
pub string_only : (after : List ℕ) → ((bytes rest : List ℕ) → Ends rest → ¬ EndsString after bytes rest) → BeginsNoValue 0 (34 ∷ after)
string_only after none others w rest x = by w x.orderly x.whole (ap lead x.whole ∙ lead_value others w rest x.orderly)
  where
    by : (w : Val) → IsOrderly others w → 34 ∷ after ≡ value_text others w ++ rest → 3 ≡ lead_of w → ⊥
    by (Text bytes) o e l = none bytes rest x.ends (record { are = o; whole = ap tail e ∙ string_closed bytes rest })
    by w o e l = omega (arith, l)

character_closed : (byte : ℕ) (rest : List ℕ) → ((item_bytes (item_of 39 byte) ++ []) ++ 39 ∷ []) ++ rest ≡ item_bytes (item_of 39 byte) ++ (39 ∷ rest)
character_closed byte rest = append_assoc (item_bytes (item_of 39 byte) ++ []) (39 ∷ []) rest ∙ ap (λ t. t ++ (39 ∷ rest)) (append-nil (item_bytes (item_of 39 byte)))

-- a value behind a single quote is a character
pub character_only : (after : List ℕ) → ((byte : ℕ) (rest : List ℕ) → byte < 2 ^ 8 → Ends rest → after ≢ item_bytes (item_of 39 byte) ++ (39 ∷ rest)) → BeginsNoValue 0 (39 ∷ after)
character_only after none others w rest x = by w x.orderly x.whole (ap lead x.whole ∙ lead_value others w rest x.orderly)
  where
    by : (w : Val) → IsOrderly others w → 39 ∷ after ≡ value_text others w ++ rest → 2 ≡ lead_of w → ⊥
    by (Char byte) o e l = none byte rest o x.ends (ap tail e ∙ character_closed byte rest)
    by w o e l = omega (arith, l)

-- behind this byte stands no quote with an end behind it
pub character_bad : (byte : ℕ) (more : List ℕ) → byte < 2 ^ 8 → ((rest : List ℕ) → Ends rest → more ≢ 39 ∷ rest) → BeginsNoValue 0 (39 ∷ (item_bytes (item_of 39 byte) ++ more))
character_bad byte more small none = character_only (item_bytes (item_of 39 byte) ++ more) (λ other rest few ends e. none rest ends (byte_same 39 byte other more (39 ∷ rest) (inr refl) small few e).1)

-- the bytes of the string, and what is behind it
pub string_same : (after xs ys a b : List ℕ) → EndsString after xs a → EndsString after ys b → a ≡ b
string_same after xs ys a b x y = (quoted_unique 34 xs ys a b (inl refl) x.are y.are (ap (λ t. 34 ∷ t) (string_closed xs a ∙ sym x.whole ∙ y.whole ∙ sym (string_closed ys b)))).1

pub plain_text : (bytes : Bytes) → plain_val (value.Text bytes) ≡ Text bytes
plain_text bytes = search (rules, the_lemmas)
