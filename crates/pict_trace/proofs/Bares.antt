-- Values without quotes and brackets, read back from their texts.
use Rattle.std.proofs.Common.{◌≡◌, ◌≢◌, ℕ, zero, suc, ◌-◌, ◌<◌, ◌≤◌, ◌^◌, Bool, true, false, List, [], ◌∷◌, ◌++◌, length, take, drop, get_or, ℤ, pos, negsuc, FitsSigned, w64, if◌then◌else◌, not, refl, sym, ◌∙◌, ap, subst, arith, take-append-drop}
use Rattle.std.specs.Fmt.{decimal, signed_decimal}
use Rattle.pict_lex.proofs.RunLemmas.{slice_rest}
use Rattle.pict_syntax.specs.declared.primitive.Primitive.{Primitive}
use Rattle.pict_core.specs.Term.{Val, Var, Chan, Int, Char, Boolean, Text, PrimitiveVal, Record}
use Rattle.pict_show.specs.Values.{value_text, truth_text}
use Rattle.pict_syntax.specs.Primitives.{primitive_text}
use Rattle.pict_trace.specs.Readable.{IsOrderly, nesting}
use Rattle.pict_trace.specs.Reading.{is_end, Ends, IsBare, IsBareText, IsNoBareText, Reads, BeginsNoValue}
use Rattle.pict_trace.proofs.Unique.{all_of, is_solid, run_same, bare_solid, stops_solid, first_digit, numeral, first_of_bytes}

-- no number begins with a letter: 99 is `c`
pub letter_no_number : (digits : List ℕ) (n : ℤ) → FitsSigned w64 n → 99 ∷ digits ≢ signed_decimal n
letter_no_number digits (pos n) fits e = let f = first_digit (decimal n) (numeral n (omega arith)) in let range = f.3 in let same : 99 ≡ f.0 = ap first_of_bytes (e ∙ f.2) in omega (arith, same, range.0, range.1)
letter_no_number digits (negsuc n) fits e = omega (arith, ap first_of_bytes e)

pub no_bare : (word : List ℕ) → ((b : Bool) → word ≢ truth_text b) → ((p : Primitive) → word ≢ primitive_text p) → ((n : ℕ) → n < 2 ^ 32 → word ≢ 99 ∷ decimal n)
    → ((n : ℤ) → FitsSigned w64 n → word ≢ signed_decimal n) → IsNoBareText word
no_bare word no_truth no_primitive no_channel no_number names v x = by v x.bare x.orderly x.is
  where
    by : (v : Val) → IsBare v → IsOrderly names v → word ≢ value_text names v
    by (Int n) b o e = no_number n o e
    by (Chan n) b o e = no_channel n o e
    by (Boolean t) b o e = no_truth t e
    by (PrimitiveVal p) b o e = no_primitive p e
    by v b o e = absurd b

flat : (v : Val) → IsBare v → nesting v ≤ 0
flat (Int n) b = omega arith
flat (Chan n) b = omega arith
flat (Boolean t) b = omega arith
flat (PrimitiveVal p) b = omega arith
flat v b = absurd b

pub ends_drop : (n : ℕ) (text : List ℕ) → (n < length text → is_end (get_or text n 0) ≡ true) → Ends (drop n text)
ends_drop zero [] h = tt
ends_drop zero (b ∷ bs) h = h (omega arith)
ends_drop (suc n) [] h = tt
ends_drop (suc n) (b ∷ bs) h = ends_drop n bs (λ l. h (omega (arith, l)))

pub solid_taken : (n : ℕ) (text : List ℕ) → ((k : ℕ) → k < n → is_end (get_or text k 0) ≡ false) → all_of is_solid (take n text) ≡ true
solid_taken zero text h = refl
solid_taken (suc n) [] h = refl
solid_taken (suc n) (b ∷ bs) h = ap (λ t. if not t then all_of is_solid (take n bs) else false) (h 0 (omega arith)) ∙ solid_taken n bs (λ k l. h (suc k) (omega (arith, l)))

pub bare_found : (names : List (List ℕ)) (text : List ℕ) (n : ℕ) (v : Val) → IsBareText names (take n text) v → (n < length text → is_end (get_or text n 0) ≡ true)
    → Reads names 0 text v (take (length text - n) (drop n text))
bare_found names text n v x ends = record {
  orderly = x.orderly;
  low = flat v x.bare;
  ends = subst Ends (sym (slice_rest text n)) (ends_drop n text ends);
  whole = sym (take-append-drop n text) ∙ ap (λ t. t ++ drop n text) x.is ∙ ap (λ t. value_text names v ++ t) (sym (slice_rest text n));
}

pub bare_bad : (text : List ℕ) (n : ℕ) → ((a : List ℕ) → text ≢ 34 ∷ a) → ((a : List ℕ) → text ≢ 39 ∷ a) → ((k : ℕ) → k < n → is_end (get_or text k 0) ≡ false)
    → (n < length text → is_end (get_or text n 0) ≡ true) → IsNoBareText (take n text) → BeginsNoValue 0 text
bare_bad text n no_string no_character before ends none others w after x = by w x.orderly x.low x.whole
  where
    bare : (w : Val) → IsBare w → IsOrderly others w → text ≡ value_text others w ++ after → ⊥
    bare w b o e = none others w (record {
      bare = b;
      orderly = o;
      is = (run_same is_solid (take n text) (value_text others w) (drop n text) after (solid_taken n text before) (bare_solid others w b o) (stops_solid (drop n text) (ends_drop n text ends)) (stops_solid after x.ends) (take-append-drop n text ∙ e)).0;
    })

    by : (w : Val) → IsOrderly others w → nesting w ≤ 0 → text ≡ value_text others w ++ after → ⊥
    by (Int n) o l e = bare (Int n) tt o e
    by (Chan n) o l e = bare (Chan n) tt o e
    by (Boolean b) o l e = bare (Boolean b) tt o e
    by (PrimitiveVal p) o l e = bare (PrimitiveVal p) tt o e
    by (Var level) o l e = o
    by (Char byte) o l e = no_character _ e
    by (Text bytes) o l e = no_string _ e
    by (Record vs ls) o l e = omega (arith, l)
