-- Blocks hold frames: by their own words, or by those of one record.
use Rattle.std.proofs.Common.{ℕ, suc, ◌+◌, ◌*◌, ◌<◌, ◌≤◌, ◌≡◌, ◌^◌, Bool, true, false, cond, nat_lt, List, [], ◌∷◌, length, map, refl, ap, ◌∙◌, arith}
use Rattle.std.proofs.lemmas.Bool.Decides.{nat_tests}
use Rattle.std.proofs.lemmas.List.{length-map}
use Rattle.pict_syntax.specs.declared.limits.TheConstants.{NARROW_LIMIT}
use Rattle.pict_core.specs.Term.{Val}
use Rattle.pict_blocks.specs.Framed.{gathered}
use Rattle.pict_heap.specs.HeapState.{HeapState}
use Rattle.pict_blocks.specs.Blocks.{values_in_words}
use Rattle.pict_desk.specs.Known.{value_in, value_fields, known}
use Rattle.pict_blocks.proofs.Standing.{frame_back}
use Rattle.pict_desk.specs.Pairs.{IsPair, ArePairs}
use Rattle.pict_blocks.specs.Holding.{HoldWords, HoldRecord, HoldsFrame}
use Rattle.pict_blocks.specs.Parts.{block_width}
use Rattle.pict_blocks.proofs.WordsHeld.{held_length}

pub words_held : (h : HeapState) (values : List (ℕ × ℕ)) (frame : List ℕ) → ArePairs h values → HoldWords h (length frame) (gathered values frame)
words_held h values [] pairs = tt
words_held h values (l ∷ ls) pairs = (pairs l, words_held h values ls pairs)

pub narrow_holds : (h : HeapState) (values : List (ℕ × ℕ)) (frame : List ℕ) → ArePairs h values → length frame ≤ NARROW_LIMIT → HoldsFrame h (known h values) frame (gathered values frame)
narrow_holds h values frame pairs few = record {
  values = frame_back h values frame (length frame) few;
  narrow = λ _. words_held h values frame pairs;
  wide = λ many. absurd (omega (arith, few, many));
}

pub wide_holds : (h : HeapState) (value : ℕ → Val) (frame : List ℕ) (pair : ℕ × ℕ) → IsPair h pair → value_fields (value_in h pair.0 pair.1) ≡ map value frame → NARROW_LIMIT < length frame
    → length frame < 2 ^ 32 → HoldsFrame h value frame (pair.0 ∷ pair.1 ∷ [])
wide_holds h value frame pair is fields many few =
    let test : nat_lt NARROW_LIMIT (length frame) ≡ true = grind (arith, nat_tests) in
    record {
      values = ap (λ b. cond b (value_fields (value_in h pair.0 pair.1)) (values_in_words (value_in h) (pair.0 ∷ pair.1 ∷ []))) test ∙ fields;
      narrow = λ narrow. absurd (omega (arith, narrow, many));
      wide = λ _. record { pair = pair; is = refl; word = is; many = ap length fields ∙ length-map frame value; few = few };
    }

pub width_narrow : (frame : List ℕ) → length frame ≤ NARROW_LIMIT → block_width frame ≡ 2 + 2 * length frame
width_narrow frame few = let test : nat_lt NARROW_LIMIT (length frame) ≡ false = grind (arith, nat_tests) in ap (λ b. cond b 4 (2 + 2 * length frame)) test

pub width_wide : (frame : List ℕ) → NARROW_LIMIT < length frame → block_width frame ≡ 4
width_wide frame many = let test : nat_lt NARROW_LIMIT (length frame) ≡ true = grind (arith, nat_tests) in ap (λ b. cond b 4 (2 + 2 * length frame)) test

-- how wide a block is that holds a frame
pub held_width : (h : HeapState) (number : ℕ) (frame held : List ℕ) → (length frame ≤ NARROW_LIMIT → HoldWords h (length frame) held) → (NARROW_LIMIT < length frame → HoldRecord h (length frame) held)
    → length (suc number ∷ held) + 1 ≡ block_width frame
held_width h number frame held narrow wide = by_case (nat_lt NARROW_LIMIT (length frame)) refl
  where
    by_case : (b : Bool) → nat_lt NARROW_LIMIT (length frame) ≡ b → length (suc number ∷ held) + 1 ≡ block_width frame
    by_case true e =
        let many : NARROW_LIMIT < length frame = grind (arith, nat_tests) in
        let two : length held ≡ 2 = ap length (wide many).is in
        let w = width_wide frame many in
        omega (arith, two, w)
    by_case false e =
        let few : length frame ≤ NARROW_LIMIT = grind (arith, nat_tests) in
        let l = held_length h (length frame) held (narrow few) in
        let w = width_narrow frame few in
        omega (arith, l, w)
