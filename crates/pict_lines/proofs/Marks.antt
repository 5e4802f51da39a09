-- Type fields that aren't found yet, as the code marks them.
use Rattle.std.proofs.Common.{◌≡◌, ℕ, zero, suc, ◌-◌, ◌<◌, Bool, true, false, ◌&&◌, List, [], ◌∷◌, map, reverse, length, get_or, refl, sym, ◌∙◌, ap, arith, Option, Some, None, Result, Ok, Err, IfOk, is_none, nat_lt}
use Rattle.std.specs.Prelude.{slice_get, unwrap_or}
use Rattle.std.specs.declared.alloc.AllocError.{AllocError}
use Rattle.std.proofs.lemmas.Bool.{ltb-true, ltb-false}
use Rattle.std.proofs.lemmas.List.{length-map}
use Rattle.pict_types.specs.declared.types.Ty.{Ty}
use Rattle.pict_types.specs.Types.{PlainType, PlainBounds}
use Rattle.pict_types.specs.Mentions.{mentions}
use Rattle.pict_types.proofs.Among.{mark_is, no_mark}
use Rattle.pict_rules.specs.Found.{is_missing, is_missing_variable, mentions_missing}
use Rattle.pict_match.specs.PlainFound.{later_bounds, slots}
use Rattle.pict_match.proofs.Slots.{slots_length}
use Rattle.pict_lines.proofs.Written.{nothing_mentions}

missing_mark : (bs : PlainBounds) (xs : List (Option Ty)) (k : ℕ) → k < length xs → is_missing (slots bs xs) k ≡ get_or (map is_none xs) k false
missing_mark bs [] k h = absurd (omega (arith, h))
missing_mark bs (None ∷ xs) zero h = refl
missing_mark bs (Some t ∷ xs) zero h = refl
missing_mark bs (None ∷ xs) (suc k) h = missing_mark (later_bounds bs) xs k (omega (arith, h))
missing_mark bs (Some t ∷ xs) (suc k) h = missing_mark (later_bounds bs) xs k (omega (arith, h))

-- the mark of a variable, the last one that of variable 0
abbrev mark_of : List (Option Ty) → ℕ → Bool
mark_of xs i = unwrap_or (slice_get (reverse (map is_none xs)) i) false

missing_is_marked : (bs : PlainBounds) (xs : List (Option Ty)) (i : ℕ) → is_missing_variable (slots bs xs) i ≡ mark_of xs i
missing_is_marked bs xs i = ap (λ n. nat_lt i n && is_missing (slots bs xs) (n - 1 - i)) (slots_length bs xs) ∙ go (nat_lt i (length xs)) refl
  where
    go : (b : Bool) → nat_lt i (length xs) ≡ b → (nat_lt i (length xs) && is_missing (slots bs xs) (length xs - 1 - i)) ≡ mark_of xs i
    go true e =
        let h : i < length xs = ltb-true i (length xs) e in
        let n = length-map xs is_none in
        ap (λ z. z && is_missing (slots bs xs) (length xs - 1 - i)) e
        ∙ missing_mark bs xs (length xs - 1 - i) (omega (arith, h))
        ∙ ap (λ m. get_or (map is_none xs) (m - 1 - i) false) (sym n)
        ∙ sym (mark_is (map is_none xs) i false (omega (arith, h, n)))
    go false e =
        let h = ltb-false i (length xs) e in
        let n = length-map xs is_none in
        ap (λ z. z && is_missing (slots bs xs) (length xs - 1 - i)) e ∙ sym (no_mark (map is_none xs) i (omega (arith, h, n)))

same_variables : {p q : ℕ → Bool} → ((i : ℕ) → p i ≡ q i) → p ≡ q
same_variables h = λ i x. h x i

marks_mention : (bs : PlainBounds) (xs : List (Option Ty)) (ms : List Bool) (t : PlainType) (b : Bool) → ms ≡ map is_none xs → b ≡ mentions (λ i. unwrap_or (slice_get (reverse ms) i) false) t → b ≡ mentions_missing (slots bs xs) t
marks_mention bs xs ms t b is h =
    h ∙ ap (λ (z : List Bool). mentions (λ i. unwrap_or (slice_get (reverse z) i) false) t) is ∙ ap (λ p. mentions p t) (sym (same_variables (missing_is_marked bs xs)))

pub marked_mentions : (xs : List (Option Ty)) (ms : List Bool) (t : PlainType) (r : Result Bool AllocError) → ms ≡ map is_none xs → IfOk r (λ b. b ≡ mentions (λ i. unwrap_or (slice_get (reverse ms) i) false) t) → IfOk r (λ b. (bs : PlainBounds) → b ≡ mentions_missing (slots bs xs) t)
marked_mentions xs ms t (Ok b) is h = λ bs. marks_mention bs xs ms t b is h
marked_mentions xs ms t (Err e) is h = tt

pub none_mentioned : (bs : PlainBounds) (xs : List (Option Ty)) (t : PlainType) → length xs ≡ 0 → false ≡ mentions_missing (slots bs xs) t
none_mentioned bs [] t h = sym (nothing_mentions t)
none_mentioned bs (x ∷ xs) t h = absurd (omega (arith, h))
