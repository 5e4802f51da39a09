-- Type fields by what is found for them: which are missing, and one that is filled.
use Rattle.std.proofs.Common.{◌≡◌, ℕ, zero, suc, ◌-◌, ◌≤◌, ◌<◌, nat_eq, nat_le, nat_lt, Bool, true, false, ◌&&◌, not, List, [], ◌∷◌, length, get_or, refl, sym, ◌∙◌, ap, arith}
use Rattle.std.specs.Prelude.{Option, Some, None, set, if◌then◌else◌}
use Rattle.std.proofs.lemmas.Bool.Decides.{nat_tests}
use Rattle.pict_types.specs.declared.types.Ty.{Ty}
use Rattle.pict_types.specs.Types.{PlainType, PlainBounds, no_bound, Plain}
use Rattle.pict_types.specs.Mentions.{mentions_innermost, lowered}
use Rattle.pict_types.specs.Plain.{plain}
use Rattle.pict_rules.specs.Found.{Found, open_slot, filled, is_missing, is_missing_variable, find, is_same_head}
use Rattle.pict_match.specs.PlainFound.{first_bound, later_bounds, slots}

pub slots_length : (bs : PlainBounds) (ts : List (Option Ty)) → length (slots bs ts) ≡ length ts
slots_length bs [] = refl
slots_length bs (None ∷ ts) = ap suc (slots_length (later_bounds bs) ts)
slots_length bs (Some t ∷ ts) = ap suc (slots_length (later_bounds bs) ts)

slot_open : (bs : PlainBounds) (ts : List (Option Ty)) (k : ℕ) (d : Option Ty) → k < length ts → get_or ts k d ≡ None → is_missing (slots bs ts) k ≡ true
slot_open bs [] k d h e = absurd (omega arith)
slot_open bs (None ∷ ts) zero d h e = refl
slot_open bs (Some t ∷ ts) zero d h e = absurd (cc)
slot_open bs (None ∷ ts) (suc k) d h e = slot_open (later_bounds bs) ts k d (omega arith) e
slot_open bs (Some t ∷ ts) (suc k) d h e = slot_open (later_bounds bs) ts k d (omega arith) e

slot_filled : (bs : PlainBounds) (ts : List (Option Ty)) (k : ℕ) (d : Option Ty) (t : Ty) → k < length ts → get_or ts k d ≡ Some t → is_missing (slots bs ts) k ≡ false
slot_filled bs [] k d t h e = absurd (omega arith)
slot_filled bs (None ∷ ts) zero d t h e = absurd (cc)
slot_filled bs (Some u ∷ ts) zero d t h e = refl
slot_filled bs (None ∷ ts) (suc k) d t h e = slot_filled (later_bounds bs) ts k d t (omega arith) e
slot_filled bs (Some u ∷ ts) (suc k) d t h e = slot_filled (later_bounds bs) ts k d t (omega arith) e

pub slot_set : (bs : PlainBounds) (ts : List (Option Ty)) (k : ℕ) (t : Ty) → slots bs (set ts k (Some t)) ≡ set (slots bs ts) k (filled (Plain (plain t)))
slot_set bs [] k t = refl
slot_set bs (None ∷ ts) zero t = refl
slot_set bs (Some u ∷ ts) zero t = refl
slot_set bs (None ∷ ts) (suc k) t = ap (λ f. open_slot (first_bound bs) ∷ f) (slot_set (later_bounds bs) ts k t)
slot_set bs (Some u ∷ ts) (suc k) t = ap (λ f. filled (Plain (plain u)) ∷ f) (slot_set (later_bounds bs) ts k t)

-- which variables are type fields that aren't found yet
pub inside_is_none : (inner i : ℕ) (b : Bool) → i < inner → (nat_le inner i && b) ≡ false
inside_is_none inner i b h = grind (arith, nat_tests)

not_below : (m n : ℕ) → n ≤ m → nat_lt m n ≡ false
not_below m n h = grind (arith, nat_tests)

below : (m n : ℕ) → m < n → nat_lt m n ≡ true
below m n h = grind (arith, nat_tests)

within : (m n : ℕ) → m ≤ n → nat_le m n ≡ true
within m n h = grind (arith, nat_tests)

both_false : (a b : Bool) → b ≡ false → (a && b) ≡ false
both_false true b h = h
both_false false b h = refl

first_false : (a b : Bool) → a ≡ false → (a && b) ≡ false
first_false a b h = rw h refl

both_true : (a b : Bool) → a ≡ true → b ≡ true → (a && b) ≡ true
both_true a b h k = rw h k

pub outside_is_none : (inner i : ℕ) (ts : List (Option Ty)) → length ts ≤ i - inner → (nat_le inner i && is_missing_variable (slots no_bound ts) (i - inner)) ≡ false
outside_is_none inner i ts h =
    both_false (nat_le inner i) _ (first_false (nat_lt (i - inner) (length (slots no_bound ts))) _ (rw (slots_length no_bound ts) (not_below (i - inner) (length ts) h)))

place_same : (ts : List (Option Ty)) (j k : ℕ) → k ≡ length ts - 1 - j → is_missing (slots no_bound ts) (length (slots no_bound ts) - 1 - j) ≡ is_missing (slots no_bound ts) k
place_same ts j k h = ap (is_missing (slots no_bound ts)) (ap (λ n. n - 1 - j) (slots_length no_bound ts) ∙ sym h)

pub found_is_none : (inner i k : ℕ) (ts : List (Option Ty)) (d : Option Ty) (t : Ty) → k ≡ length ts - 1 - (i - inner) → k < length ts → get_or ts k d ≡ Some t → (nat_le inner i && is_missing_variable (slots no_bound ts) (i - inner)) ≡ false
found_is_none inner i k ts d t p h e =
    both_false (nat_le inner i) _ (both_false (nat_lt (i - inner) (length (slots no_bound ts))) _ (place_same ts (i - inner) k p ∙ slot_filled no_bound ts k d t h e))

pub missing_is : (inner i k : ℕ) (ts : List (Option Ty)) (d : Option Ty) → inner ≤ i → i - inner < length ts → k ≡ length ts - 1 - (i - inner) → get_or ts k d ≡ None → (nat_le inner i && is_missing_variable (slots no_bound ts) (i - inner)) ≡ true
missing_is inner i k ts d h l p e =
    both_true (nat_le inner i) _ (within inner i h)
    (both_true (nat_lt (i - inner) (length (slots no_bound ts))) _
    (rw (slots_length no_bound ts) (below (i - inner) (length ts) l))
    (place_same ts (i - inner) k p ∙ slot_open no_bound ts k d (omega arith) e))

pub place_is : (inner i k : ℕ) (ts : List (Option Ty)) → k ≡ length ts - 1 - (i - inner) → k ≡ length (slots no_bound ts) - 1 - (i - inner)
place_is inner i k ts h = h ∙ ap (λ n. n - 1 - (i - inner)) (sym (slots_length no_bound ts))

-- the three ways to find
pub find_nothing : (inner i : ℕ) (g : PlainType) (f : Found) → (nat_le inner i && is_missing_variable f (i - inner)) ≡ false → f ≡ find inner i g f
find_nothing inner i g f h = go (nat_le inner i) (is_missing_variable f (i - inner)) h
  where
    go : (a b : Bool) → (a && b) ≡ false → f ≡ (if a && (b && not (mentions_innermost inner g)) then set f (length f - 1 - (i - inner)) (filled (Plain (lowered inner g))) else f)
    go true true h = absurd (cc)
    go true false h = refl
    go false b h = refl

pub find_inner : (inner i : ℕ) (g : PlainType) (f : Found) → mentions_innermost inner g ≡ true → f ≡ find inner i g f
find_inner inner i g f h = go (nat_le inner i) (is_missing_variable f (i - inner)) (mentions_innermost inner g) h
  where
    go : (a b m : Bool) → m ≡ true → f ≡ (if a && (b && not m) then set f (length f - 1 - (i - inner)) (filled (Plain (lowered inner g))) else f)
    go true true m h = rw h refl
    go true false m h = refl
    go false b m h = refl

pub find_new : (inner i : ℕ) (g : PlainType) (f : Found) → (nat_le inner i && is_missing_variable f (i - inner)) ≡ true → mentions_innermost inner g ≡ false → set f (length f - 1 - (i - inner)) (filled (Plain (lowered inner g))) ≡ find inner i g f
find_new inner i g f h k = go (nat_le inner i) (is_missing_variable f (i - inner)) (mentions_innermost inner g) h k
  where
    go : (a b m : Bool) → (a && b) ≡ true → m ≡ false → set f (length f - 1 - (i - inner)) (filled (Plain (lowered inner g))) ≡ (if a && (b && not m) then set f (length f - 1 - (i - inner)) (filled (Plain (lowered inner g))) else f)
    go true true m h k = rw k refl
    go true false m h k = absurd (cc)
    go false b m h k = absurd (cc)

-- the same operator variable
pub head_inside : (inner n i j : ℕ) → i < inner → nat_eq i j ≡ is_same_head inner n i j
head_inside inner n i j h = grind (arith, nat_tests)

pub head_outside : (inner n i j : ℕ) → inner ≤ i → (nat_le n (i - inner) && nat_eq (i - n) j) ≡ is_same_head inner n i j
head_outside inner n i j h = grind (arith, nat_tests)

pub ruleset slot_rules = (inside_is_none, outside_is_none, found_is_none, missing_is, place_is)

pub ruleset find_rules = (find_nothing, find_inner, find_new, slot_set, slots_length)

pub ruleset head_rules = (head_inside, head_outside, slots_length)
