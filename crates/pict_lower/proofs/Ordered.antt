-- Levels put in order, each once, and cut at a limit.
use Rattle.std.proofs.Common.{◌≡◌, ℕ, zero, suc, ◌+◌, ◌-◌, ◌<◌, ◌≤◌, ◌==◌, Bool, true, false, cond, ◌||◌, ◌&&◌, List, [], ◌∷◌, ◌++◌, take, length, get_or, nat_lt, eqb, refl, sym, ap, ◌∙◌, subst, arith}
use Rattle.std.specs.List.{list_any, dedup, dedup_from}
use Rattle.std.specs.List.Sorted.{IsPermutation, IsStrictlyIncreasing}
use Rattle.std.proofs.lemmas.Bool.Decides.{nat_tests}
use Rattle.std.proofs.lemmas.List.{length-take-le, take-take, get_or-take}
use Rattle.std.proofs.lemmas.List.Sorted.{list_any-IsPermutation}
use Rattle.pict_code.specs.Levels.{has, Rises}

-- ---- the same levels

has_is_any : (level : ℕ) (ls : List ℕ) → has level ls ≡ list_any (λ l. level == l) ls
has_is_any level [] = refl
has_is_any level (l ∷ ls) = ap (λ b. (level == l) || b) (has_is_any level ls)

pub has_permuted : (level : ℕ) (xs ys : List ℕ) → IsPermutation xs ys → has level ys ≡ has level xs
has_permuted level xs ys moved = has_is_any level ys ∙ sym (list_any-IsPermutation (λ l. level == l) xs ys moved) ∙ sym (has_is_any level xs)

or_again : (a b : Bool) → a || b ≡ a || (a || b)
or_again true b = refl
or_again false b = refl

has_kept : (level k x : ℕ) (xs : List ℕ) (b : Bool) → eqb x k ≡ b → has level (dedup_from eqb k xs) ≡ has level (k ∷ xs) → has level (dedup_from eqb x xs) ≡ has level (x ∷ xs)
    → has level (cond b (dedup_from eqb k xs) (k ∷ dedup_from eqb x xs)) ≡ has level (k ∷ x ∷ xs)
has_kept level k x xs true e f g =
    let is : x ≡ k = grind (arith, nat_tests) in
    f ∙ or_again (level == k) (has level xs) ∙ ap (λ y. (level == k) || ((level == y) || has level xs)) (sym is)
has_kept level k x xs false e f g = ap (λ b. (level == k) || b) g

has_deduped_from : (level k : ℕ) (xs : List ℕ) → has level (dedup_from eqb k xs) ≡ has level (k ∷ xs)
has_deduped_from level k [] = refl
has_deduped_from level k (x ∷ xs) = has_kept level k x xs (eqb x k) refl (has_deduped_from level k xs) (has_deduped_from level x xs)

pub has_deduped : (level : ℕ) (xs : List ℕ) → has level (dedup eqb xs) ≡ has level xs
has_deduped level [] = refl
has_deduped level (x ∷ xs) = has_deduped_from level x xs

-- ---- in order

rises_from : (low : ℕ) (xs : List ℕ) → (0 < length xs → low ≤ get_or xs 0 0) → IsStrictlyIncreasing xs → Rises low xs
rises_from low [] h up = tt
rises_from low (x ∷ []) h up = (h (omega arith), tt)
rises_from low (x ∷ y ∷ ys) h up =
    let next : x + 1 ≤ y = let less : x < y = up 0 (omega arith) in omega arith in (
      h (omega arith),
      rises_from (x + 1) (y ∷ ys) (λ _. next)
          (λ k within. let e : suc k + 1 ≡ suc (k + 1) = omega arith in subst (λ j. get_or (y ∷ ys) k 0 < get_or (x ∷ y ∷ ys) j 0) e (up (suc k) (omega (arith, within)))),
    )

pub rises : (xs : List ℕ) → IsStrictlyIncreasing xs → Rises 0 xs
rises xs up = rises_from 0 xs (λ _. omega arith) up

pub rises_taken : (low n : ℕ) (xs : List ℕ) → Rises low xs → Rises low (take n xs)
rises_taken low zero xs r = tt
rises_taken low (suc n) [] r = tt
rises_taken low (suc n) (x ∷ xs) r = (r.0, rises_taken (x + 1) n xs r.1)

-- ---- cut at a limit

rises_to : (low n : ℕ) (xs : List ℕ) → Rises low xs → n < length xs → low ≤ get_or xs n 0
rises_to low n [] r h = absurd (omega arith)
rises_to low zero (x ∷ xs) r h = r.0
rises_to low (suc n) (x ∷ xs) r h = let later : x + 1 ≤ get_or xs n 0 = rises_to (x + 1) n xs r.1 (omega arith) in let first : low ≤ x = r.0 in omega arith

and_or : (a e x y : Bool) → a && x ≡ a && y → a && (e || x) ≡ a && (e || y)
and_or true e x y h = ap (λ b. e || b) h
and_or false e x y h = refl

last_out : (a e : Bool) → (a ≡ true → e ≡ false) → a && false ≡ a && (e || false)
last_out true true h = sym (h refl)
last_out true false h = refl
last_out false e h = refl

-- without a last level that isn't below the limit the levels below it are the same
cut_last : (limit level n : ℕ) (kept : List ℕ) → suc n ≡ length kept → limit ≤ get_or kept n 0 → nat_lt level limit && has level (take n kept) ≡ nat_lt level limit && has level kept
cut_last limit level n [] e high = absurd (omega arith)
cut_last limit level zero (x ∷ []) e high =
    last_out (nat_lt level limit) (level == x) (λ low. let apart : level < x = grind (arith, nat_tests) in grind (arith, nat_tests))
cut_last limit level zero (x ∷ y ∷ ys) e high = absurd (omega arith)
cut_last limit level (suc n) (x ∷ xs) e high = and_or (nat_lt level limit) (level == x) (has level (take n xs)) (has level xs) (cut_last limit level n xs (omega arith) high)

none : (a : Bool) → false ≡ a && false
none true = refl
none false = refl

both_low : (a e x : Bool) → (e ≡ true → a ≡ true) → x ≡ a && x → e || x ≡ a && (e || x)
both_low true e x h g = refl
both_low false true x h g = sym (h refl)
both_low false false x h g = g

-- levels in order are below a limit that the last is below
all_below : (limit level low n : ℕ) (kept : List ℕ) → Rises low kept → suc n ≡ length kept → get_or kept n 0 < limit → has level kept ≡ nat_lt level limit && has level kept
all_below limit level low n [] r e h = absurd (omega arith)
all_below limit level low zero (x ∷ []) r e h =
    both_low (nat_lt level limit) (level == x) false (λ is. let same : level ≡ x = grind (arith, nat_tests) in grind (arith, nat_tests)) (none (nat_lt level limit))
all_below limit level low zero (x ∷ y ∷ ys) r e h = absurd (omega arith)
all_below limit level low (suc n) (x ∷ xs) r e h =
    let less : x + 1 ≤ get_or xs n 0 = rises_to (x + 1) n xs r.1 (omega arith) in
    both_low (nat_lt level limit) (level == x) (has level xs) (λ is. let same : level ≡ x = grind (arith, nat_tests) in grind (arith, nat_tests))
    (all_below limit level (x + 1) n xs r.1 (omega arith) h)

-- the last of the first levels is not below the limit
pub cut_once : (limit : ℕ) (levels : List ℕ) (count : ℕ) → 0 < count → count ≤ length levels → limit ≤ get_or levels (count - 1) 0
    → (level : ℕ) → nat_lt level limit && has level (take (count - 1) levels) ≡ nat_lt level limit && has level (take count levels)
cut_once limit levels count some within high level =
    let below : count - 1 ≤ count = omega arith in
    let before : count - 1 < count = omega arith in
    let counted : suc (count - 1) ≡ length (take count levels) = omega (arith, length-take-le count levels within) in
    ap (λ l. nat_lt level limit && has level l) (sym (take-take (count - 1) count levels below))
    ∙ cut_last limit level (count - 1) (take count levels) counted (subst (λ x. limit ≤ x) (sym (get_or-take count levels (count - 1) 0 before)) high)

-- the last of the first levels is below the limit, if there is one
pub cut_done : (limit : ℕ) (levels : List ℕ) (count : ℕ) → Rises 0 levels → count ≤ length levels → (0 < count → get_or levels (count - 1) 0 < limit)
    → (level : ℕ) → has level (take count levels) ≡ nat_lt level limit && has level (take count levels)
cut_done limit levels zero r within low level = none (nat_lt level limit)
cut_done limit levels (suc n) r within low level =
    let e : suc n - 1 ≡ n = omega arith in
    let last : get_or levels n 0 < limit = subst (λ k. get_or levels k 0 < limit) e (low (omega arith)) in
    let counted : suc n ≡ length (take (suc n) levels) = sym (length-take-le (suc n) levels within) in
    all_below limit level 0 n (take (suc n) levels) (rises_taken 0 (suc n) levels r) counted
    (subst (λ x. x < limit) (sym (get_or-take (suc n) levels n 0 (omega arith))) last)
