-- The least numbers of lines, from the last line on.
use Rattle.std.proofs.Common.{ℕ, ◌+◌, ◌<◌, ◌≤◌, ◌≡◌, ◌≢◌, Bool, true, false, nat_lt, List, length, get_or, set, drop, refl, sym, ap, ◌∙◌, subst, Option, Some, None, arith, ⊎_elim, inl, inr}
use Rattle.std.specs.Prelude.{◌||◌, min, slice_get}
use Rattle.std.proofs.lemmas.Bool.{cases_lt, cases_eq}
use Rattle.std.proofs.lemmas.Bool.Decides.{nat_tests}
use Rattle.std.proofs.lemmas.Option.{slice_get-get_or, slice_get_past}
use Rattle.std.proofs.lemmas.List.{drop_more, drop_all, length-set, get_or-set_same, get_or-set_other}
use Rattle.pict_replay.specs.Replayed.{Line, is_overdue}
use Rattle.pict_replay.specs.Least.{is_below, least_of}

-- one of two is below k

lt_true : (a b : ℕ) → a < b → nat_lt a b ≡ true
lt_true a b h = grind (arith, nat_tests, h)

lt_false : (a b : ℕ) → b ≤ a → nat_lt a b ≡ false
lt_false a b h = grind (arith, nat_tests, h)

below_two : (k n m : ℕ) → nat_lt n k || nat_lt m k ≡ nat_lt (min n m) k
below_two k n m = ⊎_elim
    (λ (h : n < k). ap (λ b. b || nat_lt m k) (lt_true n k h) ∙ sym (lt_true (min n m) k (omega (arith, h))))
    (λ (h : k ≤ n). ap (λ b. b || nat_lt m k) (lt_false n k h) ∙ ⊎_elim
    (λ (i : m < k). lt_true m k i ∙ sym (lt_true (min n m) k (omega (arith, i))))
    (λ (i : k ≤ m). lt_false m k i ∙ sym (lt_false (min n m) k (omega (arith, h, i))))
    (cases_lt m k))
    (cases_lt n k)

below_least : (k n : ℕ) (o : Option ℕ) → nat_lt n k || is_below k o ≡ is_below k (Some (least_of n o))
below_least k n None = by (nat_lt n k)
  where
    by : (b : Bool) → b || false ≡ b
    by true = refl
    by false = refl
below_least k n (Some m) = below_two k n m

-- what is read of a list behind a write
read_written : (xs : List ℕ) (i x : ℕ) → i < length xs → slice_get (set xs i x) i ≡ Some x
read_written xs i x h = let l = length-set xs i x in slice_get-get_or (set xs i x) i 0 (omega (arith, h, l)) ∙ ap Some (get_or-set_same xs i x 0 h)

read_other : (xs : List ℕ) (i j x : ℕ) → j ≢ i → slice_get (set xs i x) j ≡ slice_get xs j
read_other xs i j x n = let l = length-set xs i x in ⊎_elim
    (λ (h : j < length xs). slice_get-get_or (set xs i x) j 0 (omega (arith, h, l)) ∙ ap Some (get_or-set_other xs i j x 0 n) ∙ sym (slice_get-get_or xs j 0 h))
    (λ (h : length xs ≤ j). slice_get_past (set xs i x) j (omega (arith, h, l)) ∙ sym (slice_get_past xs j h))
    (cases_lt j (length xs))

-- the numbers from i on are right
abbrev pub LeastFrom : List Line → List ℕ → ℕ → Type 0
LeastFrom lines least i = (k j : ℕ) → i ≤ j → is_overdue k (drop j lines) ≡ is_below k (slice_get least j)

pub least_begun : (lines : List Line) (least : List ℕ) (n : ℕ) → length lines ≡ n → length least ≡ n → LeastFrom lines least n
least_begun lines least n e f k j h = ap (is_overdue k) (drop_all j lines (omega (arith, e, h))) ∙ sym (ap (is_below k) (slice_get_past least j (omega (arith, f, h))))

module _ (lines : List Line) (least : List ℕ) (i x : ℕ) (line : Line) (few : i < length lines) (many : length least ≡ length lines) (is : line ≡ get_or lines i line)
    (number : x ≡ least_of line.0 (slice_get least (i + 1))) (from : LeastFrom lines least (i + 1)) where
  here : (k : ℕ) → is_overdue k (drop i lines) ≡ is_below k (slice_get (set least i x) i)
  here k =
      ap (is_overdue k) (drop_more lines i line few) ∙ ap (λ (l : Line). nat_lt l.0 k || is_overdue k (drop (i + 1) lines)) (sym is)
      ∙ ap (λ b. nat_lt line.0 k || b) (from k (i + 1) (omega arith)) ∙ below_least k line.0 (slice_get least (i + 1)) ∙ ap (λ n. is_below k (Some n)) (sym number)
      ∙ sym (ap (is_below k) (read_written least i x (omega (arith, few, many))))

  pub least_more : LeastFrom lines (set least i x) i
  least_more k j h = elim (cases_eq j i) [
    | inl e ↦ subst (λ n. is_overdue k (drop n lines) ≡ is_below k (slice_get (set least i x) n)) (sym e) (here k)
    | inr n ↦ from k j (omega (arith, h, n)) ∙ sym (ap (is_below k) (read_other least i j x n))
  ]
