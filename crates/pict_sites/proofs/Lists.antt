-- Places in lists.
use Rattle.std.proofs.Common.{ℕ, zero, suc, ◌≡◌, ◌≢◌, ◌<◌, ◌+◌, ◌⊎◌, inl, inr, List, [], ◌∷◌, ◌++◌, length, take, drop, refl, sym, ap, ◌∙◌, arith, Option, Some, None, IsSome, get_or, slice_get, slice_set}
use Rattle.std.specs.Option.{option_to_list}
use Rattle.std.proofs.lemmas.Bool.{false≢true}
use Rattle.pict_network.proofs.Unions.{some_same}

-- what stands at a place where one item was put
pub set_cases : {X : Type 0} (xs : List X) (i j : ℕ) (x y : X) → slice_get (slice_set xs i y) j ≡ Some x → ((j ≡ i) × (x ≡ y)) ⊎ ((j ≢ i) × (slice_get xs j ≡ Some x))
set_cases [] i j x y h = cc
set_cases (z ∷ zs) zero zero x y h = inl (refl, sym (some_same y x h))
set_cases (z ∷ zs) zero (suc j) x y h = inr ((λ e. omega (arith, e)), h)
set_cases (z ∷ zs) (suc i) zero x y h = inr ((λ e. omega (arith, e)), h)
set_cases (z ∷ zs) (suc i) (suc j) x y h = elim (set_cases zs i j x y h) [
  | inl r ↦ inl (ap suc r.0, r.1)
  | inr r ↦ inr ((λ e. r.0 (omega (arith, e))), r.1)
]

pub take_front : {X : Type 0} (xs : List X) (x : X) → take (length xs) (xs ++ x ∷ []) ≡ xs
take_front [] x = refl
take_front (y ∷ ys) x = ap (λ zs. y ∷ zs) (take_front ys x)

-- a list around its j-th
pub record Around {X : Type 0} (xs : List X) (j : ℕ) : Type 0 where
  pub item : X
  pub whole : xs ≡ take j xs ++ item ∷ drop (j + 1) xs
  pub behind : drop j xs ≡ item ∷ drop (j + 1) xs
  pub front : length (take j xs) ≡ j
  pub back : length (drop (j + 1) xs) + j + 1 ≡ length xs

one_more : (j : ℕ) → suc (j + 1) ≡ suc j + 1
one_more j = omega arith

pub around : {X : Type 0} (xs : List X) (j : ℕ) → j < length xs → Around xs j
around [] j h = absurd (omega (arith, h))
around (x ∷ xs) zero h = record { item = x; whole = refl; behind = refl; front = refl; back = omega arith }
around (x ∷ xs) (suc j) h =
    let a = around xs j (omega (arith, h)) in
    let more = ap (λ n. drop n (x ∷ xs)) (one_more j) in
    record {
      item = a.item;
      whole = ap (λ zs. x ∷ zs) a.whole ∙ ap (λ zs. x ∷ (take j xs ++ a.item ∷ zs)) more;
      behind = a.behind ∙ ap (λ zs. a.item ∷ zs) more;
      front = ap suc a.front;
      back = let e = ap length more in let b = a.back in omega (arith, e, b);
    }

-- ---- the last item is taken back

last_same : {X : Type 0} (xs ys : List X) (x y : X) → xs ++ x ∷ [] ≡ ys ++ y ∷ [] → ys ≡ xs
last_same [] [] x y e = refl
last_same [] (b ∷ []) x y e = cc
last_same [] (b ∷ c ∷ ys) x y e = cc
last_same (a ∷ []) [] x y e = cc
last_same (a ∷ c ∷ xs) [] x y e = cc
last_same (a ∷ xs) (b ∷ ys) x y e =
    let head : a ≡ b = cc in
    let tail : xs ++ x ∷ [] ≡ ys ++ y ∷ [] = cc in
    ap (λ z. z ∷ ys) (sym head) ∙ ap (λ zs. a ∷ zs) (last_same xs ys x y tail)

pub taken_back : {X : Type 0} (xs ys zs : List X) (x : X) (o : Option X) → zs ≡ xs ++ x ∷ [] → zs ≡ ys ++ option_to_list o → IsSome o → ys ≡ xs
taken_back xs ys zs x None e f some = absurd (false≢true some)
taken_back xs ys zs x (Some y) e f some = last_same xs ys x y (sym e ∙ f)

-- what an index reads
pub got_same : {X : Type 0} (xs : List X) (i : ℕ) (x : X) → i < length xs → x ≡ get_or xs i x → slice_get xs i ≡ Some x
got_same [] i x low e = absurd (omega (arith, low))
got_same (y ∷ ys) zero x low e = ap Some (sym e)
got_same (y ∷ ys) (suc i) x low e = got_same ys i x (omega (arith, low)) e

-- ---- short lists

pub none_of : {X : Type 0} (xs : List X) → length xs ≡ 0 → xs ≡ []
none_of [] e = refl
none_of (x ∷ xs) e = absurd (omega (arith, e))

pub one_of : {X : Type 0} (xs : List X) → length xs ≡ 1 → (x : X) × (xs ≡ x ∷ [])
one_of [] e = absurd (omega (arith, e))
one_of (x ∷ xs) e = (x, ap (λ ys. x ∷ ys) (none_of xs (omega (arith, e))))
