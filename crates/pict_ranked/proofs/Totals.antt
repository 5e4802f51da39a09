-- Sums of counts.
use Rattle.std.proofs.Common.{ℕ, zero, suc, ◌+◌, ◌≤◌, ◌≡◌, List, [], ◌∷◌, ◌++◌, length, take, drop, replicate, refl, ap, arith}
use Rattle.std.proofs.lemmas.List.{take_all}
use Rattle.pict_ranked.specs.Tree.{total}

pub total-append : (xs ys : List ℕ) → total (xs ++ ys) ≡ total xs + total ys
total-append [] ys = omega arith
total-append (x ∷ xs) ys = let ih = total-append xs ys in omega (arith, ih)

-- the sum of the first ones is that of some of them and of those that follow
pub total_split : (n m : ℕ) (xs : List ℕ) → total (take (n + m) xs) ≡ total (take n xs) + total (take m (drop n xs))
total_split zero m xs =
    let all : total (take (0 + m) xs) ≡ total (take m xs) = ap (λ z. total (take z xs)) (omega arith) in
    let none : total (take 0 xs) ≡ 0 = refl in
    let rest : total (take m (drop 0 xs)) ≡ total (take m xs) = refl in
    omega (arith, all, none, rest)
total_split (suc n) m [] =
    let a : total (take (suc n + m) []) ≡ 0 = ap total (take_all (suc n + m) [] (omega arith)) in
    let b : total (take m []) ≡ 0 = ap total (take_all m [] (omega arith)) in
    omega (arith, a, b)
total_split (suc n) m (x ∷ xs) =
    let ih = total_split n m xs in
    let e : suc n + m ≡ suc (n + m) = omega arith in
    let more : total (take (suc n + m) (x ∷ xs)) ≡ x + total (take (n + m) xs) = ap (λ z. total (take z (x ∷ xs))) e in
    omega (arith, ih, more)

pub some_counted : (xs : List ℕ) → 1 ≤ total xs → 1 ≤ length xs
some_counted [] h = absurd (omega (arith, h))
some_counted (x ∷ xs) h = omega arith

pub total_none : (n : ℕ) → total (replicate n 0) ≡ 0
total_none zero = refl
total_none (suc n) = let ih = total_none n in omega (arith, ih)
