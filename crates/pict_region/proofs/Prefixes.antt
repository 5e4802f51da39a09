-- A list and its first part: what is written or read within that part.
use Rattle.std.proofs.Common.{◌≡◌, ℕ, zero, suc, ◌+◌, ◌≤◌, List, [], ◌∷◌, ◌++◌, length, take, drop, set, refl, ap, arith, length-append}
use Rattle.std.proofs.lemmas.List.{length-take, length-drop}

pub take_set : (n : ℕ) (ws : List ℕ) (i w : ℕ) → take n (set ws i w) ≡ set (take n ws) i w
take_set zero ws i w = refl
take_set (suc n) [] i w = refl
take_set (suc n) (x ∷ ws) zero w = refl
take_set (suc n) (x ∷ ws) (suc i) w = ap (λ us. x ∷ us) (take_set n ws i w)

pub take_drop : (start many n : ℕ) (ws : List ℕ) → start + many ≤ n → take many (drop start (take n ws)) ≡ take many (drop start ws)
take_drop zero zero n ws h = refl
take_drop zero (suc many) zero ws h = absurd (omega (arith, h))
take_drop zero (suc many) (suc n) [] h = refl
take_drop zero (suc many) (suc n) (x ∷ ws) h = ap (λ us. x ∷ us) (take_drop zero many n ws (omega (arith, h)))
take_drop (suc start) many zero ws h = absurd (omega (arith, h))
take_drop (suc start) many (suc n) [] h = refl
take_drop (suc start) many (suc n) (x ∷ ws) h = take_drop start many n ws (omega (arith, h))

-- words that are written over others, up to index `end`
front_over : (us ws : List ℕ) (n : ℕ) → length us ≤ n → n ≤ length ws → take n (us ++ drop (length us) ws) ≡ us ++ drop (length us) (take n ws)
front_over [] ws n h k = refl
front_over (u ∷ us) ws zero h k = absurd (omega arith)
front_over (u ∷ us) [] (suc n) h k = absurd (omega arith)
front_over (u ∷ us) (w ∷ ws) (suc n) h k = ap (λ vs. u ∷ vs) (front_over us ws n (omega arith) (omega arith))

over : (first : ℕ) (us ws : List ℕ) (n : ℕ) → first + length us ≤ n → n ≤ length ws
    → take n (take first ws ++ (us ++ drop (first + length us) ws)) ≡ take first (take n ws) ++ (us ++ drop (first + length us) (take n ws))
over zero us ws n h k = let e : zero + length us ≡ length us = omega arith in rw e (front_over us ws n (omega (arith, h)) k)
over (suc first) us ws zero h k = absurd (omega (arith, h))
over (suc first) us [] (suc n) h k = absurd (omega arith)
over (suc first) us (w ∷ ws) (suc n) h k =
    let e : suc first + length us ≡ suc (first + length us) = omega arith in rw e (ap (λ vs. w ∷ vs) (over first us ws n (omega (arith, h)) (omega arith)))

pub take_over : (first : ℕ) (us ws : List ℕ) (n end : ℕ) → end ≡ first + length us → end ≤ n → n ≤ length ws
    → take n (take first ws ++ (us ++ drop end ws)) ≡ take first (take n ws) ++ (us ++ drop end (take n ws))
take_over first us ws n end e h k = rw e (over first us ws n (omega (arith, e, h)) k)

pub length_over : (first : ℕ) (us ws : List ℕ) (end : ℕ) → end ≡ first + length us → end ≤ length ws → length (take first ws ++ (us ++ drop end ws)) ≡ length ws
length_over first us ws end e h =
    omega (arith, length-append (take first ws) (us ++ drop end ws), length-append us (drop end ws), length-take first ws, length-drop end ws)

-- the first part made longer
pub take_longer : (n many : ℕ) (ws : List ℕ) → take (n + many) ws ≡ take n ws ++ take many (drop n ws)
take_longer zero many ws = let e : zero + many ≡ many = omega arith in rw e refl
take_longer (suc n) zero [] = let e : suc n + zero ≡ suc n = omega arith in rw e refl
take_longer (suc n) (suc many) [] = let e : suc n + suc many ≡ suc (n + suc many) = omega arith in rw e refl
take_longer (suc n) many (x ∷ ws) = let e : suc n + many ≡ suc (n + many) = omega arith in rw e (ap (λ us. x ∷ us) (take_longer n many ws))
