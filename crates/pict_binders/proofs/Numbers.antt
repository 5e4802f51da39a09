-- Binders as names and numbers: one more, one less, and the nearest one.
use Rattle.std.proofs.Common.{◌≡◌, ℕ, zero, suc, ◌+◌, ◌-◌, ◌<◌, ◌≤◌, Bool, true, false, nat_eq, List, [], ◌∷◌, ◌++◌, length, get_or, drop, Option, Some, None, refl, sym, ◌∙◌, ap, arith}
use Rattle.std.specs.Prelude.{if◌then◌else◌, slice_get, IsSome}
use Rattle.pict_binders.specs.Names.{level_of}
use Rattle.pict_binders.proofs.Places.{level_below}
use Rattle.pict_binders.specs.declared.binders.Binder.{Binder}
use Rattle.pict_binders.specs.Numbered.{nearest, numbered, names_of}

pub length_numbered : (ns xs : List ℕ) → length (numbered ns xs) ≡ length xs
length_numbered ns [] = refl
length_numbered ns (x ∷ xs) = ap suc (length_numbered ns xs)

pub names_numbered : (ns xs : List ℕ) → names_of (numbered ns xs) ≡ xs
names_numbered ns [] = refl
names_numbered ns (x ∷ xs) = ap (λ l. x ∷ l) (names_numbered ns xs)

pub nearest_none : (ns xs : List ℕ) (n : ℕ) → level_of xs n ≡ None → nearest (numbered ns xs) n ≡ None
nearest_none ns [] n h = refl
nearest_none ns (x ∷ xs) n h = go (λ k. nearest_none ns xs n k) (nat_eq x n) h
  where
    go : (level_of xs n ≡ None → nearest (numbered ns xs) n ≡ None) → (t : Bool) → (if t then Some (length xs) else level_of xs n) ≡ None → (if t then Some (get_or ns (length xs) 0) else nearest (numbered ns xs) n) ≡ None
    go r true k = absurd (cc)
    go r false k = r k

pub nearest_some : (ns xs : List ℕ) (n l : ℕ) → level_of xs n ≡ Some l → nearest (numbered ns xs) n ≡ Some (get_or ns l 0)
nearest_some ns [] n l h = absurd (cc)
nearest_some ns (x ∷ xs) n l h = go (λ k. nearest_some ns xs n l k) (nat_eq x n) h
  where
    go : (level_of xs n ≡ Some l → nearest (numbered ns xs) n ≡ Some (get_or ns l 0)) → (t : Bool) → (if t then Some (length xs) else level_of xs n) ≡ Some l → (if t then Some (get_or ns (length xs) 0) else nearest (numbered ns xs) n) ≡ Some (get_or ns l 0)
    go r true k = let e : length xs ≡ l = cc in ap (λ i. Some (get_or ns i 0)) e
    go r false k = r k

get_before : (ns : List ℕ) (k i : ℕ) → i < length ns → get_or (ns ++ k ∷ []) i 0 ≡ get_or ns i 0
get_before [] k i h = absurd (omega arith)
get_before (n ∷ ns) k zero h = refl
get_before (n ∷ ns) k (suc i) h = get_before ns k i (omega arith)

get_last : (ns : List ℕ) (k i : ℕ) → i ≡ length ns → get_or (ns ++ k ∷ []) i 0 ≡ k
get_last [] k i h = ap (λ j. get_or (k ∷ []) j 0) h
get_last (n ∷ ns) k i h = ap (λ j. get_or (n ∷ (ns ++ k ∷ [])) j 0) h ∙ get_last ns k (length ns) refl

pub numbered_before : (ns : List ℕ) (k : ℕ) (xs : List ℕ) → length xs ≤ length ns → numbered (ns ++ k ∷ []) xs ≡ numbered ns xs
numbered_before ns k [] h = refl
numbered_before ns k (x ∷ xs) h =
    let first : get_or (ns ++ k ∷ []) (length xs) 0 ≡ get_or ns (length xs) 0 = get_before ns k (length xs) (omega arith) in
    let rest : numbered (ns ++ k ∷ []) xs ≡ numbered ns xs = numbered_before ns k xs (omega arith) in
    ap (λ m. record { name = x; number = m } ∷ numbered (ns ++ k ∷ []) xs) first ∙ ap (λ l. record { name = x; number = get_or ns (length xs) 0 } ∷ l) rest

pub one_more : (ns : List ℕ) (k x : ℕ) (xs : List ℕ) → length xs ≡ length ns → numbered (ns ++ k ∷ []) (x ∷ xs) ≡ record { name = x; number = k } ∷ numbered ns xs
one_more ns k x xs h =
    ap (λ m. record { name = x; number = m } ∷ numbered (ns ++ k ∷ []) xs) (get_last ns k (length xs) h) ∙ ap (λ l. record { name = x; number = k } ∷ l) (numbered_before ns k xs (omega arith))

pub one_less : (ns : List ℕ) (k : ℕ) (xs : List ℕ) → length xs ≡ suc (length ns) → numbered ns (drop 1 xs) ≡ drop 1 (numbered (ns ++ k ∷ []) xs)
one_less ns k [] h = absurd (omega arith)
one_less ns k (x ∷ xs) h = sym (numbered_before ns k xs (omega arith))

pub last_of : (ns : List ℕ) (k : ℕ) (xs : List ℕ) (x : ℕ) → length xs ≡ suc (length ns) → Some x ≡ slice_get xs 0 → Some (record { name = x; number = k }) ≡ slice_get (numbered (ns ++ k ∷ []) xs) 0
last_of ns k [] x h is = absurd (cc)
last_of ns k (y ∷ xs) x h is =
    let e : x ≡ y = cc in
    let m : get_or (ns ++ k ∷ []) (length xs) 0 ≡ k = get_last ns k (length xs) (omega arith) in
    ap (λ z. Some (record { name = z; number = k })) e ∙ ap (λ z. Some (record { name = y; number = z })) (sym m)

pub none_left : (ns xs : List ℕ) → None ≡ slice_get xs 0 → numbered ns xs ≡ []
none_left ns [] h = refl
none_left ns (x ∷ xs) h = absurd (cc)

pub no_name : (xs : List ℕ) (n : ℕ) (x : Option ℕ) → length xs ≡ n → n ≡ 0 → IsSome x → x ≡ slice_get xs 0 → ⊥
no_name [] n x h k s e = let z : x ≡ None = e in absurd (cc)
no_name (y ∷ xs) n x h k s e = omega (arith, h, k)

-- one less, and then as many as are left
pub cut_more : (xs ys : List Binder) (left : ℕ) → ys ≡ drop 1 xs → left < length xs → drop (length ys - left) ys ≡ drop (length xs - left) xs
cut_more [] ys left e h = absurd (omega (arith, h))
cut_more (x ∷ xs) ys left e h =
    let n : length (x ∷ xs) - left ≡ suc (length xs - left) = omega (arith, h) in
    ap (λ l. drop (length l - left) l) e ∙ sym (ap (λ k. drop k (x ∷ xs)) n)
