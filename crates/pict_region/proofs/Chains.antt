-- Threaded lists: what they rest on, and how long they can be.
use Rattle.std.proofs.Common.{◌≡◌, ◌≢◌, ℕ, zero, suc, true, false, eqb, List, [], ◌∷◌, length, refl, ◌∙◌, ap, subst}
use Rattle.std.specs.List.{AllByRecursion, IsDistinct, list_any}
use Rattle.std.proofs.lemmas.Bool.{eq-eqb, or_left, or_right, or_parts, or_from, both_ways}
use Rattle.std.proofs.lemmas.Map.Keys.{IsDistinct-cons, IsDistinct-head, IsDistinct-tail}
use Rattle.pict_region.specs.Chain.{chain}

-- a number stands in a list, or it doesn't
abbrev pub StandsIn : List ℕ → ℕ → Type 0
StandsIn ns n = list_any (eqb n) ns ≡ true

abbrev pub IsAbsent : List ℕ → ℕ → Type 0
IsAbsent ns n = list_any (eqb n) ns ≡ false

pub stands_apart : (ns : List ℕ) (m n : ℕ) → StandsIn ns m → IsAbsent ns n → m ≢ n
stands_apart ns m n stands absent e = both_ways (list_any (eqb n) ns) absent (subst (λ q. StandsIn ns q) e stands)

pub stands_first : (n : ℕ) (ns : List ℕ) → StandsIn (n ∷ ns) n
stands_first n ns = or_left (eqb n n) (list_any (eqb n) ns) (eq-eqb n n refl)

pub stands_later : (m n : ℕ) (ns : List ℕ) → StandsIn ns m → StandsIn (n ∷ ns) m
stands_later m n ns stands = or_right (eqb m n) (list_any (eqb m) ns) stands

pub chain-length : (next : ℕ → ℕ) (first count : ℕ) → length (chain next first count) ≡ count
chain-length next first zero = refl
chain-length next first (suc count) = ap suc (chain-length next (next first) count)

-- a thread rests on what its own numbers name
pub chain-same : (f g : ℕ → ℕ) (first count : ℕ) → ((n : ℕ) → StandsIn (chain f first count) n → g n ≡ f n) → chain g first count ≡ chain f first count
chain-same f g first zero same = refl
chain-same f g first (suc count) same =
    let here : g first ≡ f first = same first (stands_first first (chain f (f first) count)) in
    let rest : chain g (f first) count ≡ chain f (f first) count = chain-same f g (f first) count (λ n stands. same n (stands_later n first (chain f (f first) count) stands)) in
    ap (λ ns. first ∷ ns) (ap (λ q. chain g q count) here ∙ rest)

-- a number of which all in a list are apart is not in it
absent_all : (n : ℕ) (ns : List ℕ) → AllByRecursion (λ m. eqb n m ≡ false) ns → IsAbsent ns n
absent_all n [] h = refl
absent_all n (m ∷ ns) h = or_from (eqb n m) (list_any (eqb n) ns) h.0 (absent_all n ns h.1)

all_absent : (n : ℕ) (ns : List ℕ) → IsAbsent ns n → AllByRecursion (λ m. eqb n m ≡ false) ns
all_absent n [] h = tt
all_absent n (m ∷ ns) h = let p = or_parts (eqb n m) (list_any (eqb n) ns) h in (p.0, all_absent n ns p.1)

pub distinct_rest : (n : ℕ) (ns : List ℕ) → IsDistinct eqb (n ∷ ns) → IsDistinct eqb ns
distinct_rest n ns d = IsDistinct-tail eqb n ns d

pub distinct_absent : (n : ℕ) (ns : List ℕ) → IsDistinct eqb (n ∷ ns) → IsAbsent ns n
distinct_absent n ns d = absent_all n ns (IsDistinct-head eqb n ns d)

pub distinct_more : (n : ℕ) (ns : List ℕ) → IsAbsent ns n → IsDistinct eqb ns → IsDistinct eqb (n ∷ ns)
distinct_more n ns absent d = IsDistinct-cons eqb n ns (all_absent n ns absent) d
