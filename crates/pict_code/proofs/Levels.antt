-- A frame has exactly the levels that occur, and increases; and an increasing list is determined by which levels it has.
use Rattle.std.proofs.Common.{ℕ, zero, suc, ◌+◌, ◌<◌, ◌≤◌, ◌≡◌, ◌==◌, Bool, true, false, cond, ◌||◌, ◌&&◌, List, [], ◌∷◌, ◌++◌, refl, sym, ap, ◌∙◌, subst, arith, nat_lt, filter, append-nil, ⊎_elim}
use Rattle.std.proofs.lemmas.Bool.Decides.{nat_tests}
use Rattle.std.proofs.lemmas.Bool.{cases_lt}
use Rattle.std.proofs.lemmas.List.Elements.{filter-append}
use Rattle.pict_syntax.proofs.ListLemmas.{or_assoc}
use Rattle.pict_core.specs.Term.{Process}
use Rattle.pict_code.specs.Frames.{occurs, levels_below, frame_of}
use Rattle.pict_code.specs.Levels.{has, Rises}

-- ---- which levels

pub has_append : (level : ℕ) (xs ys : List ℕ) → has level (xs ++ ys) ≡ has level xs || has level ys
has_append level [] ys = refl
has_append level (x ∷ xs) ys = ap (λ b. (level == x) || b) (has_append level xs ys) ∙ sym (or_assoc (level == x) (has level xs) (has level ys))

one_more : (a e t u : Bool) → (e ≡ true → u ≡ t) → (a && t) || (e && u) ≡ (a || e) && t
one_more true true true u h = refl
one_more true true false u h = h refl
one_more true false true u h = refl
one_more true false false u h = refl
one_more false true t u h = h refl
one_more false false t u h = refl

and_true : (e : Bool) → e || false ≡ e && true
and_true true = refl
and_true false = refl

and_false : (e : Bool) → false ≡ e && false
and_false true = refl
and_false false = refl

has_one : (level n : ℕ) (b : Bool) → has level (cond b (n ∷ []) []) ≡ (level == n) && b
has_one level n true = and_true (level == n)
has_one level n false = and_false (level == n)

below_more : (level n : ℕ) → nat_lt level (suc n) ≡ nat_lt level n || (level == n)
below_more level n = grind (arith, nat_tests)

filter_has : (test : ℕ → Bool) (n level : ℕ) → has level (filter test (levels_below n)) ≡ nat_lt level n && test level
filter_has test zero level = let none : nat_lt level 0 ≡ false = grind (arith, nat_tests) in ap (λ b. b && test level) (sym none)
filter_has test (suc n) level =
    let same : (level == n) ≡ true → test n ≡ test level = λ e. let is : n ≡ level = grind (arith, nat_tests) in ap test is in
    ap (has level) (filter-append test (levels_below n) (n ∷ []))
    ∙ has_append level (filter test (levels_below n)) (filter test (n ∷ []))
    ∙ ap (λ b. b || has level (filter test (n ∷ []))) (filter_has test n level)
    ∙ ap (λ b. (nat_lt level n && test level) || b) (has_one level n (test n))
    ∙ one_more (nat_lt level n) (level == n) (test level) (test n) same
    ∙ ap (λ b. b && test level) (sym (below_more level n))

pub frame_has : (n : ℕ) (p : Process) (level : ℕ) → has level (frame_of n p) ≡ nat_lt level n && occurs level p
frame_has n p level = filter_has (λ l. occurs l p) n level

-- ---- in which order

-- increasing, from this level on, up to that one
Between : ℕ → ℕ → List ℕ → Type 0
Between low high [] = low ≤ high
Between low high (l ∷ ls) = (low ≤ l) × Between (l + 1) high ls

between_wider : (low high : ℕ) (ls : List ℕ) → Between low high ls → Between low (suc high) ls
unfolding Between
between_wider low high [] b = omega arith
between_wider low high (l ∷ ls) b = (b.0, between_wider (l + 1) high ls b.1)

between_pushed : (low high : ℕ) (ls : List ℕ) → Between low high ls → Between low (suc high) (ls ++ high ∷ [])
unfolding Between
between_pushed low high [] b = (b, omega arith)
between_pushed low high (l ∷ ls) b = (b.0, between_pushed (l + 1) high ls b.1)

rises_between : (low high : ℕ) (ls : List ℕ) → Between low high ls → Rises low ls
unfolding Between
rises_between low high [] b = tt
rises_between low high (l ∷ ls) b = (b.0, rises_between (l + 1) high ls b.1)

between_last : (n : ℕ) (ls : List ℕ) (b : Bool) → Between 0 n ls → Between 0 (suc n) (ls ++ cond b (n ∷ []) [])
between_last n ls true h = between_pushed 0 n ls h
between_last n ls false h = subst (Between 0 (suc n)) (sym (append-nil ls)) (between_wider 0 n ls h)

filter_between : (test : ℕ → Bool) (n : ℕ) → Between 0 n (filter test (levels_below n))
unfolding Between
filter_between test zero = omega arith
filter_between test (suc n) =
    subst (Between 0 (suc n)) (sym (filter-append test (levels_below n) (n ∷ []))) (between_last n _ (test n) (filter_between test n))

pub frame_rises : (n : ℕ) (p : Process) → Rises 0 (frame_of n p)
frame_rises n p = rises_between 0 n _ (filter_between (λ l. occurs l p) n)

-- ---- increasing lists with the same levels are the same

pub none_below : (low level : ℕ) (ls : List ℕ) → Rises low ls → level < low → has level ls ≡ false
none_below low level [] r h = refl
none_below low level (l ∷ ls) r h =
    let apart : level < l = omega (arith, r.0, h) in
    let e : (level == l) ≡ false = grind (arith, nat_tests) in
    let f : has level ls ≡ false = none_below (l + 1) level ls r.1 (omega (arith, r.0, h)) in
    ap (λ b. b || has level ls) e ∙ f

own : (l : ℕ) (ls : List ℕ) → has l (l ∷ ls) ≡ true
own l ls = let e : (l == l) ≡ true = grind (arith, nat_tests) in ap (λ b. b || has l ls) e

clash : (b : Bool) → b ≡ true → b ≡ false → ⊥
clash b t f = cc

not_first : (x y low : ℕ) (xs ys : List ℕ) → Rises low (y ∷ ys) → ((level : ℕ) → has level (x ∷ xs) ≡ has level (y ∷ ys)) → x < y → ⊥
not_first x y low xs ys r h less =
    let below : Rises y (y ∷ ys) = (omega arith, r.1) in
    clash (has x (y ∷ ys)) (sym (h x) ∙ own x xs) (none_below y x (y ∷ ys) below less)

heads : (x y low : ℕ) (xs ys : List ℕ) → Rises low (x ∷ xs) → Rises low (y ∷ ys) → ((level : ℕ) → has level (x ∷ xs) ≡ has level (y ∷ ys)) → x ≡ y
heads x y low xs ys r s h =
    ⊎_elim (λ (less : x < y). absurd (not_first x y low xs ys s h less))
    (λ (more : y ≤ x). ⊎_elim (λ (less : y < x). absurd (not_first y x low ys xs r (λ l. sym (h l)) less)) (λ (less : x ≤ y). omega (arith, more, less)) (cases_lt y x))
    (cases_lt x y)

tail_at : (x level : ℕ) (xs ys : List ℕ) (b : Bool) → (level == x) ≡ b → Rises (x + 1) xs → Rises (x + 1) ys → b || has level xs ≡ b || has level ys → has level xs ≡ has level ys
tail_at x level xs ys true e r s h =
    let same : level < x + 1 = grind (arith, nat_tests) in none_below (x + 1) level xs r same ∙ sym (none_below (x + 1) level ys s same)
tail_at x level xs ys false e r s h = h

pub same_levels : (low : ℕ) (xs ys : List ℕ) → Rises low xs → Rises low ys → ((level : ℕ) → has level xs ≡ has level ys) → xs ≡ ys
same_levels low [] [] r s h = refl
same_levels low [] (y ∷ ys) r s h = absurd (clash (has y (y ∷ ys)) (own y ys) (sym (h y)))
same_levels low (x ∷ xs) [] r s h = absurd (clash (has x (x ∷ xs)) (own x xs) (h x))
same_levels low (x ∷ xs) (y ∷ ys) r s h =
    let e : x ≡ y = heads x y low xs ys r s h in
    let s' : Rises (x + 1) ys = subst (λ k. Rises (k + 1) ys) (sym e) s.1 in
    let t : (level : ℕ) → has level (x ∷ xs) ≡ has level (x ∷ ys) = λ level. h level ∙ ap (λ k. has level (k ∷ ys)) (sym e) in
    let es : xs ≡ ys = same_levels (x + 1) xs ys r.1 s' (λ level. tail_at x level xs ys (level == x) refl r.1 s' (t level)) in
    cc (e, es)
