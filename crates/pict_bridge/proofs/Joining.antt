-- Two patterns side by side: each is written in what stands around both; the second one's variables are put inside the
-- first one's. Whatever embeds the two embeds the whole, in whichever order they are opened.
use Rattle.std.proofs.Common.{◌≡◌, ℕ, zero, suc, ◌+◌, ◌-◌, ◌<◌, true, false, List, [], ◌∷◌, ◌++◌, length, refl, sym, ◌∙◌, ap, subst, Some, arith}
use Rattle.std.specs.Prelude.{nat_lt, if◌then◌else◌}
use Rattle.std.proofs.lemmas.Bool.Decides.{nat_tests}
use Rattle.pict_types.specs.Types.{PlainType, PlainBound, Below, Operator, TypeContext}
use Rattle.pict_types.specs.Renaming.{bound_of, rename, rename_bound, moved}
use Rattle.pict_types.specs.Kinds.{Kind, kinds, kind_at}
use Rattle.pict_types.proofs.Renamed.{renamed_twice, bound_twice, bound_same, bound_alike, bound_further, bound_before, moved_is_suc}
use Rattle.pict_types.proofs.Formed.{same_kind}
use Rattle.pict_syntax.specs.declared.type_tree.Mark.{Mark}
use Rattle.pict_sub.proofs.Renamed.{operator_before}
use Rattle.pict_bridge.specs.Embedding.{Embeds}

-- these bounds with k more variables between them and their context
abbrev pub moved_bounds : ℕ → List PlainBound → List PlainBound
moved_bounds k [] = []
moved_bounds k (b ∷ bs) = rename_bound (moved k (length bs)) b ∷ moved_bounds k bs

abbrev pub joined_bounds : List PlainBound → List PlainBound → TypeContext → TypeContext
joined_bounds xs ys c = moved_bounds (length xs) ys ++ (xs ++ c)

pub type_after : (g f h : ℕ → ℕ) (t : PlainType) → ((i : ℕ) → g (f i) ≡ h i) → rename g (rename f t) ≡ rename h t
type_after g f h t e = renamed_twice t (record { each = e })

-- past more variables
pub past_bounds : (xs : List PlainBound) (c : TypeContext) (i : ℕ) → bound_of (xs ++ c) (i + length xs) ≡ rename_bound (moved (length xs) 0) (bound_of c i)
past_bounds [] c i =
    let e : i + 0 ≡ i = omega arith in
    ap (bound_of c) e ∙ sym (bound_same (bound_of c i) (record { each = λ j. omega arith }))
past_bounds (x ∷ xs) c i =
    let e : i + suc (length xs) ≡ suc (i + length xs) = omega arith in
    ap (bound_of (x ∷ (xs ++ c))) e ∙ bound_further x (xs ++ c) (i + length xs) ∙ ap (rename_bound suc) (past_bounds xs c i) ∙ bound_twice (bound_of c i) (record { each = λ j. omega arith })

-- the second one's variables and the context, where the first one's are put between
inserted : (xs ys : List PlainBound) (c : TypeContext) (i : ℕ) → bound_of (joined_bounds xs ys c) (moved (length xs) (length ys) i) ≡ rename_bound (moved (length xs) (length ys)) (bound_of (ys ++ c) i)
inserted xs [] c i = past_bounds xs c i
inserted xs (y ∷ ys) c zero = bound_alike (moved 1 0) (moved (length xs) (length ys)) (moved (length xs) (suc (length ys))) (moved 1 0) y go
  where
    go : (i : ℕ) → moved 1 0 (moved (length xs) (length ys) i) ≡ moved (length xs) (suc (length ys)) (moved 1 0 i)
    go i = let e : moved 1 0 ≡ suc = moved_is_suc in ap (λ f. f (moved (length xs) (length ys) i)) e ∙ ap (λ f. moved (length xs) (suc (length ys)) (f i)) (sym e)
inserted xs (y ∷ ys) c (suc i) =
    bound_further (rename_bound (moved (length xs) (length ys)) y) (joined_bounds xs ys c) (moved (length xs) (length ys) i) ∙ ap (rename_bound suc) (inserted xs ys c i) ∙ bound_alike suc (moved (length xs) (length ys)) (moved (length xs) (suc (length ys))) suc (bound_of (ys ++ c) i) (λ j. refl) ∙ ap (rename_bound (moved (length xs) (suc (length ys)))) (sym (bound_further y (ys ++ c) i))

length_moved : (k : ℕ) (ys : List PlainBound) → length (moved_bounds k ys) ≡ length ys
length_moved k [] = refl
length_moved k (y ∷ ys) = ap suc (length_moved k ys)

moved_below : (k d i : ℕ) → i < d → moved k d i ≡ i
moved_below k zero i h = absurd (omega (arith, h))
moved_below k (suc d) zero h = refl
moved_below k (suc d) (suc i) h = ap suc (moved_below k d i (omega (arith, h)))

moved_above : (k d i : ℕ) → moved k d (i + d) ≡ i + d + k
moved_above k zero i = omega arith
moved_above k (suc d) i =
    let e : i + suc d ≡ suc (i + d) = omega arith in
    ap (moved k (suc d)) e ∙ ap suc (moved_above k d i) ∙ omega arith

-- the whole: the second one's variables by h, the others by g
abbrev pub joined_by : ℕ → (ℕ → ℕ) → (ℕ → ℕ) → ℕ → ℕ
joined_by n g h i = if nat_lt i n then h i else g (i - n)

joined_inside : (n : ℕ) (g h : ℕ → ℕ) (i : ℕ) → i < n → joined_by n g h i ≡ h i
joined_inside n g h i x = let e : nat_lt i n ≡ true = grind (arith, nat_tests) in rw e refl

pub joined_outside : (n : ℕ) (g h : ℕ → ℕ) (i : ℕ) → joined_by n g h (i + n) ≡ g i
joined_outside n g h i =
    let e : nat_lt (i + n) n ≡ false = grind (arith, nat_tests) in
    let q : i + n - n ≡ i = omega arith in
    rw e (ap g q)

data Side (n : ℕ) : ℕ → Type 0 where
  inside : {i : ℕ} → i < n → Side n i
  outside : (i : ℕ) → Side n (i + n)

side : (n i : ℕ) → Side n i
side zero i = subst (Side 0) (omega arith) (outside i)
side (suc n) zero = inside (omega arith)
side (suc n) (suc i) = go (side n i)
  where
    go : {j : ℕ} → Side n j → Side (suc n) (suc j)
    go (inside h) = inside (omega (arith, h))
    go (outside k) = subst (Side (suc n)) (omega arith) (outside k)

-- the second one's variables, where the first one's are put between
pub inserted_by : (k n : ℕ) (g h : ℕ → ℕ) → ((i : ℕ) → g (i + k) ≡ h (i + n)) → (i : ℕ) → joined_by n g h (moved k n i) ≡ h i
inserted_by k n g h agree i = go (side n i)
  where
    go : {i : ℕ} → Side n i → joined_by n g h (moved k n i) ≡ h i
    go {i = i} (inside l) = ap (joined_by n g h) (moved_below k n i l) ∙ joined_inside n g h i l
    go (outside j) =
        let e : j + n + k ≡ j + k + n = omega arith in
        ap (joined_by n g h) (moved_above k n j ∙ e) ∙ joined_outside n g h (j + k) ∙ agree j

pub kind_past : (xs : List PlainBound) (c : TypeContext) (i : ℕ) → kind_at (kinds (xs ++ c)) (i + length xs) ≡ kind_at (kinds c) i
kind_past [] c i = let e : i + 0 ≡ i = omega arith in ap (kind_at (kinds c)) e
kind_past (x ∷ xs) c i = let e : i + suc (length xs) ≡ suc (i + length xs) = omega arith in ap (kind_at (kinds (x ∷ (xs ++ c)))) e ∙ kind_past xs c i

kind_first : (k : ℕ) (ys : List PlainBound) (c d : TypeContext) (i : ℕ) → i < length ys → kind_at (kinds (moved_bounds k ys ++ c)) i ≡ kind_at (kinds (ys ++ d)) i
kind_first k [] c d i h = absurd (omega (arith, h))
kind_first k (y ∷ ys) c d zero h = ap Some (sym (same_kind (moved k (length ys)) y))
kind_first k (y ∷ ys) c d (suc i) h = kind_first k ys c d i (omega (arith, h))

pub joins : (xs ys : List PlainBound) (c d : TypeContext) (g h : ℕ → ℕ) → Embeds g (xs ++ c) d → Embeds h (ys ++ c) d → ((i : ℕ) → g (i + length xs) ≡ h (i + length ys)) → Embeds (joined_by (length ys) g h) (joined_bounds xs ys c) d
joins xs ys c d g h x y agree = record { keeps = record { each = λ i b e. bounds_ i b (side (length ys) i) e; marks = λ i ms e. marks_ i ms (side (length ys) i) e }; kept = λ i k e. kinds_ i k (side (length ys) i) e }
  where
    f : ℕ → ℕ
    f = joined_by (length ys) g h

    through_ : (i : ℕ) → f (moved (length xs) (length ys) i) ≡ h i
    through_ i = go (side (length ys) i)
      where
        go : {i : ℕ} → Side (length ys) i → f (moved (length xs) (length ys) i) ≡ h i
        go {i = i} (inside l) = ap f (moved_below (length xs) (length ys) i l) ∙ joined_inside (length ys) g h i l
        go (outside k) =
            let e : k + length ys + length xs ≡ k + length xs + length ys = omega arith in
            ap f (moved_above (length xs) (length ys) k ∙ e) ∙ joined_outside (length ys) g h (k + length xs) ∙ agree k

    bounds_ : (i : ℕ) (b : PlainType) → Side (length ys) i → bound_of (joined_bounds xs ys c) i ≡ Below b → bound_of d (f i) ≡ Below (rename f b)
    bounds_ i b (inside l) e =
        let q = sym (inserted xs ys c i) ∙ ap (bound_of (joined_bounds xs ys c)) (moved_below (length xs) (length ys) i l) ∙ e in
        let u = bound_before (moved (length xs) (length ys)) (bound_of (ys ++ c) i) b q in
        ap (bound_of d) (joined_inside (length ys) g h i l) ∙ y.keeps.each i u.0 u.1 ∙ ap Below (sym (type_after f (moved (length xs) (length ys)) h u.0 through_) ∙ ap (rename f) u.2)
    bounds_ i b (outside k) e =
        let n : k + length ys ≡ k + length (moved_bounds (length xs) ys) = ap (λ m. k + m) (sym (length_moved (length xs) ys)) in
        let q = sym (past_bounds (moved_bounds (length xs) ys) (xs ++ c) k) ∙ ap (bound_of (joined_bounds xs ys c)) (sym n) ∙ e in
        let u = bound_before (moved (length (moved_bounds (length xs) ys)) 0) (bound_of (xs ++ c) k) b q in
        ap (bound_of d) (joined_outside (length ys) g h k) ∙ x.keeps.each k u.0 u.1 ∙ ap Below (sym (type_after f (moved (length (moved_bounds (length xs) ys)) 0) g u.0 (λ j. ap f (ap (λ m. j + m) (length_moved (length xs) ys)) ∙ joined_outside (length ys) g h j)) ∙ ap (rename f) u.2)

    marks_ : (i : ℕ) (ms : List Mark) → Side (length ys) i → bound_of (joined_bounds xs ys c) i ≡ Operator ms → bound_of d (f i) ≡ Operator ms
    marks_ i ms (inside l) e =
        let q = sym (inserted xs ys c i) ∙ ap (bound_of (joined_bounds xs ys c)) (moved_below (length xs) (length ys) i l) ∙ e in
        let u = operator_before (moved (length xs) (length ys)) (bound_of (ys ++ c) i) ms q in
        ap (bound_of d) (joined_inside (length ys) g h i l) ∙ y.keeps.marks i ms u
    marks_ i ms (outside k) e =
        let n : k + length ys ≡ k + length (moved_bounds (length xs) ys) = ap (λ m. k + m) (sym (length_moved (length xs) ys)) in
        let q = sym (past_bounds (moved_bounds (length xs) ys) (xs ++ c) k) ∙ ap (bound_of (joined_bounds xs ys c)) (sym n) ∙ e in
        let u = operator_before (moved (length (moved_bounds (length xs) ys)) 0) (bound_of (xs ++ c) k) ms q in
        ap (bound_of d) (joined_outside (length ys) g h k) ∙ x.keeps.marks k ms u

    kinds_ : (i : ℕ) (k : Kind) → Side (length ys) i → kind_at (kinds (joined_bounds xs ys c)) i ≡ Some k → kind_at (kinds d) (f i) ≡ Some k
    kinds_ i k (inside l) e = ap (kind_at (kinds d)) (joined_inside (length ys) g h i l) ∙ y.kept i k (sym (kind_first (length xs) ys (xs ++ c) c i l) ∙ e)
    kinds_ i k (outside j) e =
        let n : j + length ys ≡ j + length (moved_bounds (length xs) ys) = ap (λ m. j + m) (sym (length_moved (length xs) ys)) in
        ap (kind_at (kinds d)) (joined_outside (length ys) g h j) ∙ x.kept j k (sym (kind_past (moved_bounds (length xs) ys) (xs ++ c) j) ∙ ap (kind_at (kinds (joined_bounds xs ys c))) (sym n) ∙ e)
