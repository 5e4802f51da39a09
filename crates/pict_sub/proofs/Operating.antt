-- Operators that vary as marks say: their arguments compare, and so do the operators applied to them; and this is kept by
-- renamings.
use Rattle.std.proofs.Common.{◌≡◌, ℕ, zero, suc, ◌+◌, true, List, [], ◌∷◌, length, Some, refl, sym, ◌∙◌, ap, subst, subst₂, arith}
use Rattle.pict_types.specs.Types.{PlainType, PlainTypes, Free, Operator, Op, TypeContext}
use Rattle.pict_syntax.specs.declared.type_tree.Mark.{Mark}
use Rattle.pict_syntax.specs.declared.type_tree.Mark.TheVariants.{Plus, Minus, Plain as Unmarked}
use Rattle.pict_types.specs.Renaming.{beyond, beyond_times, rename, rename_bound, moved, bound_at, bound_of}
use Rattle.pict_types.specs.Replacing.{Filling, with_type, with_types, no_filling, applied}
use Rattle.pict_types.specs.Kinds.{proper, kinds, with_parameters, IsWellFormed}
use Rattle.pict_types.specs.Variance.{goes, goes_as, body_varies, under_parameters, varies}
use Rattle.pict_sub.specs.Subtyping.{IsSubtype, AreByMarks, no_more, plus, minus, unmarked}
use Rattle.pict_types.proofs.Replaced.{beyond_after}
use Rattle.pict_sub.proofs.Varying.{VariesBy, and_first, and_second, and_both, AsMarked, together}
use Rattle.pict_sub.proofs.Apart.{apart, KeepsMarks, varies_renamed}
use Rattle.pict_sub.proofs.Carried.{ComparesBy, Compare, carried}

abbrev pub first_mark : Mark → (ℕ → Mark) → ℕ → Mark
first_mark k m zero = k
first_mark k m (suc i) = m i

-- marks of the innermost variables, the last one that of variable 0
abbrev pub with_marks : List Mark → (ℕ → Mark) → ℕ → Mark
with_marks [] m = m
with_marks (k ∷ ms) m = with_marks ms (first_mark k m)

abbrev pub no_mark : ℕ → Mark
no_mark i = Unmarked

pub with_marks_past : (ms : List Mark) (m : ℕ → Mark) (i : ℕ) → with_marks ms m (i + length ms) ≡ m i
with_marks_past [] m i = let e : i + 0 ≡ i = omega arith in ap m e
with_marks_past (k ∷ ms) m i =
    let e : i + suc (length ms) ≡ suc i + length ms = omega arith in
    ap (with_marks ms (first_mark k m)) e ∙ with_marks_past ms (first_mark k m) (suc i)

-- ---- the marks of an operator, each and all

as_marked : (k : Mark) (e : TypeContext) (x : ℕ) (t : PlainType) → goes_as k e x t ≡ true → AsMarked k (λ w. goes w e x t)
as_marked Plus e x t h = h
as_marked Minus e x t h = h
as_marked Unmarked e x t h = tt

marked_as : (k : Mark) (e : TypeContext) (x : ℕ) (t : PlainType) → AsMarked k (λ w. goes w e x t) → goes_as k e x t ≡ true
marked_as Plus e x t h = h
marked_as Minus e x t h = h
marked_as Unmarked e x t h = refl

marks_each : (e : TypeContext) (ms : List Mark) (m : ℕ → Mark) (t : PlainType) → body_varies e ms t ≡ true → ((i : ℕ) → AsMarked (m i) (λ w. goes w e (i + length ms) t)) → (i : ℕ) → AsMarked (with_marks ms m i) (λ w. goes w e i t)
marks_each e [] m t h g i = let q : i + 0 ≡ i = omega arith in subst (λ j. AsMarked (m i) (λ w. goes w e j t)) q (g i)
marks_each e (k ∷ ms) m t h g i = marks_each e ms (first_mark k m) t (and_second (goes_as k e (length ms) t) _ h) go i
  where
    go : (i : ℕ) → AsMarked (first_mark k m i) (λ w. goes w e (i + length ms) t)
    go zero =
        let q : length ms ≡ 0 + length ms = omega arith in
        subst (λ j. AsMarked k (λ w. goes w e j t)) q (as_marked k e (length ms) t (and_first (goes_as k e (length ms) t) _ h))
    go (suc i) =
        let q : i + length (k ∷ ms) ≡ suc i + length ms = omega arith in
        subst (λ j. AsMarked (m i) (λ w. goes w e j t)) q (g i)

pub by_all_marks : (e : TypeContext) (ms : List Mark) (t : PlainType) → body_varies e ms t ≡ true → VariesBy e (with_marks ms no_mark) t
by_all_marks e ms t h = together e (with_marks ms no_mark) t (marks_each e ms no_mark t h (λ i. tt))

all_marks : (e : TypeContext) (ms : List Mark) (m : ℕ → Mark) (t : PlainType) → ((i : ℕ) → AsMarked (with_marks ms m i) (λ w. goes w e i t)) → body_varies e ms t ≡ true
all_marks e [] m t h = refl
all_marks e (k ∷ ms) m t h =
    let q : with_marks ms (first_mark k m) (length ms) ≡ k = (let z : length ms ≡ 0 + length ms = omega arith in ap (with_marks ms (first_mark k m)) z ∙ with_marks_past ms (first_mark k m) 0) in
    and_both (marked_as k e (length ms) t (subst (λ j. AsMarked j (λ w. goes w e (length ms) t)) q (h (length ms)))) (all_marks e ms (first_mark k m) t h)

pub of_all_marks : (e : TypeContext) (ms : List Mark) (t : PlainType) → VariesBy e (with_marks ms no_mark) t → body_varies e ms t ≡ true
of_all_marks e ms t v = all_marks e ms no_mark t (apart e (with_marks ms no_mark) t v)

-- ---- parameters

pub parameters_before : (n : ℕ) (c : TypeContext) → under_parameters n (Free ∷ c) ≡ Free ∷ under_parameters n c
parameters_before zero c = refl
parameters_before (suc n) c = ap (λ x. Free ∷ x) (parameters_before n c)

pub kinds_of_parameters : (n : ℕ) (c : TypeContext) → kinds (under_parameters n c) ≡ with_parameters n (kinds c)
kinds_of_parameters zero c = refl
kinds_of_parameters (suc n) c = ap (λ x. proper ∷ x) (kinds_of_parameters n c)

-- ---- arguments that compare by the marks

compare_type : {c d : TypeContext} {m : ℕ → Mark} {s u : Filling} (k : Mark) (t v : PlainType) → ComparesBy d k t v → Compare c d m s u → Compare (Free ∷ c) d (first_mark k m) (with_type t s) (with_type v u)
compare_type {c = c} {d = d} {m = m} {s = s} {u = u} k t v h x = record { types_ = go; heads_ = go2; puts = record { each = go3 } }
  where
    go : (i : ℕ) → ComparesBy d (first_mark k m i) ((with_type t s).type_for i) ((with_type v u).type_for i)
    go zero = h
    go (suc i) = x.types_ i

    go2 : (i : ℕ) → (with_type t s).head_for i ≡ (with_type v u).head_for i
    go2 zero = refl
    go2 (suc i) = x.heads_ i

    go3 : (i : ℕ) (ms : List Mark) → bound_at (Free ∷ c) i ≡ Operator ms → (j : ℕ) × ((with_type t s).head_for i ≡ Some j) × (bound_of d j ≡ Operator ms)
    go3 zero ms e = absurd cc
    go3 (suc i) ms e = x.puts.each i ms e

compare_types : {c d : TypeContext} {m : ℕ → Mark} {s u : Filling} {ms : List Mark} {us vs : PlainTypes} → AreByMarks d ms us vs → Compare c d m s u → Compare (under_parameters (length ms) c) d (with_marks ms m) (with_types (length ms) us s) (with_types (length ms) vs u)
compare_types no_more x = x
compare_types {c = c} {d = d} {m = m} {s = s} {u = u} (plus {s = t} {t = v} {ms = ms} {ss = ts} {ts = ws} h a) x =
    subst (λ z. Compare z d (with_marks ms (first_mark Plus m)) (with_types (length ms) ts (with_type t s)) (with_types (length ms) ws (with_type v u))) (parameters_before (length ms) c) (compare_types a (compare_type Plus t v h x))
compare_types {c = c} {d = d} {m = m} {s = s} {u = u} (minus {s = t} {t = v} {ms = ms} {ss = ts} {ts = ws} h a) x =
    subst (λ z. Compare z d (with_marks ms (first_mark Minus m)) (with_types (length ms) ts (with_type t s)) (with_types (length ms) ws (with_type v u))) (parameters_before (length ms) c) (compare_types a (compare_type Minus t v h x))
compare_types {c = c} {d = d} {m = m} {s = s} {u = u} (unmarked {t = t} {ms = ms} {ss = ts} {ts = ws} a) x =
    subst (λ z. Compare z d (with_marks ms (first_mark Unmarked m)) (with_types (length ms) ts (with_type t s)) (with_types (length ms) ws (with_type t u))) (parameters_before (length ms) c) (compare_types a (compare_type Unmarked t t refl x))

compare_none : (d : TypeContext) → Compare d d no_mark no_filling no_filling
compare_none d = record { types_ = λ i. refl; heads_ = λ i. refl; puts = record { each = λ i ms h. (i, refl, ap (rename_bound (moved (suc i) 0)) h) } }

-- an operator that varies as the marks say, applied to arguments that compare by the marks
pub operators_compare : (names : List (List ℕ)) (d : TypeContext) (n : ℕ) (t : PlainType) (ms : List Mark) (us vs : PlainTypes) → n ≡ length ms → IsWellFormed names (with_parameters n (kinds d)) t → varies d (Op n t) ms ≡ true → AreByMarks d ms us vs → IsSubtype d (applied n t us) (applied n t vs)
operators_compare names d n t ms us vs e w v a =
    let x = compare_types a (compare_none d) in
    let w2 : IsWellFormed names (kinds (under_parameters (length ms) d)) t = subst (λ z. IsWellFormed names z t) (ap (λ k. with_parameters k (kinds d)) e ∙ sym (kinds_of_parameters (length ms) d)) w in
    let v2 : body_varies (under_parameters (length ms) d) ms t ≡ true = subst (λ k. body_varies (under_parameters k d) ms t ≡ true) e v in
    let c = carried names t w2 (by_all_marks (under_parameters (length ms) d) ms t v2) x in
    subst (λ k. IsSubtype d (applied k t us) (applied k t vs)) (sym e) c

-- ---- renamings

keeps_first : {f : ℕ → ℕ} {c d : TypeContext} {m n : ℕ → Mark} (k : Mark) → KeepsMarks f c d m n → KeepsMarks (beyond f) (Free ∷ c) (Free ∷ d) (first_mark k m) (first_mark k n)
keeps_first {f = f} {c = c} {d = d} {m = m} {n = n} k x = record { operators = go; marks = go2 }
  where
    go : (i : ℕ) (ms : List Mark) → bound_at (Free ∷ c) i ≡ Operator ms → bound_at (Free ∷ d) (beyond f i) ≡ Operator ms
    go zero ms h = h
    go (suc i) ms h = x.operators i ms h

    go2 : (i : ℕ) → first_mark k n (beyond f i) ≡ first_mark k m i
    go2 zero = refl
    go2 (suc i) = x.marks i

pub keeps_parameters_marks : {f : ℕ → ℕ} {c d : TypeContext} {m n : ℕ → Mark} (ms : List Mark) → KeepsMarks f c d m n → KeepsMarks (beyond_times (length ms) f) (under_parameters (length ms) c) (under_parameters (length ms) d) (with_marks ms m) (with_marks ms n)
keeps_parameters_marks [] x = x
keeps_parameters_marks {f = f} {c = c} {d = d} {m = m} {n = n} (k ∷ ms) x =
    let y = keeps_parameters_marks ms (keeps_first k x) in
    let y1 = subst (λ g. KeepsMarks g (under_parameters (length ms) (Free ∷ c)) (under_parameters (length ms) (Free ∷ d)) (with_marks ms (first_mark k m)) (with_marks ms (first_mark k n))) (beyond_after (length ms) f) y in
    subst₂ (λ a b. KeepsMarks (beyond (beyond_times (length ms) f)) a b (with_marks ms (first_mark k m)) (with_marks ms (first_mark k n))) (parameters_before (length ms) c) (parameters_before (length ms) d) y1

-- an operator varies as before once its free variables are renamed
pub operator_renamed : (f : ℕ → ℕ) (c d : TypeContext) (n : ℕ) (t : PlainType) (ms : List Mark) → ((i : ℕ) (ks : List Mark) → bound_at c i ≡ Operator ks → bound_at d (f i) ≡ Operator ks) → n ≡ length ms → varies c (Op n t) ms ≡ true → varies d (Op n (rename (beyond_times n f) t)) ms ≡ true
operator_renamed f c d n t ms k e v =
    let v2 : body_varies (under_parameters (length ms) c) ms t ≡ true = subst (λ k. body_varies (under_parameters k c) ms t ≡ true) e v in
    let x : KeepsMarks f c d no_mark no_mark = record { operators = k; marks = λ i. refl } in
    let z = of_all_marks (under_parameters (length ms) d) ms (rename (beyond_times (length ms) f) t) (varies_renamed t (keeps_parameters_marks ms x) (by_all_marks (under_parameters (length ms) c) ms t v2)) in
    subst (λ k. body_varies (under_parameters k d) ms (rename (beyond_times k f) t) ≡ true) (sym e) z
