-- Operators still vary as marks say once types, and operators that vary as marks say, are put for their free variables.
use Rattle.std.proofs.Common.{◌≡◌, ℕ, zero, suc, Bool, true, false, List, [], ◌∷◌, length, refl, sym, ◌∙◌, ap, subst, subst₂}
use Rattle.pict_types.specs.Types.{Both, Read, Write, Respond, PlainType, Top, Int, Char, Str, Boolean, Var, Apply, Chan, Fields, Rec, PlainTypes, no_type, types, PlainLabels, no_label, labels, PlainBound, Free, Below, Operator, PlainBounds, no_bound, bounds, Op, TypeContext, under, count_types}
use Rattle.pict_syntax.specs.declared.type_tree.Mark.{Mark}
use Rattle.pict_syntax.specs.declared.type_tree.Mark.TheVariants.{Plus, Minus, Plain as Unmarked}
use Rattle.pict_types.specs.Renaming.{beyond_times, rename, rename_bound, moved, bound_at, bound_of}
use Rattle.pict_types.specs.Mentions.{outside, outside_all, outside_times, mentions, mentions_types, mentions_labels, mentions_bound, mentions_bounds}
use Rattle.pict_types.specs.Replacing.{no_filling, Head, variable, operator, nothing, rename_head, apply_head, Replacement, replacement_beyond, replacement_beyond_all, replacement_past, replace, replace_types, replace_labels, replace_bound, replace_bounds}
use Rattle.pict_types.specs.Kinds.{kind_by, kinds, kinds_under, with_parameters, IsWellFormed, AreWellFormed, LabelsAreWellFormed, BoundsAreWellFormed, BoundIsWellFormed}
use Rattle.pict_types.specs.Variance.{marks_by, body_varies, under_parameters, varies}
use Rattle.pict_sub.specs.Laws.{StandsAsMarked, IsWithinBounds}
use Rattle.pict_types.proofs.Formed.{formed_renamed, keeps_parameters, one_more_kind}
use Rattle.pict_types.proofs.Mentioned.{Comes, comes_beyond, mentions_renamed, MarksNone, none_beyond, mentions_no}
use Rattle.pict_sub.proofs.Renamed.{operator_of_at}
use Rattle.pict_sub.proofs.Varying.{turned_all, is_marked, marked, marks_beyond, marks_under, VariesBy, ArgumentsVaryBy, AllVaryBy, LabelsVaryBy, or_first, or_second, or_both}
use Rattle.pict_sub.proofs.Apart.{turned_marked, none_arguments_vary, KeepsMarks, keeps_turned, comes, varies_renamed}
use Rattle.pict_sub.proofs.Carried.{operator_there, kinds_of_under}
use Rattle.pict_sub.proofs.Operating.{first_mark, with_marks, no_mark, by_all_marks, of_all_marks, parameters_before, kinds_of_parameters, keeps_parameters_marks}
use Rattle.pict_sub.proofs.Put.{turned_twice, outside_marked, outside_all_marked, GoesBy, goes_turned, goes_none, goes_up, goes_itself, FillsMarks, bound_none, fill_none, fill_varies, fills_types}

-- ---- marks

abbrev unmarked_all : List Mark → List Mark
unmarked_all [] = []
unmarked_all (k ∷ ms) = Unmarked ∷ unmarked_all ms

unmarked_length : (ms : List Mark) → length (unmarked_all ms) ≡ length ms
unmarked_length [] = refl
unmarked_length (k ∷ ms) = ap suc (unmarked_length ms)

marked_turned : (n : ℕ → Mark) → marked (turned_all n) ≡ marked n
marked_turned n = λ k i. turned_marked (n i) k

outside_after : (k : ℕ) (p : ℕ → Bool) → outside_times k (outside p) ≡ outside (outside_times k p)
outside_after zero p = refl
outside_after (suc k) p = ap outside (outside_after k p)

outside_first : (n : ℕ → Mark) → outside (marked n) ≡ marked (first_mark Unmarked n)
outside_first n = λ k i. go i k
  where
    go : (i : ℕ) → outside (marked n) i ≡ marked (first_mark Unmarked n) i
    go zero = refl
    go (suc i) = refl

outside_parameters : (ms : List Mark) (n : ℕ → Mark) → outside_times (length ms) (marked n) ≡ marked (with_marks (unmarked_all ms) n)
outside_parameters [] n = refl
outside_parameters (k ∷ ms) n = sym (outside_after (length ms) (marked n)) ∙ ap (outside_times (length ms)) (outside_first n) ∙ outside_parameters ms (first_mark Unmarked n)

comes_times : {p q : ℕ → Bool} {f : ℕ → ℕ} (k : ℕ) → Comes p q f → Comes (outside_times k p) (outside_times k q) (beyond_times k f)
comes_times zero x = x
comes_times (suc k) x = comes_beyond (comes_times k x)

none_times : {p : ℕ → Bool} (k : ℕ) → MarksNone p → MarksNone (outside_times k p)
none_times zero x = x
none_times (suc k) x = none_beyond (none_times k x)

-- ---- what stands for operator variables

record OperatorVaries (names : List (List ℕ)) (d : TypeContext) (n : ℕ → Mark) (ms : List Mark) (k : ℕ) (b : PlainType) : Type 0 where
  parameters : k ≡ length ms
  formed : IsWellFormed names (with_parameters k (kinds d)) b
  goes_ : VariesBy (under_parameters (length ms) d) (with_marks ms n) b
  other : VariesBy (under_parameters (length ms) d) (with_marks ms (turned_all n)) b
  free : mentions (outside_times (length ms) (marked n)) b ≡ false

abbrev HeadVaries : List (List ℕ) → TypeContext → (ℕ → Mark) → List Mark → Head → Type 0
HeadVaries names d n ms (variable j) = (bound_at d j ≡ Operator ms) × (marked n j ≡ false)
HeadVaries names d n ms (operator k b) = OperatorVaries names d n ms k b
HeadVaries names d n ms nothing = ⊥

head_further : (names : List (List ℕ)) (b : PlainBound) (d : TypeContext) (n v : ℕ → Mark) (ms : List Mark) (h : Head) → KeepsMarks suc d (b ∷ d) n v → HeadVaries names d n ms h → HeadVaries names (b ∷ d) v ms (rename_head suc h)
head_further names b d n v ms (variable j) x h = (h.0, ap is_marked (x.marks j) ∙ h.1)
head_further names b d n v ms (operator k t) x h = record {
  parameters = h.parameters;
  formed = formed_renamed names t (keeps_parameters k (one_more_kind (kind_by b) (kinds d))) h.formed;
  goes_ = subst (λ z. VariesBy (under_parameters (length ms) (b ∷ d)) (with_marks ms v) (rename (beyond_times z suc) t)) (sym h.parameters) (varies_renamed t (keeps_parameters_marks ms x) h.goes_);
  other = subst (λ z. VariesBy (under_parameters (length ms) (b ∷ d)) (with_marks ms (turned_all v)) (rename (beyond_times z suc) t)) (sym h.parameters) (varies_renamed t (keeps_parameters_marks ms (keeps_turned x)) h.other);
  free = subst (λ z. mentions (outside_times (length ms) (marked v)) (rename (beyond_times z suc) t) ≡ false) (sym h.parameters) (mentions_renamed t (comes_times (length ms) (comes x)) ∙ h.free);
}
head_further names b d n v ms nothing x h = h

head_turned : (names : List (List ℕ)) (d : TypeContext) (n : ℕ → Mark) (ms : List Mark) (h : Head) → HeadVaries names d n ms h → HeadVaries names d (turned_all n) ms h
head_turned names d n ms (variable j) h = (h.0, turned_marked (n j) ∙ h.1)
head_turned names d n ms (operator k t) h = record {
  parameters = h.parameters;
  formed = h.formed;
  goes_ = h.other;
  other = subst (λ z. VariesBy (under_parameters (length ms) d) (with_marks ms z) t) (sym (turned_twice n)) h.goes_;
  free = subst (λ z. mentions (outside_times (length ms) z) t ≡ false) (sym (marked_turned n)) h.free;
}
head_turned names d n ms nothing h = h

-- ---- replacements

record ReplacesMarks (names : List (List ℕ)) (c d : TypeContext) (m n : ℕ → Mark) (r : Replacement) : Type 0 where
  types_ : (i : ℕ) → GoesBy d (m i) n (r.type_of i)
  heads_ : (i : ℕ) (ms : List Mark) → bound_at c i ≡ Operator ms → HeadVaries names d n ms (r.head_of i)
  proper_ : (i : ℕ) (ms : List Mark) → bound_at d i ≡ Operator ms → marked n i ≡ false

goes_past : (b : PlainBound) (d : TypeContext) (k : Mark) (n v : ℕ → Mark) (t : PlainType) → KeepsMarks suc d (b ∷ d) n v → GoesBy d k n t → GoesBy (b ∷ d) k v (rename suc t)
goes_past b d Plus n v t x h = varies_renamed t x h
goes_past b d Minus n v t x h = varies_renamed t (keeps_turned x) h
goes_past b d Unmarked n v t x h = mentions_renamed t (comes x) ∙ h

-- under one more binder; and under one more parameter, which has a mark
replaces_beyond : {names : List (List ℕ)} {c d : TypeContext} {m n : ℕ → Mark} {r : Replacement} (b : PlainBound) → ReplacesMarks names c d m n r → ReplacesMarks names (b ∷ c) (replace_bound r b ∷ d) (marks_beyond m) (marks_beyond n) (replacement_beyond r)
replaces_beyond {names = names} {c = c} {d = d} {m = m} {n = n} {r = r} b x = record { types_ = go; heads_ = go2; proper_ = go3 }
  where
    k : KeepsMarks suc d (replace_bound r b ∷ d) n (marks_beyond n)
    k = record { operators = λ i ms h. h; marks = λ i. refl }

    go : (i : ℕ) → GoesBy (replace_bound r b ∷ d) (marks_beyond m i) (marks_beyond n) ((replacement_beyond r).type_of i)
    go zero = refl
    go (suc i) = goes_past (replace_bound r b) d (m i) n (marks_beyond n) (r.type_of i) k (x.types_ i)

    go2 : (i : ℕ) (ms : List Mark) → bound_at (b ∷ c) i ≡ Operator ms → HeadVaries names (replace_bound r b ∷ d) (marks_beyond n) ms ((replacement_beyond r).head_of i)
    go2 zero ms h = (ap (replace_bound r) h, refl)
    go2 (suc i) ms h = head_further names (replace_bound r b) d n (marks_beyond n) ms (r.head_of i) k (x.heads_ i ms h)

    go3 : (i : ℕ) (ms : List Mark) → bound_at (replace_bound r b ∷ d) i ≡ Operator ms → marked (marks_beyond n) i ≡ false
    go3 zero ms h = refl
    go3 (suc i) ms h = x.proper_ i ms h

replaces_first : {names : List (List ℕ)} {c d : TypeContext} {m n : ℕ → Mark} {r : Replacement} (a : Mark) → ReplacesMarks names c d m n r → ReplacesMarks names (Free ∷ c) (Free ∷ d) (first_mark a m) (first_mark a n) (replacement_beyond r)
replaces_first {names = names} {c = c} {d = d} {m = m} {n = n} {r = r} a x = record { types_ = go; heads_ = go2; proper_ = go3 }
  where
    k : KeepsMarks suc d (Free ∷ d) n (first_mark a n)
    k = record { operators = λ i ms h. h; marks = λ i. refl }

    go : (i : ℕ) → GoesBy (Free ∷ d) (first_mark a m i) (first_mark a n) ((replacement_beyond r).type_of i)
    go zero = goes_itself (Free ∷ d) (first_mark a n) 0
    go (suc i) = goes_past Free d (m i) n (first_mark a n) (r.type_of i) k (x.types_ i)

    go2 : (i : ℕ) (ms : List Mark) → bound_at (Free ∷ c) i ≡ Operator ms → HeadVaries names (Free ∷ d) (first_mark a n) ms ((replacement_beyond r).head_of i)
    go2 zero ms h = absurd cc
    go2 (suc i) ms h = head_further names Free d n (first_mark a n) ms (r.head_of i) k (x.heads_ i ms h)

    go3 : (i : ℕ) (ms : List Mark) → bound_at (Free ∷ d) i ≡ Operator ms → marked (first_mark a n) i ≡ false
    go3 zero ms h = absurd cc
    go3 (suc i) ms h = x.proper_ i ms h

replaces_under : {names : List (List ℕ)} {c d : TypeContext} {m n : ℕ → Mark} {r : Replacement} (bs : PlainBounds) → ReplacesMarks names c d m n r → ReplacesMarks names (under c bs) (under d (replace_bounds r bs)) (marks_under bs m) (marks_under (replace_bounds r bs) n) (replacement_beyond_all bs r)
replaces_under no_bound x = x
replaces_under (bounds b bs) x = replaces_under bs (replaces_beyond b x)

replaces_turned : {names : List (List ℕ)} {c d : TypeContext} {m n : ℕ → Mark} {r : Replacement} → ReplacesMarks names c d m n r → ReplacesMarks names c d (turned_all m) (turned_all n) r
replaces_turned {names = names} {c = c} {d = d} {m = m} {n = n} {r = r} x =
    record { types_ = λ i. goes_turned d (m i) n (r.type_of i) (x.types_ i); heads_ = λ i ms h. head_turned names d n ms (r.head_of i) (x.heads_ i ms h); proper_ = λ i ms h. turned_marked (n i) ∙ x.proper_ i ms h }

-- ---- operators applied

fills_itself : (d : TypeContext) (n : ℕ → Mark) → ((i : ℕ) (ms : List Mark) → bound_at d i ≡ Operator ms → marked n i ≡ false) → FillsMarks d d n n no_filling
fills_itself d n p = record { types_ = λ i. goes_itself d n i; heads_ = λ i ms h. (i, refl, h, p i ms h) }

head_none : (names : List (List ℕ)) (d : TypeContext) (n : ℕ → Mark) (ms : List Mark) (h : Head) (us : PlainTypes) → ((i : ℕ) (ms : List Mark) → bound_at d i ≡ Operator ms → marked n i ≡ false) → HeadVaries names d n ms h → mentions_types (marked n) us ≡ false → mentions (marked n) (apply_head h us) ≡ false
head_none names d n ms (variable j) us p h k = or_both h.1 k
head_none names d n ms (operator a t) us p h k =
    let l = unmarked_length ms in
    let e : length (unmarked_all ms) ≡ a = l ∙ sym h.parameters in
    let x = fills_types (unmarked_all ms) us (none_arguments_vary d n (unmarked_all ms) us k) (fills_itself d n p) in
    let w : IsWellFormed names (kinds (under_parameters (length (unmarked_all ms)) d)) t = subst (λ z. IsWellFormed names z t) (ap (λ z. with_parameters z (kinds d)) (sym e) ∙ sym (kinds_of_parameters (length (unmarked_all ms)) d)) h.formed in
    let f = subst (λ z. mentions z t ≡ false) (outside_parameters ms n) h.free in
    subst (λ z. mentions (marked n) (apply_head (operator z t) us) ≡ false) e (fill_none names t w x f)
head_none names d n ms nothing us p h k = absurd h

head_varies : (names : List (List ℕ)) (d : TypeContext) (n : ℕ → Mark) (ms : List Mark) (h : Head) (us : PlainTypes) → ((i : ℕ) (ms : List Mark) → bound_at d i ≡ Operator ms → marked n i ≡ false) → HeadVaries names d n ms h → ArgumentsVaryBy d n ms us → VariesBy d n (apply_head h us)
head_varies names d n ms (variable j) us p h v = subst (λ z. ArgumentsVaryBy d n z us) (sym (ap marks_by h.0)) v
head_varies names d n ms (operator a t) us p h v =
    let x = fills_types ms us v (fills_itself d n p) in
    let w : IsWellFormed names (kinds (under_parameters (length ms) d)) t = subst (λ z. IsWellFormed names z t) (ap (λ z. with_parameters z (kinds d)) h.parameters ∙ sym (kinds_of_parameters (length ms) d)) h.formed in
    subst (λ z. VariesBy d n (apply_head (operator z t) us)) (sym h.parameters) (fill_varies names t w x h.goes_)
head_varies names d n ms nothing us p h v = absurd h

-- ---- types

module _ (names : List (List ℕ)) where
  mutual
    replace_none : {c d : TypeContext} {m n : ℕ → Mark} {r : Replacement} (t : PlainType) → IsWellFormed names (kinds c) t → ReplacesMarks names c d m n r → mentions (marked m) t ≡ false → mentions (marked n) (replace r t) ≡ false
    replace_none Top w x h = refl
    replace_none Int w x h = refl
    replace_none Char w x h = refl
    replace_none Str w x h = refl
    replace_none Boolean w x h = refl
    replace_none {d = d} {m = m} {n = n} {r = r} (Var i) w x h = goes_none d (m i) n (r.type_of i) h (x.types_ i)
    replace_none {c = c} {d = d} {m = m} {n = n} {r = r} (Apply i ts) w x h =
        let o = operator_there c i (count_types ts) w.0 in
        head_none names d n o.0 (r.head_of i) (replace_types r ts) x.proper_ (x.heads_ i o.0 o.1) (replace_types_none ts w.1 x (or_second (marked m i) _ h))
    replace_none (Chan k t) w x h = replace_none t w x h
    replace_none {c = c} {m = m} {n = n} {r = r} (Fields bs ps ls) w x h =
        let q = or_second (mentions_bounds (marked m) bs) _ h in
        let k : kinds_under (kinds c) bs ≡ kinds (under c bs) = sym (kinds_of_under c bs) in
        let y = replace_types_none ps (subst (λ z. AreWellFormed names z ps) k w.1.0) (replaces_under bs x) (subst (λ z. mentions_types z ps ≡ false) (outside_all_marked bs m) (or_first (mentions_types (outside_all bs (marked m)) ps) _ q)) in
        let z = replace_labels_none ls (subst (λ z. LabelsAreWellFormed names z ls) k w.1.1) (replaces_under bs x) (subst (λ z. mentions_labels z ls ≡ false) (outside_all_marked bs m) (or_second (mentions_types (outside_all bs (marked m)) ps) _ q)) in
        or_both (replace_bounds_none bs w.0 x (or_first (mentions_bounds (marked m) bs) _ h)) (or_both (subst (λ z. mentions_types z (replace_types (replacement_beyond_all bs r) ps) ≡ false) (sym (outside_all_marked (replace_bounds r bs) n)) y) (subst (λ z. mentions_labels z (replace_labels (replacement_beyond_all bs r) ls) ≡ false) (sym (outside_all_marked (replace_bounds r bs) n)) z))
    replace_none {m = m} {n = n} {r = r} (Rec t) w x h =
        subst (λ z. mentions z (replace (replacement_beyond r) t) ≡ false) (sym (outside_marked n)) (replace_none t w (replaces_beyond Free x) (subst (λ z. mentions z t ≡ false) (outside_marked m) h))

    replace_types_none : {c d : TypeContext} {m n : ℕ → Mark} {r : Replacement} (ts : PlainTypes) → AreWellFormed names (kinds c) ts → ReplacesMarks names c d m n r → mentions_types (marked m) ts ≡ false → mentions_types (marked n) (replace_types r ts) ≡ false
    replace_types_none no_type w x h = refl
    replace_types_none {m = m} (types t ts) w x h = or_both (replace_none t w.0 x (or_first (mentions (marked m) t) _ h)) (replace_types_none ts w.1 x (or_second (mentions (marked m) t) _ h))

    replace_labels_none : {c d : TypeContext} {m n : ℕ → Mark} {r : Replacement} (ls : PlainLabels) → LabelsAreWellFormed names (kinds c) ls → ReplacesMarks names c d m n r → mentions_labels (marked m) ls ≡ false → mentions_labels (marked n) (replace_labels r ls) ≡ false
    replace_labels_none no_label w x h = refl
    replace_labels_none {m = m} (labels l t ls) w x h = or_both (replace_none t w.1.0 x (or_first (mentions (marked m) t) _ h)) (replace_labels_none ls w.1.1 x (or_second (mentions (marked m) t) _ h))

    replace_bounds_none : {c d : TypeContext} {m n : ℕ → Mark} {r : Replacement} (bs : PlainBounds) → BoundsAreWellFormed names (kinds c) bs → ReplacesMarks names c d m n r → mentions_bounds (marked m) bs ≡ false → mentions_bounds (marked n) (replace_bounds r bs) ≡ false
    replace_bounds_none no_bound w x h = refl
    replace_bounds_none {m = m} {n = n} {r = r} (bounds b bs) w x h =
        or_both (replace_bound_none b w.0 x (or_first (mentions_bound (marked m) b) _ h)) (subst (λ z. mentions_bounds z (replace_bounds (replacement_beyond r) bs) ≡ false) (sym (outside_marked n)) (replace_bounds_none bs w.1 (replaces_beyond b x) (subst (λ z. mentions_bounds z bs ≡ false) (outside_marked m) (or_second (mentions_bound (marked m) b) _ h))))

    replace_bound_none : {c d : TypeContext} {m n : ℕ → Mark} {r : Replacement} (b : PlainBound) → BoundIsWellFormed names (kinds c) b → ReplacesMarks names c d m n r → mentions_bound (marked m) b ≡ false → mentions_bound (marked n) (replace_bound r b) ≡ false
    replace_bound_none Free w x h = refl
    replace_bound_none {n = n} {r = r} (Below t) w x h = bound_none (marked n) (replace r t) (replace_none t w.1 x h)
    replace_bound_none (Operator ms) w x h = refl

  mutual
    replace_varies : {c d : TypeContext} {m n : ℕ → Mark} {r : Replacement} (t : PlainType) → IsWellFormed names (kinds c) t → ReplacesMarks names c d m n r → VariesBy c m t → VariesBy d n (replace r t)
    replace_varies Top w x v = tt
    replace_varies Int w x v = tt
    replace_varies Char w x v = tt
    replace_varies Str w x v = tt
    replace_varies Boolean w x v = tt
    replace_varies {d = d} {m = m} {n = n} {r = r} (Var i) w x v = goes_up d (m i) n (r.type_of i) v (x.types_ i)
    replace_varies {c = c} {d = d} {m = m} {n = n} {r = r} (Apply i ts) w x v =
        let o = operator_there c i (count_types ts) w.0 in
        head_varies names d n o.0 (r.head_of i) (replace_types r ts) x.proper_ (x.heads_ i o.0 o.1) (replace_arguments_vary o.0 ts w.1 x (subst (λ z. ArgumentsVaryBy c m z ts) (ap marks_by o.1) v))
    replace_varies (Chan Read t) w x v = replace_varies t w x v
    replace_varies (Chan Write t) w x v = replace_varies t w (replaces_turned x) v
    replace_varies (Chan Respond t) w x v = replace_varies t w (replaces_turned x) v
    replace_varies (Chan Both t) w x v = replace_none t w x v
    replace_varies {c = c} (Fields bs ps ls) w x v =
        let k : kinds_under (kinds c) bs ≡ kinds (under c bs) = sym (kinds_of_under c bs) in
        (replace_bounds_none bs w.0 x v.0, (replace_all_vary ps (subst (λ z. AreWellFormed names z ps) k w.1.0) (replaces_under bs x) v.1.0, replace_labels_vary ls (subst (λ z. LabelsAreWellFormed names z ls) k w.1.1) (replaces_under bs x) v.1.1))
    replace_varies (Rec t) w x v = replace_none (Rec t) w x v

    replace_arguments_vary : {c d : TypeContext} {m n : ℕ → Mark} {r : Replacement} (ms : List Mark) (ts : PlainTypes) → AreWellFormed names (kinds c) ts → ReplacesMarks names c d m n r → ArgumentsVaryBy c m ms ts → ArgumentsVaryBy d n ms (replace_types r ts)
    replace_arguments_vary [] ts w x v = replace_types_none ts w x v
    replace_arguments_vary (k ∷ ms) no_type w x v = tt
    replace_arguments_vary (Plus ∷ ms) (types t ts) w x v = (replace_varies t w.0 x v.0, replace_arguments_vary ms ts w.1 x v.1)
    replace_arguments_vary (Minus ∷ ms) (types t ts) w x v = (replace_varies t w.0 (replaces_turned x) v.0, replace_arguments_vary ms ts w.1 x v.1)
    replace_arguments_vary (Unmarked ∷ ms) (types t ts) w x v = (replace_none t w.0 x v.0, replace_arguments_vary ms ts w.1 x v.1)

    replace_all_vary : {c d : TypeContext} {m n : ℕ → Mark} {r : Replacement} (ts : PlainTypes) → AreWellFormed names (kinds c) ts → ReplacesMarks names c d m n r → AllVaryBy c m ts → AllVaryBy d n (replace_types r ts)
    replace_all_vary no_type w x v = tt
    replace_all_vary (types t ts) w x v = (replace_varies t w.0 x v.0, replace_all_vary ts w.1 x v.1)

    replace_labels_vary : {c d : TypeContext} {m n : ℕ → Mark} {r : Replacement} (ls : PlainLabels) → LabelsAreWellFormed names (kinds c) ls → ReplacesMarks names c d m n r → LabelsVaryBy c m ls → LabelsVaryBy d n (replace_labels r ls)
    replace_labels_vary no_label w x v = tt
    replace_labels_vary (labels l t ls) w x v = (replace_varies t w.1.0 x v.0, replace_labels_vary ls w.1.1 x v.1)

-- ---- an operator with types and operators put for its free variables

past_after : (k : ℕ) (r : Replacement) → replacement_past k (replacement_beyond r) ≡ replacement_beyond (replacement_past k r)
past_after zero r = refl
past_after (suc k) r = ap replacement_beyond (past_after k r)

replaces_parameters : {names : List (List ℕ)} {c d : TypeContext} {m n : ℕ → Mark} {r : Replacement} (ms : List Mark) → ReplacesMarks names c d m n r → ReplacesMarks names (under_parameters (length ms) c) (under_parameters (length ms) d) (with_marks ms m) (with_marks ms n) (replacement_past (length ms) r)
replaces_parameters [] x = x
replaces_parameters {names = names} {c = c} {d = d} {m = m} {n = n} {r = r} (k ∷ ms) x =
    let y = replaces_parameters ms (replaces_first k x) in
    let y1 = subst (λ g. ReplacesMarks names (under_parameters (length ms) (Free ∷ c)) (under_parameters (length ms) (Free ∷ d)) (with_marks ms (first_mark k m)) (with_marks ms (first_mark k n)) g) (past_after (length ms) r) y in
    subst₂ (λ a b. ReplacesMarks names a b (with_marks ms (first_mark k m)) (with_marks ms (first_mark k n)) (replacement_beyond (replacement_past (length ms) r))) (parameters_before (length ms) c) (parameters_before (length ms) d) y1

no_marks : MarksNone (marked no_mark)
no_marks = record { each = λ i. refl }

stands_varies : (names : List (List ℕ)) (d : TypeContext) (ms : List Mark) (h : Head) → StandsAsMarked names d ms h → HeadVaries names d no_mark ms h
stands_varies names d ms (variable j) h = (operator_of_at d j ms h, refl)
stands_varies names d ms (operator k t) h =
    let v : body_varies (under_parameters (length ms) d) ms t ≡ true = subst (λ k. body_varies (under_parameters k d) ms t ≡ true) h.0 h.1.1 in
    let b = by_all_marks (under_parameters (length ms) d) ms t v in
    record { parameters = h.0; formed = h.1.0; goes_ = b; other = b; free = mentions_no t (none_times (length ms) no_marks) }
stands_varies names d ms nothing h = h

pub of_at : (c : TypeContext) (i : ℕ) (ms : List Mark) → bound_at c i ≡ Operator ms → bound_of c i ≡ Operator ms
of_at c i ms h = ap (rename_bound (moved (suc i) 0)) h

replaces_none : (names : List (List ℕ)) (r : Replacement) (c d : TypeContext) → IsWithinBounds names r c d → ReplacesMarks names c d no_mark no_mark r
replaces_none names r c d x = record { types_ = λ i. mentions_no (r.type_of i) no_marks; heads_ = λ i ms h. stands_varies names d ms (r.head_of i) (x.heads i ms (of_at c i ms h)); proper_ = λ i ms h. refl }

pub operator_replaced : (names : List (List ℕ)) (r : Replacement) (c d : TypeContext) (k : ℕ) (t : PlainType) (ms : List Mark) → IsWithinBounds names r c d → k ≡ length ms → IsWellFormed names (with_parameters k (kinds c)) t → varies c (Op k t) ms ≡ true → varies d (Op k (replace (replacement_past k r) t)) ms ≡ true
operator_replaced names r c d k t ms x e w v =
    let v2 : body_varies (under_parameters (length ms) c) ms t ≡ true = subst (λ k. body_varies (under_parameters k c) ms t ≡ true) e v in
    let w2 : IsWellFormed names (kinds (under_parameters (length ms) c)) t = subst (λ z. IsWellFormed names z t) (ap (λ z. with_parameters z (kinds c)) e ∙ sym (kinds_of_parameters (length ms) c)) w in
    let y = replaces_parameters ms (replaces_none names r c d x) in
    let z = replace_varies names t w2 y (by_all_marks (under_parameters (length ms) c) ms t v2) in
    subst (λ k. body_varies (under_parameters k d) ms (replace (replacement_past k r) t) ≡ true) (sym e) (of_all_marks (under_parameters (length ms) d) ms (replace (replacement_past (length ms) r) t) z)
