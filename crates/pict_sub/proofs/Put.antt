-- A type that varies by its variables varies by others once types that vary so are put for them; and operators still vary as
-- marks say once types and operators that vary as marks say are put for their free variables.
use Rattle.std.proofs.Common.{◌≡◌, ℕ, zero, suc, Bool, false, List, [], ◌∷◌, length, Option, Some, refl, sym, ◌∙◌, ap, subst}
use Rattle.pict_types.specs.Types.{Both, Read, Write, Respond, PlainType, Top, Int, Char, Str, Boolean, Var, Apply, Chan, Fields, Rec, PlainTypes, no_type, types, PlainLabels, no_label, labels, PlainBound, Free, Below, Operator, PlainBounds, no_bound, bounds, TypeContext, under, count_types}
use Rattle.pict_syntax.specs.declared.type_tree.Mark.{Mark}
use Rattle.pict_syntax.specs.declared.type_tree.Mark.TheVariants.{Plus, Minus, Plain as Unmarked}
use Rattle.pict_types.specs.Renaming.{rename, bound_at}
use Rattle.pict_types.specs.Mentions.{outside, outside_all, mentions, mentions_types, mentions_labels, mentions_bound, mentions_bounds}
use Rattle.pict_types.specs.Replacing.{bound_by, Filling, next_variable, filling_beyond, filling_beyond_all, apply_variable, fill, fill_types, fill_labels, fill_bound, fill_bounds, with_type, with_types}
use Rattle.pict_types.specs.Kinds.{kinds, kinds_under, IsWellFormed, AreWellFormed, LabelsAreWellFormed, BoundsAreWellFormed, BoundIsWellFormed}
use Rattle.pict_types.specs.Variance.{marks_by, under_parameters}
use Rattle.pict_types.proofs.Mentioned.{mentions_renamed}
use Rattle.pict_sub.proofs.Varying.{turned, turned_all, is_marked, is_minus, marked, marks_beyond, marks_under, VariesBy, ArgumentsVaryBy, AllVaryBy, LabelsVaryBy, or_first, or_second, or_both, mentions_fewer}
use Rattle.pict_sub.proofs.Apart.{fewer_turned, none_varies, KeepsMarks, varies_renamed}
use Rattle.pict_sub.proofs.Carried.{operator_there, kinds_of_under}
use Rattle.pict_sub.proofs.Operating.{first_mark, with_marks, parameters_before}

-- ---- marks

pub turned_twice : (m : ℕ → Mark) → turned_all (turned_all m) ≡ m
turned_twice m = λ k i. go (m i) k
  where
    go : (k : Mark) → turned (turned k) ≡ k
    go Plus = refl
    go Minus = refl
    go Unmarked = refl

pub outside_marked : (m : ℕ → Mark) → outside (marked m) ≡ marked (marks_beyond m)
outside_marked m = λ k i. go i k
  where
    go : (i : ℕ) → outside (marked m) i ≡ marked (marks_beyond m) i
    go zero = refl
    go (suc i) = refl

pub outside_all_marked : (bs : PlainBounds) (m : ℕ → Mark) → outside_all bs (marked m) ≡ marked (marks_under bs m)
outside_all_marked no_bound m = refl
outside_all_marked (bounds b bs) m = ap (outside_all bs) (outside_marked m) ∙ outside_all_marked bs (marks_beyond m)

-- ---- what may be put for a variable with a mark

abbrev pub GoesBy : TypeContext → Mark → (ℕ → Mark) → PlainType → Type 0
GoesBy d Plus n t = VariesBy d n t
GoesBy d Minus n t = VariesBy d (turned_all n) t
GoesBy d Unmarked n t = mentions (marked n) t ≡ false

one_more_marks : (b : PlainBound) (d : TypeContext) (n : ℕ → Mark) → KeepsMarks suc d (b ∷ d) n (marks_beyond n)
one_more_marks b d n = record { operators = λ i ms h. h; marks = λ i. refl }

one_more_turned : (b : PlainBound) (d : TypeContext) (n : ℕ → Mark) → KeepsMarks suc d (b ∷ d) (turned_all n) (turned_all (marks_beyond n))
one_more_turned b d n = record { operators = λ i ms h. h; marks = λ i. refl }

none_further : (n : ℕ → Mark) (t : PlainType) → mentions (marked n) t ≡ false → mentions (marked (marks_beyond n)) (rename suc t) ≡ false
none_further n t h = mentions_renamed {q = marked n} t (record { each = λ i. refl }) ∙ h

pub goes_further : (b : PlainBound) (d : TypeContext) (k : Mark) (n : ℕ → Mark) (t : PlainType) → GoesBy d k n t → GoesBy (b ∷ d) k (marks_beyond n) (rename suc t)
goes_further b d Plus n t h = varies_renamed t (one_more_marks b d n) h
goes_further b d Minus n t h = varies_renamed t (one_more_turned b d n) h
goes_further b d Unmarked n t h = none_further n t h

pub goes_turned : (d : TypeContext) (k : Mark) (n : ℕ → Mark) (t : PlainType) → GoesBy d k n t → GoesBy d (turned k) (turned_all n) t
goes_turned d Plus n t h = subst (λ m. VariesBy d m t) (sym (turned_twice n)) h
goes_turned d Minus n t h = h
goes_turned d Unmarked n t h = mentions_fewer (fewer_turned n) t h

pub goes_none : (d : TypeContext) (k : Mark) (n : ℕ → Mark) (t : PlainType) → is_marked k ≡ false → GoesBy d k n t → mentions (marked n) t ≡ false
goes_none d Plus n t e h = absurd cc
goes_none d Minus n t e h = absurd cc
goes_none d Unmarked n t e h = h

pub goes_up : (d : TypeContext) (k : Mark) (n : ℕ → Mark) (t : PlainType) → is_minus k ≡ false → GoesBy d k n t → VariesBy d n t
goes_up d Plus n t e h = h
goes_up d Minus n t e h = absurd cc
goes_up d Unmarked n t e h = none_varies d n t h

-- a variable goes with itself as it is marked
pub goes_itself : (d : TypeContext) (n : ℕ → Mark) (j : ℕ) → GoesBy d (n j) n (Var j)
goes_itself d n j = go (n j) refl
  where
    go : (k : Mark) → n j ≡ k → GoesBy d k n (Var j)
    go Plus e = ap is_minus e
    go Minus e = ap (λ k. is_minus (turned k)) e
    go Unmarked e = ap is_marked e

-- ---- fillings

-- an operator variable of e has in its place a variable of d with the same marks, which is not marked itself
pub record FillsMarks (e d : TypeContext) (m n : ℕ → Mark) (s : Filling) : Type 0 where
  pub types_ : (i : ℕ) → GoesBy d (m i) n (s.type_for i)
  pub heads_ : (i : ℕ) (ms : List Mark) → bound_at e i ≡ Operator ms → (j : ℕ) × (s.head_for i ≡ Some j) × (bound_at d j ≡ Operator ms) × (marked n j ≡ false)

fills_beyond : {e d : TypeContext} {m n : ℕ → Mark} {s : Filling} (b : PlainBound) → FillsMarks e d m n s → FillsMarks (b ∷ e) (fill_bound s b ∷ d) (marks_beyond m) (marks_beyond n) (filling_beyond s)
fills_beyond {e = e} {d = d} {m = m} {n = n} {s = s} b x = record { types_ = go; heads_ = go2 }
  where
    go : (i : ℕ) → GoesBy (fill_bound s b ∷ d) (marks_beyond m i) (marks_beyond n) ((filling_beyond s).type_for i)
    go zero = refl
    go (suc i) = goes_further (fill_bound s b) d (m i) n (s.type_for i) (x.types_ i)

    go2 : (i : ℕ) (ms : List Mark) → bound_at (b ∷ e) i ≡ Operator ms → (j : ℕ) × ((filling_beyond s).head_for i ≡ Some j) × (bound_at (fill_bound s b ∷ d) j ≡ Operator ms) × (marked (marks_beyond n) j ≡ false)
    go2 zero ms h = (0, refl, ap (fill_bound s) h, refl)
    go2 (suc i) ms h = let y = x.heads_ i ms h in (suc y.0, ap next_variable y.1, y.2, y.3)

fills_under : {e d : TypeContext} {m n : ℕ → Mark} {s : Filling} (bs : PlainBounds) → FillsMarks e d m n s → FillsMarks (under e bs) (under d (fill_bounds s bs)) (marks_under bs m) (marks_under (fill_bounds s bs) n) (filling_beyond_all bs s)
fills_under no_bound x = x
fills_under (bounds b bs) x = fills_under bs (fills_beyond b x)

fills_turned : {e d : TypeContext} {m n : ℕ → Mark} {s : Filling} → FillsMarks e d m n s → FillsMarks e d (turned_all m) (turned_all n) s
fills_turned {e = e} {d = d} {m = m} {n = n} {s = s} x = record { types_ = λ i. goes_turned d (m i) n (s.type_for i) (x.types_ i); heads_ = go }
  where
    go : (i : ℕ) (ms : List Mark) → bound_at e i ≡ Operator ms → (j : ℕ) × (s.head_for i ≡ Some j) × (bound_at d j ≡ Operator ms) × (marked (turned_all n) j ≡ false)
    go i ms h = let y = x.heads_ i ms h in (y.0, y.1, y.2, (fewer_turned n).each y.0 y.3)

applied_none : (q : ℕ → Bool) (o : Option ℕ) (j : ℕ) (us : PlainTypes) → o ≡ Some j → q j ≡ false → mentions_types q us ≡ false → mentions q (apply_variable o us) ≡ false
applied_none q o j us e h k = subst (λ z. mentions q (apply_variable z us) ≡ false) (sym e) (or_both h k)

pub bound_none : (q : ℕ → Bool) (t : PlainType) → mentions q t ≡ false → mentions_bound q (bound_by t) ≡ false
bound_none q Top h = refl
bound_none q Int h = h
bound_none q Char h = h
bound_none q Str h = h
bound_none q Boolean h = h
bound_none q (Var i) h = h
bound_none q (Apply i ts) h = h
bound_none q (Chan m t) h = h
bound_none q (Fields bs ps ls) h = h
bound_none q (Rec t) h = h

module _ (names : List (List ℕ)) where
  mutual
    -- what mentions no marked variable mentions none of the others
    pub fill_none : {e d : TypeContext} {m n : ℕ → Mark} {s : Filling} (t : PlainType) → IsWellFormed names (kinds e) t → FillsMarks e d m n s → mentions (marked m) t ≡ false → mentions (marked n) (fill s t) ≡ false
    fill_none Top w x h = refl
    fill_none Int w x h = refl
    fill_none Char w x h = refl
    fill_none Str w x h = refl
    fill_none Boolean w x h = refl
    fill_none {d = d} {m = m} {n = n} {s = s} (Var i) w x h = goes_none d (m i) n (s.type_for i) h (x.types_ i)
    fill_none {e = e} {m = m} {n = n} {s = s} (Apply i ts) w x h =
        let o = operator_there e i (count_types ts) w.0 in
        let y = x.heads_ i o.0 o.1 in
        applied_none (marked n) (s.head_for i) y.0 (fill_types s ts) y.1 y.3 (fill_types_none ts w.1 x (or_second (marked m i) _ h))
    fill_none (Chan k t) w x h = fill_none t w x h
    fill_none {e = e} {m = m} {n = n} {s = s} (Fields bs ps ls) w x h =
        let r = or_second (mentions_bounds (marked m) bs) _ h in
        let k : kinds_under (kinds e) bs ≡ kinds (under e bs) = sym (kinds_of_under e bs) in
        let p = fill_types_none ps (subst (λ z. AreWellFormed names z ps) k w.1.0) (fills_under bs x) (subst (λ z. mentions_types z ps ≡ false) (outside_all_marked bs m) (or_first (mentions_types (outside_all bs (marked m)) ps) _ r)) in
        let q = fill_labels_none ls (subst (λ z. LabelsAreWellFormed names z ls) k w.1.1) (fills_under bs x) (subst (λ z. mentions_labels z ls ≡ false) (outside_all_marked bs m) (or_second (mentions_types (outside_all bs (marked m)) ps) _ r)) in
        or_both (fill_bounds_none bs w.0 x (or_first (mentions_bounds (marked m) bs) _ h)) (or_both (subst (λ z. mentions_types z (fill_types (filling_beyond_all bs s) ps) ≡ false) (sym (outside_all_marked (fill_bounds s bs) n)) p) (subst (λ z. mentions_labels z (fill_labels (filling_beyond_all bs s) ls) ≡ false) (sym (outside_all_marked (fill_bounds s bs) n)) q))
    fill_none {m = m} {n = n} {s = s} (Rec t) w x h =
        subst (λ z. mentions z (fill (filling_beyond s) t) ≡ false) (sym (outside_marked n)) (fill_none t w (fills_beyond Free x) (subst (λ z. mentions z t ≡ false) (outside_marked m) h))

    fill_types_none : {e d : TypeContext} {m n : ℕ → Mark} {s : Filling} (ts : PlainTypes) → AreWellFormed names (kinds e) ts → FillsMarks e d m n s → mentions_types (marked m) ts ≡ false → mentions_types (marked n) (fill_types s ts) ≡ false
    fill_types_none no_type w x h = refl
    fill_types_none {m = m} (types t ts) w x h = or_both (fill_none t w.0 x (or_first (mentions (marked m) t) _ h)) (fill_types_none ts w.1 x (or_second (mentions (marked m) t) _ h))

    fill_labels_none : {e d : TypeContext} {m n : ℕ → Mark} {s : Filling} (ls : PlainLabels) → LabelsAreWellFormed names (kinds e) ls → FillsMarks e d m n s → mentions_labels (marked m) ls ≡ false → mentions_labels (marked n) (fill_labels s ls) ≡ false
    fill_labels_none no_label w x h = refl
    fill_labels_none {m = m} (labels l t ls) w x h = or_both (fill_none t w.1.0 x (or_first (mentions (marked m) t) _ h)) (fill_labels_none ls w.1.1 x (or_second (mentions (marked m) t) _ h))

    fill_bounds_none : {e d : TypeContext} {m n : ℕ → Mark} {s : Filling} (bs : PlainBounds) → BoundsAreWellFormed names (kinds e) bs → FillsMarks e d m n s → mentions_bounds (marked m) bs ≡ false → mentions_bounds (marked n) (fill_bounds s bs) ≡ false
    fill_bounds_none no_bound w x h = refl
    fill_bounds_none {m = m} {n = n} {s = s} (bounds b bs) w x h =
        or_both (fill_bound_none b w.0 x (or_first (mentions_bound (marked m) b) _ h)) (subst (λ z. mentions_bounds z (fill_bounds (filling_beyond s) bs) ≡ false) (sym (outside_marked n)) (fill_bounds_none bs w.1 (fills_beyond b x) (subst (λ z. mentions_bounds z bs ≡ false) (outside_marked m) (or_second (mentions_bound (marked m) b) _ h))))

    fill_bound_none : {e d : TypeContext} {m n : ℕ → Mark} {s : Filling} (b : PlainBound) → BoundIsWellFormed names (kinds e) b → FillsMarks e d m n s → mentions_bound (marked m) b ≡ false → mentions_bound (marked n) (fill_bound s b) ≡ false
    fill_bound_none Free w x h = refl
    fill_bound_none {n = n} {s = s} (Below t) w x h = bound_none (marked n) (fill s t) (fill_none t w.1 x h)
    fill_bound_none (Operator ms) w x h = refl

  mutual
    pub fill_varies : {e d : TypeContext} {m n : ℕ → Mark} {s : Filling} (t : PlainType) → IsWellFormed names (kinds e) t → FillsMarks e d m n s → VariesBy e m t → VariesBy d n (fill s t)
    fill_varies Top w x v = tt
    fill_varies Int w x v = tt
    fill_varies Char w x v = tt
    fill_varies Str w x v = tt
    fill_varies Boolean w x v = tt
    fill_varies {d = d} {m = m} {n = n} {s = s} (Var i) w x v = goes_up d (m i) n (s.type_for i) v (x.types_ i)
    fill_varies {e = e} {d = d} {m = m} {n = n} {s = s} (Apply i ts) w x v =
        let o = operator_there e i (count_types ts) w.0 in
        let y = x.heads_ i o.0 o.1 in
        let a = fill_arguments_vary o.0 ts w.1 x (subst (λ z. ArgumentsVaryBy e m z ts) (ap marks_by o.1) v) in
        subst (λ z. VariesBy d n (apply_variable z (fill_types s ts))) (sym y.1) (subst (λ z. ArgumentsVaryBy d n z (fill_types s ts)) (sym (ap marks_by y.2)) a)
    fill_varies (Chan Read t) w x v = fill_varies t w x v
    fill_varies (Chan Write t) w x v = fill_varies t w (fills_turned x) v
    fill_varies (Chan Respond t) w x v = fill_varies t w (fills_turned x) v
    fill_varies (Chan Both t) w x v = fill_none t w x v
    fill_varies {e = e} (Fields bs ps ls) w x v =
        let k : kinds_under (kinds e) bs ≡ kinds (under e bs) = sym (kinds_of_under e bs) in
        (fill_bounds_none bs w.0 x v.0, (fill_all_vary ps (subst (λ z. AreWellFormed names z ps) k w.1.0) (fills_under bs x) v.1.0, fill_labels_vary ls (subst (λ z. LabelsAreWellFormed names z ls) k w.1.1) (fills_under bs x) v.1.1))
    fill_varies (Rec t) w x v = fill_none (Rec t) w x v

    fill_arguments_vary : {e d : TypeContext} {m n : ℕ → Mark} {s : Filling} (ms : List Mark) (ts : PlainTypes) → AreWellFormed names (kinds e) ts → FillsMarks e d m n s → ArgumentsVaryBy e m ms ts → ArgumentsVaryBy d n ms (fill_types s ts)
    fill_arguments_vary [] ts w x v = fill_types_none ts w x v
    fill_arguments_vary (k ∷ ms) no_type w x v = tt
    fill_arguments_vary (Plus ∷ ms) (types t ts) w x v = (fill_varies t w.0 x v.0, fill_arguments_vary ms ts w.1 x v.1)
    fill_arguments_vary (Minus ∷ ms) (types t ts) w x v = (fill_varies t w.0 (fills_turned x) v.0, fill_arguments_vary ms ts w.1 x v.1)
    fill_arguments_vary (Unmarked ∷ ms) (types t ts) w x v = (fill_none t w.0 x v.0, fill_arguments_vary ms ts w.1 x v.1)

    fill_all_vary : {e d : TypeContext} {m n : ℕ → Mark} {s : Filling} (ts : PlainTypes) → AreWellFormed names (kinds e) ts → FillsMarks e d m n s → AllVaryBy e m ts → AllVaryBy d n (fill_types s ts)
    fill_all_vary no_type w x v = tt
    fill_all_vary (types t ts) w x v = (fill_varies t w.0 x v.0, fill_all_vary ts w.1 x v.1)

    fill_labels_vary : {e d : TypeContext} {m n : ℕ → Mark} {s : Filling} (ls : PlainLabels) → LabelsAreWellFormed names (kinds e) ls → FillsMarks e d m n s → LabelsVaryBy e m ls → LabelsVaryBy d n (fill_labels s ls)
    fill_labels_vary no_label w x v = tt
    fill_labels_vary (labels l t ls) w x v = (fill_varies t w.1.0 x v.0, fill_labels_vary ls w.1.1 x v.1)

-- ---- operators applied

fills_type : {e d : TypeContext} {m n : ℕ → Mark} {s : Filling} (k : Mark) (t : PlainType) → GoesBy d k n t → FillsMarks e d m n s → FillsMarks (Free ∷ e) d (first_mark k m) n (with_type t s)
fills_type {e = e} {d = d} {m = m} {n = n} {s = s} k t h x = record { types_ = go; heads_ = go2 }
  where
    go : (i : ℕ) → GoesBy d (first_mark k m i) n ((with_type t s).type_for i)
    go zero = h
    go (suc i) = x.types_ i

    go2 : (i : ℕ) (ms : List Mark) → bound_at (Free ∷ e) i ≡ Operator ms → (j : ℕ) × ((with_type t s).head_for i ≡ Some j) × (bound_at d j ≡ Operator ms) × (marked n j ≡ false)
    go2 zero ms h = absurd cc
    go2 (suc i) ms h = x.heads_ i ms h

pub goes_top : (d : TypeContext) (k : Mark) (n : ℕ → Mark) → GoesBy d k n Top
goes_top d Plus n = tt
goes_top d Minus n = tt
goes_top d Unmarked n = refl

argument_goes : (d : TypeContext) (n : ℕ → Mark) (k : Mark) (ms : List Mark) (t : PlainType) (ts : PlainTypes) → ArgumentsVaryBy d n (k ∷ ms) (types t ts) → GoesBy d k n t × ArgumentsVaryBy d n ms ts
argument_goes d n Plus ms t ts v = v
argument_goes d n Minus ms t ts v = v
argument_goes d n Unmarked ms t ts v = v

no_arguments : (d : TypeContext) (n : ℕ → Mark) (ms : List Mark) → ArgumentsVaryBy d n ms no_type
no_arguments d n [] = refl
no_arguments d n (k ∷ ms) = tt

pub fills_types : {e d : TypeContext} {m n : ℕ → Mark} {s : Filling} (ms : List Mark) (us : PlainTypes) → ArgumentsVaryBy d n ms us → FillsMarks e d m n s → FillsMarks (under_parameters (length ms) e) d (with_marks ms m) n (with_types (length ms) us s)
fills_types [] us v x = x
fills_types {e = e} {d = d} {m = m} {n = n} {s = s} (k ∷ ms) no_type v x =
    subst (λ z. FillsMarks z d (with_marks ms (first_mark k m)) n (with_types (length ms) no_type (with_type Top s))) (parameters_before (length ms) e) (fills_types ms no_type (no_arguments d n ms) (fills_type k Top (goes_top d k n) x))
fills_types {e = e} {d = d} {m = m} {n = n} {s = s} (k ∷ ms) (types t ts) v x =
    let a = argument_goes d n k ms t ts v in
    subst (λ z. FillsMarks z d (with_marks ms (first_mark k m)) n (with_types (length ms) ts (with_type t s))) (parameters_before (length ms) e) (fills_types ms ts a.1 (fills_type k t a.0 x))
