-- Filling and replacing after renaming, and renaming after filling and replacing.
use Rattle.std.proofs.Common.{◌≡◌, ℕ, zero, suc, refl, ◌∙◌, ap, ap₂, subst, Option, Some, None, Bool, true, false}
use Rattle.std.specs.Prelude.{nat_eq}
use Rattle.pict_types.specs.Types.{PlainType, Top, Int, Char, Str, Boolean, Var, Apply, Chan, Fields, Rec, PlainTypes, no_type, types, PlainLabels, no_label, labels, PlainBound, Free, Below, Operator, PlainBounds, no_bound, bounds, type_at}
use Rattle.pict_types.specs.Renaming.{beyond, beyond_all, beyond_times, rename, rename_types, rename_labels, rename_bounds, rename_bound}
use Rattle.pict_types.specs.Replacing.{bound_by, Filling, next_variable, filling_beyond, filling_beyond_all, apply_variable, fill, fill_types, fill_labels, fill_bounds, fill_bound, with_type, with_types, no_filling, Head, variable, operator, nothing, apply_head, Replacement, rename_head, replacement_beyond, replacement_beyond_all, replace, replace_types, replace_labels, replace_bounds, replace_bound}
use Rattle.pict_types.specs.Composing.{renamed_variable}
use Rattle.pict_types.proofs.Renamed.{renamed_alike}
use Rattle.pict_types.proofs.Congruent.{three}

pub bound_by_renamed : (f : ℕ → ℕ) (t : PlainType) → bound_by (rename f t) ≡ rename_bound f (bound_by t)
bound_by_renamed f Top = refl
bound_by_renamed f Int = refl
bound_by_renamed f Char = refl
bound_by_renamed f Str = refl
bound_by_renamed f Boolean = refl
bound_by_renamed f (Var i) = refl
bound_by_renamed f (Apply i ts) = refl
bound_by_renamed f (Chan m t) = refl
bound_by_renamed f (Fields bs ps ls) = refl
bound_by_renamed f (Rec t) = refl

pub next_renamed : (g : ℕ → ℕ) (o : Option ℕ) → next_variable (renamed_variable g o) ≡ renamed_variable (beyond g) (next_variable o)
next_renamed g None = refl
next_renamed g (Some i) = refl

-- s2 after f is s and then g
pub record FillCrosses (s2 s : Filling) (f g : ℕ → ℕ) : Type 0 where
  pub types_ : (i : ℕ) → s2.type_for (f i) ≡ rename g (s.type_for i)
  pub heads_ : (i : ℕ) → s2.head_for (f i) ≡ renamed_variable g (s.head_for i)

pub fill_crosses_beyond : {s2 s : Filling} {f g : ℕ → ℕ} → FillCrosses s2 s f g → FillCrosses (filling_beyond s2) (filling_beyond s) (beyond f) (beyond g)
fill_crosses_beyond {s2 = s2} {s = s} {f = f} {g = g} x = record { types_ = go; heads_ = go2 }
  where
    go : (i : ℕ) → (filling_beyond s2).type_for (beyond f i) ≡ rename (beyond g) ((filling_beyond s).type_for i)
    go zero = refl
    go (suc i) = ap (rename suc) (x.types_ i) ∙ renamed_alike suc g (beyond g) suc (s.type_for i) (λ j. refl)

    go2 : (i : ℕ) → (filling_beyond s2).head_for (beyond f i) ≡ renamed_variable (beyond g) ((filling_beyond s).head_for i)
    go2 zero = refl
    go2 (suc i) = ap next_variable (x.heads_ i) ∙ next_renamed g (s.head_for i)

pub fill_crosses_under : {s2 s : Filling} {f g : ℕ → ℕ} (bs : PlainBounds) → FillCrosses s2 s f g → FillCrosses (filling_beyond_all (rename_bounds f bs) s2) (filling_beyond_all bs s) (beyond_all bs f) (beyond_all (fill_bounds s bs) g)
fill_crosses_under no_bound x = x
fill_crosses_under (bounds b bs) x = fill_crosses_under bs (fill_crosses_beyond x)

pub variable_crosses : (g : ℕ → ℕ) (o : Option ℕ) (us : PlainTypes) → apply_variable (renamed_variable g o) (rename_types g us) ≡ rename g (apply_variable o us)
variable_crosses g None us = refl
variable_crosses g (Some i) us = refl

mutual
  pub fill_renamed : {s2 s : Filling} {f g : ℕ → ℕ} (t : PlainType) → FillCrosses s2 s f g → fill s2 (rename f t) ≡ rename g (fill s t)
  fill_renamed Top x = refl
  fill_renamed Int x = refl
  fill_renamed Char x = refl
  fill_renamed Str x = refl
  fill_renamed Boolean x = refl
  fill_renamed (Var i) x = x.types_ i
  fill_renamed {s = s} {g = g} (Apply i ts) x = ap₂ apply_variable (x.heads_ i) (fill_types_renamed ts x) ∙ variable_crosses g (s.head_for i) (fill_types s ts)
  fill_renamed (Chan m t) x = ap (Chan m) (fill_renamed t x)
  fill_renamed (Fields bs ps ls) x = three Fields (fill_bounds_renamed bs x) (fill_types_renamed ps (fill_crosses_under bs x)) (fill_labels_renamed ls (fill_crosses_under bs x))
  fill_renamed (Rec t) x = ap Rec (fill_renamed t (fill_crosses_beyond x))

  pub fill_types_renamed : {s2 s : Filling} {f g : ℕ → ℕ} (t : PlainTypes) → FillCrosses s2 s f g → fill_types s2 (rename_types f t) ≡ rename_types g (fill_types s t)
  fill_types_renamed no_type x = refl
  fill_types_renamed (types t ts) x = ap₂ types (fill_renamed t x) (fill_types_renamed ts x)

  pub fill_labels_renamed : {s2 s : Filling} {f g : ℕ → ℕ} (t : PlainLabels) → FillCrosses s2 s f g → fill_labels s2 (rename_labels f t) ≡ rename_labels g (fill_labels s t)
  fill_labels_renamed no_label x = refl
  fill_labels_renamed (labels l t ts) x = ap₂ (labels l) (fill_renamed t x) (fill_labels_renamed ts x)

  pub fill_bounds_renamed : {s2 s : Filling} {f g : ℕ → ℕ} (t : PlainBounds) → FillCrosses s2 s f g → fill_bounds s2 (rename_bounds f t) ≡ rename_bounds g (fill_bounds s t)
  fill_bounds_renamed no_bound x = refl
  fill_bounds_renamed (bounds b bs) x = ap₂ bounds (fill_bound_renamed b x) (fill_bounds_renamed bs (fill_crosses_beyond x))

  pub fill_bound_renamed : {s2 s : Filling} {f g : ℕ → ℕ} (b : PlainBound) → FillCrosses s2 s f g → fill_bound s2 (rename_bound f b) ≡ rename_bound g (fill_bound s b)
  fill_bound_renamed Free x = refl
  fill_bound_renamed {s = s} {g = g} (Below t) x = ap bound_by (fill_renamed t x) ∙ bound_by_renamed g (fill s t)
  fill_bound_renamed (Operator n) x = refl

pub with_type_crosses : {s2 s : Filling} {f g : ℕ → ℕ} (t : PlainType) → FillCrosses s2 s f g → FillCrosses (with_type (rename g t) s2) (with_type t s) (beyond f) g
with_type_crosses {s2 = s2} {s = s} {f = f} {g = g} t x = record { types_ = go; heads_ = go2 }
  where
    go : (i : ℕ) → (with_type (rename g t) s2).type_for (beyond f i) ≡ rename g ((with_type t s).type_for i)
    go zero = refl
    go (suc i) = x.types_ i

    go2 : (i : ℕ) → (with_type (rename g t) s2).head_for (beyond f i) ≡ renamed_variable g ((with_type t s).head_for i)
    go2 zero = refl
    go2 (suc i) = x.heads_ i

pub beyond_after : (n : ℕ) (f : ℕ → ℕ) → beyond_times n (beyond f) ≡ beyond (beyond_times n f)
beyond_after zero f = refl
beyond_after (suc n) f = ap beyond (beyond_after n f)

pub with_types_crosses : {s2 s : Filling} {f g : ℕ → ℕ} (n : ℕ) (us : PlainTypes) → FillCrosses s2 s f g → FillCrosses (with_types n (rename_types g us) s2) (with_types n us s) (beyond_times n f) g
with_types_crosses zero us x = x
with_types_crosses {s2 = s2} {s = s} {f = f} {g = g} (suc n) no_type x =
    subst (λ h. FillCrosses (with_types n no_type (with_type Top s2)) (with_types n no_type (with_type Top s)) h g) (beyond_after n f) (with_types_crosses n no_type (with_type_crosses Top x))
with_types_crosses {s2 = s2} {s = s} {f = f} {g = g} (suc n) (types t ts) x =
    subst (λ h. FillCrosses (with_types n (rename_types g ts) (with_type (rename g t) s2)) (with_types n ts (with_type t s)) h g) (beyond_after n f) (with_types_crosses n ts (with_type_crosses t x))

pub no_filling_crosses : (g : ℕ → ℕ) → FillCrosses no_filling no_filling g g
no_filling_crosses g = record { types_ = λ i. refl; heads_ = λ i. refl }

pub head_crosses : (g : ℕ → ℕ) (h : Head) (us : PlainTypes) → apply_head (rename_head g h) (rename_types g us) ≡ rename g (apply_head h us)
head_crosses g (variable i) us = refl
head_crosses g (operator n t) us = fill_renamed t (with_types_crosses n us (no_filling_crosses g))
head_crosses g nothing us = refl

-- two renamings of what stands for an applied variable
pub heads_alike : (g f k h : ℕ → ℕ) (x : Head) → ((i : ℕ) → g (f i) ≡ k (h i)) → rename_head g (rename_head f x) ≡ rename_head k (rename_head h x)
heads_alike g f k h (variable i) e = ap variable (e i)
heads_alike g f k h (operator n t) e =
    ap (operator n) (renamed_alike (beyond_times n g) (beyond_times n f) (beyond_times n k) (beyond_times n h) t (λ i. times n i))
  where
    times : (n i : ℕ) → beyond_times n g (beyond_times n f i) ≡ beyond_times n k (beyond_times n h i)
    times zero i = e i
    times (suc n) zero = refl
    times (suc n) (suc i) = ap suc (times n i)
heads_alike g f k h nothing e = refl

-- r2 after f is r and then g
pub record Crosses (r2 r : Replacement) (f g : ℕ → ℕ) : Type 0 where
  pub types_ : (i : ℕ) → r2.type_of (f i) ≡ rename g (r.type_of i)
  pub heads_ : (i : ℕ) → r2.head_of (f i) ≡ rename_head g (r.head_of i)

pub crosses_beyond : {r2 r : Replacement} {f g : ℕ → ℕ} → Crosses r2 r f g → Crosses (replacement_beyond r2) (replacement_beyond r) (beyond f) (beyond g)
crosses_beyond {r2 = r2} {r = r} {f = f} {g = g} x = record { types_ = go; heads_ = go2 }
  where
    go : (i : ℕ) → (replacement_beyond r2).type_of (beyond f i) ≡ rename (beyond g) ((replacement_beyond r).type_of i)
    go zero = refl
    go (suc i) = ap (rename suc) (x.types_ i) ∙ renamed_alike suc g (beyond g) suc (r.type_of i) (λ j. refl)

    go2 : (i : ℕ) → (replacement_beyond r2).head_of (beyond f i) ≡ rename_head (beyond g) ((replacement_beyond r).head_of i)
    go2 zero = refl
    go2 (suc i) = ap (rename_head suc) (x.heads_ i) ∙ heads_alike suc g (beyond g) suc (r.head_of i) (λ j. refl)

pub crosses_under : {r2 r : Replacement} {f g : ℕ → ℕ} (bs : PlainBounds) → Crosses r2 r f g → Crosses (replacement_beyond_all (rename_bounds f bs) r2) (replacement_beyond_all bs r) (beyond_all bs f) (beyond_all (replace_bounds r bs) g)
crosses_under no_bound x = x
crosses_under (bounds b bs) x = crosses_under bs (crosses_beyond x)

mutual
  pub replace_renamed : {r2 r : Replacement} {f g : ℕ → ℕ} (t : PlainType) → Crosses r2 r f g → replace r2 (rename f t) ≡ rename g (replace r t)
  replace_renamed Top x = refl
  replace_renamed Int x = refl
  replace_renamed Char x = refl
  replace_renamed Str x = refl
  replace_renamed Boolean x = refl
  replace_renamed (Var i) x = x.types_ i
  replace_renamed {r = r} {g = g} (Apply i ts) x = ap₂ apply_head (x.heads_ i) (replace_types_renamed ts x) ∙ head_crosses g (r.head_of i) (replace_types r ts)
  replace_renamed (Chan m t) x = ap (Chan m) (replace_renamed t x)
  replace_renamed (Fields bs ps ls) x = three Fields (replace_bounds_renamed bs x) (replace_types_renamed ps (crosses_under bs x)) (replace_labels_renamed ls (crosses_under bs x))
  replace_renamed (Rec t) x = ap Rec (replace_renamed t (crosses_beyond x))

  pub replace_types_renamed : {r2 r : Replacement} {f g : ℕ → ℕ} (t : PlainTypes) → Crosses r2 r f g → replace_types r2 (rename_types f t) ≡ rename_types g (replace_types r t)
  replace_types_renamed no_type x = refl
  replace_types_renamed (types t ts) x = ap₂ types (replace_renamed t x) (replace_types_renamed ts x)

  pub replace_labels_renamed : {r2 r : Replacement} {f g : ℕ → ℕ} (t : PlainLabels) → Crosses r2 r f g → replace_labels r2 (rename_labels f t) ≡ rename_labels g (replace_labels r t)
  replace_labels_renamed no_label x = refl
  replace_labels_renamed (labels l t ts) x = ap₂ (labels l) (replace_renamed t x) (replace_labels_renamed ts x)

  pub replace_bounds_renamed : {r2 r : Replacement} {f g : ℕ → ℕ} (t : PlainBounds) → Crosses r2 r f g → replace_bounds r2 (rename_bounds f t) ≡ rename_bounds g (replace_bounds r t)
  replace_bounds_renamed no_bound x = refl
  replace_bounds_renamed (bounds b bs) x = ap₂ bounds (replace_bound_renamed b x) (replace_bounds_renamed bs (crosses_beyond x))

  pub replace_bound_renamed : {r2 r : Replacement} {f g : ℕ → ℕ} (b : PlainBound) → Crosses r2 r f g → replace_bound r2 (rename_bound f b) ≡ rename_bound g (replace_bound r b)
  replace_bound_renamed Free x = refl
  replace_bound_renamed {r = r} {g = g} (Below t) x = ap bound_by (replace_renamed t x) ∙ bound_by_renamed g (replace r t)
  replace_bound_renamed (Operator n) x = refl

pub one_binder : (r : Replacement) → Crosses (replacement_beyond r) r suc suc
one_binder r = record { types_ = λ i. refl; heads_ = λ i. refl }

-- past one more binder
pub replace_further : (r : Replacement) (t : PlainType) → replace (replacement_beyond r) (rename suc t) ≡ rename suc (replace r t)
replace_further r t = replace_renamed t (one_binder r)

-- the type at a label, replaced
pub type_at_replaced : (r : Replacement) (l : ℕ) (ls : PlainLabels) (s : PlainType) → type_at l ls ≡ Some s → type_at l (replace_labels r ls) ≡ Some (replace r s)
type_at_replaced r l no_label s h = absurd (cc)
type_at_replaced r l (labels m t ts) s h = go (nat_eq l m) refl (type_at_replaced r l ts s)
  where
    go : (b : Bool) → nat_eq l m ≡ b → (type_at l ts ≡ Some s → type_at l (replace_labels r ts) ≡ Some (replace r s)) → type_at l (replace_labels r (labels m t ts)) ≡ Some (replace r s)
    go true q k =
        let h2 : Some t ≡ Some s = rw q at h in
        let e : t ≡ s = cc in
        rw q (ap (λ x. Some (replace r x)) e)
    go false q k = rw q (k (rw q at h))
