-- Types renamed twice, types renamed to themselves, and the bounds of variables one further in.
use Rattle.std.proofs.Common.{◌≡◌, ℕ, zero, suc, ◌+◌, ◌∷◌, Some, Bool, true, false, refl, sym, ◌∙◌, ap, ap₂, arith, add-one}
use Rattle.std.specs.Prelude.{nat_eq}
use Rattle.pict_types.specs.Types.{PlainType, Top, Int, Char, Str, Boolean, Var, Apply, Chan, Fields, Rec, PlainTypes, no_type, types, PlainLabels, no_label, labels, PlainBound, Free, Below, Operator, PlainBounds, no_bound, bounds, TypeContext, type_at, is_top}
use Rattle.pict_types.specs.Renaming.{beyond, beyond_all, beyond_times, rename, rename_types, rename_labels, rename_bounds, rename_bound, moved, bound_at, bound_of}
use Rattle.pict_types.proofs.Congruent.{three}

-- two renamings do to each variable what one does
pub record Joins (g f k : ℕ → ℕ) : Type 0 where
  pub each : (i : ℕ) → g (f i) ≡ k i

pub joins_beyond : {g f k : ℕ → ℕ} → Joins g f k → Joins (beyond g) (beyond f) (beyond k)
joins_beyond {g = g} {f = f} {k = k} x = record { each = go }
  where
    go : (i : ℕ) → beyond g (beyond f i) ≡ beyond k i
    go zero = refl
    go (suc i) = ap suc (x.each i)

pub joins_under : {g f k : ℕ → ℕ} (bs : PlainBounds) → Joins g f k → Joins (beyond_all (rename_bounds f bs) g) (beyond_all bs f) (beyond_all bs k)
joins_under no_bound x = x
joins_under (bounds b bs) x = joins_under bs (joins_beyond x)

mutual
  pub renamed_twice : {g f k : ℕ → ℕ} (t : PlainType) → Joins g f k → rename g (rename f t) ≡ rename k t
  renamed_twice Top x = refl
  renamed_twice Int x = refl
  renamed_twice Char x = refl
  renamed_twice Str x = refl
  renamed_twice Boolean x = refl
  renamed_twice (Var i) x = ap Var (x.each i)
  renamed_twice (Apply i ts) x = ap₂ Apply (x.each i) (types_twice ts x)
  renamed_twice (Chan m t) x = ap (Chan m) (renamed_twice t x)
  renamed_twice (Fields bs ps ls) x = three Fields (bounds_twice bs x) (types_twice ps (joins_under bs x)) (labels_twice ls (joins_under bs x))
  renamed_twice (Rec t) x = ap Rec (renamed_twice t (joins_beyond x))

  pub types_twice : {g f k : ℕ → ℕ} (t : PlainTypes) → Joins g f k → rename_types g (rename_types f t) ≡ rename_types k t
  types_twice no_type x = refl
  types_twice (types t ts) x = ap₂ types (renamed_twice t x) (types_twice ts x)

  pub labels_twice : {g f k : ℕ → ℕ} (t : PlainLabels) → Joins g f k → rename_labels g (rename_labels f t) ≡ rename_labels k t
  labels_twice no_label x = refl
  labels_twice (labels l t ts) x = ap₂ (labels l) (renamed_twice t x) (labels_twice ts x)

  pub bounds_twice : {g f k : ℕ → ℕ} (t : PlainBounds) → Joins g f k → rename_bounds g (rename_bounds f t) ≡ rename_bounds k t
  bounds_twice no_bound x = refl
  bounds_twice (bounds b bs) x = ap₂ bounds (bound_twice b x) (bounds_twice bs (joins_beyond x))

  pub bound_twice : {g f k : ℕ → ℕ} (b : PlainBound) → Joins g f k → rename_bound g (rename_bound f b) ≡ rename_bound k b
  bound_twice Free x = refl
  bound_twice (Below t) x = ap Below (renamed_twice t x)
  bound_twice (Operator n) x = refl

-- a renaming that leaves each variable
pub record Stays (f : ℕ → ℕ) : Type 0 where
  pub each : (i : ℕ) → f i ≡ i

pub stays_beyond : {f : ℕ → ℕ} → Stays f → Stays (beyond f)
stays_beyond {f = f} x = record { each = go }
  where
    go : (i : ℕ) → beyond f i ≡ i
    go zero = refl
    go (suc i) = ap suc (x.each i)

pub stays_times : (n : ℕ) → Stays (beyond_times n (λ j. j))
stays_times zero = record { each = λ j. refl }
stays_times (suc n) = stays_beyond (stays_times n)

pub stays_under : {f : ℕ → ℕ} (bs : PlainBounds) → Stays f → Stays (beyond_all bs f)
stays_under no_bound x = x
stays_under (bounds b bs) x = stays_under bs (stays_beyond x)

mutual
  pub rename_same : {f : ℕ → ℕ} (t : PlainType) → Stays f → rename f t ≡ t
  rename_same Top x = refl
  rename_same Int x = refl
  rename_same Char x = refl
  rename_same Str x = refl
  rename_same Boolean x = refl
  rename_same (Var i) x = ap Var (x.each i)
  rename_same (Apply i ts) x = ap₂ Apply (x.each i) (types_same ts x)
  rename_same (Chan m t) x = ap (Chan m) (rename_same t x)
  rename_same (Fields bs ps ls) x = three Fields (bounds_same bs x) (types_same ps (stays_under bs x)) (labels_same ls (stays_under bs x))
  rename_same (Rec t) x = ap Rec (rename_same t (stays_beyond x))

  pub types_same : {f : ℕ → ℕ} (t : PlainTypes) → Stays f → rename_types f t ≡ t
  types_same no_type x = refl
  types_same (types t ts) x = ap₂ types (rename_same t x) (types_same ts x)

  pub labels_same : {f : ℕ → ℕ} (t : PlainLabels) → Stays f → rename_labels f t ≡ t
  labels_same no_label x = refl
  labels_same (labels l t ts) x = ap₂ (labels l) (rename_same t x) (labels_same ts x)

  pub bounds_same : {f : ℕ → ℕ} (t : PlainBounds) → Stays f → rename_bounds f t ≡ t
  bounds_same no_bound x = refl
  bounds_same (bounds b bs) x = ap₂ bounds (bound_same b x) (bounds_same bs (stays_beyond x))

  pub bound_same : {f : ℕ → ℕ} (b : PlainBound) → Stays f → rename_bound f b ≡ b
  bound_same Free x = refl
  bound_same (Below t) x = ap Below (rename_same t x)
  bound_same (Operator n) x = refl

-- two renamings that do what two others do
pub renamed_alike : (g f k h : ℕ → ℕ) (t : PlainType) → ((i : ℕ) → g (f i) ≡ k (h i)) → rename g (rename f t) ≡ rename k (rename h t)
renamed_alike g f k h t e = renamed_twice t (record { each = e }) ∙ sym (renamed_twice t (record { each = λ i. refl }))

pub bound_alike : (g f k h : ℕ → ℕ) (b : PlainBound) → ((i : ℕ) → g (f i) ≡ k (h i)) → rename_bound g (rename_bound f b) ≡ rename_bound k (rename_bound h b)
bound_alike g f k h b e = bound_twice b (record { each = e }) ∙ sym (bound_twice b (record { each = λ i. refl }))

-- the bound of a variable one further in
pub bound_further : (b : PlainBound) (c : TypeContext) (i : ℕ) → bound_of (b ∷ c) (suc i) ≡ rename_bound suc (bound_of c i)
bound_further b c i = sym (bound_twice (bound_at c i) (record { each = λ j. sym_suc j i }))
  where
    sym_suc : (j i : ℕ) → suc (j + suc i) ≡ j + suc (suc i)
    sym_suc j i = omega arith

-- a variable one further in is the same as one more variable
pub moved_is_suc : moved 1 0 ≡ suc
moved_is_suc = λ j i. add-one i j

-- what renames to a bound is one
pub bound_before : (f : ℕ → ℕ) (x : PlainBound) (t : PlainType) → rename_bound f x ≡ Below t → (s : PlainType) × (x ≡ Below s) × (rename f s ≡ t)
bound_before f Free t h = absurd (cc)
bound_before f (Below s) t h = (s, refl, cc)
bound_before f (Operator n) t h = absurd (cc)

-- the type at a label, renamed
pub type_at_renamed : (f : ℕ → ℕ) (l : ℕ) (ls : PlainLabels) (s : PlainType) → type_at l ls ≡ Some s → type_at l (rename_labels f ls) ≡ Some (rename f s)
type_at_renamed f l no_label s h = absurd (cc)
type_at_renamed f l (labels m t ts) s h = go (nat_eq l m) refl (type_at_renamed f l ts s)
  where
    go : (b : Bool) → nat_eq l m ≡ b → (type_at l ts ≡ Some s → type_at l (rename_labels f ts) ≡ Some (rename f s)) → type_at l (rename_labels f (labels m t ts)) ≡ Some (rename f s)
    go true q r =
        let h2 : Some t ≡ Some s = rw q at h in
        let e : t ≡ s = cc in
        rw q (ap (λ x. Some (rename f x)) e)
    go false q r = rw q (r (rw q at h))

-- what is Top stays Top, and what isn't is none
pub top_renamed : (f : ℕ → ℕ) (t : PlainType) → is_top (rename f t) ≡ is_top t
top_renamed f Top = refl
top_renamed f Int = refl
top_renamed f Char = refl
top_renamed f Str = refl
top_renamed f Boolean = refl
top_renamed f (Var i) = refl
top_renamed f (Apply i ts) = refl
top_renamed f (Chan m t) = refl
top_renamed f (Fields bs ps ls) = refl
top_renamed f (Rec t) = refl
