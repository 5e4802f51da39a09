-- Types without a bound Top stay so, and filling and replacing nothing changes none of them.
use Rattle.std.proofs.Common.{◌≡◌, ℕ, zero, suc, List, [], ◌∷◌, Option, Some, None, false, refl, ◌∙◌, ap, ap₂}
use Rattle.pict_types.specs.Types.{PlainType, Top, Int, Char, Str, Boolean, Var, Apply, Chan, Fields, Rec, PlainTypes, no_type, types, PlainLabels, no_label, labels, PlainBound, Free, Below, Operator, PlainBounds, no_bound, bounds, PlainArg, Plain, Op, TypeContext, is_top}
use Rattle.pict_types.specs.Renaming.{beyond, beyond_all, beyond_times, rename, rename_types, rename_labels, rename_bounds, rename_bound}
use Rattle.pict_types.specs.Replacing.{bound_by, Filling, next_variable, filling_beyond, filling_beyond_all, apply_variable, fill, fill_types, fill_labels, fill_bounds, fill_bound, with_type, with_types, no_filling, Head, variable, operator, nothing, apply_head, Replacement, rename_head, replacement_beyond, replacement_beyond_all, replacement_past, replace, replace_types, replace_labels, replace_bounds, replace_bound, type_in, head_in, with_arg, no_replacement}
use Rattle.pict_types.specs.Filling.{filling_past}
use Rattle.pict_types.specs.NormalTypes.{IsNormal, AreNormal, LabelsAreNormal, BoundIsNormal, BoundsAreNormal, ArgIsNormal, ContextIsNormal, HeadIsNormal, FillsNormal, ReplacesNormal}
use Rattle.pict_types.specs.Kinds.{Kind, kind_by, kinds, kinds_under, proper, with_parameters, IsWellFormed, AreWellFormed, LabelsAreWellFormed, BoundsAreWellFormed, BoundIsWellFormed, ArgIsWellFormed, ContextIsWellFormed}
use Rattle.pict_types.proofs.Congruent.{three}
use Rattle.pict_types.proofs.Renamed.{top_renamed}

pub bound_by_self : (t : PlainType) → is_top t ≡ false → bound_by t ≡ Below t
bound_by_self Top h = absurd (cc)
bound_by_self Int h = refl
bound_by_self Char h = refl
bound_by_self Str h = refl
bound_by_self Boolean h = refl
bound_by_self (Var i) h = refl
bound_by_self (Apply i ts) h = refl
bound_by_self (Chan m t) h = refl
bound_by_self (Fields bs ps ls) h = refl
bound_by_self (Rec t) h = refl

pub normal_bound_by : (t : PlainType) → IsNormal t → BoundIsNormal (bound_by t)
normal_bound_by Top h = tt
normal_bound_by Int h = (refl, h)
normal_bound_by Char h = (refl, h)
normal_bound_by Str h = (refl, h)
normal_bound_by Boolean h = (refl, h)
normal_bound_by (Var i) h = (refl, h)
normal_bound_by (Apply i ts) h = (refl, h)
normal_bound_by (Chan m t) h = (refl, h)
normal_bound_by (Fields bs ps ls) h = (refl, h)
normal_bound_by (Rec t) h = (refl, h)

mutual
  pub rename_normal : (f : ℕ → ℕ) (t : PlainType) → IsNormal t → IsNormal (rename f t)
  rename_normal f Top h = tt
  rename_normal f Int h = tt
  rename_normal f Char h = tt
  rename_normal f Str h = tt
  rename_normal f Boolean h = tt
  rename_normal f (Var i) h = tt
  rename_normal f (Apply i ts) h = rename_types_normal f ts h
  rename_normal f (Chan m t) h = rename_normal f t h
  rename_normal f (Fields bs ps ls) h = (rename_bounds_normal f bs h.0, (rename_types_normal (beyond_all bs f) ps h.1.0, rename_labels_normal (beyond_all bs f) ls h.1.1))
  rename_normal f (Rec t) h = rename_normal (beyond f) t h

  pub rename_types_normal : (f : ℕ → ℕ) (t : PlainTypes) → AreNormal t → AreNormal (rename_types f t)
  rename_types_normal f no_type h = tt
  rename_types_normal f (types t ts) h = (rename_normal f t h.0, rename_types_normal f ts h.1)

  pub rename_labels_normal : (f : ℕ → ℕ) (t : PlainLabels) → LabelsAreNormal t → LabelsAreNormal (rename_labels f t)
  rename_labels_normal f no_label h = tt
  rename_labels_normal f (labels l t ts) h = (rename_normal f t h.0, rename_labels_normal f ts h.1)

  pub rename_bounds_normal : (f : ℕ → ℕ) (t : PlainBounds) → BoundsAreNormal t → BoundsAreNormal (rename_bounds f t)
  rename_bounds_normal f no_bound h = tt
  rename_bounds_normal f (bounds b bs) h = (rename_bound_normal f b h.0, rename_bounds_normal (beyond f) bs h.1)

  pub rename_bound_normal : (f : ℕ → ℕ) (b : PlainBound) → BoundIsNormal b → BoundIsNormal (rename_bound f b)
  rename_bound_normal f Free h = tt
  rename_bound_normal f (Below t) h = (top_renamed f t ∙ h.0, rename_normal f t h.1)
  rename_bound_normal f (Operator n) h = tt

pub fills_normal_beyond : {s : Filling} → FillsNormal s → FillsNormal (filling_beyond s)
fills_normal_beyond {s = s} x = record { types_ = go }
  where
    go : (i : ℕ) → IsNormal ((filling_beyond s).type_for i)
    go zero = tt
    go (suc i) = rename_normal suc (s.type_for i) (x.types_ i)

pub fills_normal_under : {s : Filling} (bs : PlainBounds) → FillsNormal s → FillsNormal (filling_beyond_all bs s)
fills_normal_under no_bound x = x
fills_normal_under (bounds b bs) x = fills_normal_under bs (fills_normal_beyond x)

pub applied_normal : (o : Option ℕ) (us : PlainTypes) → AreNormal us → IsNormal (apply_variable o us)
applied_normal None us h = tt
applied_normal (Some i) us h = h

mutual
  pub fill_normal : {s : Filling} (t : PlainType) → FillsNormal s → IsNormal (fill s t)
  fill_normal Top x = tt
  fill_normal Int x = tt
  fill_normal Char x = tt
  fill_normal Str x = tt
  fill_normal Boolean x = tt
  fill_normal (Var i) x = x.types_ i
  fill_normal {s = s} (Apply i ts) x = applied_normal (s.head_for i) (fill_types s ts) (fill_types_normal ts x)
  fill_normal (Chan m t) x = fill_normal t x
  fill_normal (Fields bs ps ls) x = (fill_bounds_normal bs x, (fill_types_normal ps (fills_normal_under bs x), fill_labels_normal ls (fills_normal_under bs x)))
  fill_normal (Rec t) x = fill_normal t (fills_normal_beyond x)

  pub fill_types_normal : {s : Filling} (t : PlainTypes) → FillsNormal s → AreNormal (fill_types s t)
  fill_types_normal no_type x = tt
  fill_types_normal (types t ts) x = (fill_normal t x, fill_types_normal ts x)

  pub fill_labels_normal : {s : Filling} (t : PlainLabels) → FillsNormal s → LabelsAreNormal (fill_labels s t)
  fill_labels_normal no_label x = tt
  fill_labels_normal (labels l t ts) x = (fill_normal t x, fill_labels_normal ts x)

  pub fill_bounds_normal : {s : Filling} (t : PlainBounds) → FillsNormal s → BoundsAreNormal (fill_bounds s t)
  fill_bounds_normal no_bound x = tt
  fill_bounds_normal (bounds b bs) x = (fill_bound_normal b x, fill_bounds_normal bs (fills_normal_beyond x))

  pub fill_bound_normal : {s : Filling} (b : PlainBound) → FillsNormal s → BoundIsNormal (fill_bound s b)
  fill_bound_normal Free x = tt
  fill_bound_normal {s = s} (Below t) x = normal_bound_by (fill s t) (fill_normal t x)
  fill_bound_normal (Operator n) x = tt

pub record FillsNothing (s : Filling) : Type 0 where
  pub types_ : (i : ℕ) → s.type_for i ≡ Var i
  pub heads_ : (i : ℕ) → s.head_for i ≡ Some i

pub still_beyond : {s : Filling} → FillsNothing s → FillsNothing (filling_beyond s)
still_beyond {s = s} x = record { types_ = go; heads_ = go2 }
  where
    go : (i : ℕ) → (filling_beyond s).type_for i ≡ Var i
    go zero = refl
    go (suc i) = ap (rename suc) (x.types_ i)

    go2 : (i : ℕ) → (filling_beyond s).head_for i ≡ Some i
    go2 zero = refl
    go2 (suc i) = ap next_variable (x.heads_ i)

pub still_under : {s : Filling} (bs : PlainBounds) → FillsNothing s → FillsNothing (filling_beyond_all bs s)
still_under no_bound x = x
still_under (bounds b bs) x = still_under bs (still_beyond x)

mutual
  pub fill_same : {s : Filling} (t : PlainType) → FillsNothing s → IsNormal t → fill s t ≡ t
  fill_same Top x h = refl
  fill_same Int x h = refl
  fill_same Char x h = refl
  fill_same Str x h = refl
  fill_same Boolean x h = refl
  fill_same (Var i) x h = x.types_ i
  fill_same (Apply i ts) x h = ap₂ apply_variable (x.heads_ i) (fill_types_same ts x h)
  fill_same (Chan m t) x h = ap (Chan m) (fill_same t x h)
  fill_same (Fields bs ps ls) x h = three Fields (fill_bounds_same bs x h.0) (fill_types_same ps (still_under bs x) h.1.0) (fill_labels_same ls (still_under bs x) h.1.1)
  fill_same (Rec t) x h = ap Rec (fill_same t (still_beyond x) h)

  pub fill_types_same : {s : Filling} (t : PlainTypes) → FillsNothing s → AreNormal t → fill_types s t ≡ t
  fill_types_same no_type x h = refl
  fill_types_same (types t ts) x h = ap₂ types (fill_same t x h.0) (fill_types_same ts x h.1)

  pub fill_labels_same : {s : Filling} (t : PlainLabels) → FillsNothing s → LabelsAreNormal t → fill_labels s t ≡ t
  fill_labels_same no_label x h = refl
  fill_labels_same (labels l t ts) x h = ap₂ (labels l) (fill_same t x h.0) (fill_labels_same ts x h.1)

  pub fill_bounds_same : {s : Filling} (t : PlainBounds) → FillsNothing s → BoundsAreNormal t → fill_bounds s t ≡ t
  fill_bounds_same no_bound x h = refl
  fill_bounds_same (bounds b bs) x h = ap₂ bounds (fill_bound_same b x h.0) (fill_bounds_same bs (still_beyond x) h.1)

  pub fill_bound_same : {s : Filling} (b : PlainBound) → FillsNothing s → BoundIsNormal b → fill_bound s b ≡ b
  fill_bound_same Free x h = refl
  fill_bound_same (Below t) x h = ap bound_by (fill_same t x h.1) ∙ bound_by_self t h.0
  fill_bound_same (Operator n) x h = refl

pub no_filling_still : FillsNothing no_filling
no_filling_still = record { types_ = λ i. refl; heads_ = λ i. refl }

pub still_past : (n : ℕ) → FillsNothing (filling_past n no_filling)
still_past zero = no_filling_still
still_past (suc n) = still_beyond (still_past n)

pub rename_head_normal : (f : ℕ → ℕ) (h : Head) → HeadIsNormal h → HeadIsNormal (rename_head f h)
rename_head_normal f (variable i) x = tt
rename_head_normal f (operator n b) x = rename_normal (beyond_times n f) b x
rename_head_normal f nothing x = tt

pub normal_beyond : {s : Replacement} → ReplacesNormal s → ReplacesNormal (replacement_beyond s)
normal_beyond {s = s} x = record { types_ = go; heads_ = go2 }
  where
    go : (i : ℕ) → IsNormal ((replacement_beyond s).type_of i)
    go zero = tt
    go (suc i) = rename_normal suc (s.type_of i) (x.types_ i)

    go2 : (i : ℕ) → HeadIsNormal ((replacement_beyond s).head_of i)
    go2 zero = tt
    go2 (suc i) = rename_head_normal suc (s.head_of i) (x.heads_ i)

pub normal_under : {s : Replacement} (bs : PlainBounds) → ReplacesNormal s → ReplacesNormal (replacement_beyond_all bs s)
normal_under no_bound x = x
normal_under (bounds b bs) x = normal_under bs (normal_beyond x)

pub fills_normal_type : {a : Filling} (t : PlainType) → IsNormal t → FillsNormal a → FillsNormal (with_type t a)
fills_normal_type {a = a} t h x = record { types_ = go }
  where
    go : (i : ℕ) → IsNormal ((with_type t a).type_for i)
    go zero = h
    go (suc i) = x.types_ i

pub fills_normal_types : {a : Filling} (n : ℕ) (us : PlainTypes) → AreNormal us → FillsNormal a → FillsNormal (with_types n us a)
fills_normal_types zero us h x = x
fills_normal_types (suc n) no_type h x = fills_normal_types n no_type h (fills_normal_type Top tt x)
fills_normal_types (suc n) (types t ts) h x = fills_normal_types n ts h.1 (fills_normal_type t h.0 x)

pub no_filling_normal : FillsNormal no_filling
no_filling_normal = record { types_ = λ i. tt }

pub head_normal : (h : Head) (us : PlainTypes) → AreNormal us → IsNormal (apply_head h us)
head_normal (variable i) us h = h
head_normal (operator n b) us h = fill_normal b (fills_normal_types n us h no_filling_normal)
head_normal nothing us h = tt

mutual
  pub replace_normal : {s : Replacement} (t : PlainType) → ReplacesNormal s → IsNormal (replace s t)
  replace_normal Top x = tt
  replace_normal Int x = tt
  replace_normal Char x = tt
  replace_normal Str x = tt
  replace_normal Boolean x = tt
  replace_normal (Var i) x = x.types_ i
  replace_normal {s = s} (Apply i ts) x = head_normal (s.head_of i) (replace_types s ts) (replace_types_normal ts x)
  replace_normal (Chan m t) x = replace_normal t x
  replace_normal (Fields bs ps ls) x = (replace_bounds_normal bs x, (replace_types_normal ps (normal_under bs x), replace_labels_normal ls (normal_under bs x)))
  replace_normal (Rec t) x = replace_normal t (normal_beyond x)

  pub replace_types_normal : {s : Replacement} (t : PlainTypes) → ReplacesNormal s → AreNormal (replace_types s t)
  replace_types_normal no_type x = tt
  replace_types_normal (types t ts) x = (replace_normal t x, replace_types_normal ts x)

  pub replace_labels_normal : {s : Replacement} (t : PlainLabels) → ReplacesNormal s → LabelsAreNormal (replace_labels s t)
  replace_labels_normal no_label x = tt
  replace_labels_normal (labels l t ts) x = (replace_normal t x, replace_labels_normal ts x)

  pub replace_bounds_normal : {s : Replacement} (t : PlainBounds) → ReplacesNormal s → BoundsAreNormal (replace_bounds s t)
  replace_bounds_normal no_bound x = tt
  replace_bounds_normal (bounds b bs) x = (replace_bound_normal b x, replace_bounds_normal bs (normal_beyond x))

  pub replace_bound_normal : {s : Replacement} (b : PlainBound) → ReplacesNormal s → BoundIsNormal (replace_bound s b)
  replace_bound_normal Free x = tt
  replace_bound_normal {s = s} (Below t) x = normal_bound_by (replace s t) (replace_normal t x)
  replace_bound_normal (Operator n) x = tt

pub arg_normal : (a : PlainArg) {r : Replacement} → ArgIsNormal a → ReplacesNormal r → ReplacesNormal (with_arg a r)
arg_normal a {r = r} x h = record { types_ = go; heads_ = go2 }
  where
    first : (a : PlainArg) → ArgIsNormal a → IsNormal (type_in a)
    first (Plain t) x = x
    first (Op n t) x = tt

    first_head_ : (a : PlainArg) → ArgIsNormal a → HeadIsNormal (head_in a)
    first_head_ (Plain t) x = tt
    first_head_ (Op n t) x = x

    go : (i : ℕ) → IsNormal ((with_arg a r).type_of i)
    go zero = first a x
    go (suc i) = h.types_ i

    go2 : (i : ℕ) → HeadIsNormal ((with_arg a r).head_of i)
    go2 zero = first_head_ a x
    go2 (suc i) = h.heads_ i

pub nothing_normal : ReplacesNormal no_replacement
nothing_normal = record { types_ = λ i. tt; heads_ = λ i. tt }

-- a replacement that puts each variable for itself changes no normal type

pub record ChangesNothing (r : Replacement) : Type 0 where
  pub types_ : (i : ℕ) → r.type_of i ≡ Var i
  pub heads_ : (i : ℕ) → r.head_of i ≡ variable i

pub same_beyond : {r : Replacement} → ChangesNothing r → ChangesNothing (replacement_beyond r)
same_beyond {r = r} x = record { types_ = go; heads_ = go2 }
  where
    go : (i : ℕ) → (replacement_beyond r).type_of i ≡ Var i
    go zero = refl
    go (suc i) = ap (rename suc) (x.types_ i)

    go2 : (i : ℕ) → (replacement_beyond r).head_of i ≡ variable i
    go2 zero = refl
    go2 (suc i) = ap (rename_head suc) (x.heads_ i)

pub same_under : {r : Replacement} (bs : PlainBounds) → ChangesNothing r → ChangesNothing (replacement_beyond_all bs r)
same_under no_bound x = x
same_under (bounds b bs) x = same_under bs (same_beyond x)

mutual
  pub replace_same : {r : Replacement} (t : PlainType) → ChangesNothing r → IsNormal t → replace r t ≡ t
  replace_same Top h x = refl
  replace_same Int h x = refl
  replace_same Char h x = refl
  replace_same Str h x = refl
  replace_same Boolean h x = refl
  replace_same (Var i) h x = h.types_ i
  replace_same (Apply i ts) h x = ap₂ apply_head (h.heads_ i) (replace_types_same ts h x)
  replace_same (Chan m t) h x = ap (Chan m) (replace_same t h x)
  replace_same (Fields bs ps ls) h x = three Fields (replace_bounds_same bs h x.0) (replace_types_same ps (same_under bs h) x.1.0) (replace_labels_same ls (same_under bs h) x.1.1)
  replace_same (Rec t) h x = ap Rec (replace_same t (same_beyond h) x)

  pub replace_types_same : {r : Replacement} (t : PlainTypes) → ChangesNothing r → AreNormal t → replace_types r t ≡ t
  replace_types_same no_type h x = refl
  replace_types_same (types t ts) h x = ap₂ types (replace_same t h x.0) (replace_types_same ts h x.1)

  pub replace_labels_same : {r : Replacement} (t : PlainLabels) → ChangesNothing r → LabelsAreNormal t → replace_labels r t ≡ t
  replace_labels_same no_label h x = refl
  replace_labels_same (labels l t ts) h x = ap₂ (labels l) (replace_same t h x.0) (replace_labels_same ts h x.1)

  pub replace_bounds_same : {r : Replacement} (t : PlainBounds) → ChangesNothing r → BoundsAreNormal t → replace_bounds r t ≡ t
  replace_bounds_same no_bound h x = refl
  replace_bounds_same (bounds b bs) h x = ap₂ bounds (replace_bound_same b h x.0) (replace_bounds_same bs (same_beyond h) x.1)

  pub replace_bound_same : {r : Replacement} (t : PlainBound) → ChangesNothing r → BoundIsNormal t → replace_bound r t ≡ t
  replace_bound_same Free h x = refl
  replace_bound_same (Below t) h x = ap bound_by (replace_same t h x.1) ∙ bound_by_self t x.0
  replace_bound_same (Operator n) h x = refl

pub nothing_changed : ChangesNothing no_replacement
nothing_changed = record { types_ = λ i. refl; heads_ = λ i. refl }

pub past_same : {r : Replacement} (n : ℕ) → ChangesNothing r → ChangesNothing (replacement_past n r)
past_same zero x = x
past_same (suc n) x = same_beyond (past_same n x)

-- a well formed type has no bound Top
mutual
  pub formed_normal : (ns : List (List ℕ)) (ks : List Kind) (t : PlainType) → IsWellFormed ns ks t → IsNormal t
  formed_normal ns ks Top w = tt
  formed_normal ns ks Int w = tt
  formed_normal ns ks Char w = tt
  formed_normal ns ks Str w = tt
  formed_normal ns ks Boolean w = tt
  formed_normal ns ks (Var i) w = tt
  formed_normal ns ks (Apply i ts) w = formed_types_normal ns ks ts w.1
  formed_normal ns ks (Chan m t) w = formed_normal ns ks t w
  formed_normal ns ks (Fields bs ps ls) w =
      (formed_bounds_normal ns ks bs w.0, (formed_types_normal ns (kinds_under ks bs) ps w.1.0, formed_labels_normal ns (kinds_under ks bs) ls w.1.1))
  formed_normal ns ks (Rec t) w = formed_normal ns (proper ∷ ks) t w

  pub formed_types_normal : (ns : List (List ℕ)) (ks : List Kind) (ts : PlainTypes) → AreWellFormed ns ks ts → AreNormal ts
  formed_types_normal ns ks no_type w = tt
  formed_types_normal ns ks (types t ts) w = (formed_normal ns ks t w.0, formed_types_normal ns ks ts w.1)

  pub formed_labels_normal : (ns : List (List ℕ)) (ks : List Kind) (ls : PlainLabels) → LabelsAreWellFormed ns ks ls → LabelsAreNormal ls
  formed_labels_normal ns ks no_label w = tt
  formed_labels_normal ns ks (labels l t ls) w = (formed_normal ns ks t w.1.0, formed_labels_normal ns ks ls w.1.1)

  pub formed_bounds_normal : (ns : List (List ℕ)) (ks : List Kind) (bs : PlainBounds) → BoundsAreWellFormed ns ks bs → BoundsAreNormal bs
  formed_bounds_normal ns ks no_bound w = tt
  formed_bounds_normal ns ks (bounds b bs) w = (formed_bound_normal ns ks b w.0, formed_bounds_normal ns (kind_by b ∷ ks) bs w.1)

  pub formed_bound_normal : (ns : List (List ℕ)) (ks : List Kind) (b : PlainBound) → BoundIsWellFormed ns ks b → BoundIsNormal b
  formed_bound_normal ns ks Free w = tt
  formed_bound_normal ns ks (Below t) w = (w.0, formed_normal ns ks t w.1)
  formed_bound_normal ns ks (Operator n) w = tt

pub formed_arg_normal : (ns : List (List ℕ)) (ks : List Kind) (a : PlainArg) → ArgIsWellFormed ns ks a → ArgIsNormal a
formed_arg_normal ns ks (Plain t) w = formed_normal ns ks t w
formed_arg_normal ns ks (Op n t) w = formed_normal ns (with_parameters n ks) t w

pub formed_context_normal : (ns : List (List ℕ)) (c : TypeContext) → ContextIsWellFormed ns c → ContextIsNormal c
formed_context_normal ns [] w = tt
formed_context_normal ns (b ∷ c) w = (formed_bound_normal ns (kinds c) b w.0, formed_context_normal ns c w.1)
