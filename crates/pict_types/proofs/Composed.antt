-- Fillings and replacements one after the other are one.
use Rattle.std.proofs.Common.{◌≡◌, ℕ, zero, suc, List, [], ◌∷◌, ◌++◌, refl, sym, ◌∙◌, ap, ap₂, subst, Option, Some, None}
use Rattle.pict_types.specs.Types.{PlainType, Top, Int, Char, Str, Boolean, Var, Apply, Chan, Fields, Rec, PlainTypes, no_type, types, PlainLabels, no_label, labels, PlainBound, Free, Below, Operator, PlainBounds, no_bound, bounds, PlainArg, Plain, Op}
use Rattle.pict_types.specs.Renaming.{beyond, beyond_all, beyond_times, rename, rename_types, rename_labels, rename_bounds, rename_bound}
use Rattle.pict_types.specs.Replacing.{bound_by, Filling, next_variable, variable_beyond, filling_beyond, filling_beyond_all, apply_variable, fill, fill_types, fill_labels, fill_bounds, fill_bound, first_head, with_type, with_types, no_filling, Head, variable, operator, nothing, apply_head, Replacement, rename_head, head_beyond, replacement_beyond, replacement_beyond_all, replacement_past, replace, replace_types, replace_labels, replace_bounds, replace_bound, type_in, head_in, with_arg, with_args, arguments, no_replacement}
use Rattle.pict_types.specs.Filling.{filling_past}
use Rattle.pict_types.specs.NormalTypes.{ArgIsNormal, ArgsAreNormal, HeadIsNormal, FillsNormal, ReplacesNormal}
pub use Rattle.pict_types.specs.Composing.{replace_head, replace_arg}
use Rattle.pict_types.specs.Composing.{renamed_variable, variable_through, head_of_variable, head_through, fill_head, filling_then_renaming, replacement_then_renaming, renaming_then_replacement}
use Rattle.pict_types.proofs.Renamed.{rename_same, stays_times}
use Rattle.pict_types.proofs.Replaced.{FillCrosses, fill_crosses_beyond, fill_renamed, Crosses, crosses_beyond, replace_renamed, one_binder, replace_further}
use Rattle.pict_types.proofs.Replacements.{fills_normal_beyond, fills_normal_under, fills_normal_types, no_filling_normal, normal_beyond, replace_types_normal, no_filling_still, still_past, fill_same, arg_normal, nothing_normal, replace_normal, replace_same, nothing_changed, past_same}
use Rattle.pict_types.proofs.Congruent.{three}

pub record IsAfter (s : Filling) (f : ℕ → ℕ) (r : Filling) : Type 0 where
  pub types_ : (i : ℕ) → s.type_for (f i) ≡ r.type_for i
  pub heads_ : (i : ℕ) → s.head_for (f i) ≡ r.head_for i

pub after_beyond : {s : Filling} {f : ℕ → ℕ} {r : Filling} → IsAfter s f r → IsAfter (filling_beyond s) (beyond f) (filling_beyond r)
after_beyond {s = s} {f = f} {r = r} h = record { types_ = go; heads_ = go2 }
  where
    go : (i : ℕ) → (filling_beyond s).type_for (beyond f i) ≡ (filling_beyond r).type_for i
    go zero = refl
    go (suc i) = ap (rename suc) (h.types_ i)

    go2 : (i : ℕ) → (filling_beyond s).head_for (beyond f i) ≡ (filling_beyond r).head_for i
    go2 zero = refl
    go2 (suc i) = ap next_variable (h.heads_ i)

pub after_under : {s : Filling} {f : ℕ → ℕ} {r : Filling} (bs : PlainBounds) → IsAfter s f r → IsAfter (filling_beyond_all (rename_bounds f bs) s) (beyond_all bs f) (filling_beyond_all bs r)
after_under no_bound h = h
after_under (bounds b bs) h = after_under bs (after_beyond h)

mutual
  pub fill_after : {s : Filling} {f : ℕ → ℕ} {r : Filling} → IsAfter s f r → (t : PlainType) → fill s (rename f t) ≡ fill r t
  fill_after h Top = refl
  fill_after h Int = refl
  fill_after h Char = refl
  fill_after h Str = refl
  fill_after h Boolean = refl
  fill_after h (Var i) = h.types_ i
  fill_after h (Apply i ts) = ap₂ apply_variable (h.heads_ i) (fill_types_after h ts)
  fill_after h (Chan m t) = ap (Chan m) (fill_after h t)
  fill_after h (Fields bs ps ls) = three Fields (fill_bounds_after h bs) (fill_types_after (after_under bs h) ps) (fill_labels_after (after_under bs h) ls)
  fill_after h (Rec t) = ap Rec (fill_after (after_beyond h) t)

  pub fill_types_after : {s : Filling} {f : ℕ → ℕ} {r : Filling} → IsAfter s f r → (t : PlainTypes) → fill_types s (rename_types f t) ≡ fill_types r t
  fill_types_after h no_type = refl
  fill_types_after h (types t ts) = ap₂ types (fill_after h t) (fill_types_after h ts)

  pub fill_labels_after : {s : Filling} {f : ℕ → ℕ} {r : Filling} → IsAfter s f r → (t : PlainLabels) → fill_labels s (rename_labels f t) ≡ fill_labels r t
  fill_labels_after h no_label = refl
  fill_labels_after h (labels l t ts) = ap₂ (labels l) (fill_after h t) (fill_labels_after h ts)

  pub fill_bounds_after : {s : Filling} {f : ℕ → ℕ} {r : Filling} → IsAfter s f r → (t : PlainBounds) → fill_bounds s (rename_bounds f t) ≡ fill_bounds r t
  fill_bounds_after h no_bound = refl
  fill_bounds_after h (bounds b bs) = ap₂ bounds (fill_bound_after h b) (fill_bounds_after (after_beyond h) bs)

  pub fill_bound_after : {s : Filling} {f : ℕ → ℕ} {r : Filling} → IsAfter s f r → (b : PlainBound) → fill_bound s (rename_bound f b) ≡ fill_bound r b
  fill_bound_after h Free = refl
  fill_bound_after h (Below t) = ap bound_by (fill_after h t)
  fill_bound_after h (Operator n) = refl

-- fillings

pub next_is : (o : Option ℕ) → next_variable o ≡ renamed_variable suc o
next_is None = refl
next_is (Some i) = refl

pub binder_crosses : (s : Filling) → FillCrosses (filling_beyond s) s suc suc
binder_crosses s = record { types_ = λ i. refl; heads_ = λ i. next_is (s.head_for i) }

pub bind_next : (o : Option ℕ) (f : ℕ → Option ℕ) → variable_through (next_variable o) (variable_beyond f) ≡ next_variable (variable_through o f)
bind_next None f = refl
bind_next (Some i) f = refl

pub bind_first : (o : Option ℕ) (f : ℕ → Option ℕ) → variable_through (next_variable o) (first_head f) ≡ variable_through o f
bind_first None f = refl
bind_first (Some i) f = refl

pub bind_some : (o : Option ℕ) → variable_through o Some ≡ o
bind_some None = refl
bind_some (Some i) = refl

-- s3 is s1 and then s2
pub record ComposesFillings (s2 s1 s3 : Filling) : Type 0 where
  pub types_ : (i : ℕ) → fill s2 (s1.type_for i) ≡ s3.type_for i
  pub heads_ : (i : ℕ) → variable_through (s1.head_for i) s2.head_for ≡ s3.head_for i

pub fillings_beyond : {s2 s1 s3 : Filling} → ComposesFillings s2 s1 s3 → ComposesFillings (filling_beyond s2) (filling_beyond s1) (filling_beyond s3)
fillings_beyond {s2 = s2} {s1 = s1} {s3 = s3} x = record { types_ = go; heads_ = go2 }
  where
    go : (i : ℕ) → fill (filling_beyond s2) ((filling_beyond s1).type_for i) ≡ (filling_beyond s3).type_for i
    go zero = refl
    go (suc i) = fill_renamed (s1.type_for i) (binder_crosses s2) ∙ ap (rename suc) (x.types_ i)

    go2 : (i : ℕ) → variable_through ((filling_beyond s1).head_for i) (filling_beyond s2).head_for ≡ (filling_beyond s3).head_for i
    go2 zero = refl
    go2 (suc i) = bind_next (s1.head_for i) s2.head_for ∙ ap next_variable (x.heads_ i)

pub fillings_under : {s2 s1 s3 : Filling} (bs : PlainBounds) → ComposesFillings s2 s1 s3 → ComposesFillings (filling_beyond_all (fill_bounds s1 bs) s2) (filling_beyond_all bs s1) (filling_beyond_all bs s3)
fillings_under no_bound x = x
fillings_under (bounds b bs) x = fillings_under bs (fillings_beyond x)

pub apply_bind : (s : Filling) (o : Option ℕ) (us : PlainTypes) → fill s (apply_variable o us) ≡ apply_variable (variable_through o s.head_for) (fill_types s us)
apply_bind s None us = refl
apply_bind s (Some i) us = refl

pub fill_made : (s : Filling) (u : PlainType) → fill_bound s (bound_by u) ≡ bound_by (fill s u)
fill_made s Top = refl
fill_made s Int = refl
fill_made s Char = refl
fill_made s Str = refl
fill_made s Boolean = refl
fill_made s (Var i) = refl
fill_made s (Apply i ts) = refl
fill_made s (Chan m t) = refl
fill_made s (Fields bs ps ls) = refl
fill_made s (Rec t) = refl

mutual
  pub fill_fill : {s2 s1 s3 : Filling} (t : PlainType) → ComposesFillings s2 s1 s3 → fill s2 (fill s1 t) ≡ fill s3 t
  fill_fill Top x = refl
  fill_fill Int x = refl
  fill_fill Char x = refl
  fill_fill Str x = refl
  fill_fill Boolean x = refl
  fill_fill (Var i) x = x.types_ i
  fill_fill {s2 = s2} {s1 = s1} (Apply i ts) x = apply_bind s2 (s1.head_for i) (fill_types s1 ts) ∙ ap₂ apply_variable (x.heads_ i) (fill_types_fill ts x)
  fill_fill (Chan m t) x = ap (Chan m) (fill_fill t x)
  fill_fill (Fields bs ps ls) x = three Fields (fill_bounds_fill bs x) (fill_types_fill ps (fillings_under bs x)) (fill_labels_fill ls (fillings_under bs x))
  fill_fill (Rec t) x = ap Rec (fill_fill t (fillings_beyond x))

  pub fill_types_fill : {s2 s1 s3 : Filling} (t : PlainTypes) → ComposesFillings s2 s1 s3 → fill_types s2 (fill_types s1 t) ≡ fill_types s3 t
  fill_types_fill no_type x = refl
  fill_types_fill (types t ts) x = ap₂ types (fill_fill t x) (fill_types_fill ts x)

  pub fill_labels_fill : {s2 s1 s3 : Filling} (t : PlainLabels) → ComposesFillings s2 s1 s3 → fill_labels s2 (fill_labels s1 t) ≡ fill_labels s3 t
  fill_labels_fill no_label x = refl
  fill_labels_fill (labels l t ts) x = ap₂ (labels l) (fill_fill t x) (fill_labels_fill ts x)

  pub fill_bounds_fill : {s2 s1 s3 : Filling} (t : PlainBounds) → ComposesFillings s2 s1 s3 → fill_bounds s2 (fill_bounds s1 t) ≡ fill_bounds s3 t
  fill_bounds_fill no_bound x = refl
  fill_bounds_fill (bounds b bs) x = ap₂ bounds (fill_bound_fill b x) (fill_bounds_fill bs (fillings_beyond x))

  pub fill_bound_fill : {s2 s1 s3 : Filling} (b : PlainBound) → ComposesFillings s2 s1 s3 → fill_bound s2 (fill_bound s1 b) ≡ fill_bound s3 b
  fill_bound_fill Free x = refl
  fill_bound_fill {s2 = s2} {s1 = s1} (Below t) x = fill_made s2 (fill s1 t) ∙ ap bound_by (fill_fill t x)
  fill_bound_fill (Operator n) x = refl

pub first_arg : {s a b : Filling} (t : PlainType) → ComposesFillings s a b → ComposesFillings s (with_type t a) (with_type (fill s t) b)
first_arg {s = s} {a = a} {b = b} t x = record { types_ = go; heads_ = go2 }
  where
    go : (i : ℕ) → fill s ((with_type t a).type_for i) ≡ (with_type (fill s t) b).type_for i
    go zero = refl
    go (suc i) = x.types_ i

    go2 : (i : ℕ) → variable_through ((with_type t a).head_for i) s.head_for ≡ (with_type (fill s t) b).head_for i
    go2 zero = refl
    go2 (suc i) = x.heads_ i

pub args_first : {s a b : Filling} (n : ℕ) (us : PlainTypes) → ComposesFillings s a b → ComposesFillings s (with_types n us a) (with_types n (fill_types s us) b)
args_first zero us x = x
args_first (suc n) no_type x = args_first n no_type (first_arg Top x)
args_first (suc n) (types t ts) x = args_first n ts (first_arg t x)

pub filling_after : (n : ℕ) (s : Filling) → filling_past n (filling_beyond s) ≡ filling_beyond (filling_past n s)
filling_after zero s = refl
filling_after (suc n) s = ap filling_beyond (filling_after n s)

pub behind_type : (t : PlainType) (s : Filling) → IsAfter (with_type t s) suc s
behind_type t s = record { types_ = λ i. refl; heads_ = λ i. refl }

pub last_arg : {a s b : Filling} (t : PlainType) → ComposesFillings a s b → ComposesFillings (with_type t a) (filling_beyond s) (with_type t b)
last_arg {a = a} {s = s} {b = b} t x = record { types_ = go; heads_ = go2 }
  where
    go : (i : ℕ) → fill (with_type t a) ((filling_beyond s).type_for i) ≡ (with_type t b).type_for i
    go zero = refl
    go (suc i) = fill_after (behind_type t a) (s.type_for i) ∙ x.types_ i

    go2 : (i : ℕ) → variable_through ((filling_beyond s).head_for i) (with_type t a).head_for ≡ (with_type t b).head_for i
    go2 zero = refl
    go2 (suc i) = bind_first (s.head_for i) a.head_for ∙ x.heads_ i

pub args_last : {a s b : Filling} (n : ℕ) (us : PlainTypes) → ComposesFillings a s b → ComposesFillings (with_types n us a) (filling_past n s) (with_types n us b)
args_last zero us x = x
args_last {a = a} {s = s} {b = b} (suc n) no_type x =
    subst (λ z. ComposesFillings (with_types n no_type (with_type Top a)) z (with_types n no_type (with_type Top b))) (filling_after n s) (args_last n no_type (last_arg Top x))
args_last {a = a} {s = s} {b = b} (suc n) (types t ts) x =
    subst (λ z. ComposesFillings (with_types n ts (with_type t a)) z (with_types n ts (with_type t b))) (filling_after n s) (args_last n ts (last_arg t x))

pub all_before : (s : Filling) → ComposesFillings s no_filling s
all_before s = record { types_ = λ i. refl; heads_ = λ i. refl }

pub all_after : (s : Filling) → FillsNormal s → ComposesFillings no_filling s s
all_after s x = record { types_ = λ i. fill_same (s.type_for i) no_filling_still (x.types_ i); heads_ = λ i. bind_some (s.head_for i) }

-- a replacement, and then a filling

pub as_further : (o : Option ℕ) → head_of_variable (next_variable o) ≡ rename_head suc (head_of_variable o)
as_further None = refl
as_further (Some i) = refl

pub as_applied : (o : Option ℕ) (us : PlainTypes) → apply_variable o us ≡ apply_head (head_of_variable o) us
as_applied None us = refl
as_applied (Some i) us = refl

pub filling_crosses_past : (n : ℕ) (s : Filling) → FillCrosses (filling_past n (filling_beyond s)) (filling_past n s) (beyond_times n suc) (beyond_times n suc)
filling_crosses_past zero s = binder_crosses s
filling_crosses_past (suc n) s = fill_crosses_beyond (filling_crosses_past n s)

pub fill_head_further : (s : Filling) (h : Head) → fill_head (filling_beyond s) (rename_head suc h) ≡ rename_head suc (fill_head s h)
fill_head_further s (variable i) = as_further (s.head_for i)
fill_head_further s (operator n b) = ap (operator n) (fill_renamed b (filling_crosses_past n s))
fill_head_further s nothing = refl

pub record FillsReplaced (s : Filling) (r q : Replacement) : Type 0 where
  pub types_ : (i : ℕ) → fill s (r.type_of i) ≡ q.type_of i
  pub heads_ : (i : ℕ) → fill_head s (r.head_of i) ≡ q.head_of i

pub fills_replaced_beyond : {s : Filling} {r q : Replacement} → FillsReplaced s r q → FillsReplaced (filling_beyond s) (replacement_beyond r) (replacement_beyond q)
fills_replaced_beyond {s = s} {r = r} {q = q} x = record { types_ = go; heads_ = go2 }
  where
    go : (i : ℕ) → fill (filling_beyond s) ((replacement_beyond r).type_of i) ≡ (replacement_beyond q).type_of i
    go zero = refl
    go (suc i) = fill_renamed (r.type_of i) (binder_crosses s) ∙ ap (rename suc) (x.types_ i)

    go2 : (i : ℕ) → fill_head (filling_beyond s) ((replacement_beyond r).head_of i) ≡ (replacement_beyond q).head_of i
    go2 zero = refl
    go2 (suc i) = fill_head_further s (r.head_of i) ∙ ap (rename_head suc) (x.heads_ i)

pub fills_replaced_under : {s : Filling} {r q : Replacement} (bs : PlainBounds) → FillsReplaced s r q → FillsReplaced (filling_beyond_all (replace_bounds r bs) s) (replacement_beyond_all bs r) (replacement_beyond_all bs q)
fills_replaced_under no_bound x = x
fills_replaced_under (bounds b bs) x = fills_replaced_under bs (fills_replaced_beyond x)

pub head_filled : (s : Filling) → FillsNormal s → (h : Head) (us : PlainTypes) → fill s (apply_head h us) ≡ apply_head (fill_head s h) (fill_types s us)
head_filled s x (variable i) us = as_applied (s.head_for i) (fill_types s us)
head_filled s x (operator n b) us =
    fill_fill b (args_first n us (all_before s)) ∙ sym (fill_fill b (args_last n (fill_types s us) (all_after s x)))
head_filled s x nothing us = refl

mutual
  pub fill_replace : {s : Filling} {r q : Replacement} (t : PlainType) → FillsNormal s → FillsReplaced s r q → fill s (replace r t) ≡ replace q t
  fill_replace Top n x = refl
  fill_replace Int n x = refl
  fill_replace Char n x = refl
  fill_replace Str n x = refl
  fill_replace Boolean n x = refl
  fill_replace (Var i) n x = x.types_ i
  fill_replace {s = s} {r = r} (Apply i ts) n x = head_filled s n (r.head_of i) (replace_types r ts) ∙ ap₂ apply_head (x.heads_ i) (fill_types_replace ts n x)
  fill_replace (Chan m t) n x = ap (Chan m) (fill_replace t n x)
  fill_replace {r = r} (Fields bs ps ls) n x =
      three Fields (fill_bounds_replace bs n x) (fill_types_replace ps (fills_normal_under (replace_bounds r bs) n) (fills_replaced_under bs x)) (fill_labels_replace ls (fills_normal_under (replace_bounds r bs) n) (fills_replaced_under bs x))
  fill_replace (Rec t) n x = ap Rec (fill_replace t (fills_normal_beyond n) (fills_replaced_beyond x))

  pub fill_types_replace : {s : Filling} {r q : Replacement} (t : PlainTypes) → FillsNormal s → FillsReplaced s r q → fill_types s (replace_types r t) ≡ replace_types q t
  fill_types_replace no_type n x = refl
  fill_types_replace (types t ts) n x = ap₂ types (fill_replace t n x) (fill_types_replace ts n x)

  pub fill_labels_replace : {s : Filling} {r q : Replacement} (t : PlainLabels) → FillsNormal s → FillsReplaced s r q → fill_labels s (replace_labels r t) ≡ replace_labels q t
  fill_labels_replace no_label n x = refl
  fill_labels_replace (labels l t ts) n x = ap₂ (labels l) (fill_replace t n x) (fill_labels_replace ts n x)

  pub fill_bounds_replace : {s : Filling} {r q : Replacement} (t : PlainBounds) → FillsNormal s → FillsReplaced s r q → fill_bounds s (replace_bounds r t) ≡ replace_bounds q t
  fill_bounds_replace no_bound n x = refl
  fill_bounds_replace (bounds b bs) n x = ap₂ bounds (fill_bound_replace b n x) (fill_bounds_replace bs (fills_normal_beyond n) (fills_replaced_beyond x))

  pub fill_bound_replace : {s : Filling} {r q : Replacement} (b : PlainBound) → FillsNormal s → FillsReplaced s r q → fill_bound s (replace_bound r b) ≡ replace_bound q b
  fill_bound_replace Free n x = refl
  fill_bound_replace {s = s} {r = r} (Below t) n x = fill_made s (replace r t) ∙ ap bound_by (fill_replace t n x)
  fill_bound_replace (Operator k) n x = refl

-- a filling, and then a replacement

pub from_next : (o : Option ℕ) (f : ℕ → Head) → head_through (next_variable o) (head_beyond f) ≡ rename_head suc (head_through o f)
from_next None f = refl
from_next (Some i) f = refl

pub record ReplacesFilled (r : Replacement) (s : Filling) (q : Replacement) : Type 0 where
  pub types_ : (i : ℕ) → replace r (s.type_for i) ≡ q.type_of i
  pub heads_ : (i : ℕ) → head_through (s.head_for i) r.head_of ≡ q.head_of i

pub replaces_filled_beyond : {r : Replacement} {s : Filling} {q : Replacement} → ReplacesFilled r s q → ReplacesFilled (replacement_beyond r) (filling_beyond s) (replacement_beyond q)
replaces_filled_beyond {r = r} {s = s} {q = q} x = record { types_ = go; heads_ = go2 }
  where
    go : (i : ℕ) → replace (replacement_beyond r) ((filling_beyond s).type_for i) ≡ (replacement_beyond q).type_of i
    go zero = refl
    go (suc i) = replace_further r (s.type_for i) ∙ ap (rename suc) (x.types_ i)

    go2 : (i : ℕ) → head_through ((filling_beyond s).head_for i) (replacement_beyond r).head_of ≡ (replacement_beyond q).head_of i
    go2 zero = refl
    go2 (suc i) = from_next (s.head_for i) r.head_of ∙ ap (rename_head suc) (x.heads_ i)

pub replaces_filled_under : {r : Replacement} {s : Filling} {q : Replacement} (bs : PlainBounds) → ReplacesFilled r s q → ReplacesFilled (replacement_beyond_all (fill_bounds s bs) r) (filling_beyond_all bs s) (replacement_beyond_all bs q)
replaces_filled_under no_bound x = x
replaces_filled_under (bounds b bs) x = replaces_filled_under bs (replaces_filled_beyond x)

pub from_applied : (r : Replacement) (o : Option ℕ) (us : PlainTypes) → replace r (apply_variable o us) ≡ apply_head (head_through o r.head_of) (replace_types r us)
from_applied r None us = refl
from_applied r (Some i) us = refl

pub replace_made : (r : Replacement) (u : PlainType) → replace_bound r (bound_by u) ≡ bound_by (replace r u)
replace_made r Top = refl
replace_made r Int = refl
replace_made r Char = refl
replace_made r Str = refl
replace_made r Boolean = refl
replace_made r (Var i) = refl
replace_made r (Apply i ts) = refl
replace_made r (Chan m t) = refl
replace_made r (Fields bs ps ls) = refl
replace_made r (Rec t) = refl

mutual
  pub replace_fill : {r : Replacement} {s : Filling} {q : Replacement} (t : PlainType) → ReplacesFilled r s q → replace r (fill s t) ≡ replace q t
  replace_fill Top x = refl
  replace_fill Int x = refl
  replace_fill Char x = refl
  replace_fill Str x = refl
  replace_fill Boolean x = refl
  replace_fill (Var i) x = x.types_ i
  replace_fill {r = r} {s = s} (Apply i ts) x = from_applied r (s.head_for i) (fill_types s ts) ∙ ap₂ apply_head (x.heads_ i) (replace_types_fill ts x)
  replace_fill (Chan m t) x = ap (Chan m) (replace_fill t x)
  replace_fill (Fields bs ps ls) x = three Fields (replace_bounds_fill bs x) (replace_types_fill ps (replaces_filled_under bs x)) (replace_labels_fill ls (replaces_filled_under bs x))
  replace_fill (Rec t) x = ap Rec (replace_fill t (replaces_filled_beyond x))

  pub replace_types_fill : {r : Replacement} {s : Filling} {q : Replacement} (t : PlainTypes) → ReplacesFilled r s q → replace_types r (fill_types s t) ≡ replace_types q t
  replace_types_fill no_type x = refl
  replace_types_fill (types t ts) x = ap₂ types (replace_fill t x) (replace_types_fill ts x)

  pub replace_labels_fill : {r : Replacement} {s : Filling} {q : Replacement} (t : PlainLabels) → ReplacesFilled r s q → replace_labels r (fill_labels s t) ≡ replace_labels q t
  replace_labels_fill no_label x = refl
  replace_labels_fill (labels l t ts) x = ap₂ (labels l) (replace_fill t x) (replace_labels_fill ts x)

  pub replace_bounds_fill : {r : Replacement} {s : Filling} {q : Replacement} (t : PlainBounds) → ReplacesFilled r s q → replace_bounds r (fill_bounds s t) ≡ replace_bounds q t
  replace_bounds_fill no_bound x = refl
  replace_bounds_fill (bounds b bs) x = ap₂ bounds (replace_bound_fill b x) (replace_bounds_fill bs (replaces_filled_beyond x))

  pub replace_bound_fill : {r : Replacement} {s : Filling} {q : Replacement} (b : PlainBound) → ReplacesFilled r s q → replace_bound r (fill_bound s b) ≡ replace_bound q b
  replace_bound_fill Free x = refl
  replace_bound_fill {r = r} {s = s} (Below t) x = replace_made r (fill s t) ∙ ap bound_by (replace_fill t x)
  replace_bound_fill (Operator k) x = refl

pub replacement_after : (n : ℕ) (s : Replacement) → replacement_past n (replacement_beyond s) ≡ replacement_beyond (replacement_past n s)
replacement_after zero s = refl
replacement_after (suc n) s = ap replacement_beyond (replacement_after n s)

pub crosses_past : (n : ℕ) (s : Replacement) → Crosses (replacement_past n (replacement_beyond s)) (replacement_past n s) (beyond_times n suc) (beyond_times n suc)
crosses_past zero s = one_binder s
crosses_past (suc n) s = crosses_beyond (crosses_past n s)

pub head_replaced_further : (s : Replacement) (h : Head) → replace_head (replacement_beyond s) (rename_head suc h) ≡ rename_head suc (replace_head s h)
head_replaced_further s (variable i) = refl
head_replaced_further s (operator n b) = ap (operator n) (replace_renamed b (crosses_past n s))
head_replaced_further s nothing = refl

-- q is r and then s
pub record Composes (q s r : Replacement) : Type 0 where
  pub types_ : (i : ℕ) → q.type_of i ≡ replace s (r.type_of i)
  pub heads_ : (i : ℕ) → q.head_of i ≡ replace_head s (r.head_of i)
  pub second : ReplacesNormal s

pub composes_beyond : {q s r : Replacement} → Composes q s r → Composes (replacement_beyond q) (replacement_beyond s) (replacement_beyond r)
composes_beyond {q = q} {s = s} {r = r} x = record { types_ = go; heads_ = go2; second = normal_beyond x.second }
  where
    go : (i : ℕ) → (replacement_beyond q).type_of i ≡ replace (replacement_beyond s) ((replacement_beyond r).type_of i)
    go zero = refl
    go (suc i) = ap (rename suc) (x.types_ i) ∙ sym (replace_further s (r.type_of i))

    go2 : (i : ℕ) → (replacement_beyond q).head_of i ≡ replace_head (replacement_beyond s) ((replacement_beyond r).head_of i)
    go2 zero = refl
    go2 (suc i) = ap (rename_head suc) (x.heads_ i) ∙ sym (head_replaced_further s (r.head_of i))

pub composes_under : {q s r : Replacement} (bs : PlainBounds) → Composes q s r → Composes (replacement_beyond_all bs q) (replacement_beyond_all (replace_bounds r bs) s) (replacement_beyond_all bs r)
composes_under no_bound x = x
composes_under (bounds b bs) x = composes_under bs (composes_beyond x)

-- types put for the n innermost variables before a replacement
abbrev args_then : ℕ → PlainTypes → Replacement → Replacement
args_then zero us s = s
args_then (suc n) no_type s = args_then n no_type (with_arg (Plain Top) s)
args_then (suc n) (types t ts) s = args_then n ts (with_arg (Plain t) s)

pub first_arg_replaced : {s : Replacement} {a : Filling} {b : Replacement} (t : PlainType) → ReplacesFilled s a b → ReplacesFilled s (with_type t a) (with_arg (Plain (replace s t)) b)
first_arg_replaced {s = s} {a = a} {b = b} t x = record { types_ = go; heads_ = go2 }
  where
    go : (i : ℕ) → replace s ((with_type t a).type_for i) ≡ (with_arg (Plain (replace s t)) b).type_of i
    go zero = refl
    go (suc i) = x.types_ i

    go2 : (i : ℕ) → head_through ((with_type t a).head_for i) s.head_of ≡ (with_arg (Plain (replace s t)) b).head_of i
    go2 zero = refl
    go2 (suc i) = x.heads_ i

pub args_first_replaced : {s : Replacement} {a : Filling} {b : Replacement} (n : ℕ) (us : PlainTypes) → ReplacesFilled s a b → ReplacesFilled s (with_types n us a) (args_then n (replace_types s us) b)
args_first_replaced zero us x = x
args_first_replaced (suc n) no_type x = args_first_replaced n no_type (first_arg_replaced Top x)
args_first_replaced (suc n) (types t ts) x = args_first_replaced n ts (first_arg_replaced t x)

pub after_past : {s : Filling} {f : ℕ → ℕ} {r : Filling} (m : ℕ) → IsAfter s f r → IsAfter (filling_past m s) (beyond_times m f) (filling_past m r)
after_past zero h = h
after_past (suc m) h = after_beyond (after_past m h)

pub fill_head_behind : (t : PlainType) (a : Filling) (h : Head) → fill_head (with_type t a) (rename_head suc h) ≡ fill_head a h
fill_head_behind t a (variable i) = refl
fill_head_behind t a (operator m c) = ap (operator m) (fill_after (after_past m (behind_type t a)) c)
fill_head_behind t a nothing = refl

pub last_arg_replaced : {a : Filling} {s b : Replacement} (t : PlainType) → FillsReplaced a s b → FillsReplaced (with_type t a) (replacement_beyond s) (with_arg (Plain t) b)
last_arg_replaced {a = a} {s = s} {b = b} t x = record { types_ = go; heads_ = go2 }
  where
    go : (i : ℕ) → fill (with_type t a) ((replacement_beyond s).type_of i) ≡ (with_arg (Plain t) b).type_of i
    go zero = refl
    go (suc i) = fill_after (behind_type t a) (s.type_of i) ∙ x.types_ i

    go2 : (i : ℕ) → fill_head (with_type t a) ((replacement_beyond s).head_of i) ≡ (with_arg (Plain t) b).head_of i
    go2 zero = refl
    go2 (suc i) = fill_head_behind t a (s.head_of i) ∙ x.heads_ i

pub args_last_replaced : {a : Filling} {s b : Replacement} (n : ℕ) (us : PlainTypes) → FillsReplaced a s b → FillsReplaced (with_types n us a) (replacement_past n s) (args_then n us b)
args_last_replaced zero us x = x
args_last_replaced {a = a} {s = s} {b = b} (suc n) no_type x =
    subst (λ z. FillsReplaced (with_types n no_type (with_type Top a)) z (args_then n no_type (with_arg (Plain Top) b))) (replacement_after n s) (args_last_replaced n no_type (last_arg_replaced Top x))
args_last_replaced {a = a} {s = s} {b = b} (suc n) (types t ts) x =
    subst (λ z. FillsReplaced (with_types n ts (with_type t a)) z (args_then n ts (with_arg (Plain t) b))) (replacement_after n s) (args_last_replaced n ts (last_arg_replaced t x))

pub fill_head_same : (h : Head) → HeadIsNormal h → fill_head no_filling h ≡ h
fill_head_same (variable i) x = refl
fill_head_same (operator m c) x = ap (operator m) (fill_same c (still_past m) x)
fill_head_same nothing x = refl

pub replaced_before : (s : Replacement) → ReplacesFilled s no_filling s
replaced_before s = record { types_ = λ i. refl; heads_ = λ i. refl }

pub replaced_after : (s : Replacement) → ReplacesNormal s → FillsReplaced no_filling s s
replaced_after s x = record { types_ = λ i. fill_same (s.type_of i) no_filling_still (x.types_ i); heads_ = λ i. fill_head_same (s.head_of i) (x.heads_ i) }

pub head_followed : (s : Replacement) → ReplacesNormal s → (h : Head) (us : PlainTypes) → replace s (apply_head h us) ≡ apply_head (replace_head s h) (replace_types s us)
head_followed s x (variable i) us = refl
head_followed s x (operator n b) us =
    replace_fill b (args_first_replaced n us (replaced_before s))
    ∙ sym (fill_replace b (fills_normal_types n (replace_types s us) (replace_types_normal us x) no_filling_normal) (args_last_replaced n (replace_types s us) (replaced_after s x)))
head_followed s x nothing us = refl

mutual
  pub replace_twice : {q s r : Replacement} (t : PlainType) → Composes q s r → replace s (replace r t) ≡ replace q t
  replace_twice Top x = refl
  replace_twice Int x = refl
  replace_twice Char x = refl
  replace_twice Str x = refl
  replace_twice Boolean x = refl
  replace_twice (Var i) x = sym (x.types_ i)
  replace_twice {s = s} {r = r} (Apply i ts) x = head_followed s x.second (r.head_of i) (replace_types r ts) ∙ ap₂ apply_head (sym (x.heads_ i)) (replace_types_twice ts x)
  replace_twice (Chan m t) x = ap (Chan m) (replace_twice t x)
  replace_twice (Fields bs ps ls) x =
      three Fields (replace_bounds_twice bs x) (replace_types_twice ps (composes_under bs x)) (replace_labels_twice ls (composes_under bs x))
  replace_twice (Rec t) x = ap Rec (replace_twice t (composes_beyond x))

  pub replace_types_twice : {q s r : Replacement} (t : PlainTypes) → Composes q s r → replace_types s (replace_types r t) ≡ replace_types q t
  replace_types_twice no_type x = refl
  replace_types_twice (types t ts) x = ap₂ types (replace_twice t x) (replace_types_twice ts x)

  pub replace_labels_twice : {q s r : Replacement} (t : PlainLabels) → Composes q s r → replace_labels s (replace_labels r t) ≡ replace_labels q t
  replace_labels_twice no_label x = refl
  replace_labels_twice (labels l t ts) x = ap₂ (labels l) (replace_twice t x) (replace_labels_twice ts x)

  pub replace_bounds_twice : {q s r : Replacement} (t : PlainBounds) → Composes q s r → replace_bounds s (replace_bounds r t) ≡ replace_bounds q t
  replace_bounds_twice no_bound x = refl
  replace_bounds_twice (bounds b bs) x = ap₂ bounds (replace_bound_twice b x) (replace_bounds_twice bs (composes_beyond x))

  pub replace_bound_twice : {q s r : Replacement} (t : PlainBound) → Composes q s r → replace_bound s (replace_bound r t) ≡ replace_bound q t
  replace_bound_twice Free x = refl
  replace_bound_twice {s = s} {r = r} (Below t) x = replace_made s (replace r t) ∙ ap bound_by (replace_twice t x)
  replace_bound_twice (Operator n) x = refl

-- ONE ARGUMENT

pub rename_head_same : (h : Head) → rename_head (λ j. j) h ≡ h
rename_head_same (variable i) = refl
rename_head_same (operator n t) = ap (operator n) (rename_same t (stays_times n))
rename_head_same nothing = refl

crosses_back : (a : PlainArg) (s : Replacement) → Crosses (with_arg a s) s suc (λ j. j)
crosses_back a s = record { types_ = λ i. sym (rename_same (s.type_of i) (record { each = λ j. refl })); heads_ = λ i. sym (rename_head_same (s.head_of i)) }

-- an argument in front is for variable 0 alone
pub replace_dropped : (a : PlainArg) (s : Replacement) (t : PlainType) → replace (with_arg a s) (rename suc t) ≡ replace s t
replace_dropped a s t = replace_renamed t (crosses_back a s) ∙ rename_same (replace s t) (record { each = λ j. refl })

crosses_more : {r2 r : Replacement} {g h : ℕ → ℕ} (n : ℕ) → Crosses r2 r g h → Crosses (replacement_past n r2) (replacement_past n r) (beyond_times n g) (beyond_times n h)
crosses_more zero x = x
crosses_more (suc n) x = crosses_beyond (crosses_more n x)

-- an argument in front, at once or last
pub argument_last : (a : PlainArg) (s : Replacement) → ArgIsNormal a → ReplacesNormal s → Composes (with_arg a s) (arguments (a ∷ [])) (replacement_beyond s)
argument_last a s w x = record { types_ = go; heads_ = go2; second = arg_normal a w nothing_normal }
  where
    go : (i : ℕ) → (with_arg a s).type_of i ≡ replace (arguments (a ∷ [])) ((replacement_beyond s).type_of i)
    go zero = refl
    go (suc i) = sym (replace_dropped a no_replacement (s.type_of i) ∙ replace_same (s.type_of i) nothing_changed (x.types_ i))

    back : (h : Head) → HeadIsNormal h → replace_head (arguments (a ∷ [])) (rename_head suc h) ≡ h
    back (variable i) w = refl
    back (operator n t) w = ap (operator n) (replace_renamed t (crosses_more n (crosses_back a no_replacement)) ∙ rename_same (replace (replacement_past n no_replacement) t) (stays_times n) ∙ replace_same t (past_same n nothing_changed) w)
    back nothing w = refl

    go2 : (i : ℕ) → (with_arg a s).head_of i ≡ replace_head (arguments (a ∷ [])) ((replacement_beyond s).head_of i)
    go2 zero = refl
    go2 (suc i) = sym (back (s.head_of i) (x.heads_ i))

-- and first
pub argument_first : (a : PlainArg) (s : Replacement) → ReplacesNormal s → Composes (with_arg (replace_arg s a) s) s (arguments (a ∷ []))
argument_first a s x = record { types_ = go; heads_ = go2; second = x }
  where
    type_first : (a : PlainArg) → type_in (replace_arg s a) ≡ replace s (type_in a)
    type_first (Plain t) = refl
    type_first (Op n t) = refl

    head_first_ : (a : PlainArg) → head_in (replace_arg s a) ≡ replace_head s (head_in a)
    head_first_ (Plain t) = refl
    head_first_ (Op n t) = refl

    go : (i : ℕ) → (with_arg (replace_arg s a) s).type_of i ≡ replace s ((arguments (a ∷ [])).type_of i)
    go zero = type_first a
    go (suc i) = refl

    go2 : (i : ℕ) → (with_arg (replace_arg s a) s).head_of i ≡ replace_head s ((arguments (a ∷ [])).head_of i)
    go2 zero = head_first_ a
    go2 (suc i) = refl

pub arg_replaced_normal : (s : Replacement) (a : PlainArg) → ReplacesNormal s → ArgIsNormal (replace_arg s a)
arg_replaced_normal s (Plain t) x = replace_normal t x
arg_replaced_normal s (Op n t) x = replace_normal t (past n)
  where
    past : (n : ℕ) → ReplacesNormal (replacement_past n s)
    past zero = x
    past (suc n) = normal_beyond (past n)

-- an argument put in and then a replacement made, or the other way round
pub argument_crosses : (a : PlainArg) (s : Replacement) (t : PlainType) → ReplacesNormal s → replace s (replace (arguments (a ∷ [])) t) ≡ replace (arguments (replace_arg s a ∷ [])) (replace (replacement_beyond s) t)
argument_crosses a s t x = replace_twice t (argument_first a s x) ∙ sym (replace_twice t (argument_last (replace_arg s a) s (arg_replaced_normal s a x) x))

args_and : (args : List PlainArg) (a : PlainArg) (s : Replacement) → with_args (args ++ a ∷ []) s ≡ with_arg a (with_args args s)
args_and [] a s = refl
args_and (b ∷ args) a s = args_and args a (with_arg b s)

pub args_normal : (args : List PlainArg) {s : Replacement} → ArgsAreNormal args → ReplacesNormal s → ReplacesNormal (with_args args s)
args_normal [] w x = x
args_normal (a ∷ args) w x = args_normal args w.1 (arg_normal a w.0 x)

pub arguments_one_by_one : (args : List PlainArg) (a : PlainArg) (t : PlainType) → ArgsAreNormal args → ArgIsNormal a → replace (arguments (args ++ a ∷ [])) t ≡ replace (arguments (a ∷ [])) (replace (replacement_beyond (arguments args)) t)
arguments_one_by_one args a t w v =
    ap (λ r. replace r t) (args_and args a no_replacement)
    ∙ sym (replace_twice t (argument_last a (arguments args) v (args_normal args w nothing_normal)))

-- RENAMING BEFORE AND AFTER

pub filled_renamed : (s : Filling) (f : ℕ → ℕ) (t : PlainType) → rename f (fill s t) ≡ fill (filling_then_renaming s f) t
filled_renamed s f t =
    sym (fill_renamed {s2 = filling_then_renaming s f} {s = s} {f = λ i. i} {g = f} t (record { types_ = λ i. refl; heads_ = λ i. refl }))
    ∙ ap (fill (filling_then_renaming s f)) (rename_same t (record { each = λ i. refl }))

pub replaced_renamed : (r : Replacement) (f : ℕ → ℕ) (t : PlainType) → rename f (replace r t) ≡ replace (replacement_then_renaming r f) t
replaced_renamed r f t =
    sym (replace_renamed {r2 = replacement_then_renaming r f} {r = r} {f = λ i. i} {g = f} t (record { types_ = λ i. refl; heads_ = λ i. refl }))
    ∙ ap (replace (replacement_then_renaming r f)) (rename_same t (record { each = λ i. refl }))

pub renamed_replaced : (f : ℕ → ℕ) (r : Replacement) (t : PlainType) → replace r (rename f t) ≡ replace (renaming_then_replacement f r) t
renamed_replaced f r t =
    replace_renamed {r2 = r} {r = renaming_then_replacement f r} {f = f} {g = λ i. i} t (record { types_ = λ i. sym (rename_same (r.type_of (f i)) (record { each = λ j. refl })); heads_ = λ i. sym (rename_head_same (r.head_of (f i))) })
    ∙ rename_same (replace (renaming_then_replacement f r) t) (record { each = λ i. refl })
