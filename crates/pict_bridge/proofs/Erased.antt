-- Erasing keeps what holds of types, and changes places with renaming and with putting arguments in.
use Rattle.std.proofs.Common.{◌≡◌, ℕ, zero, suc, List, [], ◌∷◌, Option, Some, None, Bool, true, false, refl, sym, ◌∙◌, ap, ap₂, subst}
use Rattle.std.specs.Prelude.{nat_eq}
use Rattle.pict_types.specs.Types.{Capability, PlainType, Top, Int, Char, Str, Boolean, Var, Apply, Chan, Fields, Rec, PlainTypes, no_type, types, PlainLabels, no_label, labels, PlainBound, Free, Below, Operator, PlainBounds, no_bound, bounds, PlainArg, Plain, Op, TypeContext, under, count_types, type_at, is_top}
use Rattle.pict_types.specs.Renaming.{beyond, beyond_all, beyond_times, rename, rename_types, rename_labels, rename_bounds, rename_bound, bound_at, bound_of, moved}
use Rattle.pict_types.specs.Replacing.{bound_by, Filling, next_variable, apply_variable, filling_beyond, filling_beyond_all, fill, fill_types, fill_labels, fill_bound, fill_bounds, with_type, with_types, Head, variable, operator, nothing, apply_head, rename_head, Replacement, replacement_beyond, replacement_beyond_all, replace, replace_types, replace_labels, replace_bound, replace_bounds, arguments, with_args, with_arg, type_in, head_in, unfolding_of}
use Rattle.pict_types.specs.Kinds.{Kind, proper, operator_of, kind_by, kinds, kinds_under, with_parameters, StandsBeforeAll, IsWellFormed, AreWellFormed, LabelsAreWellFormed, BoundsAreWellFormed, BoundIsWellFormed, ArgIsWellFormed}
use Rattle.pict_syntax.specs.declared.type_tree.Mark.{Mark}
use Rattle.pict_types.proofs.Congruent.{three}
use Rattle.pict_sub.specs.Subtyping.{CarriesUp, read_read, both_read, CarriesDown, write_write, respond_write, both_write, respond_respond, IsSubtype, same, through, below_top, below_bound, upward, downward, by_fields, AreSubtypes, none, more, HasLabels, has_none, has_label, by_arguments, AreByMarks, no_more, plus, minus, unmarked}
use Rattle.pict_typing.specs.Erasing.{erased, erased_types, erased_labels, erased_bound, erased_bounds, erased_capability}
use Rattle.pict_typing.specs.Worlds.{IsTypeIn}
use Rattle.pict_bridge.specs.Embedding.{erased_context}

-- ---- renaming

pub same_beyond_all : (bs : PlainBounds) (f : ℕ → ℕ) → beyond_all (erased_bounds bs) f ≡ beyond_all bs f
same_beyond_all no_bound f = refl
same_beyond_all (bounds b bs) f = same_beyond_all bs (beyond f)

mutual
  pub erased_renamed : (f : ℕ → ℕ) (t : PlainType) → erased (rename f t) ≡ rename f (erased t)
  erased_renamed f Top = refl
  erased_renamed f Int = refl
  erased_renamed f Char = refl
  erased_renamed f Str = refl
  erased_renamed f Boolean = refl
  erased_renamed f (Var i) = refl
  erased_renamed f (Apply i ts) = ap (Apply (f i)) (erased_types_renamed f ts)
  erased_renamed f (Chan m t) = ap (Chan (erased_capability m)) (erased_renamed f t)
  erased_renamed f (Fields bs ps ls) =
      three Fields (erased_bounds_renamed f bs)
      (erased_types_renamed (beyond_all bs f) ps ∙ ap (λ g. rename_types g (erased_types ps)) (sym (same_beyond_all bs f)))
      (erased_labels_renamed (beyond_all bs f) ls ∙ ap (λ g. rename_labels g (erased_labels ls)) (sym (same_beyond_all bs f)))
  erased_renamed f (Rec t) = ap Rec (erased_renamed (beyond f) t)

  pub erased_types_renamed : (f : ℕ → ℕ) (t : PlainTypes) → erased_types (rename_types f t) ≡ rename_types f (erased_types t)
  erased_types_renamed f no_type = refl
  erased_types_renamed f (types t ts) = ap₂ types (erased_renamed f t) (erased_types_renamed f ts)

  pub erased_labels_renamed : (f : ℕ → ℕ) (t : PlainLabels) → erased_labels (rename_labels f t) ≡ rename_labels f (erased_labels t)
  erased_labels_renamed f no_label = refl
  erased_labels_renamed f (labels l t ts) = ap₂ (labels l) (erased_renamed f t) (erased_labels_renamed f ts)

  pub erased_bounds_renamed : (f : ℕ → ℕ) (t : PlainBounds) → erased_bounds (rename_bounds f t) ≡ rename_bounds f (erased_bounds t)
  erased_bounds_renamed f no_bound = refl
  erased_bounds_renamed f (bounds b bs) = ap₂ bounds (erased_bound_renamed f b) (erased_bounds_renamed (beyond f) bs)

  pub erased_bound_renamed : (f : ℕ → ℕ) (t : PlainBound) → erased_bound (rename_bound f t) ≡ rename_bound f (erased_bound t)
  erased_bound_renamed f Free = refl
  erased_bound_renamed f (Below t) = ap Below (erased_renamed f t)
  erased_bound_renamed f (Operator n) = refl

-- ---- filling and replacing

abbrev erased_head : Head → Head
erased_head (variable i) = variable i
erased_head (operator n t) = operator n (erased t)
erased_head nothing = nothing

bound_by_erased : (t : PlainType) → erased_bound (bound_by t) ≡ bound_by (erased t)
bound_by_erased Top = refl
bound_by_erased Int = refl
bound_by_erased Char = refl
bound_by_erased Str = refl
bound_by_erased Boolean = refl
bound_by_erased (Var i) = refl
bound_by_erased (Apply i ts) = refl
bound_by_erased (Chan m t) = refl
bound_by_erased (Fields bs ps ls) = refl
bound_by_erased (Rec t) = refl

record FillsErased (g f : Filling) : Type 0 where
  types_ : (i : ℕ) → g.type_for i ≡ erased (f.type_for i)
  heads_ : (i : ℕ) → g.head_for i ≡ f.head_for i

fills_erased_beyond : {g f : Filling} → FillsErased g f → FillsErased (filling_beyond g) (filling_beyond f)
fills_erased_beyond {g = g} {f = f} x = record { types_ = go; heads_ = go2 }
  where
    go : (i : ℕ) → (filling_beyond g).type_for i ≡ erased ((filling_beyond f).type_for i)
    go zero = refl
    go (suc i) = ap (rename suc) (x.types_ i) ∙ sym (erased_renamed suc (f.type_for i))

    go2 : (i : ℕ) → (filling_beyond g).head_for i ≡ (filling_beyond f).head_for i
    go2 zero = refl
    go2 (suc i) = ap next_variable (x.heads_ i)

fills_erased_under : {g f : Filling} (bs : PlainBounds) (cs : PlainBounds) → cs ≡ erased_bounds bs → FillsErased g f → FillsErased (filling_beyond_all cs g) (filling_beyond_all bs f)
fills_erased_under {g = g} {f = f} bs cs e x = subst (λ z. FillsErased (filling_beyond_all z g) (filling_beyond_all bs f)) (sym e) (go bs x)
  where
    go : {g f : Filling} (bs : PlainBounds) → FillsErased g f → FillsErased (filling_beyond_all (erased_bounds bs) g) (filling_beyond_all bs f)
    go no_bound x = x
    go (bounds b bs) x = go bs (fills_erased_beyond x)

variable_erased : (o : Option ℕ) (us : PlainTypes) → erased (apply_variable o us) ≡ apply_variable o (erased_types us)
variable_erased None us = refl
variable_erased (Some i) us = refl

mutual
  fill_erased : {g f : Filling} (t : PlainType) → FillsErased g f → fill g (erased t) ≡ erased (fill f t)
  fill_erased Top x = refl
  fill_erased Int x = refl
  fill_erased Char x = refl
  fill_erased Str x = refl
  fill_erased Boolean x = refl
  fill_erased (Var i) x = x.types_ i
  fill_erased {f = f} (Apply i ts) x = ap₂ apply_variable (x.heads_ i) (fill_types_erased ts x) ∙ sym (variable_erased (f.head_for i) (fill_types f ts))
  fill_erased (Chan m t) x = ap (Chan (erased_capability m)) (fill_erased t x)
  fill_erased (Fields bs ps ls) x = three Fields (fill_bounds_erased bs x) (fill_types_erased ps (fills_erased_under bs (erased_bounds bs) refl x)) (fill_labels_erased ls (fills_erased_under bs (erased_bounds bs) refl x))
  fill_erased (Rec t) x = ap Rec (fill_erased t (fills_erased_beyond x))

  fill_types_erased : {g f : Filling} (t : PlainTypes) → FillsErased g f → fill_types g (erased_types t) ≡ erased_types (fill_types f t)
  fill_types_erased no_type x = refl
  fill_types_erased (types t ts) x = ap₂ types (fill_erased t x) (fill_types_erased ts x)

  fill_labels_erased : {g f : Filling} (t : PlainLabels) → FillsErased g f → fill_labels g (erased_labels t) ≡ erased_labels (fill_labels f t)
  fill_labels_erased no_label x = refl
  fill_labels_erased (labels l t ts) x = ap₂ (labels l) (fill_erased t x) (fill_labels_erased ts x)

  fill_bounds_erased : {g f : Filling} (t : PlainBounds) → FillsErased g f → fill_bounds g (erased_bounds t) ≡ erased_bounds (fill_bounds f t)
  fill_bounds_erased no_bound x = refl
  fill_bounds_erased (bounds b bs) x = ap₂ bounds (fill_bound_erased b x) (fill_bounds_erased bs (fills_erased_beyond x))

  fill_bound_erased : {g f : Filling} (t : PlainBound) → FillsErased g f → fill_bound g (erased_bound t) ≡ erased_bound (fill_bound f t)
  fill_bound_erased Free x = refl
  fill_bound_erased {f = f} (Below t) x = ap bound_by (fill_erased t x) ∙ sym (bound_by_erased (fill f t))
  fill_bound_erased (Operator n) x = refl

with_type_erased : {g f : Filling} (t : PlainType) → FillsErased g f → FillsErased (with_type (erased t) g) (with_type t f)
with_type_erased {g = g} {f = f} t x = record { types_ = go; heads_ = go2 }
  where
    go : (i : ℕ) → (with_type (erased t) g).type_for i ≡ erased ((with_type t f).type_for i)
    go zero = refl
    go (suc i) = x.types_ i

    go2 : (i : ℕ) → (with_type (erased t) g).head_for i ≡ (with_type t f).head_for i
    go2 zero = refl
    go2 (suc i) = x.heads_ i

with_types_erased : {g f : Filling} (n : ℕ) (us : PlainTypes) → FillsErased g f → FillsErased (with_types n (erased_types us) g) (with_types n us f)
with_types_erased zero us x = x
with_types_erased (suc n) no_type x = with_types_erased n no_type (with_type_erased Top x)
with_types_erased (suc n) (types t ts) x = with_types_erased n ts (with_type_erased t x)

head_erased : (h : Head) (us : PlainTypes) → apply_head (erased_head h) (erased_types us) ≡ erased (apply_head h us)
head_erased (variable i) us = refl
head_erased (operator n t) us = fill_erased t (with_types_erased n us (record { types_ = λ i. refl; heads_ = λ i. refl }))
head_erased nothing us = refl

pub record ReplacesErased (q r : Replacement) : Type 0 where
  pub types_ : (i : ℕ) → q.type_of i ≡ erased (r.type_of i)
  pub heads_ : (i : ℕ) → q.head_of i ≡ erased_head (r.head_of i)

erased_head_renamed : (f : ℕ → ℕ) (h : Head) → rename_head f (erased_head h) ≡ erased_head (rename_head f h)
erased_head_renamed f (variable i) = refl
erased_head_renamed f (operator n t) = ap (operator n) (sym (erased_renamed (beyond_times n f) t))
erased_head_renamed f nothing = refl

replaces_erased_beyond : {q r : Replacement} → ReplacesErased q r → ReplacesErased (replacement_beyond q) (replacement_beyond r)
replaces_erased_beyond {q = q} {r = r} x = record { types_ = go; heads_ = go2 }
  where
    go : (i : ℕ) → (replacement_beyond q).type_of i ≡ erased ((replacement_beyond r).type_of i)
    go zero = refl
    go (suc i) = ap (rename suc) (x.types_ i) ∙ sym (erased_renamed suc (r.type_of i))

    go2 : (i : ℕ) → (replacement_beyond q).head_of i ≡ erased_head ((replacement_beyond r).head_of i)
    go2 zero = refl
    go2 (suc i) = ap (rename_head suc) (x.heads_ i) ∙ erased_head_renamed suc (r.head_of i)

replaces_erased_under : {q r : Replacement} (bs : PlainBounds) → ReplacesErased q r → ReplacesErased (replacement_beyond_all (erased_bounds bs) q) (replacement_beyond_all bs r)
replaces_erased_under no_bound x = x
replaces_erased_under (bounds b bs) x = replaces_erased_under bs (replaces_erased_beyond x)

mutual
  pub replace_erased : {q r : Replacement} (t : PlainType) → ReplacesErased q r → replace q (erased t) ≡ erased (replace r t)
  replace_erased Top x = refl
  replace_erased Int x = refl
  replace_erased Char x = refl
  replace_erased Str x = refl
  replace_erased Boolean x = refl
  replace_erased (Var i) x = x.types_ i
  replace_erased {r = r} (Apply i ts) x = ap₂ apply_head (x.heads_ i) (replace_types_erased ts x) ∙ head_erased (r.head_of i) (replace_types r ts)
  replace_erased (Chan m t) x = ap (Chan (erased_capability m)) (replace_erased t x)
  replace_erased (Fields bs ps ls) x = three Fields (replace_bounds_erased bs x) (replace_types_erased ps (replaces_erased_under bs x)) (replace_labels_erased ls (replaces_erased_under bs x))
  replace_erased (Rec t) x = ap Rec (replace_erased t (replaces_erased_beyond x))

  pub replace_types_erased : {q r : Replacement} (t : PlainTypes) → ReplacesErased q r → replace_types q (erased_types t) ≡ erased_types (replace_types r t)
  replace_types_erased no_type x = refl
  replace_types_erased (types t ts) x = ap₂ types (replace_erased t x) (replace_types_erased ts x)

  pub replace_labels_erased : {q r : Replacement} (t : PlainLabels) → ReplacesErased q r → replace_labels q (erased_labels t) ≡ erased_labels (replace_labels r t)
  replace_labels_erased no_label x = refl
  replace_labels_erased (labels l t ts) x = ap₂ (labels l) (replace_erased t x) (replace_labels_erased ts x)

  pub replace_bounds_erased : {q r : Replacement} (t : PlainBounds) → ReplacesErased q r → replace_bounds q (erased_bounds t) ≡ erased_bounds (replace_bounds r t)
  replace_bounds_erased no_bound x = refl
  replace_bounds_erased (bounds b bs) x = ap₂ bounds (replace_bound_erased b x) (replace_bounds_erased bs (replaces_erased_beyond x))

  pub replace_bound_erased : {q r : Replacement} (t : PlainBound) → ReplacesErased q r → replace_bound q (erased_bound t) ≡ erased_bound (replace_bound r t)
  replace_bound_erased Free x = refl
  replace_bound_erased {r = r} (Below t) x = ap bound_by (replace_erased t x) ∙ sym (bound_by_erased (replace r t))
  replace_bound_erased (Operator n) x = refl

-- arguments, erased
abbrev pub erased_arg : PlainArg → PlainArg
erased_arg (Plain t) = Plain (erased t)
erased_arg (Op n t) = Op n (erased t)

abbrev pub erased_args : List PlainArg → List PlainArg
erased_args [] = []
erased_args (a ∷ args) = erased_arg a ∷ erased_args args

type_in_erased : (a : PlainArg) → type_in (erased_arg a) ≡ erased (type_in a)
type_in_erased (Plain t) = refl
type_in_erased (Op n t) = refl

head_in_erased : (a : PlainArg) → head_in (erased_arg a) ≡ erased_head (head_in a)
head_in_erased (Plain t) = refl
head_in_erased (Op n t) = refl

with_arg_erased : {q r : Replacement} (a : PlainArg) → ReplacesErased q r → ReplacesErased (with_arg (erased_arg a) q) (with_arg a r)
with_arg_erased {q = q} {r = r} a x = record { types_ = go; heads_ = go2 }
  where
    go : (i : ℕ) → (with_arg (erased_arg a) q).type_of i ≡ erased ((with_arg a r).type_of i)
    go zero = type_in_erased a
    go (suc i) = x.types_ i

    go2 : (i : ℕ) → (with_arg (erased_arg a) q).head_of i ≡ erased_head ((with_arg a r).head_of i)
    go2 zero = head_in_erased a
    go2 (suc i) = x.heads_ i

with_args_erased : {q r : Replacement} (args : List PlainArg) → ReplacesErased q r → ReplacesErased (with_args (erased_args args) q) (with_args args r)
with_args_erased [] x = x
with_args_erased (a ∷ args) x = with_args_erased args (with_arg_erased a x)

pub arguments_erased : (args : List PlainArg) → ReplacesErased (arguments (erased_args args)) (arguments args)
arguments_erased args = with_args_erased args (record { types_ = λ i. refl; heads_ = λ i. refl })

-- an unfolding, erased
pub unfolding_erased : (t : PlainType) → unfolding_of (erased t) ≡ erased (unfolding_of t)
unfolding_erased t = replace_erased t (arguments_erased (Plain (Rec t) ∷ []))

-- ---- well formed types

pub same_kind : (b : PlainBound) → kind_by (erased_bound b) ≡ kind_by b
same_kind Free = refl
same_kind (Below t) = refl
same_kind (Operator n) = refl

pub same_kinds_under : (ks : List Kind) (bs : PlainBounds) → kinds_under ks (erased_bounds bs) ≡ kinds_under ks bs
same_kinds_under ks no_bound = refl
same_kinds_under ks (bounds b bs) = ap (λ k. kinds_under (k ∷ ks) (erased_bounds bs)) (same_kind b) ∙ same_kinds_under (kind_by b ∷ ks) bs

pub same_kinds : (c : TypeContext) → kinds (erased_context c) ≡ kinds c
same_kinds [] = refl
same_kinds (b ∷ c) = ap₂ (λ k ks. k ∷ ks) (same_kind b) (same_kinds c)

same_count : (ts : PlainTypes) → count_types (erased_types ts) ≡ count_types ts
same_count no_type = refl
same_count (types t ts) = ap suc (same_count ts)

top_erased : (t : PlainType) → is_top (erased t) ≡ is_top t
top_erased Top = refl
top_erased Int = refl
top_erased Char = refl
top_erased Str = refl
top_erased Boolean = refl
top_erased (Var i) = refl
top_erased (Apply i ts) = refl
top_erased (Chan m t) = refl
top_erased (Fields bs ps ls) = refl
top_erased (Rec t) = refl

before_erased : (ns : List (List ℕ)) (l : ℕ) (ls : PlainLabels) → StandsBeforeAll ns l ls → StandsBeforeAll ns l (erased_labels ls)
before_erased ns l no_label h = tt
before_erased ns l (labels m t ls) h = (h.0, before_erased ns l ls h.1)

module _ (ns : List (List ℕ)) where
  mutual
    pub formed_erased : (ks : List Kind) (t : PlainType) → IsWellFormed ns ks t → IsWellFormed ns ks (erased t)
    formed_erased ks Top w = tt
    formed_erased ks Int w = tt
    formed_erased ks Char w = tt
    formed_erased ks Str w = tt
    formed_erased ks Boolean w = tt
    formed_erased ks (Var i) w = w
    formed_erased ks (Apply i ts) w = (w.0 ∙ ap (λ n. Some (operator_of n)) (sym (same_count ts)), formed_types_erased ks ts w.1)
    formed_erased ks (Chan m t) w = formed_erased ks t w
    formed_erased ks (Fields bs ps ls) w =
        (formed_bounds_erased ks bs w.0, (subst (λ k. AreWellFormed ns k (erased_types ps)) (sym (same_kinds_under ks bs)) (formed_types_erased (kinds_under ks bs) ps w.1.0), subst (λ k. LabelsAreWellFormed ns k (erased_labels ls)) (sym (same_kinds_under ks bs)) (formed_labels_erased (kinds_under ks bs) ls w.1.1)))
    formed_erased ks (Rec t) w = formed_erased (proper ∷ ks) t w

    formed_types_erased : (ks : List Kind) (t : PlainTypes) → AreWellFormed ns ks t → AreWellFormed ns ks (erased_types t)
    formed_types_erased ks no_type w = tt
    formed_types_erased ks (types t ts) w = (formed_erased ks t w.0, formed_types_erased ks ts w.1)

    formed_labels_erased : (ks : List Kind) (t : PlainLabels) → LabelsAreWellFormed ns ks t → LabelsAreWellFormed ns ks (erased_labels t)
    formed_labels_erased ks no_label w = tt
    formed_labels_erased ks (labels l t ts) w = (before_erased ns l ts w.0, (formed_erased ks t w.1.0, formed_labels_erased ks ts w.1.1))

    formed_bounds_erased : (ks : List Kind) (t : PlainBounds) → BoundsAreWellFormed ns ks t → BoundsAreWellFormed ns ks (erased_bounds t)
    formed_bounds_erased ks no_bound w = tt
    formed_bounds_erased ks (bounds b bs) w = (formed_bound_erased ks b w.0, subst (λ k. BoundsAreWellFormed ns (k ∷ ks) (erased_bounds bs)) (sym (same_kind b)) (formed_bounds_erased (kind_by b ∷ ks) bs w.1))

    formed_bound_erased : (ks : List Kind) (t : PlainBound) → BoundIsWellFormed ns ks t → BoundIsWellFormed ns ks (erased_bound t)
    formed_bound_erased ks Free w = tt
    formed_bound_erased ks (Below t) w = (top_erased t ∙ w.0, formed_erased ks t w.1)
    formed_bound_erased ks (Operator n) w = tt

-- ---- subtyping

carries_up_erased : {m n : Capability} → CarriesUp m n → CarriesUp (erased_capability m) (erased_capability n)
carries_up_erased read_read = read_read
carries_up_erased both_read = both_read

carries_down_erased : {m n : Capability} → CarriesDown m n → CarriesDown (erased_capability m) (erased_capability n)
carries_down_erased write_write = write_write
carries_down_erased respond_write = write_write
carries_down_erased both_write = both_write
carries_down_erased respond_respond = write_write

bound_at_erased : (c : TypeContext) (i : ℕ) → bound_at (erased_context c) i ≡ erased_bound (bound_at c i)
bound_at_erased [] i = refl
bound_at_erased (b ∷ c) zero = refl
bound_at_erased (b ∷ c) (suc i) = bound_at_erased c i

pub bound_of_erased : (c : TypeContext) (i : ℕ) → bound_of (erased_context c) i ≡ erased_bound (bound_of c i)
bound_of_erased c i = ap (rename_bound (moved (suc i) 0)) (bound_at_erased c i) ∙ sym (erased_bound_renamed (moved (suc i) 0) (bound_at c i))

pub under_erased : (c : TypeContext) (bs : PlainBounds) → erased_context (under c bs) ≡ under (erased_context c) (erased_bounds bs)
under_erased c no_bound = refl
under_erased c (bounds b bs) = under_erased (b ∷ c) bs

pub type_at_erased : (l : ℕ) (ls : PlainLabels) (t : PlainType) → type_at l ls ≡ Some t → type_at l (erased_labels ls) ≡ Some (erased t)
type_at_erased l no_label t e = absurd (cc)
type_at_erased l (labels m u ls) t e = go (nat_eq l m) refl (type_at_erased l ls t)
  where
    go : (b : Bool) → nat_eq l m ≡ b → (type_at l ls ≡ Some t → type_at l (erased_labels ls) ≡ Some (erased t)) → type_at l (erased_labels (labels m u ls)) ≡ Some (erased t)
    go true q k =
        let e2 : Some u ≡ Some t = rw q at e in
        let i : u ≡ t = cc in
        rw q (ap (λ x. Some (erased x)) i)
    go false q k = rw q (k (rw q at e))

mutual
  pub below_erased : {c : TypeContext} {s t : PlainType} → IsSubtype c s t → IsSubtype (erased_context c) (erased s) (erased t)
  below_erased same = same
  below_erased (through t d e) = through (erased t) (below_erased d) (below_erased e)
  below_erased below_top = below_top
  below_erased {c = c} (below_bound {i = i} e) = below_bound (bound_of_erased c i ∙ ap erased_bound e)
  below_erased (upward m d) = upward (carries_up_erased m) (below_erased d)
  below_erased (downward m d) = downward (carries_down_erased m) (below_erased d)
  below_erased {c = c} (by_fields {bs = bs} {ps = ps} {qs = qs} {ls = ls} {ms = ms} d e) =
      by_fields (subst (λ k. AreSubtypes k (erased_types ps) (erased_types qs)) (under_erased c bs) (types_below_erased d)) (subst (λ k. HasLabels k (erased_labels ls) (erased_labels ms)) (under_erased c bs) (labels_below_erased e))
  below_erased {c = c} (by_arguments {i = i} e d) = by_arguments (bound_of_erased c i ∙ ap erased_bound e) (arguments_below_erased d)

  arguments_below_erased : {c : TypeContext} {ms : List Mark} {s t : PlainTypes} → AreByMarks c ms s t → AreByMarks (erased_context c) ms (erased_types s) (erased_types t)
  arguments_below_erased no_more = no_more
  arguments_below_erased (plus d e) = plus (below_erased d) (arguments_below_erased e)
  arguments_below_erased (minus d e) = minus (below_erased d) (arguments_below_erased e)
  arguments_below_erased (unmarked e) = unmarked (arguments_below_erased e)

  types_below_erased : {c : TypeContext} {s t : PlainTypes} → AreSubtypes c s t → AreSubtypes (erased_context c) (erased_types s) (erased_types t)
  types_below_erased none = none
  types_below_erased (more d e) = more (below_erased d) (types_below_erased e)

  labels_below_erased : {c : TypeContext} {s t : PlainLabels} → HasLabels c s t → HasLabels (erased_context c) (erased_labels s) (erased_labels t)
  labels_below_erased has_none = has_none
  labels_below_erased (has_label {l = l} {s = v} {ls = ls} e d f) = has_label (type_at_erased l ls v e) (below_erased d) (labels_below_erased f)

-- an erased type in the erased context
pub erased_type : (ns : List (List ℕ)) (c : TypeContext) (t : PlainType) → IsTypeIn ns c t → IsTypeIn ns (erased_context c) (erased t)
erased_type ns c t w = subst (λ ks. IsWellFormed ns ks (erased t)) (sym (same_kinds c)) (formed_erased ns (kinds c) t w)

-- and an argument
pub arg_erased : (ns : List (List ℕ)) (ks : List Kind) (a : PlainArg) → ArgIsWellFormed ns ks a → ArgIsWellFormed ns ks (erased_arg a)
arg_erased ns ks (Plain t) w = formed_erased ns ks t w
arg_erased ns ks (Op n t) w = formed_erased ns (with_parameters n ks) t w
