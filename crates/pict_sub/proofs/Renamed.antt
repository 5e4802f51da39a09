-- Subtyping under more variables.
use Rattle.std.proofs.Common.{List, ◌≡◌, ℕ, zero, suc, ◌∷◌, refl, sym, ◌∙◌, ap, add-one}
use Rattle.pict_types.specs.Types.{PlainType, PlainTypes, PlainLabels, PlainBound, Free, Below, Operator, PlainBounds, no_bound, bounds, TypeContext, under}
use Rattle.pict_syntax.specs.declared.type_tree.Mark.{Mark}
use Rattle.pict_types.specs.Renaming.{beyond, beyond_all, rename, rename_types, rename_labels, rename_bounds, rename_bound, moved, bound_at, bound_of}
use Rattle.pict_types.proofs.Renamed.{renamed_alike, bound_alike, bound_further, bound_before, type_at_renamed}
use Rattle.pict_sub.specs.Subtyping.{IsSubtype, same, through, below_top, below_bound, upward, downward, by_fields, by_arguments, AreByMarks, no_more, plus, minus, unmarked, AreSubtypes, none, more, HasLabels, has_none, has_label}
use Rattle.pict_sub.specs.Laws.{KeepsBounds}

-- what renames to marks is these marks
pub operator_before : (f : ℕ → ℕ) (x : PlainBound) (ms : List Mark) → rename_bound f x ≡ Operator ms → x ≡ Operator ms
operator_before f Free ms h = absurd cc
operator_before f (Below t) ms h = absurd cc
operator_before f (Operator ns) ms h = h

pub operator_of_at : (c : TypeContext) (i : ℕ) (ms : List Mark) → bound_of c i ≡ Operator ms → bound_at c i ≡ Operator ms
operator_of_at c i ms h = operator_before (moved (suc i) 0) (bound_at c i) ms h

pub keeps_beyond : {f : ℕ → ℕ} {c d : TypeContext} → KeepsBounds f c d → (b : PlainBound) → KeepsBounds (beyond f) (b ∷ c) (rename_bound f b ∷ d)
keeps_beyond {f = f} {c = c} {d = d} x b = record { each = go; marks = go2 }
  where
    go2 : (i : ℕ) (ms : List Mark) → bound_of (b ∷ c) i ≡ Operator ms → bound_of (rename_bound f b ∷ d) (beyond f i) ≡ Operator ms
    go2 zero ms h = ap (λ y. rename_bound (moved 1 0) (rename_bound f y)) (operator_before (moved 1 0) b ms h)
    go2 (suc i) ms h =
        let u = operator_before suc (bound_of c i) ms (sym (bound_further b c i) ∙ h) in
        bound_further (rename_bound f b) d (f i) ∙ ap (rename_bound suc) (x.marks i ms u)

    go : (i : ℕ) (t : PlainType) → bound_of (b ∷ c) i ≡ Below t → bound_of (rename_bound f b ∷ d) (beyond f i) ≡ Below (rename (beyond f) t)
    go zero t h = bound_alike (moved 1 0) f (beyond f) (moved 1 0) b (λ i. add-one (f i) ∙ sym (ap (beyond f) (add-one i))) ∙ ap (rename_bound (beyond f)) h
    go (suc i) t h =
        let u = bound_before suc (bound_of c i) t (sym (bound_further b c i) ∙ h) in
        let e : rename suc (rename f u.0) ≡ rename (beyond f) t = renamed_alike suc f (beyond f) suc u.0 (λ j. refl) ∙ ap (rename (beyond f)) u.2 in
        bound_further (rename_bound f b) d (f i) ∙ ap (rename_bound suc) (x.each i u.0 u.1) ∙ ap Below e

keeps_under : {f : ℕ → ℕ} {c d : TypeContext} (bs : PlainBounds) → KeepsBounds f c d → KeepsBounds (beyond_all bs f) (under c bs) (under d (rename_bounds f bs))
keeps_under no_bound x = x
keeps_under (bounds b bs) x = keeps_under bs (keeps_beyond x b)

mutual
  pub weakened : {f : ℕ → ℕ} {c d : TypeContext} {s t : PlainType} → KeepsBounds f c d → IsSubtype c s t → IsSubtype d (rename f s) (rename f t)
  weakened x same = same
  weakened x (through t p q) = through _ (weakened x p) (weakened x q)
  weakened x below_top = below_top
  weakened x (below_bound e) = below_bound (x.each _ _ e)
  weakened x (upward r p) = upward r (weakened x p)
  weakened x (downward r p) = downward r (weakened x p)
  weakened x (by_fields {bs = bs} p q) = by_fields (types_weakened (keeps_under bs x) p) (labels_weakened (keeps_under bs x) q)
  weakened x (by_arguments {i = i} {ms = ms} e p) = by_arguments (x.marks i ms e) (arguments_weakened x p)

  pub arguments_weakened : {f : ℕ → ℕ} {c d : TypeContext} {ms : List Mark} {s t : PlainTypes} → KeepsBounds f c d → AreByMarks c ms s t → AreByMarks d ms (rename_types f s) (rename_types f t)
  arguments_weakened x no_more = no_more
  arguments_weakened x (plus p q) = plus (weakened x p) (arguments_weakened x q)
  arguments_weakened x (minus p q) = minus (weakened x p) (arguments_weakened x q)
  arguments_weakened x (unmarked q) = unmarked (arguments_weakened x q)

  types_weakened : {f : ℕ → ℕ} {c d : TypeContext} {s t : PlainTypes} → KeepsBounds f c d → AreSubtypes c s t → AreSubtypes d (rename_types f s) (rename_types f t)
  types_weakened x none = none
  types_weakened x (more p q) = more (weakened x p) (types_weakened x q)

  labels_weakened : {f : ℕ → ℕ} {c d : TypeContext} {s t : PlainLabels} → KeepsBounds f c d → HasLabels c s t → HasLabels d (rename_labels f s) (rename_labels f t)
  labels_weakened x has_none = has_none
  labels_weakened {f = f} x (has_label {l = l} {s = v} {ls = ls} e p q) = has_label (type_at_renamed f l ls v e) (weakened x p) (labels_weakened x q)

-- one more variable in front
pub one_more : (b : PlainBound) (c : TypeContext) → KeepsBounds suc c (b ∷ c)
one_more b c = record { each = λ i t h. bound_further b c i ∙ ap (rename_bound suc) h; marks = λ i ms h. bound_further b c i ∙ ap (rename_bound suc) h }
