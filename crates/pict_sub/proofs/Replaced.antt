-- Replacing keeps subtyping.
use Rattle.std.proofs.Common.{◌≡◌, ℕ, zero, suc, List, ◌∷◌, refl, sym, ◌∙◌, ap, subst}
use Rattle.pict_types.specs.Types.{PlainType, Top, Int, Char, Str, Boolean, Var, Apply, Chan, Fields, Rec, PlainTypes, PlainLabels, PlainBound, Free, Below, Operator, PlainBounds, no_bound, bounds, TypeContext, under}
use Rattle.pict_syntax.specs.declared.type_tree.Mark.{Mark}
use Rattle.pict_types.specs.Renaming.{rename, rename_bound, moved, bound_of}
use Rattle.pict_types.specs.Replacing.{bound_by, Head, variable, operator, nothing, rename_head, apply_head, Replacement, replacement_beyond, replacement_beyond_all, replace, replace_types, replace_labels, replace_bounds, replace_bound}
use Rattle.pict_types.proofs.Renamed.{moved_is_suc, bound_further, bound_before}
use Rattle.pict_types.proofs.Replaced.{replace_further, type_at_replaced}
use Rattle.pict_sub.specs.Subtyping.{IsSubtype, same, through, below_top, below_bound, upward, downward, by_fields, by_arguments, AreByMarks, no_more, plus, minus, unmarked, AreSubtypes, none, more, HasLabels, has_none, has_label}
use Rattle.pict_sub.specs.Laws.{StandsAsMarked, IsWithinBounds, Substitution}
use Rattle.pict_types.specs.Kinds.{kind_by, kinds}
use Rattle.pict_types.proofs.Formed.{formed_renamed, keeps_parameters, one_more_kind}
use Rattle.pict_sub.proofs.Renamed.{weakened, one_more, operator_before}
use Rattle.pict_sub.proofs.Operating.{operators_compare, operator_renamed}

-- a variable is below the type that its bound was made by
below_made : (d : TypeContext) (u : PlainType) → IsSubtype (bound_by u ∷ d) (Var 0) (rename (moved 1 0) u)
below_made d Top = below_top
below_made d Int = below_bound refl
below_made d Char = below_bound refl
below_made d Str = below_bound refl
below_made d Boolean = below_bound refl
below_made d (Var i) = below_bound refl
below_made d (Apply i ts) = below_bound refl
below_made d (Chan m t) = below_bound refl
below_made d (Fields bs ps ls) = below_bound refl
below_made d (Rec t) = below_bound refl

-- what stands for an operator variable does so behind one more variable
stands_further : (names : List (List ℕ)) (b : PlainBound) (d : TypeContext) (ms : List Mark) (h : Head) → StandsAsMarked names d ms h → StandsAsMarked names (b ∷ d) ms (rename_head suc h)
stands_further names b d ms (variable j) h = bound_further b d j ∙ ap (rename_bound suc) h
stands_further names b d ms (operator n t) h =
    (h.0, (formed_renamed names t (keeps_parameters n (one_more_kind (kind_by b) (kinds d))) h.1.0, operator_renamed suc d (b ∷ d) n t ms (λ i ks e. e) h.0 h.1.1))
stands_further names b d ms nothing h = h

pub within_beyond : {names : List (List ℕ)} {r : Replacement} {c d : TypeContext} → IsWithinBounds names r c d → (b : PlainBound) → IsWithinBounds names (replacement_beyond r) (b ∷ c) (replace_bound r b ∷ d)
within_beyond {names = names} {r = r} {c = c} {d = d} x b = record { each = go; heads = go2 }
  where
    go2 : (i : ℕ) (ms : List Mark) → bound_of (b ∷ c) i ≡ Operator ms → StandsAsMarked names (replace_bound r b ∷ d) ms ((replacement_beyond r).head_of i)
    go2 zero ms h = ap (λ y. rename_bound (moved 1 0) (replace_bound r y)) (operator_before (moved 1 0) b ms h)
    go2 (suc i) ms h =
        let u = operator_before suc (bound_of c i) ms (sym (bound_further b c i) ∙ h) in
        stands_further names (replace_bound r b) d ms (r.head_of i) (x.heads i ms u)

    first : (b : PlainBound) (t : PlainType) → bound_of (b ∷ c) 0 ≡ Below t → IsSubtype (replace_bound r b ∷ d) (Var 0) (replace (replacement_beyond r) t)
    first Free t h = absurd (cc)
    first (Operator n) t h = absurd (cc)
    first (Below s) t h =
        let q : rename (moved 1 0) s ≡ t = cc in
        let e : rename (moved 1 0) (replace r s) ≡ replace (replacement_beyond r) t =
        ap (λ f. rename f (replace r s)) moved_is_suc ∙ sym (replace_further r s) ∙ ap (λ f. replace (replacement_beyond r) (rename f s)) (sym moved_is_suc) ∙ ap (replace (replacement_beyond r)) q in
        subst (IsSubtype (bound_by (replace r s) ∷ d) (Var 0)) e (below_made d (replace r s))

    go : (i : ℕ) (t : PlainType) → bound_of (b ∷ c) i ≡ Below t → IsSubtype (replace_bound r b ∷ d) ((replacement_beyond r).type_of i) (replace (replacement_beyond r) t)
    go zero t h = first b t h
    go (suc i) t h =
        let u = bound_before suc (bound_of c i) t (sym (bound_further b c i) ∙ h) in
        let e : rename suc (replace r u.0) ≡ replace (replacement_beyond r) t = sym (replace_further r u.0) ∙ ap (replace (replacement_beyond r)) u.2 in
        subst (IsSubtype (replace_bound r b ∷ d) (rename suc (r.type_of i))) e (weakened (one_more (replace_bound r b) d) (x.each i u.0 u.1))

within_under : {names : List (List ℕ)} {r : Replacement} {c d : TypeContext} (bs : PlainBounds) → IsWithinBounds names r c d → IsWithinBounds names (replacement_beyond_all bs r) (under c bs) (under d (replace_bounds r bs))
within_under no_bound x = x
within_under (bounds b bs) x = within_under bs (within_beyond x b)

-- what stands for an operator variable, applied to arguments that compare by the marks
heads_compare : (names : List (List ℕ)) (d : TypeContext) (ms : List Mark) (h : Head) (us vs : PlainTypes) → StandsAsMarked names d ms h → AreByMarks d ms us vs → IsSubtype d (apply_head h us) (apply_head h vs)
heads_compare names d ms (variable j) us vs h a = by_arguments h a
heads_compare names d ms (operator n t) us vs h a = operators_compare names d n t ms us vs h.0 h.1.0 h.1.1 a
heads_compare names d ms nothing us vs h a = absurd h

mutual
  pub replaced : {names : List (List ℕ)} {r : Replacement} {c d : TypeContext} {s t : PlainType} → IsWithinBounds names r c d → IsSubtype c s t → IsSubtype d (replace r s) (replace r t)
  replaced x same = same
  replaced x (through t p q) = through _ (replaced x p) (replaced x q)
  replaced x below_top = below_top
  replaced x (below_bound e) = x.each _ _ e
  replaced x (upward m p) = upward m (replaced x p)
  replaced x (downward m p) = downward m (replaced x p)
  replaced x (by_fields {bs = bs} p q) = by_fields (types_replaced (within_under bs x) p) (labels_replaced (within_under bs x) q)
  replaced {names = names} {r = r} {d = d} x (by_arguments {i = i} {ms = ms} {ss = ss} {ts = ts} e p) =
      heads_compare names d ms (r.head_of i) (replace_types r ss) (replace_types r ts) (x.heads i ms e) (arguments_replaced x p)

  arguments_replaced : {names : List (List ℕ)} {r : Replacement} {c d : TypeContext} {ms : List Mark} {s t : PlainTypes} → IsWithinBounds names r c d → AreByMarks c ms s t → AreByMarks d ms (replace_types r s) (replace_types r t)
  arguments_replaced x no_more = no_more
  arguments_replaced x (plus p q) = plus (replaced x p) (arguments_replaced x q)
  arguments_replaced x (minus p q) = minus (replaced x p) (arguments_replaced x q)
  arguments_replaced x (unmarked q) = unmarked (arguments_replaced x q)

  types_replaced : {names : List (List ℕ)} {r : Replacement} {c d : TypeContext} {s t : PlainTypes} → IsWithinBounds names r c d → AreSubtypes c s t → AreSubtypes d (replace_types r s) (replace_types r t)
  types_replaced x none = none
  types_replaced x (more p q) = more (replaced x p) (types_replaced x q)

  labels_replaced : {names : List (List ℕ)} {r : Replacement} {c d : TypeContext} {s t : PlainLabels} → IsWithinBounds names r c d → HasLabels c s t → HasLabels d (replace_labels r s) (replace_labels r t)
  labels_replaced x has_none = has_none
  labels_replaced {r = r} x (has_label {l = l} {s = v} {ls = ls} e p q) = has_label (type_at_replaced r l ls v e) (replaced x p) (labels_replaced x q)

pub substitution : Substitution
substitution names r c d s t x p = replaced x p
