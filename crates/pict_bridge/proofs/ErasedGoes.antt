-- A type with ! in place of each / goes with its variables as the type does.
use Rattle.std.proofs.Common.{◌≡◌, ℕ, zero, suc, Bool, ◌&&◌, ◌||◌, not, List, [], ◌∷◌, length, refl, ◌∙◌, ap, ap₂}
use Rattle.pict_types.specs.Types.{Both, Read, Write, Respond, PlainType, Top, Int, Char, Str, Boolean, Var, Apply, Chan, Fields, Rec, PlainTypes, no_type, types, PlainLabels, no_label, labels, PlainBound, Free, Below, Operator, PlainBounds, no_bound, bounds, Op, TypeContext, under}
use Rattle.pict_syntax.specs.declared.type_tree.Mark.{Mark}
use Rattle.pict_syntax.specs.declared.type_tree.Mark.TheVariants.{Plus, Minus, Plain as Unmarked}
use Rattle.pict_types.specs.Mentions.{outside, outside_all, mentions, mentions_types, mentions_labels, mentions_bound, mentions_bounds}
use Rattle.pict_types.specs.Variance.{Way, up, down, opposite, only, past, marks_at, goes, arguments_go, all_go, labels_go, goes_as, body_varies, under_parameters, varies}
use Rattle.pict_bridge.specs.Embedding.{erased_context}
use Rattle.pict_typing.specs.Erasing.{erased, erased_types, erased_labels, erased_bound, erased_bounds}

erased_under : (c : TypeContext) (bs : PlainBounds) → under (erased_context c) (erased_bounds bs) ≡ erased_context (under c bs)
erased_under c no_bound = refl
erased_under c (bounds b bs) = erased_under (b ∷ c) bs

outside_erased : (bs : PlainBounds) (p : ℕ → Bool) → outside_all (erased_bounds bs) p ≡ outside_all bs p
outside_erased no_bound p = refl
outside_erased (bounds b bs) p = outside_erased bs (outside p)

past_erased : (bs : PlainBounds) (x : ℕ) → past (erased_bounds bs) x ≡ past bs x
past_erased no_bound x = refl
past_erased (bounds b bs) x = past_erased bs _

marks_erased : (c : TypeContext) (i : ℕ) → marks_at (erased_context c) i ≡ marks_at c i
marks_erased [] i = refl
marks_erased (Free ∷ c) zero = refl
marks_erased (Below t ∷ c) zero = refl
marks_erased (Operator ms ∷ c) zero = refl
marks_erased (b ∷ c) (suc i) = marks_erased c i

mutual
  mentions_erased : (p : ℕ → Bool) (t : PlainType) → mentions p (erased t) ≡ mentions p t
  mentions_erased p Top = refl
  mentions_erased p Int = refl
  mentions_erased p Char = refl
  mentions_erased p Str = refl
  mentions_erased p Boolean = refl
  mentions_erased p (Var i) = refl
  mentions_erased p (Apply i ts) = ap (λ z. p i || z) (mentions_types_erased p ts)
  mentions_erased p (Chan m t) = mentions_erased p t
  mentions_erased p (Fields bs ps ls) =
      ap₂ (λ x y. x || y) (mentions_bounds_erased p bs) (ap₂ (λ x y. x || y) (ap (λ q. mentions_types q (erased_types ps)) (outside_erased bs p) ∙ mentions_types_erased (outside_all bs p) ps) (ap (λ q. mentions_labels q (erased_labels ls)) (outside_erased bs p) ∙ mentions_labels_erased (outside_all bs p) ls))
  mentions_erased p (Rec t) = mentions_erased (outside p) t

  mentions_types_erased : (p : ℕ → Bool) (ts : PlainTypes) → mentions_types p (erased_types ts) ≡ mentions_types p ts
  mentions_types_erased p no_type = refl
  mentions_types_erased p (types t ts) = ap₂ (λ x y. x || y) (mentions_erased p t) (mentions_types_erased p ts)

  mentions_labels_erased : (p : ℕ → Bool) (ls : PlainLabels) → mentions_labels p (erased_labels ls) ≡ mentions_labels p ls
  mentions_labels_erased p no_label = refl
  mentions_labels_erased p (labels l t ls) = ap₂ (λ x y. x || y) (mentions_erased p t) (mentions_labels_erased p ls)

  mentions_bounds_erased : (p : ℕ → Bool) (bs : PlainBounds) → mentions_bounds p (erased_bounds bs) ≡ mentions_bounds p bs
  mentions_bounds_erased p no_bound = refl
  mentions_bounds_erased p (bounds b bs) = ap₂ (λ x y. x || y) (mentions_bound_erased p b) (mentions_bounds_erased (outside p) bs)

  mentions_bound_erased : (p : ℕ → Bool) (b : PlainBound) → mentions_bound p (erased_bound b) ≡ mentions_bound p b
  mentions_bound_erased p Free = refl
  mentions_bound_erased p (Below t) = mentions_erased p t
  mentions_bound_erased p (Operator ms) = refl

mutual
  pub goes_erased : (w : Way) (c : TypeContext) (x : ℕ) (t : PlainType) → goes w (erased_context c) x (erased t) ≡ goes w c x t
  goes_erased w c x Top = refl
  goes_erased w c x Int = refl
  goes_erased w c x Char = refl
  goes_erased w c x Str = refl
  goes_erased w c x Boolean = refl
  goes_erased up c x (Var i) = refl
  goes_erased down c x (Var i) = refl
  goes_erased w c x (Apply i ts) = ap (λ ms. arguments_go w (erased_context c) x ms (erased_types ts)) (marks_erased c i) ∙ arguments_go_erased w c x (marks_at c i) ts
  goes_erased w c x (Chan Read t) = goes_erased w c x t
  goes_erased w c x (Chan Write t) = goes_erased (opposite w) c x t
  goes_erased w c x (Chan Respond t) = goes_erased (opposite w) c x t
  goes_erased w c x (Chan Both t) = ap not (mentions_erased (only x) t)
  goes_erased w c x (Fields bs ps ls) =
      ap₂ (λ a b. not a && b) (mentions_bounds_erased (only x) bs)
      (ap₂ (λ a b. a && b) (ap₂ (λ d y. all_go w d y (erased_types ps)) (erased_under c bs) (past_erased bs x) ∙ all_go_erased w (under c bs) (past bs x) ps)
      (ap₂ (λ d y. labels_go w d y (erased_labels ls)) (erased_under c bs) (past_erased bs x) ∙ labels_go_erased w (under c bs) (past bs x) ls))
  goes_erased w c x (Rec t) = ap not (mentions_erased (outside (only x)) t)

  arguments_go_erased : (w : Way) (c : TypeContext) (x : ℕ) (ms : List Mark) (ts : PlainTypes) → arguments_go w (erased_context c) x ms (erased_types ts) ≡ arguments_go w c x ms ts
  arguments_go_erased w c x [] ts = ap not (mentions_types_erased (only x) ts)
  arguments_go_erased w c x (k ∷ ms) no_type = refl
  arguments_go_erased w c x (Plus ∷ ms) (types t ts) = ap₂ (λ a b. a && b) (goes_erased w c x t) (arguments_go_erased w c x ms ts)
  arguments_go_erased w c x (Minus ∷ ms) (types t ts) = ap₂ (λ a b. a && b) (goes_erased (opposite w) c x t) (arguments_go_erased w c x ms ts)
  arguments_go_erased w c x (Unmarked ∷ ms) (types t ts) = ap₂ (λ a b. not a && b) (mentions_erased (only x) t) (arguments_go_erased w c x ms ts)

  all_go_erased : (w : Way) (c : TypeContext) (x : ℕ) (ts : PlainTypes) → all_go w (erased_context c) x (erased_types ts) ≡ all_go w c x ts
  all_go_erased w c x no_type = refl
  all_go_erased w c x (types t ts) = ap₂ (λ a b. a && b) (goes_erased w c x t) (all_go_erased w c x ts)

  labels_go_erased : (w : Way) (c : TypeContext) (x : ℕ) (ls : PlainLabels) → labels_go w (erased_context c) x (erased_labels ls) ≡ labels_go w c x ls
  labels_go_erased w c x no_label = refl
  labels_go_erased w c x (labels l t ls) = ap₂ (λ a b. a && b) (goes_erased w c x t) (labels_go_erased w c x ls)

-- ---- operators

parameters_erased : (n : ℕ) (c : TypeContext) → under_parameters n (erased_context c) ≡ erased_context (under_parameters n c)
parameters_erased zero c = refl
parameters_erased (suc n) c = ap (λ x. Free ∷ x) (parameters_erased n c)

goes_as_erased : (m : Mark) (c : TypeContext) (x : ℕ) (t : PlainType) → goes_as m (erased_context c) x (erased t) ≡ goes_as m c x t
goes_as_erased Plus c x t = goes_erased up c x t
goes_as_erased Minus c x t = goes_erased down c x t
goes_as_erased Unmarked c x t = refl

body_erased : (c : TypeContext) (ms : List Mark) (t : PlainType) → body_varies (erased_context c) ms (erased t) ≡ body_varies c ms t
body_erased c [] t = refl
body_erased c (m ∷ ms) t = ap₂ (λ a b. a && b) (goes_as_erased m c (length ms) t) (body_erased c ms t)

pub varies_erased : (c : TypeContext) (n : ℕ) (t : PlainType) (ms : List Mark) → varies (erased_context c) (Op n (erased t)) ms ≡ varies c (Op n t) ms
varies_erased c n t ms = ap (λ d. body_varies d ms (erased t)) (parameters_erased n c) ∙ body_erased (under_parameters n c) ms t
