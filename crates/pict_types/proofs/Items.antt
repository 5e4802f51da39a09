-- Items of rows: what each weighs, that it is well formed, the one that is read, and rows with one more.
use Rattle.std.proofs.Common.{◌≡◌, ℕ, zero, suc, ◌+◌, ◌≤◌, ◌<◌, List, [], ◌∷◌, ◌++◌, length, get_or, drop, sym, ◌∙◌, ap, subst, arith}
use Rattle.pict_syntax.specs.declared.name.Name.{Name}
use Rattle.pict_types.specs.declared.types.Ty.{Ty}
use Rattle.pict_types.specs.declared.types.Bound.{Bound}
use Rattle.pict_types.specs.Types.{PlainType, PlainLabels, labels, bounds}
use Rattle.pict_types.specs.Kinds.{Kind, IsWellFormed, AreWellFormed, LabelsAreWellFormed}
use Rattle.pict_types.specs.Measures.{weigh, weigh_types, weigh_labels, size, size_types, size_labels, size_bound, size_bounds}
use Rattle.pict_types.specs.Plain.{plain, plain_bound, plain_types, plain_labels, plain_bounds}
use Rattle.pict_types.proofs.Rows.{size_types_item, size_labels_item, size_bounds_item, bounds_drop, labels_drop, types_drop, types_end, labels_end}

pub types_weigh : (ws : List ℕ) (xs : List Ty) (i : ℕ) (d : Ty) → i < length xs → weigh ws (plain (get_or xs i d)) ≤ weigh_types ws (plain_types xs)
types_weigh ws [] i d h = absurd (omega arith)
types_weigh ws (x ∷ xs) zero d h = omega arith
types_weigh ws (x ∷ xs) (suc i) d h = omega (arith, types_weigh ws xs i d (omega arith))

pub labels_weigh : (ws : List ℕ) (xs : List (Name × Ty)) (i : ℕ) (d : Name × Ty) → i < length xs → weigh ws (plain (get_or xs i d).1) ≤ weigh_labels ws (plain_labels xs)
labels_weigh ws [] i d h = absurd (omega arith)
labels_weigh ws (x ∷ xs) zero d h = omega arith
labels_weigh ws (x ∷ xs) (suc i) d h = omega (arith, labels_weigh ws xs i d (omega arith))

pub types_formed : (ns : List (List ℕ)) (ks : List Kind) (xs : List Ty) (i : ℕ) (d : Ty) → AreWellFormed ns ks (plain_types xs) → i < length xs → IsWellFormed ns ks (plain (get_or xs i d))
types_formed ns ks [] i d w h = absurd (omega arith)
types_formed ns ks (x ∷ xs) zero d w h = w.0
types_formed ns ks (x ∷ xs) (suc i) d w h = types_formed ns ks xs i d w.1 (omega arith)

pub labels_formed : (ns : List (List ℕ)) (ks : List Kind) (xs : List (Name × Ty)) (i : ℕ) (d : Name × Ty) → LabelsAreWellFormed ns ks (plain_labels xs) → i < length xs → IsWellFormed ns ks (plain (get_or xs i d).1)
labels_formed ns ks [] i d w h = absurd (omega arith)
labels_formed ns ks (x ∷ xs) zero d w h = w.1.0
labels_formed ns ks (x ∷ xs) (suc i) d w h = labels_formed ns ks xs i d w.1.1 (omega arith)

pub formed_pushed : (ns : List (List ℕ)) (ks : List Kind) (xs : List Ty) (x : Ty) → AreWellFormed ns ks (plain_types xs) → IsWellFormed ns ks (plain x) → AreWellFormed ns ks (plain_types (xs ++ x ∷ []))
formed_pushed ns ks [] x f h = (h, tt)
formed_pushed ns ks (y ∷ xs) x f h = (f.0, formed_pushed ns ks xs x f.1 h)

pub weigh_pushed : (ws : List ℕ) (xs : List Ty) (x : Ty) → weigh_types ws (plain_types (xs ++ x ∷ [])) ≡ weigh_types ws (plain_types xs) + weigh ws (plain x)
weigh_pushed ws [] x = omega arith
weigh_pushed ws (y ∷ xs) x = omega (arith, weigh_pushed ws xs x)

pub item_size : (xs : List Ty) (i : ℕ) (x : Ty) → i < length xs → x ≡ get_or xs i x → size (plain x) ≤ size_types (plain_types xs)
item_size xs i x h e = let s : size (plain x) ≡ size (plain (get_or xs i x)) = ap (λ y. size (plain y)) e in omega (arith, s, size_types_item xs i x h)

pub label_size : (xs : List (Name × Ty)) (i : ℕ) (x : Name × Ty) → i < length xs → x ≡ get_or xs i x → size (plain x.1) ≤ size_labels (plain_labels xs)
label_size xs i x h e = let s : size (plain x.1) ≡ size (plain (get_or xs i x).1) = ap (λ y. size (plain y.1)) e in omega (arith, s, size_labels_item xs i x h)

pub bound_size : (xs : List Bound) (i : ℕ) (x : Bound) → i < length xs → x ≡ get_or xs i x → size_bound (plain_bound x) ≤ size_bounds (plain_bounds xs)
bound_size xs i x h e = let s : size_bound (plain_bound x) ≡ size_bound (plain_bound (get_or xs i x)) = ap (λ y. size_bound (plain_bound y)) e in omega (arith, s, size_bounds_item xs i x h)

pub bounds_next : (xs : List Bound) (i : ℕ) (x : Bound) → i < length xs → x ≡ get_or xs i x → plain_bounds (drop i xs) ≡ bounds (plain_bound x) (plain_bounds (drop (i + 1) xs))
bounds_next xs i x h e = bounds_drop xs i x h ∙ ap (λ y. bounds (plain_bound y) (plain_bounds (drop (i + 1) xs))) (sym e)

-- the labelled field that is read
pub label_read : (xs : List (Name × Ty)) (i : ℕ) (d : Name × Ty) → d ≡ get_or xs i d → i < length xs → plain_labels (drop i xs) ≡ labels d.0.0 (plain d.1) (plain_labels (drop (i + 1) xs))
label_read xs i d e h = labels_drop xs i d h ∙ ap (λ x. labels x.0.0 (plain x.1) (plain_labels (drop (i + 1) xs))) (sym e)

pub label_weighs : (ws : List ℕ) {A : PlainLabels} (l : ℕ) (t : PlainType) (ls : PlainLabels) → A ≡ labels l t ls → weigh_labels ws A ≡ weigh ws t + weigh_labels ws ls
label_weighs ws l t ls e = ap (weigh_labels ws) e

pub label_rest : (ns : List (List ℕ)) (ks : List Kind) {A : PlainLabels} (l : ℕ) (t : PlainType) (ls : PlainLabels) → A ≡ labels l t ls → LabelsAreWellFormed ns ks A → LabelsAreWellFormed ns ks ls
label_rest ns ks l t ls e w = (subst (LabelsAreWellFormed ns ks) e w).1.1

-- what a loop over a row that is well formed and weighed needs
pub ruleset types_read = (types_drop, types_end, types_weigh, types_formed)

pub ruleset labels_read = (labels_drop, labels_end, labels_weigh, labels_formed)
