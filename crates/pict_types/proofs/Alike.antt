-- Rows are the same where they are as long and the same item by item.
use Rattle.std.proofs.Common.{◌≡◌, ℕ, suc, List, [], ◌∷◌, length, refl, sym, ◌∙◌, ap, ap₂, ◌↔◌}
use Rattle.pict_syntax.specs.declared.name.Name.{Name}
use Rattle.pict_types.specs.declared.types.Ty.{Ty}
use Rattle.pict_types.specs.declared.types.Bound.{Bound}
use Rattle.pict_types.specs.Types.{PlainType, Apply, PlainTypes, types, PlainLabels, no_label, labels, PlainBound, PlainBounds, bounds, count_types, count_bounds}
use Rattle.pict_types.specs.Plain.{plain_types, plain_bounds, plain_labels}
use Rattle.pict_types.proofs.Rows.{count_bounds_length, count_types_length, types_drop, types_end, bounds_drop, bounds_end, labels_drop, labels_end}

pub types_alike : (s t : PlainType) (ss ts : PlainTypes) → (types s ss ≡ types t ts) ↔ ((s ≡ t) × (ss ≡ ts))
types_alike s t ss ts = (λ e. (cc, cc), λ e. ap₂ types e.0 e.1)

pub bounds_alike : (s t : PlainBound) (ss ts : PlainBounds) → (bounds s ss ≡ bounds t ts) ↔ ((s ≡ t) × (ss ≡ ts))
bounds_alike s t ss ts = (λ e. (cc, cc), λ e. ap₂ bounds e.0 e.1)

pub labels_alike : (l m : ℕ) (s t : PlainType) (ss ts : PlainLabels) → (labels l s ss ≡ labels m t ts) ↔ ((l ≡ m) × ((s ≡ t) × (ss ≡ ts)))
labels_alike l m s t ss ts = (λ e. (cc, (cc, cc)), λ e. cc (e.0, e.1.0, e.1.1))

count_labels : PlainLabels → ℕ
count_labels no_label = 0
count_labels (labels l t ls) = suc (count_labels ls)

pub types_length : (xs ys : List Ty) → plain_types xs ≡ plain_types ys → length xs ≡ length ys
types_length xs ys e = sym (count_types_length xs) ∙ ap count_types e ∙ count_types_length ys

pub bounds_length : (xs ys : List Bound) → plain_bounds xs ≡ plain_bounds ys → length xs ≡ length ys
bounds_length xs ys e = sym (count_bounds_length xs) ∙ ap count_bounds e ∙ count_bounds_length ys

labels_counted : (xs : List (Name × Ty)) → count_labels (plain_labels xs) ≡ length xs
unfolding count_labels
labels_counted [] = refl
labels_counted (x ∷ xs) = ap suc (labels_counted xs)

pub labels_length : (xs ys : List (Name × Ty)) → plain_labels xs ≡ plain_labels ys → length xs ≡ length ys
labels_length xs ys e = sym (labels_counted xs) ∙ ap count_labels e ∙ labels_counted ys

pub applied_alike : (i j : ℕ) (ss ts : PlainTypes) → i ≡ j → (Apply i ss ≡ Apply j ts) ↔ (ss ≡ ts)
applied_alike i j ss ts e = (λ q. cc, λ q. ap₂ Apply e q)

-- the same told of two types that are these
pub told_alike : {A : Type 0} (s t : PlainType) (i j : ℕ) (ss ts : PlainTypes) → s ≡ Apply i ss → t ≡ Apply j ts → i ≡ j → (A ↔ (ss ≡ ts)) → A ↔ (s ≡ t)
told_alike s t i j ss ts d e h a =
    (λ x. d ∙ (applied_alike i j ss ts h).1 (a.0 x) ∙ sym e, λ q. a.1 ((applied_alike i j ss ts h).0 (sym d ∙ q ∙ e)))

-- what a loop over two rows needs
pub ruleset types_compared = (types_drop, types_end, types_alike, types_length)

pub ruleset bounds_compared = (bounds_drop, bounds_end, bounds_alike, bounds_length)

pub ruleset labels_compared = (labels_drop, labels_end, labels_alike, labels_length)
