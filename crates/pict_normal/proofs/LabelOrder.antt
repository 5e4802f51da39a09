-- Labelled fields in the order in which they are written, and then in that of their labels.
use Rattle.std.proofs.Common.{◌≡◌, ℕ, Bool, true, false, List, [], ◌∷◌, ◌++◌, refl, sym, ◌∙◌, ap}
use Rattle.std.specs.Prelude.{if◌then◌else◌}
use Rattle.std.specs.Ordering.{is_lt}
use Rattle.pict_syntax.specs.Labels.{by_number, in_label_order, label_cmp, with_label, with_labels}
use Rattle.pict_syntax.specs.declared.name.Name.{Name}
use Rattle.pict_syntax.specs.Trees.{LabelledTypes, no_labelled_types, more_labelled_types}
use Rattle.pict_types.specs.declared.types.Ty.{Ty}
use Rattle.pict_types.specs.Types.{PlainType, PlainLabels, no_label, labels}
use Rattle.pict_types.specs.Plain.{plain, plain_labels}
use Rattle.pict_normal.specs.Normal.{with_labelled_type}
use Rattle.pict_normal.specs.Raw.{raw, raw_labels}

-- one more at the end
abbrev pub and_label : PlainLabels → ℕ → PlainType → PlainLabels
and_label no_label l u = labels l u no_label
and_label (labels m t ls) l u = labels m t (and_label ls l u)

abbrev pub unsorted : List (List ℕ) → List ℕ → LabelledTypes → PlainLabels
unsorted ns ms no_labelled_types = no_label
unsorted ns ms (more_labelled_types ls id t) = and_label (unsorted ns ms ls) id.name.0 (raw ns ms t)

pub labels_and : (xs : List (Name × Ty)) (x : (Name × Ty)) → plain_labels (xs ++ x ∷ []) ≡ and_label (plain_labels xs) x.0.0 (plain x.1)
labels_and [] x = refl
labels_and (y ∷ xs) x = ap (labels y.0.0 (plain y.1)) (labels_and xs x)

-- each put in turn among those that are in order
abbrev with_labelled_types : List (List ℕ) → PlainLabels → PlainLabels → PlainLabels
with_labelled_types ns sorted no_label = sorted
with_labelled_types ns sorted (labels l u ls) = with_labelled_types ns (with_labelled_type ns l u sorted) ls

abbrev pub in_order : List (List ℕ) → PlainLabels → PlainLabels
in_order ns ls = with_labelled_types ns no_label ls

ordered_and : (ns : List (List ℕ)) (sorted ls : PlainLabels) (l : ℕ) (u : PlainType) → with_labelled_types ns sorted (and_label ls l u) ≡ with_labelled_type ns l u (with_labelled_types ns sorted ls)
ordered_and ns sorted no_label l u = refl
ordered_and ns sorted (labels m t ls) l u = ordered_and ns (with_labelled_type ns m t sorted) ls l u

pub ordered : (ns : List (List ℕ)) (ms : List ℕ) (ls : LabelledTypes) → in_order ns (unsorted ns ms ls) ≡ raw_labels ns ms ls
ordered ns ms no_labelled_types = refl
ordered ns ms (more_labelled_types ls id t) =
    ordered_and ns no_label (unsorted ns ms ls) id.name.0 (raw ns ms t) ∙ ap (with_labelled_type ns id.name.0 (raw ns ms t)) (ordered ns ms ls)

-- labelled items as fields
abbrev fields_of : List (ℕ × Ty) → PlainLabels
fields_of [] = no_label
fields_of (x ∷ xs) = labels x.0 (plain x.1) (fields_of xs)

fields_by_number : (xs : List (Name × Ty)) → fields_of (by_number xs) ≡ plain_labels xs
fields_by_number [] = refl
fields_by_number (x ∷ xs) = ap (labels x.0.0 (plain x.1)) (fields_by_number xs)

one_put : (ns : List (List ℕ)) (l : ℕ) (t : Ty) (xs : List (ℕ × Ty)) → fields_of (with_label ns l t xs) ≡ with_labelled_type ns l (plain t) (fields_of xs)
one_put ns l t [] = refl
one_put ns l t (x ∷ xs) = go (is_lt (label_cmp ns l x.0)) (one_put ns l t xs)
  where
    go : (b : Bool) → fields_of (with_label ns l t xs) ≡ with_labelled_type ns l (plain t) (fields_of xs) → fields_of (if b then (l, t) ∷ x ∷ xs else x ∷ with_label ns l t xs) ≡ (if b then labels l (plain t) (labels x.0 (plain x.1) (fields_of xs)) else labels x.0 (plain x.1) (with_labelled_type ns l (plain t) (fields_of xs)))
    go true h = refl
    go false h = ap (labels x.0 (plain x.1)) h

all_put : (ns : List (List ℕ)) (sorted xs : List (ℕ × Ty)) → fields_of (with_labels ns sorted xs) ≡ with_labelled_types ns (fields_of sorted) (fields_of xs)
all_put ns sorted [] = refl
all_put ns sorted (x ∷ xs) =
    all_put ns (with_label ns x.0 x.1 sorted) xs ∙ ap (λ l. with_labelled_types ns l (fields_of xs)) (one_put ns x.0 x.1 sorted)

pub fields_sorted : (ns : List (List ℕ)) (xs ys : List (Name × Ty)) → by_number ys ≡ in_label_order ns (by_number xs) → plain_labels ys ≡ in_order ns (plain_labels xs)
fields_sorted ns xs ys h =
    sym (fields_by_number ys) ∙ ap fields_of h ∙ all_put ns [] (by_number xs) ∙ ap (in_order ns) (fields_by_number xs)

-- and so with one more that is written after them
pub in_order_and : (ns : List (List ℕ)) (ls : PlainLabels) (l : ℕ) (u : PlainType) → in_order ns (and_label ls l u) ≡ with_labelled_type ns l u (in_order ns ls)
in_order_and ns ls l u = ordered_and ns no_label ls l u
