-- Rows of types, labelled fields and type fields: what a Vec of them is as plain data, item by item.
use mathlib.Core.Former.{Count}
use Rattle.std.proofs.Common.{◌≡◌, ℕ, zero, suc, ◌+◌, ◌≤◌, ◌<◌, List, [], ◌∷◌, ◌++◌, length, get_or, drop, take, refl, sym, ◌∙◌, ap, arith, add-one, drop-cons}
use Rattle.std.proofs.lemmas.List.{drop_all}
use Rattle.std.specs.declared.vec.Vec.{Vec}
use Rattle.std.specs.declared.rc.Rc.{Rc}
use Rattle.std.specs.declared.alloc.Global.{Global}
use Rattle.pict_syntax.specs.declared.name.Name.{Name}
use Rattle.pict_types.specs.declared.types.Ty.{Ty}
use Rattle.pict_types.specs.declared.types.Ty.TheVariants.{Apply as Apply_, Apply' as Apply_', Fields as Fields_, Fields' as Fields_'}
use Rattle.pict_types.specs.declared.types.Record.{Record}
use Rattle.pict_types.specs.declared.types.Bound.{Bound}
use Rattle.pict_types.specs.declared.types.Bound.TheBlock.{Row_of-Ty, end_of-Ty, more_of-Ty, items-the_row-Ty, items_hidden-the_row-Ty-0, Row_of-Bound, end_of-Bound, more_of-Bound, items-the_row-Bound, items_hidden-the_row-Bound-1, Row_of-Record-labelled-2, end_of-Record-labelled-2, more_of-Record-labelled-2, items-the_row-Record-labelled-2, items_hidden-the_row-Record-labelled-2-2}
use Rattle.pict_types.specs.Types.{Apply, Fields, PlainTypes, no_type, types, PlainLabels, no_label, labels, PlainBound, Free, Below, Operator, PlainBounds, no_bound, bounds, count_types, count_bounds}
use Rattle.pict_types.specs.Room.{reach, reach_types, reach_labels, reach_bounds, reach_bound}
use Rattle.pict_types.specs.Measures.{size, size_types, size_bounds, size_bound, size_labels}
use Rattle.pict_types.specs.Plain.{plain, plain_bound, plain_record, plain_row, plain_bound_row, plain_label_row, plain_types, plain_bounds, plain_labels}
use Rattle.pict_types.proofs.Congruent.{three}

row_items : (n : _) (r : Row_of-Ty n) → plain_row r ≡ plain_types (items-the_row-Ty n r)
row_items n end_of-Ty = refl
row_items n (more_of-Ty t ts) = ap (types (plain t)) (row_items _ ts)

bound_row_items : (n : _) (r : Row_of-Bound n) → plain_bound_row r ≡ plain_bounds (items-the_row-Bound n r)
bound_row_items n end_of-Bound = refl
bound_row_items n (more_of-Bound b bs) = ap (bounds (plain_bound b)) (bound_row_items _ bs)

label_row_items : (n : _) (r : Row_of-Record-labelled-2 n) → plain_label_row r ≡ plain_labels (items-the_row-Record-labelled-2 n r)
label_row_items n end_of-Record-labelled-2 = refl
label_row_items n (more_of-Record-labelled-2 l t ls) = ap (labels l.0 (plain t)) (label_row_items _ ls)

abbrev row_of : Ty → (n : Count) × Row_of-Ty n
row_of (Apply_' i p shape ts) = (_, ts)
row_of (Fields_' p a bs b ps c ls) = (_, ps)
row_of _ = (_, end_of-Ty)

abbrev bound_row_of : Ty → (n : Count) × Row_of-Bound n
bound_row_of (Fields_' p a bs b ps c ls) = (_, bs)
bound_row_of _ = (_, end_of-Bound)

abbrev label_row_of : Ty → (n : Count) × Row_of-Record-labelled-2 n
label_row_of (Fields_' p a bs b ps c ls) = (_, ls)
label_row_of _ = (_, end_of-Record-labelled-2)

pub plain_apply : (i : ℕ) (v : Rc (Vec Ty Global) Global) → plain (Apply_ i v) ≡ Apply i (plain_types v.value.items)
plain_apply i v =
    let r = row_of (Apply_ i v) in
    ap (Apply i) (row_items r.0 r.1 ∙ ap plain_types (items_hidden-the_row-Ty-0 v.value))

pub plain_fields : (r : Rc Record Global) → plain (Fields_ r) ≡ plain_record r.value
plain_fields r =
    let ps = row_of (Fields_ r) in
    let bs = bound_row_of (Fields_ r) in
    let ls = label_row_of (Fields_ r) in
    three Fields
    (bound_row_items bs.0 bs.1 ∙ ap plain_bounds (items_hidden-the_row-Bound-1 r.value.binders))
    (row_items ps.0 ps.1 ∙ ap plain_types (items_hidden-the_row-Ty-0 r.value.positional))
    (label_row_items ls.0 ls.1 ∙ ap plain_labels (items_hidden-the_row-Record-labelled-2-2 r.value.labelled))

-- one row behind another, and the same for the other two kinds
abbrev pub then_types : PlainTypes → PlainTypes → PlainTypes
then_types no_type us = us
then_types (types t ts) us = types t (then_types ts us)

abbrev pub then_bounds : PlainBounds → PlainBounds → PlainBounds
then_bounds no_bound us = us
then_bounds (bounds b bs) us = bounds b (then_bounds bs us)

abbrev pub then_labels : PlainLabels → PlainLabels → PlainLabels
then_labels no_label us = us
then_labels (labels l t ls) us = labels l t (then_labels ls us)

pub types_drop : (xs : List Ty) (i : ℕ) (d : Ty) → i < length xs → plain_types (drop i xs) ≡ types (plain (get_or xs i d)) (plain_types (drop (i + 1) xs))
types_drop xs i d h = let e : drop i xs ≡ get_or xs i d ∷ drop (i + 1) xs = rw (add-one, drop-cons xs i d) refl in ap plain_types e

pub types_end : (xs : List Ty) (i : ℕ) → length xs ≤ i → plain_types (drop i xs) ≡ no_type
types_end xs i h = let e : drop i xs ≡ [] = drop_all i xs h in ap plain_types e

pub types_then_none : (ts : PlainTypes) → then_types ts no_type ≡ ts
types_then_none no_type = refl
types_then_none (types t ts) = ap (types t) (types_then_none ts)

pub types_push : (xs : List Ty) (x : Ty) (us : PlainTypes) → then_types (plain_types (xs ++ x ∷ [])) us ≡ then_types (plain_types xs) (types (plain x) us)
types_push [] x us = refl
types_push (y ∷ xs) x us = ap (types (plain y)) (types_push xs x us)

pub size_types_item : (xs : List Ty) (i : ℕ) (d : Ty) → i < length xs → size (plain (get_or xs i d)) ≤ size_types (plain_types xs)
size_types_item [] i d h = absurd (omega arith)
size_types_item (x ∷ xs) zero d h = omega arith
size_types_item (x ∷ xs) (suc i) d h = omega (arith, size_types_item xs i d (omega arith))

pub bounds_drop : (xs : List Bound) (i : ℕ) (d : Bound) → i < length xs → plain_bounds (drop i xs) ≡ bounds (plain_bound (get_or xs i d)) (plain_bounds (drop (i + 1) xs))
bounds_drop xs i d h = let e : drop i xs ≡ get_or xs i d ∷ drop (i + 1) xs = rw (add-one, drop-cons xs i d) refl in ap plain_bounds e

pub bounds_end : (xs : List Bound) (i : ℕ) → length xs ≤ i → plain_bounds (drop i xs) ≡ no_bound
bounds_end xs i h = let e : drop i xs ≡ [] = drop_all i xs h in ap plain_bounds e

pub bounds_then_none : (ts : PlainBounds) → then_bounds ts no_bound ≡ ts
bounds_then_none no_bound = refl
bounds_then_none (bounds t ts) = ap (bounds t) (bounds_then_none ts)

pub bounds_push : (xs : List Bound) (x : Bound) (us : PlainBounds) → then_bounds (plain_bounds (xs ++ x ∷ [])) us ≡ then_bounds (plain_bounds xs) (bounds (plain_bound x) us)
bounds_push [] x us = refl
bounds_push (y ∷ xs) x us = ap (bounds (plain_bound y)) (bounds_push xs x us)

pub size_bounds_item : (xs : List Bound) (i : ℕ) (d : Bound) → i < length xs → size_bound (plain_bound (get_or xs i d)) ≤ size_bounds (plain_bounds xs)
size_bounds_item [] i d h = absurd (omega arith)
size_bounds_item (x ∷ xs) zero d h = omega arith
size_bounds_item (x ∷ xs) (suc i) d h = omega (arith, size_bounds_item xs i d (omega arith))

pub labels_drop : (xs : List (Name × Ty)) (i : ℕ) (d : (Name × Ty)) → i < length xs → plain_labels (drop i xs) ≡ labels (get_or xs i d).0.0 (plain (get_or xs i d).1) (plain_labels (drop (i + 1) xs))
labels_drop xs i d h = let e : drop i xs ≡ get_or xs i d ∷ drop (i + 1) xs = rw (add-one, drop-cons xs i d) refl in ap plain_labels e

pub labels_end : (xs : List (Name × Ty)) (i : ℕ) → length xs ≤ i → plain_labels (drop i xs) ≡ no_label
labels_end xs i h = let e : drop i xs ≡ [] = drop_all i xs h in ap plain_labels e

pub labels_then_none : (ts : PlainLabels) → then_labels ts no_label ≡ ts
labels_then_none no_label = refl
labels_then_none (labels l t ts) = ap (labels l t) (labels_then_none ts)

pub labels_push : (xs : List (Name × Ty)) (x : (Name × Ty)) (us : PlainLabels) → then_labels (plain_labels (xs ++ x ∷ [])) us ≡ then_labels (plain_labels xs) (labels x.0.0 (plain x.1) us)
labels_push [] x us = refl
labels_push (y ∷ xs) x us = ap (labels y.0.0 (plain y.1)) (labels_push xs x us)

pub size_labels_item : (xs : List (Name × Ty)) (i : ℕ) (d : (Name × Ty)) → i < length xs → size (plain (get_or xs i d).1) ≤ size_labels (plain_labels xs)
size_labels_item [] i d h = absurd (omega arith)
size_labels_item (x ∷ xs) zero d h = omega arith
size_labels_item (x ∷ xs) (suc i) d h = omega (arith, size_labels_item xs i d (omega arith))

pub size_bound_positive : (b : PlainBound) → 1 ≤ size_bound b
size_bound_positive Free = omega arith
size_bound_positive (Below t) = omega arith
size_bound_positive (Operator m) = omega arith

pub size_bounds_drop : (xs : List Bound) (n : ℕ) → n ≤ length xs → size_bounds (plain_bounds (drop n xs)) + n ≤ size_bounds (plain_bounds xs)
size_bounds_drop xs zero h = omega arith
size_bounds_drop [] (suc n) h = absurd (omega arith)
size_bounds_drop (x ∷ xs) (suc n) h = omega (arith, size_bounds_drop xs n (omega arith), size_bound_positive (plain_bound x))

-- an applied variable, told by what it is
pub plain_is_apply : (t : Ty) (i : ℕ) (v : Rc (Vec Ty Global) Global) → t ≡ Apply_ i v → plain t ≡ Apply i (plain_types v.value.items)
plain_is_apply t i v e = ap plain e ∙ plain_apply i v

size_bounds_take : (xs : List Bound) (n : ℕ) → size_bounds (plain_bounds (take n xs)) ≤ size_bounds (plain_bounds xs)
size_bounds_take xs zero = omega arith
size_bounds_take [] (suc n) = omega arith
size_bounds_take (x ∷ xs) (suc n) = omega (arith, size_bounds_take xs n)

-- a slice of the type fields from n on has n less
pub size_bounds_part : (xs : List Bound) (m n : ℕ) → n ≤ length xs → size_bounds (plain_bounds (take m (drop n xs))) + n ≤ size_bounds (plain_bounds xs)
size_bounds_part xs m n h = omega (arith, size_bounds_take (drop n xs) m, size_bounds_drop xs n h)

pub reach_types_item : (xs : List Ty) (i : ℕ) (d : Ty) → i < length xs → reach (plain (get_or xs i d)) ≤ reach_types (plain_types xs)
reach_types_item [] i d h = absurd (omega arith)
reach_types_item (x ∷ xs) zero d h = omega arith
reach_types_item (x ∷ xs) (suc i) d h = omega (arith, reach_types_item xs i d (omega arith))

pub reach_labels_item : (xs : List (Name × Ty)) (i : ℕ) (d : Name × Ty) → i < length xs → reach (plain (get_or xs i d).1) ≤ reach_labels (plain_labels xs)
reach_labels_item [] i d h = absurd (omega arith)
reach_labels_item (x ∷ xs) zero d h = omega arith
reach_labels_item (x ∷ xs) (suc i) d h = omega (arith, reach_labels_item xs i d (omega arith))

pub reach_bounds_item : (xs : List Bound) (i : ℕ) (d : Bound) → i < length xs → reach_bound (plain_bound (get_or xs i d)) ≤ reach_bounds (plain_bounds xs)
reach_bounds_item [] i d h = absurd (omega arith)
reach_bounds_item (x ∷ xs) zero d h = omega arith
reach_bounds_item (x ∷ xs) (suc i) d h = omega (arith, reach_bounds_item xs i d (omega arith))

-- the type fields before the one at i, and that one
pub size_bounds_reach : (xs : List Bound) (i : ℕ) (d : Bound) → i < length xs → i + size_bound (plain_bound (get_or xs i d)) ≤ size_bounds (plain_bounds xs)
size_bounds_reach [] i d h = absurd (omega arith)
size_bounds_reach (x ∷ xs) zero d h = omega arith
size_bounds_reach (x ∷ xs) (suc i) d h = omega (arith, size_bounds_reach xs i d (omega arith), size_bound_positive (plain_bound x))

-- as many as the list has
pub count_types_length : (xs : List Ty) → count_types (plain_types xs) ≡ length xs
count_types_length [] = refl
count_types_length (x ∷ xs) = ap suc (count_types_length xs)

pub count_bounds_length : (xs : List Bound) → count_bounds (plain_bounds xs) ≡ length xs
count_bounds_length [] = refl
count_bounds_length (x ∷ xs) = ap suc (count_bounds_length xs)

pub count_size_bounds : (bs : PlainBounds) → count_bounds bs ≤ size_bounds bs
count_size_bounds no_bound = omega arith
count_size_bounds (bounds Free bs) = omega (arith, count_size_bounds bs)
count_size_bounds (bounds (Below t) bs) = omega (arith, count_size_bounds bs)
count_size_bounds (bounds (Operator n) bs) = omega (arith, count_size_bounds bs)

-- the same where its arguments are read as a slice
pub apply_is : (t : Ty) (i : ℕ) (v : Rc (Vec Ty Global) Global) (xs : List Ty) → t ≡ Apply_ i v → xs ≡ v.value.items → plain t ≡ Apply i (plain_types xs)
apply_is t i v xs e h = plain_is_apply t i v e ∙ ap (λ x. Apply i (plain_types x)) (sym h)

-- a record type, told by what it is, where its record is read
pub record_is : (t : Ty) (v : Rc Record Global) (r : Record) → t ≡ Fields_ v → r ≡ v.value → plain t ≡ plain_record r
record_is t v r e h = ap plain e ∙ plain_fields v ∙ ap plain_record (sym h)

-- what a loop over a row needs
pub ruleset types_rules = (types_push, types_drop, types_end, types_then_none, size_types_item)

pub ruleset bounds_rules = (bounds_push, bounds_drop, bounds_end, bounds_then_none, size_bounds_item)

pub ruleset labels_rules = (labels_push, labels_drop, labels_end, labels_then_none, size_labels_item)
