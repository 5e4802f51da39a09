-- Lists of written types, of type binders and of labelled fields, item by item, with their refusals.
use Rattle.std.proofs.Common.{◌≡◌, ℕ, ◌+◌, ◌≤◌, ◌<◌, List, [], ◌∷◌, ◌++◌, length, get_or, take, drop, refl, sym, ◌∙◌, ap, ap₂, subst, arith, Global}
use Rattle.std.specs.Prelude.{Vec}
use Rattle.std.proofs.lemmas.List.{take_all, take_more, take-append-drop}
use Rattle.pict_syntax.specs.declared.span.Span.{Span}
use Rattle.pict_syntax.specs.declared.id.Id.{Id}
use Rattle.pict_syntax.specs.declared.type_tree.TypeTree.{TypeTree as RTypeTree, Fields as TypeFields, Apply as TypeApply}
use Rattle.pict_syntax.specs.declared.type_tree.TypeBinder.{TypeBinder as RTypeBinder}
use Rattle.pict_syntax.specs.declared.type_tree.LabelledType.{LabelledType as RLabelledType}
use Rattle.pict_syntax.specs.Trees.{fields_type, apply_type, TypeTrees, no_types, more_types, TypeBinders, no_binders, more_binders, LabelledTypes, no_labelled_types, more_labelled_types}
use Rattle.pict_syntax.specs.PlainTrees.{type_of, binder_of, types_on, binders_on, labelled_types_on}
use Rattle.pict_normal.specs.declared.stops.KindError.{KindError}
use Rattle.pict_normal.specs.declared.stops.KindError.TheVariants.{Named, Memory}
use Rattle.pict_types.specs.declared.types.Ty.{Ty}
use Rattle.pict_types.specs.declared.types.Bound.{Bound as RBound}
use Rattle.pict_types.specs.Types.{types, bounds}
use Rattle.pict_types.specs.Plain.{plain, plain_bound, plain_types, plain_bounds}
use Rattle.pict_types.specs.Entries.{PlainContext}
use Rattle.pict_normal.specs.Normal.{and_type, and_bound, count_trees, kind_stops, types_stops, labels_stops, binders_stops, binder_stops, under_binders}
use Rattle.pict_normal.specs.Sizes.{nodes, nodes_of_types, nodes_of_labels, nodes_of_binders, nodes_of_binder}
use Rattle.pict_normal.specs.Refusals.{IsFirst}
use Rattle.pict_types.proofs.Congruent.{three}
use Rattle.pict_syntax.proofs.TypeLists.{types_more, binders_more, labelled_types_more, fields_type_is, apply_type_is, types_none}
use Rattle.pict_syntax.specs.Stops.{Stop}

-- one list behind another
types_append : (ts : TypeTrees) (xs ys : List RTypeTree) → types_on ts (xs ++ ys) ≡ types_on (types_on ts xs) ys
unfolding types_on
types_append ts [] ys = refl
types_append ts (x ∷ xs) ys = types_append (more_types ts (type_of x)) xs ys

binders_append : (bs : TypeBinders) (xs ys : List RTypeBinder) → binders_on bs (xs ++ ys) ≡ binders_on (binders_on bs xs) ys
unfolding binders_on
binders_append bs [] ys = refl
binders_append bs (x ∷ xs) ys = binders_append (more_binders bs (binder_of x)) xs ys

labelled_append : (ls : LabelledTypes) (xs ys : List RLabelledType) → labelled_types_on ls (xs ++ ys) ≡ labelled_types_on (labelled_types_on ls xs) ys
unfolding labelled_types_on
labelled_append ls [] ys = refl
labelled_append ls (x ∷ xs) ys = labelled_append (more_labelled_types ls x.label (type_of x.of)) xs ys

pub types_step : (xs : List RTypeTree) (i : ℕ) (d : RTypeTree) → i < length xs → types_on no_types (take (i + 1) xs) ≡ more_types (types_on no_types (take i xs)) (type_of (get_or xs i d))
types_step xs i d h = ap (types_on no_types) (take_more xs i d h) ∙ types_more no_types (take i xs) (get_or xs i d)

pub binders_step : (xs : List RTypeBinder) (i : ℕ) (d : RTypeBinder) → i < length xs → binders_on no_binders (take (i + 1) xs) ≡ more_binders (binders_on no_binders (take i xs)) (binder_of (get_or xs i d))
binders_step xs i d h = ap (binders_on no_binders) (take_more xs i d h) ∙ binders_more no_binders (take i xs) (get_or xs i d)

pub labelled_step : (xs : List RLabelledType) (i : ℕ) (d : RLabelledType) → i < length xs → labelled_types_on no_labelled_types (take (i + 1) xs) ≡ more_labelled_types (labelled_types_on no_labelled_types (take i xs)) (get_or xs i d).label (type_of (get_or xs i d).of)
labelled_step xs i d h = ap (labelled_types_on no_labelled_types) (take_more xs i d h) ∙ labelled_types_more no_labelled_types (take i xs) (get_or xs i d)

pub types_end : (xs : List RTypeTree) (i : ℕ) → length xs ≤ i → types_on no_types (take i xs) ≡ types_on no_types xs
types_end xs i h = let e : take i xs ≡ xs = take_all i xs h in ap (types_on no_types) e

pub labelled_end : (xs : List RLabelledType) (i : ℕ) → length xs ≤ i → labelled_types_on no_labelled_types (take i xs) ≡ labelled_types_on no_labelled_types xs
labelled_end xs i h = let e : take i xs ≡ xs = take_all i xs h in ap (labelled_types_on no_labelled_types) e

-- as many trees as the list has
count_on : (ts : TypeTrees) (xs : List RTypeTree) → count_trees (types_on ts xs) ≡ count_trees ts + length xs
unfolding types_on
count_on ts [] = omega arith
count_on ts (x ∷ xs) = omega (arith, count_on (more_types ts (type_of x)) xs)

pub count_trees_on : (xs : List RTypeTree) → count_trees (types_on no_types xs) ≡ length xs
count_trees_on xs = omega (arith, count_on no_types xs)

-- an item has no more nodes than its list
types_grow : (ts : TypeTrees) (xs : List RTypeTree) → nodes_of_types ts ≤ nodes_of_types (types_on ts xs)
unfolding types_on
types_grow ts [] = omega arith
types_grow ts (x ∷ xs) = omega (arith, types_grow (more_types ts (type_of x)) xs)

pub nodes_of_type_item : (xs : List RTypeTree) (i : ℕ) (d : RTypeTree) → i < length xs → nodes (type_of (get_or xs i d)) ≤ nodes_of_types (types_on no_types xs)
nodes_of_type_item xs i d h =
    let e : types_on no_types xs ≡ types_on (more_types (types_on no_types (take i xs)) (type_of (get_or xs i d))) (drop (i + 1) xs) = ap (types_on no_types) (sym (take-append-drop (i + 1) xs)) ∙ types_append no_types (take (i + 1) xs) (drop (i + 1) xs) ∙ ap (λ x. types_on x (drop (i + 1) xs)) (types_step xs i d h) in
    omega (arith, ap nodes_of_types e, types_grow (more_types (types_on no_types (take i xs)) (type_of (get_or xs i d))) (drop (i + 1) xs))

labelled_grow : (ls : LabelledTypes) (xs : List RLabelledType) → nodes_of_labels ls ≤ nodes_of_labels (labelled_types_on ls xs)
unfolding labelled_types_on
labelled_grow ls [] = omega arith
labelled_grow ls (x ∷ xs) = omega (arith, labelled_grow (more_labelled_types ls x.label (type_of x.of)) xs)

pub nodes_of_label_item : (xs : List RLabelledType) (i : ℕ) (d : RLabelledType) → i < length xs → nodes (type_of (get_or xs i d).of) ≤ nodes_of_labels (labelled_types_on no_labelled_types xs)
nodes_of_label_item xs i d h =
    let x = get_or xs i d in
    let l = more_labelled_types (labelled_types_on no_labelled_types (take i xs)) x.label (type_of x.of) in
    let e : labelled_types_on no_labelled_types xs ≡ labelled_types_on l (drop (i + 1) xs) = ap (labelled_types_on no_labelled_types) (sym (take-append-drop (i + 1) xs)) ∙ labelled_append no_labelled_types (take (i + 1) xs) (drop (i + 1) xs) ∙ ap (λ x. labelled_types_on x (drop (i + 1) xs)) (labelled_step xs i d h) in
    omega (arith, ap nodes_of_labels e, labelled_grow l (drop (i + 1) xs))

binders_grow : (bs : TypeBinders) (xs : List RTypeBinder) → nodes_of_binders bs ≤ nodes_of_binders (binders_on bs xs)
unfolding binders_on
binders_grow bs [] = omega arith
binders_grow bs (x ∷ xs) = omega (arith, binders_grow (more_binders bs (binder_of x)) xs)

pub nodes_of_binder_item : (xs : List RTypeBinder) (i : ℕ) (d : RTypeBinder) → i < length xs → nodes_of_binders (binders_on no_binders (take i xs)) + nodes_of_binder (binder_of (get_or xs i d)) ≤ nodes_of_binders (binders_on no_binders xs)
nodes_of_binder_item xs i d h =
    let b = more_binders (binders_on no_binders (take i xs)) (binder_of (get_or xs i d)) in
    let e : binders_on no_binders xs ≡ binders_on b (drop (i + 1) xs) = ap (binders_on no_binders) (sym (take-append-drop (i + 1) xs)) ∙ binders_append no_binders (take (i + 1) xs) (drop (i + 1) xs) ∙ ap (λ x. binders_on x (drop (i + 1) xs)) (binders_step xs i d h) in
    omega (arith, ap nodes_of_binders e, binders_grow b (drop (i + 1) xs))

-- the first refusal of one list is the first of a longer one, and where there is none, that of the rest is
pub first_before : (xs ys : List Stop) (e : KindError) → IsFirst xs e → IsFirst (xs ++ ys) e
first_before [] ys (Named code span) h = absurd h
first_before (x ∷ xs) ys (Named code span) h = h
first_before xs ys Memory h = tt

pub first_after : (xs ys : List Stop) (e : KindError) → xs ≡ [] → IsFirst ys e → IsFirst (xs ++ ys) e
first_after xs ys e is h = subst (λ x. IsFirst (x ++ ys) e) (sym is) h

pub none_both : (xs ys : List Stop) → xs ≡ [] → ys ≡ [] → xs ++ ys ≡ []
none_both xs ys h k = ap₂ (λ x y. x ++ y) h k

types_first_kept : (ns : List (List ℕ)) (c : PlainContext) (ts : TypeTrees) (xs : List RTypeTree) (e : KindError) → IsFirst (types_stops ns c ts) e → IsFirst (types_stops ns c (types_on ts xs)) e
unfolding types_on
types_first_kept ns c ts [] e h = h
types_first_kept ns c ts (x ∷ xs) e h = types_first_kept ns c (more_types ts (type_of x)) xs e (first_before (types_stops ns c ts) (kind_stops ns c (type_of x)) e h)

pub types_first : (ns : List (List ℕ)) (c : PlainContext) (xs : List RTypeTree) (i : ℕ) (d : RTypeTree) (e : KindError) → i < length xs → types_stops ns c (types_on no_types (take i xs)) ≡ [] → IsFirst (kind_stops ns c (type_of (get_or xs i d))) e → IsFirst (types_stops ns c (types_on no_types xs)) e
types_first ns c xs i d e h none k =
    let ts = types_on no_types (take i xs) in
    let x = type_of (get_or xs i d) in
    let is : types_on no_types xs ≡ types_on (more_types ts x) (drop (i + 1) xs) = ap (types_on no_types) (sym (take-append-drop (i + 1) xs)) ∙ types_append no_types (take (i + 1) xs) (drop (i + 1) xs) ∙ ap (λ x. types_on x (drop (i + 1) xs)) (types_step xs i d h) in
    subst (λ l. IsFirst (types_stops ns c l) e) (sym is)
    (types_first_kept ns c (more_types ts x) (drop (i + 1) xs) e (first_after (types_stops ns c ts) (kind_stops ns c x) e none k))

labels_first_kept : (ns : List (List ℕ)) (c : PlainContext) (ls : LabelledTypes) (xs : List RLabelledType) (e : KindError) → IsFirst (labels_stops ns c ls) e → IsFirst (labels_stops ns c (labelled_types_on ls xs)) e
unfolding labelled_types_on
labels_first_kept ns c ls [] e h = h
labels_first_kept ns c ls (x ∷ xs) e h = labels_first_kept ns c (more_labelled_types ls x.label (type_of x.of)) xs e (first_before (labels_stops ns c ls) (kind_stops ns c (type_of x.of)) e h)

pub labels_first : (ns : List (List ℕ)) (c : PlainContext) (xs : List RLabelledType) (i : ℕ) (d : RLabelledType) (e : KindError) → i < length xs → labels_stops ns c (labelled_types_on no_labelled_types (take i xs)) ≡ [] → IsFirst (kind_stops ns c (type_of (get_or xs i d).of)) e → IsFirst (labels_stops ns c (labelled_types_on no_labelled_types xs)) e
labels_first ns c xs i d e h none k =
    let x = get_or xs i d in
    let ls = labelled_types_on no_labelled_types (take i xs) in
    let l = more_labelled_types ls x.label (type_of x.of) in
    let is : labelled_types_on no_labelled_types xs ≡ labelled_types_on l (drop (i + 1) xs) = ap (labelled_types_on no_labelled_types) (sym (take-append-drop (i + 1) xs)) ∙ labelled_append no_labelled_types (take (i + 1) xs) (drop (i + 1) xs) ∙ ap (λ x. labelled_types_on x (drop (i + 1) xs)) (labelled_step xs i d h) in
    subst (λ l. IsFirst (labels_stops ns c l) e) (sym is)
    (labels_first_kept ns c l (drop (i + 1) xs) e (first_after (labels_stops ns c ls) (kind_stops ns c (type_of x.of)) e none k))

binders_first_kept : (ns : List (List ℕ)) (c : PlainContext) (bs : TypeBinders) (xs : List RTypeBinder) (e : KindError) → IsFirst (binders_stops ns c bs) e → IsFirst (binders_stops ns c (binders_on bs xs)) e
unfolding binders_on
binders_first_kept ns c bs [] e h = h
binders_first_kept ns c bs (x ∷ xs) e h = binders_first_kept ns c (more_binders bs (binder_of x)) xs e (first_before (binders_stops ns c bs) (binder_stops ns (under_binders ns c bs) (binder_of x)) e h)

pub binders_first : (ns : List (List ℕ)) (c : PlainContext) (xs : List RTypeBinder) (i : ℕ) (d : RTypeBinder) (e : KindError) → i < length xs → binders_stops ns c (binders_on no_binders (take i xs)) ≡ [] → IsFirst (binder_stops ns (under_binders ns c (binders_on no_binders (take i xs))) (binder_of (get_or xs i d))) e → IsFirst (binders_stops ns c (binders_on no_binders xs)) e
binders_first ns c xs i d e h none k =
    let bs = binders_on no_binders (take i xs) in
    let x = binder_of (get_or xs i d) in
    let is : binders_on no_binders xs ≡ binders_on (more_binders bs x) (drop (i + 1) xs) = ap (binders_on no_binders) (sym (take-append-drop (i + 1) xs)) ∙ binders_append no_binders (take (i + 1) xs) (drop (i + 1) xs) ∙ ap (λ x. binders_on x (drop (i + 1) xs)) (binders_step xs i d h) in
    subst (λ l. IsFirst (binders_stops ns c l) e) (sym is)
    (binders_first_kept ns c (more_binders bs x) (drop (i + 1) xs) e (first_after (binders_stops ns c bs) (binder_stops ns (under_binders ns c bs) x) e none k))

-- the same where the lists are read as slices
pub fields_tree : (t : RTypeTree) (s : Span) (bs : Vec RTypeBinder Global) (ts : Vec RTypeTree Global) (ls : Vec RLabelledType Global) (xs : List RTypeBinder) (ys : List RTypeTree) (zs : List RLabelledType) → t ≡ TypeFields s bs ts ls → xs ≡ bs.items → ys ≡ ts.items → zs ≡ ls.items → type_of t ≡ fields_type s (binders_on no_binders xs) (types_on no_types ys) (labelled_types_on no_labelled_types zs)
fields_tree t s bs ts ls xs ys zs is p q r =
    ap type_of is ∙ fields_type_is s bs ts ls
    ∙ three (λ x y z. fields_type s (binders_on no_binders x) (types_on no_types y) (labelled_types_on no_labelled_types z)) (sym p) (sym q) (sym r)

pub apply_tree : (t : RTypeTree) (s : Span) (i : Id) (ts : Vec RTypeTree Global) (xs : List RTypeTree) → t ≡ TypeApply s i ts → xs ≡ ts.items → type_of t ≡ apply_type s i (types_on no_types xs)
apply_tree t s i ts xs is q = ap type_of is ∙ apply_type_is s i ts ∙ ap (λ y. apply_type s i (types_on no_types y)) (sym q)

-- rows of a record with one more item
pub types_and : (xs : List Ty) (x : Ty) → plain_types (xs ++ x ∷ []) ≡ and_type (plain_types xs) (plain x)
types_and [] x = refl
types_and (y ∷ xs) x = ap (types (plain y)) (types_and xs x)

pub bounds_and : (xs : List RBound) (x : RBound) → plain_bounds (xs ++ x ∷ []) ≡ and_bound (plain_bounds xs) (plain_bound x)
bounds_and [] x = refl
bounds_and (y ∷ xs) x = ap (bounds (plain_bound y)) (bounds_and xs x)

-- what a loop over written types needs
pub ruleset types_read = (types_step, types_end, types_none, nodes_of_type_item)

-- the trees that hold lists
pub ruleset list_forms = (fields_type_is, apply_type_is)
