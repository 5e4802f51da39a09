-- Raw forms and refusals of lists, one item more.
use Rattle.std.proofs.Common.{◌≡◌, ℕ, ◌+◌, ◌<◌, List, [], ◌∷◌, ◌++◌, length, get_or, take, sym, ◌∙◌, ap, ap₂, subst}
use Rattle.std.specs.Result.{IsErrAnd, IfErr}
use Rattle.std.specs.Prelude.{Result, Ok, Err}
use Rattle.pict_syntax.specs.declared.name.Name.{Name}
use Rattle.pict_syntax.specs.declared.span.Span.{Span}
use Rattle.pict_syntax.specs.declared.type_tree.TypeTree.{TypeTree as RTypeTree}
use Rattle.pict_syntax.specs.declared.type_tree.TypeBinder.{TypeBinder as RTypeBinder}
use Rattle.pict_syntax.specs.declared.type_tree.LabelledType.{LabelledType as RLabelledType}
use Rattle.pict_syntax.specs.Trees.{TypeTrees, no_types, TypeBinder, TypeBinders, no_binders, LabelledTypes, no_labelled_types, fields_type}
use Rattle.std.specs.Option.{option_map}
use Rattle.pict_syntax.specs.PlainTrees.{kind_of, type_of, binder_of, types_on, binders_on, labelled_types_on}
use Rattle.pict_types.specs.declared.types.Ty.{Ty}
use Rattle.pict_types.specs.declared.types.Bound.{Bound as RBound}
use Rattle.pict_normal.specs.declared.stops.KindError.{KindError}
use Rattle.pict_types.specs.Types.{PlainTypes, PlainLabels, PlainBounds, Fields}
use Rattle.pict_types.specs.Plain.{plain, plain_bound, plain_types, plain_bounds, plain_labels}
use Rattle.pict_types.specs.Entries.{PlainContext}
use Rattle.pict_normal.specs.BinderEntries.{bound_entry, entries_under}
use Rattle.pict_normal.specs.Normal.{and_type, and_bound, under_binders, kind_stops, types_stops, labels_stops, binders_stops, binder_stops}
use Rattle.pict_types.specs.Places.{entry_names}
use Rattle.pict_normal.specs.Raw.{raw, raw_types, raw_labels, raw_binders, raw_binder}
use Rattle.pict_normal.specs.Refusals.{IsFirst}
use Rattle.pict_normal.proofs.Trees.{types_step, binders_step, labelled_step, types_and, bounds_and, none_both, types_first, labels_first, binders_first, first_before, first_after}
use Rattle.pict_normal.proofs.LabelOrder.{and_label, unsorted, labels_and}
use Rattle.pict_normal.proofs.SameMeanings.{entries_same, names_entries, binder_stops_same, types_stops_same, labels_stops_same}
use Rattle.pict_types.proofs.Congruent.{three}

pub passed_up : {T E : Type 0} (r : Result T E) (e : E) (P : E → Type 0) → IsErrAnd r (λ y. y ≡ e) → P e → IfErr r P
passed_up (Ok x) e P is p = tt
passed_up (Err y) e P is p = subst P (sym is) p

-- types
pub types_raw : (ns : List (List ℕ)) (c d e : PlainContext) (xs : List RTypeTree) (i : ℕ) (x : RTypeTree) (us : List Ty) (u : Ty) → i < length xs → e ≡ d → plain_types us ≡ raw_types ns (entry_names (d ++ c)) (types_on no_types (take i xs)) → plain u ≡ raw ns (entry_names (e ++ c)) (type_of (get_or xs i x)) → plain_types (us ++ u ∷ []) ≡ raw_types ns (entry_names (d ++ c)) (types_on no_types (take (i + 1) xs))
types_raw ns c d e xs i x us u h q r k =
    types_and us u
    ∙ ap₂ and_type r (k ∙ ap (λ y. raw ns (entry_names (y ++ c)) (type_of (get_or xs i x))) q)
    ∙ sym (ap (raw_types ns (entry_names (d ++ c))) (types_step xs i x h))

pub types_kinds : (ns : List (List ℕ)) (c d e : PlainContext) (xs : List RTypeTree) (i : ℕ) (x : RTypeTree) → i < length xs → e ≡ d → types_stops ns (d ++ c) (types_on no_types (take i xs)) ≡ [] → kind_stops ns (e ++ c) (type_of (get_or xs i x)) ≡ [] → types_stops ns (d ++ c) (types_on no_types (take (i + 1) xs)) ≡ []
types_kinds ns c d e xs i x h q r k =
    ap (types_stops ns (d ++ c)) (types_step xs i x h)
    ∙ none_both (types_stops ns (d ++ c) (types_on no_types (take i xs))) (kind_stops ns (d ++ c) (type_of (get_or xs i x))) r (sym (ap (λ y. kind_stops ns (y ++ c) (type_of (get_or xs i x))) q) ∙ k)

pub types_refused : (ns : List (List ℕ)) (c d e : PlainContext) (xs : List RTypeTree) (i : ℕ) (x : RTypeTree) (err : KindError) → i < length xs → e ≡ d → types_stops ns (d ++ c) (types_on no_types (take i xs)) ≡ [] → IsFirst (kind_stops ns (e ++ c) (type_of (get_or xs i x))) err → IsFirst (types_stops ns (d ++ c) (types_on no_types xs)) err
types_refused ns c d e xs i x err h q r k =
    types_first ns (d ++ c) xs i x err h r (subst (λ y. IsFirst (kind_stops ns (y ++ c) (type_of (get_or xs i x))) err) q k)

-- labelled fields
pub labels_raw : (ns : List (List ℕ)) (c d e : PlainContext) (xs : List RLabelledType) (i : ℕ) (x : RLabelledType) (us : List (Name × Ty)) (u : Name × Ty) → i < length xs → e ≡ d → plain_labels us ≡ unsorted ns (entry_names (d ++ c)) (labelled_types_on no_labelled_types (take i xs)) → u.0 ≡ (get_or xs i x).label.name → plain u.1 ≡ raw ns (entry_names (e ++ c)) (type_of (get_or xs i x).of) → plain_labels (us ++ u ∷ []) ≡ unsorted ns (entry_names (d ++ c)) (labelled_types_on no_labelled_types (take (i + 1) xs))
labels_raw ns c d e xs i x us u h q r l k =
    labels_and us u
    ∙ three and_label r (ap (λ n. n.0) l) (k ∙ ap (λ y. raw ns (entry_names (y ++ c)) (type_of (get_or xs i x).of)) q)
    ∙ sym (ap (unsorted ns (entry_names (d ++ c))) (labelled_step xs i x h))

pub labels_kinds : (ns : List (List ℕ)) (c d e : PlainContext) (xs : List RLabelledType) (i : ℕ) (x : RLabelledType) → i < length xs → e ≡ d → labels_stops ns (d ++ c) (labelled_types_on no_labelled_types (take i xs)) ≡ [] → kind_stops ns (e ++ c) (type_of (get_or xs i x).of) ≡ [] → labels_stops ns (d ++ c) (labelled_types_on no_labelled_types (take (i + 1) xs)) ≡ []
labels_kinds ns c d e xs i x h q r k =
    ap (labels_stops ns (d ++ c)) (labelled_step xs i x h)
    ∙ none_both (labels_stops ns (d ++ c) (labelled_types_on no_labelled_types (take i xs))) (kind_stops ns (d ++ c) (type_of (get_or xs i x).of)) r (sym (ap (λ y. kind_stops ns (y ++ c) (type_of (get_or xs i x).of)) q) ∙ k)

pub labels_refused : (ns : List (List ℕ)) (c d e : PlainContext) (xs : List RLabelledType) (i : ℕ) (x : RLabelledType) (err : KindError) → i < length xs → e ≡ d → labels_stops ns (d ++ c) (labelled_types_on no_labelled_types (take i xs)) ≡ [] → IsFirst (kind_stops ns (e ++ c) (type_of (get_or xs i x).of)) err → IsFirst (labels_stops ns (d ++ c) (labelled_types_on no_labelled_types xs)) err
labels_refused ns c d e xs i x err h q r k =
    labels_first ns (d ++ c) xs i x err h r (subst (λ y. IsFirst (kind_stops ns (y ++ c) (type_of (get_or xs i x).of)) err) q k)

-- type binders
pub binders_raw : (ns : List (List ℕ)) (c e s : PlainContext) (xs : List RTypeBinder) (i : ℕ) (x : RTypeBinder) (ds : List RBound) (d : RBound) → i < length xs → s ≡ entries_under e (binders_on no_binders (take i xs)) → plain_bounds ds ≡ raw_binders ns (entry_names (e ++ c)) (binders_on no_binders (take i xs)) → plain_bound d ≡ raw_binder ns (entry_names (s ++ c)) (binder_of (get_or xs i x)) → plain_bounds (ds ++ d ∷ []) ≡ raw_binders ns (entry_names (e ++ c)) (binders_on no_binders (take (i + 1) xs))
binders_raw ns c e s xs i x ds d h q r k =
    let bs = binders_on no_binders (take i xs) in
    bounds_and ds d
    ∙ ap₂ and_bound r (k ∙ ap (λ y. raw_binder ns y (binder_of (get_or xs i x))) (ap (λ z. entry_names (z ++ c)) q ∙ names_entries e c bs))
    ∙ sym (ap (raw_binders ns (entry_names (e ++ c))) (binders_step xs i x h))

same_stops : (ns : List (List ℕ)) (c e s : PlainContext) (bs : TypeBinders) (b : TypeBinder) → s ≡ entries_under e bs → binder_stops ns (s ++ c) b ≡ binder_stops ns (under_binders ns (e ++ c) bs) b
same_stops ns c e s bs b q = ap (λ y. binder_stops ns (y ++ c) b) q ∙ sym (binder_stops_same ns (entries_same ns e c bs) b)

pub binders_kinds : (ns : List (List ℕ)) (c e s : PlainContext) (xs : List RTypeBinder) (i : ℕ) (x : RTypeBinder) → i < length xs → s ≡ entries_under e (binders_on no_binders (take i xs)) → binders_stops ns (e ++ c) (binders_on no_binders (take i xs)) ≡ [] → binder_stops ns (s ++ c) (binder_of (get_or xs i x)) ≡ [] → binders_stops ns (e ++ c) (binders_on no_binders (take (i + 1) xs)) ≡ []
binders_kinds ns c e s xs i x h q r k =
    let bs = binders_on no_binders (take i xs) in
    let b = binder_of (get_or xs i x) in
    ap (binders_stops ns (e ++ c)) (binders_step xs i x h)
    ∙ none_both (binders_stops ns (e ++ c) bs) (binder_stops ns (under_binders ns (e ++ c) bs) b) r (sym (same_stops ns c e s bs b q) ∙ k)

pub binders_refused : (ns : List (List ℕ)) (c e s : PlainContext) (xs : List RTypeBinder) (i : ℕ) (x : RTypeBinder) (err : KindError) → i < length xs → s ≡ entries_under e (binders_on no_binders (take i xs)) → binders_stops ns (e ++ c) (binders_on no_binders (take i xs)) ≡ [] → IsFirst (binder_stops ns (s ++ c) (binder_of (get_or xs i x))) err → IsFirst (binders_stops ns (e ++ c) (binders_on no_binders xs)) err
binders_refused ns c e s xs i x err h q r k =
    let bs = binders_on no_binders (take i xs) in
    let b = binder_of (get_or xs i x) in
    binders_first ns (e ++ c) xs i x err h r (subst (λ y. IsFirst y err) (same_stops ns c e s bs b q) k)

pub binders_inner : (e s : PlainContext) (xs : List RTypeBinder) (i : ℕ) (x : RTypeBinder) → i < length xs → s ≡ bound_entry (get_or xs i x).id.name.0 (option_map kind_of (get_or xs i x).kind) ∷ entries_under e (binders_on no_binders (take i xs)) → s ≡ entries_under e (binders_on no_binders (take (i + 1) xs))
binders_inner e s xs i x h q = q ∙ sym (ap (entries_under e) (binders_step xs i x h))

-- a record
pub record_raw : (ns : List (List ℕ)) (c e s r : PlainContext) (sp : Span) (bs : TypeBinders) (ts : TypeTrees) (ls : LabelledTypes) (ds : PlainBounds) (us : PlainTypes) (vs : PlainLabels) → s ≡ entries_under e bs → r ≡ s → ds ≡ raw_binders ns (entry_names (e ++ c)) bs → us ≡ raw_types ns (entry_names (s ++ c)) ts → vs ≡ raw_labels ns (entry_names (r ++ c)) ls → Fields ds us vs ≡ raw ns (entry_names (e ++ c)) (fields_type sp bs ts ls)
record_raw ns c e s r sp bs ts ls ds us vs p q h k l =
    let n = ap (λ z. entry_names (z ++ c)) p ∙ names_entries e c bs in
    three Fields h (k ∙ ap (λ y. raw_types ns y ts) n) (l ∙ ap (λ y. raw_labels ns y ls) (ap (λ z. entry_names (z ++ c)) q ∙ n))

types_there : (ns : List (List ℕ)) (c e s : PlainContext) (bs : TypeBinders) (ts : TypeTrees) → s ≡ entries_under e bs → types_stops ns (s ++ c) ts ≡ types_stops ns (under_binders ns (e ++ c) bs) ts
types_there ns c e s bs ts p = ap (λ y. types_stops ns (y ++ c) ts) p ∙ sym (types_stops_same ns (entries_same ns e c bs) ts)

labels_there : (ns : List (List ℕ)) (c e s : PlainContext) (bs : TypeBinders) (ls : LabelledTypes) → s ≡ entries_under e bs → labels_stops ns (s ++ c) ls ≡ labels_stops ns (under_binders ns (e ++ c) bs) ls
labels_there ns c e s bs ls p = ap (λ y. labels_stops ns (y ++ c) ls) p ∙ sym (labels_stops_same ns (entries_same ns e c bs) ls)

pub record_kinds : (ns : List (List ℕ)) (c e s r : PlainContext) (sp : Span) (bs : TypeBinders) (ts : TypeTrees) (ls : LabelledTypes) → s ≡ entries_under e bs → r ≡ s → binders_stops ns (e ++ c) bs ≡ [] → types_stops ns (s ++ c) ts ≡ [] → labels_stops ns (r ++ c) ls ≡ [] → kind_stops ns (e ++ c) (fields_type sp bs ts ls) ≡ []
record_kinds ns c e s r sp bs ts ls p q h k l =
    let d = under_binders ns (e ++ c) bs in
    none_both (binders_stops ns (e ++ c) bs ++ types_stops ns d ts) (labels_stops ns d ls)
    (none_both (binders_stops ns (e ++ c) bs) (types_stops ns d ts) h (sym (types_there ns c e s bs ts p) ∙ k))
    (sym (labels_there ns c e r bs ls (q ∙ p)) ∙ l)

pub record_refused_types : (ns : List (List ℕ)) (c e s : PlainContext) (sp : Span) (bs : TypeBinders) (ts : TypeTrees) (ls : LabelledTypes) (err : KindError) → s ≡ entries_under e bs → binders_stops ns (e ++ c) bs ≡ [] → IsFirst (types_stops ns (s ++ c) ts) err → IsFirst (kind_stops ns (e ++ c) (fields_type sp bs ts ls)) err
record_refused_types ns c e s sp bs ts ls err p h k =
    let d = under_binders ns (e ++ c) bs in
    first_before (binders_stops ns (e ++ c) bs ++ types_stops ns d ts) (labels_stops ns d ls) err
    (first_after (binders_stops ns (e ++ c) bs) (types_stops ns d ts) err h (subst (λ y. IsFirst y err) (types_there ns c e s bs ts p) k))

pub record_refused_labels : (ns : List (List ℕ)) (c e s r : PlainContext) (sp : Span) (bs : TypeBinders) (ts : TypeTrees) (ls : LabelledTypes) (err : KindError) → s ≡ entries_under e bs → r ≡ s → binders_stops ns (e ++ c) bs ≡ [] → types_stops ns (s ++ c) ts ≡ [] → IsFirst (labels_stops ns (r ++ c) ls) err → IsFirst (kind_stops ns (e ++ c) (fields_type sp bs ts ls)) err
record_refused_labels ns c e s r sp bs ts ls err p q h k l =
    let d = under_binders ns (e ++ c) bs in
    first_after (binders_stops ns (e ++ c) bs ++ types_stops ns d ts) (labels_stops ns d ls) err
    (none_both (binders_stops ns (e ++ c) bs) (types_stops ns d ts) h (sym (types_there ns c e s bs ts p) ∙ k))
    (subst (λ y. IsFirst y err) (labels_there ns c e r bs ls (q ∙ p)) l)
