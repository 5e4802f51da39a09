-- Records without a type to go by, one lemma for each way that a body ends; and lists of labelled values.
use Rattle.std.proofs.Common.{◌≡◌, ◌==◌, ℕ, suc, ◌+◌, ◌<◌, ◌≤◌, List, [], ◌∷◌, ◌++◌, length, get_or, take, refl, sym, ◌∙◌, ap, subst, Bool, true, false, arith, Result}
use Rattle.std.proofs.lemmas.Bool.{eqb-true}
use Rattle.pict_syntax.specs.declared.code.Code.TheVariants.{Y7}
use Rattle.pict_syntax.specs.declared.name.Name.{Name}
use Rattle.pict_syntax.specs.declared.span.Span.{Span}
use Rattle.pict_syntax.specs.declared.tree.Val.{Val as RVal}
use Rattle.pict_syntax.specs.declared.tree.LabelledVal.{LabelledVal as RLabelledVal}
use Rattle.pict_syntax.specs.declared.type_tree.TypeTree.{TypeTree as RTypeTree}
use Rattle.pict_syntax.specs.Trees.{TypeTree, TypeTrees, no_types, more_types, Vals, no_vals, LabelledVals, no_labelled_vals, FieldVals, field_vals, fields_val}
use Rattle.pict_syntax.specs.PlainTrees.{labelled_vals_on, type_of, types_on, val_of, vals_on}
use Rattle.pict_syntax.specs.Labels.{by_number, in_label_order}
use Rattle.pict_syntax.proofs.ValueLists.{labelled_vals_none, vals_none}
use Rattle.pict_types.specs.declared.types.Ty.{Ty}
use Rattle.pict_types.specs.Plain.{plain, plain_labels, plain_types}
use Rattle.pict_types.specs.Types.{PlainTypes, PlainLabels, Fields, no_bound}
use Rattle.pict_normal.specs.Normal.{with_labelled_type}
use Rattle.pict_normal.proofs.LabelOrder.{fields_sorted, in_order, in_order_and, labels_and}
use Rattle.pict_rules.specs.Environments.{Environment}
use Rattle.pict_rules.specs.Shapes.{none_written}
use Rattle.pict_rules.specs.Rules.{type_, types_, labels_, gives, values_give, labelled_values_give, Rule, ok, stuck, part, ensure}
use Rattle.pict_rules.specs.Typing.{rule}
use Rattle.pict_rules.specs.Derivations.{Runs, give_, refuse_, part_ok}
use Rattle.pict_rules.specs.Reached.{Asks, this_part, past_part}
use Rattle.pict_infer.specs.declared.error.InferError.{InferError}
use Rattle.pict_infer.specs.Answering.{IsRefused, IsAnswer}
use Rattle.pict_infer.specs.Asking.{IsWellAsked}
use Rattle.pict_infer.proofs.Asked.{asked_of}
use Rattle.pict_lines.specs.Lines.{formed}
use Rattle.pict_lines.proofs.Ends.{past, past_refused, refused_here}
use Rattle.pict_check.proofs.FieldEnds.{IsFields}
use Rattle.pict_lines.proofs.Rows.{row_all, row_asked, row_more, row_refused}
use Rattle.pict_check.proofs.RowEnds.{labelled_row, value_asked, value_more, value_refused}

-- whether type arguments are written
some_on : (ts : TypeTrees) (t : TypeTree) (xs : List RTypeTree) → none_written (types_on (more_types ts t) xs) ≡ false
unfolding types_on
some_on ts t [] = refl
some_on ts t (x ∷ xs) = some_on (more_types ts t) (type_of x) xs

pub none_on : (xs : List RTypeTree) (n : ℕ) (b : Bool) → n ≡ length xs → b ≡ (n == 0) → none_written (types_on no_types xs) ≡ b
unfolding types_on
none_on [] n b h k = sym (k ∙ ap (λ m. m == 0) h)
none_on (x ∷ xs) n false h k = some_on no_types (type_of x) xs
none_on (x ∷ xs) n true h k = let none : suc (length xs) ≡ 0 = eqb-true (suc (length xs)) 0 (sym (k ∙ ap (λ m. m == 0) h)) in absurd (omega arith)

-- A RECORD

abbrev Given : Environment → Span → Vals → LabelledVals → Rule type_
Given e s vs ls = part e (values_give vs) (λ ps. part e (labelled_values_give ls) (λ ms. formed e (Fields no_bound ps ms) s))

record_rule : (e : Environment) (s : Span) (ts : TypeTrees) (vs : Vals) (ls : LabelledVals) (b : Bool) → none_written ts ≡ b → rule e (gives (fields_val s (field_vals ts vs ls))) ≡ ensure b Y7 s (Given e s vs ls)
record_rule e s ts vs ls b h = ap (λ (z : Bool). ensure z Y7 s (Given e s vs ls)) h

pub record_named : (e : Environment) (s : Span) (f : FieldVals) (ts : TypeTrees) (vs : Vals) (ls : LabelledVals) → IsFields f ts vs ls → none_written ts ≡ false → Runs (rule e (gives (fields_val s f))) (stuck Y7 s)
record_named e s f ts vs ls is h =
    subst (λ (z : FieldVals). Runs (rule e (gives (fields_val s z))) (stuck Y7 s)) (sym is) (subst (λ r. Runs r (stuck Y7 s)) (sym (record_rule e s ts vs ls false h)) refuse_)

asked_as : (e : Environment) (s : Span) (f : FieldVals) (ts : TypeTrees) (vs : Vals) (ls : LabelledVals) → IsFields f ts vs ls → IsWellAsked type_ e (gives (fields_val s f)) → IsWellAsked type_ e (gives (fields_val s (field_vals ts vs ls)))
asked_as e s f ts vs ls is h = subst (λ (z : FieldVals). IsWellAsked type_ e (gives (fields_val s z))) is h

refused_as : (e : Environment) (s : Span) (f : FieldVals) (ts : TypeTrees) (vs : Vals) (ls : LabelledVals) (y : InferError) → IsFields f ts vs ls → none_written ts ≡ true → IsRefused (Given e s vs ls) y → IsRefused (rule e (gives (fields_val s f))) y
refused_as e s f ts vs ls y is n h =
    subst (λ (z : FieldVals). IsRefused (rule e (gives (fields_val s z))) y) (sym is) (subst (λ r. IsRefused r y) (sym (record_rule e s ts vs ls true n)) h)

pub values_asked : (e : Environment) (s : Span) (f : FieldVals) (ts : TypeTrees) (vs : Vals) (ls : LabelledVals) → IsFields f ts vs ls → none_written ts ≡ true → IsWellAsked type_ e (gives (fields_val s f)) → IsWellAsked types_ e (values_give vs)
values_asked e s f ts vs ls is n h =
    asked_of (gives (fields_val s (field_vals ts vs ls))) (asked_as e s f ts vs ls is h) (subst (λ r. Asks type_ r types_ e (values_give vs)) (sym (record_rule e s ts vs ls true n)) this_part)

pub labels_asked : (e : Environment) (s : Span) (f : FieldVals) (ts : TypeTrees) (vs : Vals) (ls : LabelledVals) (ps : PlainTypes) → IsFields f ts vs ls → none_written ts ≡ true → IsWellAsked type_ e (gives (fields_val s f)) → Runs (rule e (values_give vs)) (ok ps) → IsWellAsked labels_ e (labelled_values_give ls)
labels_asked e s f ts vs ls ps is n h p =
    asked_of (gives (fields_val s (field_vals ts vs ls))) (asked_as e s f ts vs ls is h) (subst (λ r. Asks type_ r labels_ e (labelled_values_give ls)) (sym (record_rule e s ts vs ls true n)) (past_part p this_part))

pub values_refused : (e : Environment) (s : Span) (f : FieldVals) (ts : TypeTrees) (vs : Vals) (ls : LabelledVals) (y : InferError) → IsFields f ts vs ls → none_written ts ≡ true → IsRefused (rule e (values_give vs)) y → IsRefused (rule e (gives (fields_val s f))) y
values_refused e s f ts vs ls y is n h = refused_as e s f ts vs ls y is n (refused_here _ _ _ y h)

pub labels_refused : (e : Environment) (s : Span) (f : FieldVals) (ts : TypeTrees) (vs : Vals) (ls : LabelledVals) (ps : PlainTypes) (y : InferError) → IsFields f ts vs ls → none_written ts ≡ true → Runs (rule e (values_give vs)) (ok ps) → IsRefused (rule e (labelled_values_give ls)) y → IsRefused (rule e (gives (fields_val s f))) y
labels_refused e s f ts vs ls ps y is n p h = refused_as e s f ts vs ls y is n (past_refused _ _ _ ps y p (refused_here _ _ _ y h))

pub record_end : (e : Environment) (s : Span) (f : FieldVals) (ts : TypeTrees) (vs : Vals) (ls : LabelledVals) (ps : PlainTypes) (ms : PlainLabels) (r : Result Ty InferError) → IsFields f ts vs ls → none_written ts ≡ true → Runs (rule e (values_give vs)) (ok ps) → Runs (rule e (labelled_values_give ls)) (ok ms) → IsAnswer (formed e (Fields no_bound ps ms) s) plain r → IsAnswer (rule e (gives (fields_val s f))) plain r
record_end e s f ts vs ls ps ms r is n p q h =
    subst (λ (z : FieldVals). IsAnswer (rule e (gives (fields_val s z))) plain r) (sym is)
    (subst (λ z. IsAnswer z plain r) (sym (record_rule e s ts vs ls true n)) (past _ _ _ _ ps r p (past _ _ _ _ ms r q h)))

-- VALUES THAT GIVE

pub values_start : (e : Environment) (us : List Ty) → us ≡ [] → Runs (rule e (values_give (vals_on no_vals []))) (ok (plain_types us))
values_start e us h =
    subst (λ vs. Runs (rule e (values_give vs)) (ok (plain_types us))) (sym (vals_none no_vals))
    (subst (λ (ts : List Ty). Runs (rule e (values_give no_vals)) (ok (plain_types ts))) (sym h) give_)

pub value_next_asked : (e : Environment) (xs : List RVal) (i : ℕ) (v : RVal) (ts : PlainTypes) → i < length xs → v ≡ get_or xs i v → IsWellAsked types_ e (values_give (vals_on no_vals xs)) → Runs (rule e (values_give (vals_on no_vals (take i xs)))) (ok ts) → IsWellAsked type_ e (gives (val_of v))
value_next_asked e xs i v ts n is h p = subst (λ (x : RVal). IsWellAsked type_ e (gives (val_of x))) (sym is) (value_asked e xs i v ts n h p)

pub value_next_refused : (e : Environment) (xs : List RVal) (i : ℕ) (v : RVal) (ts : PlainTypes) (y : InferError) → i < length xs → v ≡ get_or xs i v → Runs (rule e (values_give (vals_on no_vals (take i xs)))) (ok ts) → IsRefused (rule e (gives (val_of v))) y → IsRefused (rule e (values_give (vals_on no_vals xs))) y
value_next_refused e xs i v ts y n is p h = value_refused e xs i v ts y n p (subst (λ (x : RVal). IsRefused (rule e (gives (val_of x))) y) is h)

pub value_next_more : (e : Environment) (xs : List RVal) (i : ℕ) (v : RVal) (ts us : List Ty) (t : Ty) → i < length xs → v ≡ get_or xs i v → us ≡ ts ++ t ∷ [] → Runs (rule e (values_give (vals_on no_vals (take i xs)))) (ok (plain_types ts)) → Runs (rule e (gives (val_of v))) (ok (plain t)) → Runs (rule e (values_give (vals_on no_vals (take (i + 1) xs)))) (ok (plain_types us))
value_next_more e xs i v ts us t n is h p q = value_more e xs i v ts us t n h p (subst (λ (x : RVal). Runs (rule e (gives (val_of x))) (ok (plain t))) is q)

-- LABELLED VALUES THAT GIVE

pub labels_start : (e : Environment) (us : List (Name × Ty)) → us ≡ [] → Runs (rule e (labelled_values_give (labelled_vals_on no_labelled_vals []))) (ok (in_order e.names (plain_labels us)))
labels_start e us h =
    subst (λ ls. Runs (rule e (labelled_values_give ls)) (ok (in_order e.names (plain_labels us)))) (sym (labelled_vals_none no_labelled_vals))
    (subst (λ (vs : List (Name × Ty)). Runs (rule e (labelled_values_give no_labelled_vals)) (ok (in_order e.names (plain_labels vs)))) (sym h) give_)

pub label_more : (e : Environment) (xs : List RLabelledVal) (i : ℕ) (l : RLabelledVal) (us vs : List (Name × Ty)) (u : Ty) → i < length xs → l ≡ get_or xs i l
    → Runs (rule e (labelled_values_give (labelled_vals_on no_labelled_vals (take i xs)))) (ok (in_order e.names (plain_labels us))) → Runs (rule e (gives (val_of l.value))) (ok (plain u))
    → vs ≡ us ++ (l.label.name, u) ∷ [] → Runs (rule e (labelled_values_give (labelled_vals_on no_labelled_vals (take (i + 1) xs)))) (ok (in_order e.names (plain_labels vs)))
label_more e xs i l us vs u n is p q h =
    let have : with_labelled_type e.names l.label.name.0 (plain u) (in_order e.names (plain_labels us)) ≡ in_order e.names (plain_labels vs) =
    sym (ap (λ ws. in_order e.names (plain_labels ws)) h ∙ ap (in_order e.names) (labels_and us (l.label.name, u)) ∙ in_order_and e.names (plain_labels us) l.label.name.0 (plain u)) in
    subst (λ (z : PlainLabels). Runs (rule e (labelled_values_give (labelled_vals_on no_labelled_vals (take (i + 1) xs)))) (ok z)) have
    (row_more (labelled_row e) xs i l (in_order e.names (plain_labels us)) (with_labelled_type e.names l.label.name.0 (plain u) (in_order e.names (plain_labels us))) n p
    (subst (λ (x : RLabelledVal). Runs {s = labels_} ((labelled_row e).next (take i xs) x (in_order e.names (plain_labels us))) (ok (with_labelled_type e.names l.label.name.0 (plain u) (in_order e.names (plain_labels us))))) is (part_ok q give_)))

pub label_refused : (e : Environment) (xs : List RLabelledVal) (i : ℕ) (l : RLabelledVal) (ms : PlainLabels) (y : InferError) → i < length xs → l ≡ get_or xs i l → Runs (rule e (labelled_values_give (labelled_vals_on no_labelled_vals (take i xs)))) (ok ms) → IsRefused (rule e (gives (val_of l.value))) y → IsRefused (rule e (labelled_values_give (labelled_vals_on no_labelled_vals xs))) y
label_refused e xs i l ms y n is p h =
    row_refused (labelled_row e) xs i l ms y n p (subst (λ (x : RLabelledVal). IsRefused {s = labels_} ((labelled_row e).next (take i xs) x ms) y) is (refused_here _ _ _ y h))

pub label_asked : (e : Environment) (xs : List RLabelledVal) (i : ℕ) (l : RLabelledVal) (ms : PlainLabels) → i < length xs → l ≡ get_or xs i l → IsWellAsked labels_ e (labelled_values_give (labelled_vals_on no_labelled_vals xs)) → Runs (rule e (labelled_values_give (labelled_vals_on no_labelled_vals (take i xs)))) (ok ms) → IsWellAsked type_ e (gives (val_of l.value))
label_asked e xs i l ms n is h p =
    subst (λ (x : RLabelledVal). IsWellAsked type_ e (gives (val_of x.value))) (sym is) (row_asked (labelled_row e) xs i l ms n h p this_part)

pub labels_end : (e : Environment) (xs : List RLabelledVal) (i : ℕ) (us vs : List (Name × Ty)) → length xs ≤ i → Runs (rule e (labelled_values_give (labelled_vals_on no_labelled_vals (take i xs)))) (ok (in_order e.names (plain_labels us)))
    → by_number vs ≡ in_label_order e.names (by_number us) → Runs (rule e (labelled_values_give (labelled_vals_on no_labelled_vals xs))) (ok (plain_labels vs))
labels_end e xs i us vs n p h =
    subst (λ (z : PlainLabels). Runs (rule e (labelled_values_give (labelled_vals_on no_labelled_vals xs))) (ok z)) (sym (fields_sorted e.names us vs h))
    (row_all (labelled_row e) xs i (in_order e.names (plain_labels us)) n p)
