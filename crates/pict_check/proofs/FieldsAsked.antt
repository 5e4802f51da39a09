-- The fields of a record or an application: what their counts say, what is asked of their values, and the ends where type
-- arguments are written.
use Rattle.std.proofs.Common.{◌≡◌, ◌||◌, ℕ, List, [], length, refl, sym, ◌∙◌, subst, arith, Bool, true, false, map, Result}
use Rattle.std.specs.Prelude.{nat_eq}
use Rattle.std.proofs.lemmas.Bool.{eqb-true}
use Rattle.pict_syntax.specs.declared.code.Code.{Code}
use Rattle.pict_syntax.specs.declared.code.Code.TheVariants.{Y5, Y6}
use Rattle.pict_syntax.specs.declared.span.Span.{Span}
use Rattle.pict_syntax.specs.declared.tree.Abs.TheViews.{out-FieldVals}
use Rattle.pict_syntax.specs.declared.tree.FieldVals.{FieldVals as RFieldVals}
use Rattle.pict_syntax.specs.declared.tree.Val.{Val as RVal}
use Rattle.pict_syntax.specs.declared.type_tree.TypeTree.{TypeTree as RTypeTree}
use Rattle.pict_syntax.specs.Trees.{FieldVals, field_vals, TypeTrees, no_types, Vals, no_vals, LabelledVals}
use Rattle.pict_syntax.specs.PlainTrees.{field_vals_of, types_on, vals_on}
use Rattle.pict_types.specs.declared.types.Bound.{Bound}
use Rattle.pict_types.specs.declared.types.Record.{Record}
use Rattle.pict_types.specs.declared.types.Ty.{Ty}
use Rattle.pict_types.specs.Types.{PlainTypes, PlainLabels, PlainBounds, PlainArg, count_bounds, count_types}
use Rattle.pict_types.specs.Plain.{plain_bounds, plain_labels, plain_record, plain_types}
use Rattle.pict_types.specs.Kinds.{AreWellFormed, LabelsAreWellFormed}
use Rattle.pict_types.proofs.Rows.{count_bounds_length, count_types_length}
use Rattle.pict_normal.specs.Normal.{count_trees}
use Rattle.pict_normal.specs.Written.{record_with}
use Rattle.pict_scope.specs.DistinctLabels.{LabelledValsAreDistinct}
use Rattle.pict_scope.proofs.ValueForms.{field_vals_are}
use Rattle.pict_rules.specs.Counts.{count_vals}
use Rattle.pict_rules.specs.Environments.{Environment}
use Rattle.pict_rules.specs.Found.{Found, filled}
use Rattle.pict_rules.specs.Regular.{FoundFits, IsTypeIn, kinds_found, kinds_in, kinds_within}
use Rattle.pict_rules.specs.Shapes.{all_written, none_written}
use Rattle.pict_rules.specs.Rules.{Sort, nothing_, arguments_, found_, labelled_values_fit, values_fit, written_arguments, Rule, ok, give, part, ensure}
use Rattle.pict_rules.specs.Rules as rules
use Rattle.pict_rules.specs.Clauses.{done, in_order}
use Rattle.pict_rules.specs.Typing.{rule}
use Rattle.pict_rules.specs.Derivations.{Runs, give_, part_ok}
use Rattle.pict_rules.proofs.RegularArguments.{fields_kinds}
use Rattle.pict_rules.proofs.RegularMatched.{within_same}
use Rattle.pict_infer.specs.declared.error.InferError.{InferError}
use Rattle.pict_infer.specs.Answering.{IsAnswer, IsRefused}
use Rattle.pict_infer.specs.Asking.{IsWellAsked}
use Rattle.pict_lines.specs.Counts.{as_many, counted, none_or_as_many}
use Rattle.pict_lines.specs.Lines.{formed}
use Rattle.pict_check.specs.Records.{fits_record, labelled_of, positional_of, values_in_order}
use Rattle.pict_lines.proofs.Ends.{ends_with, good_of, past, refused_here}
use Rattle.pict_check.proofs.FieldEnds.{counts_in, labels_in, trees_in, vals_in, values_are, written_done, written_values_refused}
use Rattle.pict_check.proofs.PutFields as put
use Rattle.pict_lines.proofs.CountEnds.{counted_on}
use Rattle.pict_normal.proofs.Trees.{count_trees_on}

-- WHAT THE COUNTS SAY

ensured_ok : {s : Sort} (b : Bool) (c : Code) (i : Span) (r : Rule s) (x : rules.Result s) → Runs (ensure b c i r) (ok x) → (b ≡ true) × Runs r (ok x)
ensured_ok true c i r x h = (refl, h)
ensured_ok false c i r x h = elim h [ ]

-- of fields of the code that are to fit a record of the code
pub said : (s : Span) (f : RFieldVals) (r : Record) → Runs (counts_in s f r) (ok tt) → (none_or_as_many (trees_in f) (plain_bounds r.binders.items) ≡ true) × (as_many (vals_in f) (plain_types r.positional.items) ≡ true)
said s f r h =
    let k = subst (λ (z : FieldVals). Runs (counted s z (plain_bounds r.binders.items) (plain_types r.positional.items) (plain_labels r.labelled.items)) (ok tt)) (field_vals_are f) h in
    let l : Rule nothing_ = ensure (all_written (plain_labels r.labelled.items) (labels_in f)) Y6 s done in
    let a = ensured_ok (none_or_as_many (trees_in f) (plain_bounds r.binders.items)) Y5 s (ensure (as_many (vals_in f) (plain_types r.positional.items)) Y5 s l) tt k in
    let b = ensured_ok (as_many (vals_in f) (plain_types r.positional.items)) Y5 s l tt a.1 in
    (a.0, b.0)

-- there are as many values as fields
pub as_many_values : (xs : List RVal) (ps : List Ty) → as_many (vals_on no_vals xs) (plain_types ps) ≡ true → length xs ≡ length ps
as_many_values xs ps h = omega (arith, eqb-true (count_vals (vals_on no_vals xs)) (count_types (plain_types ps)) h, counted_on no_vals xs, count_types_length ps)

-- and as many written arguments as type fields, where some are written
or_else : (a b : Bool) → a ≡ false → (a || b) ≡ true → b ≡ true
or_else true b h k = absurd (cc)
or_else false b h k = k

pub as_many_trees : (ts : TypeTrees) (bs : PlainBounds) → none_written ts ≡ false → none_or_as_many ts bs ≡ true → count_trees ts ≡ count_bounds bs
as_many_trees ts bs n h = eqb-true (count_trees ts) (count_bounds bs) (or_else (none_written ts) (nat_eq (count_trees ts) (count_bounds bs)) n h)

pub as_many_arguments : (xs : List RTypeTree) (bs : List Bound) → none_written (types_on no_types xs) ≡ false → none_or_as_many (types_on no_types xs) (plain_bounds bs) ≡ true → length xs ≡ length bs
as_many_arguments xs bs n h = omega (arith, as_many_trees (types_on no_types xs) (plain_bounds bs) n h, count_trees_on xs, count_bounds_length bs)

-- WHAT IS ASKED OF THE VALUES

pub record PartsAreAsked (e : Environment) (s : Span) (f : FieldVals) (r : Record) (g : Found) : Type 0 where
  pub positional : IsWellAsked found_ e (values_fit s (positional_of f) (plain_types r.positional.items) g)
  pub distinct : LabelledValsAreDistinct (labelled_of f)
  pub labelled : LabelsAreWellFormed e.names (kinds_within (kinds_in e) g) (plain_labels r.labelled.items)

pub parts_asked : (e : Environment) (s : Span) (f : FieldVals) (r : Record) (g : Found) → IsWellAsked arguments_ e (fits_record s f r g) → PartsAreAsked e s f r g
parts_asked e s (field_vals ts vs ls) r g w = record {
  positional = record {
    labels = w.labels.1.0;
    regular = w.regular;
    asked = (subst (λ ks. AreWellFormed e.names ks (plain_types r.positional.items)) (fields_kinds (kinds_in e) g (plain_bounds r.binders.items) w.asked.1.0) w.asked.0.1.0, w.asked.1.1.0);
  };
  distinct = w.labels.1.1;
  labelled = subst (λ ks. LabelsAreWellFormed e.names ks (plain_labels r.labelled.items)) (fields_kinds (kinds_in e) g (plain_bounds r.binders.items) w.asked.1.0) w.asked.0.1.1;
}

-- of the labelled ones, once the positional ones fit
pub labelled_asked : (e : Environment) (s : Span) (vs : Vals) (ls : LabelledVals) (ps : PlainTypes) (ms : PlainLabels) (g h : Found) → IsWellAsked found_ e (values_fit s vs ps g) → LabelledValsAreDistinct ls → LabelsAreWellFormed e.names (kinds_within (kinds_in e) g) ms → Runs (rule e (values_fit s vs ps g)) (ok h) → IsWellAsked found_ e (labelled_values_fit s ls ms h)
labelled_asked e s vs ls ps ms g h w d l p =
    let k = good_of {j = values_fit s vs ps g} w p in
    record { labels = d; regular = w.regular; asked = (subst (λ ks. LabelsAreWellFormed e.names ks ms) (sym (within_same (kinds_in e) h g k.0)) l, k.1) }

-- what all of them find is of the kinds of what was found before, and well formed
in_order_good : (e : Environment) (s : Span) (vs : Vals) (ls : LabelledVals) (ps : PlainTypes) (ms : PlainLabels) (g h : Found) → IsWellAsked found_ e (values_fit s vs ps g) → LabelledValsAreDistinct ls → LabelsAreWellFormed e.names (kinds_within (kinds_in e) g) ms → Runs {s = found_} (in_order e s vs ls ps ms g give) (ok h) → (kinds_found h ≡ kinds_found g) × FoundFits e h
in_order_good e s vs ls ps ms g h w d l r = go r
  where
    last : (m x : Found) → Runs (rule e (values_fit s vs ps g)) (ok m) → Runs (rule e (labelled_values_fit s ls ms m)) (ok x) → (kinds_found x ≡ kinds_found g) × FoundFits e x
    last m x p q =
        let a = good_of {j = values_fit s vs ps g} w p in
        let b = good_of {j = labelled_values_fit s ls ms m} (labelled_asked e s vs ls ps ms g m w d l p) q in
        (b.0 ∙ a.0, b.1)

    then_labels : (m x : Found) → Runs (rule e (values_fit s vs ps g)) (ok m) → Runs {s = found_} (part e (labelled_values_fit s ls ms m) give) (ok x) → (kinds_found x ≡ kinds_found g) × FoundFits e x
    then_labels m x p (part_ok q give_) = last m x p q

    go : Runs {s = found_} (in_order e s vs ls ps ms g give) (ok h) → (kinds_found h ≡ kinds_found g) × FoundFits e h
    go (part_ok p q) = then_labels _ h p q

pub fields_good : (e : Environment) (s : Span) (f : FieldVals) (r : Record) (g h : Found) → IsWellAsked arguments_ e (fits_record s f r g) → Runs (values_in_order e s f r g) (ok h) → (kinds_found h ≡ kinds_found g) × FoundFits e h
fields_good e s f r g h w p =
    let k = parts_asked e s f r g w in
    in_order_good e s (positional_of f) (labelled_of f) (plain_types r.positional.items) (plain_labels r.labelled.items) g h k.positional k.distinct k.labelled p

-- one after the other
pub order_first : (e : Environment) (s : Span) (vs : Vals) (ls : LabelledVals) (ps : PlainTypes) (ms : PlainLabels) (g : Found) (y : InferError) → IsRefused (rule e (values_fit s vs ps g)) y → IsRefused {s = found_} (in_order e s vs ls ps ms g give) y
order_first e s vs ls ps ms g y h = refused_here {s = found_} e (values_fit s vs ps g) (λ x. part e (labelled_values_fit s ls ms x) give) y h

pub order_last : {T : Type 0} (f : T → Found) (e : Environment) (s : Span) (vs : Vals) (ls : LabelledVals) (ps : PlainTypes) (ms : PlainLabels) (g h : Found) (r : Result T InferError) → Runs (rule e (values_fit s vs ps g)) (ok h) → IsAnswer (rule e (labelled_values_fit s ls ms h)) f r → IsAnswer {s = found_} (in_order e s vs ls ps ms g give) f r
order_last f e s vs ls ps ms g h r p k =
    past {s = found_} e (values_fit s vs ps g) (λ x. part e (labelled_values_fit s ls ms x) give) f h r p (ends_with e (labelled_values_fit s ls ms h) give f f r (λ x. give_) k)

-- WRITTEN ARGUMENTS

-- of fields of the code that are to fit a record of the code
pub record AreWritten (e : Environment) (s : Span) (f : RFieldVals) (r : Record) : Type 0 where
  pub asked : IsWellAsked arguments_ e (written_arguments s (trees_in f) (plain_bounds r.binders.items))
  pub trees : count_trees (trees_in f) ≡ count_bounds (plain_bounds r.binders.items)
  pub count : length (out-FieldVals f).type_arguments.items ≡ length r.binders.items

pub are_written : (e : Environment) (s : Span) (f : RFieldVals) (r : Record) (g : Found) → none_written (trees_in f) ≡ false → Runs (counts_in s f r) (ok tt) → IsWellAsked arguments_ e (fits_record s (field_vals_of f) r g) → AreWritten e s f r
are_written e s f r g some h w =
    let say = (said s f r h).0 in
    let k = subst (λ (z : FieldVals). IsWellAsked arguments_ e (fits_record s z r g)) (field_vals_are f) w in
    let trees = as_many_trees (trees_in f) (plain_bounds r.binders.items) some say in
    record {
      asked = record { labels = k.labels.0; regular = k.regular; asked = (omega (arith, trees), k.asked.0.0) };
      trees = trees;
      count = as_many_arguments (out-FieldVals f).type_arguments.items r.binders.items some say;
    }

-- the fields that a record has with the arguments put in, and its values
pub put_asked : (e : Environment) (s : Span) (f : FieldVals) (r q : Record) (g h : Found) (args : List PlainArg) → Runs (formed e (record_with args r) s) (ok (plain_record q)) → IsTypeIn e (plain_record q) → h ≡ [] → IsWellAsked arguments_ e (fits_record s f r g)
    → IsWellAsked found_ e (values_fit s (positional_of f) (plain_types q.positional.items) h)
put_asked e s f r q g h args p w n a =
    subst (λ (x : Found). IsWellAsked found_ e (values_fit s (positional_of f) (plain_types q.positional.items) x)) (sym n)
    (put.put_asked e s (positional_of f) args r q a.regular (parts_asked e s f r g a).positional.labels p w)

pub put_labels : (e : Environment) (s : Span) (r q : Record) (h : Found) (args : List PlainArg) → Runs (formed e (record_with args r) s) (ok (plain_record q)) → IsTypeIn e (plain_record q) → h ≡ [] → LabelsAreWellFormed e.names (kinds_within (kinds_in e) h) (plain_labels q.labelled.items)
put_labels e s r q h args p w n = subst (λ (x : Found). LabelsAreWellFormed e.names (kinds_within (kinds_in e) x) (plain_labels q.labelled.items)) (sym n) (put.put_labels_formed e s args r q p w)

in_parts : (P : Rule found_ → Type 0) (e : Environment) (s : Span) (f : RFieldVals) (q : Record) (h : Found) → h ≡ [] → P (values_in_order e s (field_vals_of f) q h) → P (in_order e s (vals_in f) (labels_in f) (plain_types q.positional.items) (plain_labels q.labelled.items) [] give)
in_parts P e s f q h n k = subst (λ (x : Found). P (in_order e s (vals_in f) (labels_in f) (plain_types q.positional.items) (plain_labels q.labelled.items) x give)) n (values_are P e s f q h k)

pub put_refused : (e : Environment) (s : Span) (f : RFieldVals) (r q : Record) (g h : Found) (args : List PlainArg) (y : InferError) → none_written (trees_in f) ≡ false → Runs (counts_in s f r) (ok tt)
    → Runs (rule e (written_arguments s (trees_in f) (plain_bounds r.binders.items))) (ok args) → Runs (formed e (record_with args r) s) (ok (plain_record q)) → IsTypeIn e (plain_record q) → h ≡ [] → IsRefused (values_in_order e s (field_vals_of f) q h) y
    → IsRefused (rule e (fits_record s (field_vals_of f) r g)) y
put_refused e s f r q g h args y u p a t w n k =
    written_values_refused e s f r g args (plain_record q) y u p a t (put.put_refused e s (vals_in f) (labels_in f) args r q y t w (in_parts (λ z. IsRefused z y) e s f q h n k))

pub put_done : (e : Environment) (s : Span) (f : RFieldVals) (r q : Record) (g h x : Found) (args : List PlainArg) → none_written (trees_in f) ≡ false → Runs (counts_in s f r) (ok tt)
    → Runs (rule e (written_arguments s (trees_in f) (plain_bounds r.binders.items))) (ok args) → Runs (formed e (record_with args r) s) (ok (plain_record q)) → IsTypeIn e (plain_record q) → h ≡ [] → Runs (values_in_order e s (field_vals_of f) q h) (ok x)
    → Runs (rule e (fits_record s (field_vals_of f) r g)) (ok args)
put_done e s f r q g h x args u p a t w n k =
    written_done e s f r g (map filled args) args (plain_record q) u p a t (put.put_ok e s (vals_in f) (labels_in f) args r q x t w (in_parts (λ z. Runs z (ok x)) e s f q h n k))

-- as many fields as before
pub as_many_put : (e : Environment) (s : Span) (args : List PlainArg) (r q : Record) (n : ℕ) → Runs (formed e (record_with args r) s) (ok (plain_record q)) → n ≡ length r.positional.items → n ≡ length q.positional.items
as_many_put e s args r q n h k = k ∙ sym (put.put_positional e s args r q h)
