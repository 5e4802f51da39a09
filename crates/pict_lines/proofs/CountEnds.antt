-- The counts of fields, one lemma for each way that they end.
use Rattle.std.proofs.Common.{◌≡◌, List, [], ◌∷◌, length, Bool, true, false, ◌||◌, nat_eq, refl, sym, ◌∙◌, ap, ap₂, subst, arith, ◌+◌}
use Rattle.pict_syntax.specs.declared.code.Code.TheVariants.{Y5, Y6}
use Rattle.pict_syntax.specs.declared.span.Span.{Span}
use Rattle.pict_syntax.specs.declared.type_tree.TypeTree.{TypeTree as RTypeTree}
use Rattle.pict_syntax.specs.declared.tree.Val.{Val as RVal}
use Rattle.pict_syntax.specs.declared.tree.FieldVals.{FieldVals as RFieldVals}
use Rattle.pict_syntax.specs.declared.tree.Abs.TheViews.{out-FieldVals}
use Rattle.pict_syntax.specs.PlainTrees.{type_of, types_on, vals_on, labelled_vals_on, field_vals_of, val_of}
use Rattle.pict_syntax.specs.Trees.{TypeTrees, no_types, more_types, no_vals, no_labelled_vals, Vals, more_vals}
use Rattle.pict_types.specs.declared.types.Ty.{Ty}
use Rattle.pict_types.specs.declared.types.Bound.{Bound}
use Rattle.pict_types.specs.Types.{PlainTypes, PlainLabels, PlainBounds, count_bounds}
use Rattle.pict_types.specs.Plain.{plain_bounds, plain_types}
use Rattle.pict_types.proofs.Rows.{count_bounds_length, count_types_length}
use Rattle.pict_normal.specs.Normal.{count_trees}
use Rattle.pict_rules.specs.Counts.{count_vals}
use Rattle.pict_rules.specs.Shapes.{all_written, none_written}
use Rattle.pict_rules.specs.Rules.{nothing_, Rule, ensure, ok, stuck}
use Rattle.pict_rules.specs.Clauses.{done}
use Rattle.pict_rules.specs.Derivations.{Runs, give_, refuse_}
use Rattle.pict_lines.specs.Counts.{as_many, counted, none_or_as_many}
use Rattle.pict_normal.proofs.Trees.{count_trees_on}
use Rattle.pict_scope.proofs.ValueForms.{field_vals_are}

-- how many values there are
pub counted_on : (vs : Vals) (xs : List RVal) → count_vals (vals_on vs xs) ≡ count_vals vs + length xs
unfolding vals_on
counted_on vs [] = omega arith
counted_on vs (x ∷ xs) = omega (arith, counted_on (more_vals vs (val_of x)) xs)

-- how many there are
some_written : (ts : TypeTrees) (t : RTypeTree) (xs : List RTypeTree) → none_written (types_on (more_types ts (type_of t)) xs) ≡ false
unfolding types_on
some_written ts t [] = refl
some_written ts t (x ∷ xs) = some_written (more_types ts (type_of t)) x xs

-- none are written where there are none
pub no_arguments : (xs : List RTypeTree) (bs : PlainBounds) → length xs ≡ 0 → true ≡ none_or_as_many (types_on no_types xs) bs
unfolding types_on
no_arguments [] bs h = refl
no_arguments (x ∷ xs) bs h = absurd (omega (arith, h))

as_many_arguments : (xs : List RTypeTree) (bs : List Bound) → nat_eq (length xs) (length bs) ≡ nat_eq (count_trees (types_on no_types xs)) (count_bounds (plain_bounds bs))
as_many_arguments xs bs =
    let n : count_trees (types_on no_types xs) ≡ length xs = count_trees_on xs in
    sym (ap₂ nat_eq n (count_bounds_length bs))

pub some_arguments : (xs : List RTypeTree) (bs : List Bound) → nat_eq (length xs) 0 ≡ false → nat_eq (length xs) (length bs) ≡ none_or_as_many (types_on no_types xs) (plain_bounds bs)
unfolding types_on
some_arguments [] bs h = absurd cc
some_arguments (x ∷ xs) bs h = as_many_arguments (x ∷ xs) bs ∙ sym (ap (λ (b : Bool). b || nat_eq (count_trees (types_on no_types (x ∷ xs))) (count_bounds (plain_bounds bs))) (some_written no_types x xs))

pub values_counted : (xs : List RVal) (ts : List Ty) → nat_eq (length xs) (length ts) ≡ as_many (vals_on no_vals xs) (plain_types ts)
values_counted xs ts =
    let n : count_vals (vals_on no_vals xs) ≡ length xs = omega (arith, counted_on no_vals xs) in
    sym (ap₂ nat_eq n (count_types_length ts))

-- the lines
abbrev Lines : Span → Bool → Bool → Bool → Rule nothing_
Lines s a b d = ensure a Y5 s (ensure b Y5 s (ensure d Y6 s done))

abbrev arguments_in : RFieldVals → PlainBounds → Bool
arguments_in f bs = none_or_as_many (types_on no_types (out-FieldVals f).type_arguments.items) bs

abbrev values_in : RFieldVals → PlainTypes → Bool
values_in f ps = as_many (vals_on no_vals (out-FieldVals f).positional.items) ps

abbrev labels_in : RFieldVals → PlainLabels → Bool
labels_in f ms = all_written ms (labelled_vals_on no_labelled_vals (out-FieldVals f).labelled.items)

lines_of : (s : Span) (f : RFieldVals) (bs : PlainBounds) (ps : PlainTypes) (ms : PlainLabels) → counted s (field_vals_of f) bs ps ms ≡ Lines s (arguments_in f bs) (values_in f ps) (labels_in f ms)
lines_of s f bs ps ms = ap (λ z. counted s z bs ps ms) (field_vals_are f)

pub other_arguments : (s : Span) (f : RFieldVals) (bs : PlainBounds) (ps : PlainTypes) (ms : PlainLabels) → arguments_in f bs ≡ false → Runs (counted s (field_vals_of f) bs ps ms) (stuck Y5 s)
other_arguments s f bs ps ms a =
    subst (λ r. Runs r (stuck Y5 s)) (sym (lines_of s f bs ps ms ∙ ap (λ (z : Bool). Lines s z (values_in f ps) (labels_in f ms)) a)) refuse_

pub other_values : (s : Span) (f : RFieldVals) (bs : PlainBounds) (ps : PlainTypes) (ms : PlainLabels) → arguments_in f bs ≡ true → values_in f ps ≡ false → Runs (counted s (field_vals_of f) bs ps ms) (stuck Y5 s)
other_values s f bs ps ms a b =
    subst (λ r. Runs r (stuck Y5 s)) (sym (lines_of s f bs ps ms ∙ ap₂ (λ (y z : Bool). Lines s y z (labels_in f ms)) a b)) refuse_

pub no_label_there : (s : Span) (f : RFieldVals) (bs : PlainBounds) (ps : PlainTypes) (ms : PlainLabels) → arguments_in f bs ≡ true → values_in f ps ≡ true → labels_in f ms ≡ false → Runs (counted s (field_vals_of f) bs ps ms) (stuck Y6 s)
no_label_there s f bs ps ms a b d =
    subst (λ r. Runs r (stuck Y6 s)) (sym (lines_of s f bs ps ms ∙ ap₂ (λ (y z : Bool). Lines s y z (labels_in f ms)) a b ∙ ap (λ (z : Bool). Lines s true true z) d)) refuse_

pub all_counted : (s : Span) (f : RFieldVals) (bs : PlainBounds) (ps : PlainTypes) (ms : PlainLabels) → arguments_in f bs ≡ true → values_in f ps ≡ true → labels_in f ms ≡ true → Runs (counted s (field_vals_of f) bs ps ms) (ok tt)
all_counted s f bs ps ms a b d =
    subst (λ r. Runs r (ok tt)) (sym (lines_of s f bs ps ms ∙ ap₂ (λ (y z : Bool). Lines s y z (labels_in f ms)) a b ∙ ap (λ (z : Bool). Lines s true true z) d)) give_
