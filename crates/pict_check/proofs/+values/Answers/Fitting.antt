-- Values that fit fields.
use Rattle.std.proofs.Common.{rules, length, sym, ◌∙◌, ap, subst, arith, List, Option, ◌-◌}
use Rattle.pict_syntax.specs.declared.tree.Abs.TheViews.{out-FieldVals}
use Rattle.pict_syntax.specs.declared.tree.Val.{Val as RVal, the_lemmas}
use Rattle.pict_syntax.specs.Trees.{no_labelled_vals, no_types, no_vals}
use Rattle.pict_syntax.specs.PlainTrees.{field_vals_of, labelled_vals_on, types_on, val_of, vals_on}
use Rattle.pict_syntax.specs.Grammar.{val_span}
use Rattle.pict_types.specs.Kinds.{IsWellFormed, LabelsAreWellFormed}
use Rattle.pict_types.specs.Plain.{plain, plain_args, plain_bounds, plain_labels, plain_types}
use Rattle.pict_types.specs.declared.types.Ty.{Ty}
use Rattle.pict_rules.specs.Derivations.{Runs}
use Rattle.pict_rules.specs.Environments.{Environment, context_of}
use Rattle.pict_rules.specs.Found.{Found, matched, with_found}
use Rattle.pict_rules.specs.Regular.{kinds_in, FoundFits, IsRegular, kinds_within}
use Rattle.pict_rules.specs.Rules.{gives, has, ok, found_, labelled_values_fit, value_fits, values_fit, written_arguments}
use Rattle.pict_rules.specs.Typing.{rule}
use Rattle.pict_match.specs.PlainFound.{slots}
use Rattle.pict_infer.specs.Answering.{IsAnswer, IsRefused, nothing}
use Rattle.pict_infer.specs.Asking.{IsWellAsked}
use Rattle.pict_infer.specs.Environments.{environment_of}
use Rattle.pict_infer.proofs.Handed.{answer_err}
use Rattle.pict_infer.specs.Ordering.{AreInOrder}
use Rattle.pict_infer.proofs.LabelPlaces.{formed_in_order}
use Rattle.pict_lines.specs.Lines.{formed, fields_end}
use Rattle.pict_check.specs.Records.{labelled_of, labelled_value_fits, positional_of, fits_record, values_in_order}
use Rattle.pict_lines.specs.Reading.{found_for}
use Rattle.pict_lines.proofs.Ends.{good_of, on_any}
use Rattle.pict_check.proofs.FieldEnds.{counted_refused, instance_refused, omitted_end, omitted_refused, value_given, value_given_asked, value_gives_asked, value_gives_refused, value_had, value_has_asked, value_limits, written_refused}
use Rattle.pict_lines.proofs.Kept.{given_there, kept_any, kept_here, kept_twice}
use Rattle.pict_check.proofs.RecordEnds.{none_on}
use Rattle.pict_check.proofs.RowEnds.{all_fit, fit_asked, fit_more, fit_refused}
use Rattle.pict_lines.proofs.AnswerFound.{matched_count}
use Rattle.pict_lines.proofs.Arguments.{arguments_fit, arguments_vary}
use Rattle.pict_check.proofs.FieldsAsked.{are_written, as_many_put, as_many_values, fields_good, parts_asked, said, labelled_asked, order_first, order_last, put_asked, put_done, put_labels, put_refused}
use Rattle.pict_check.proofs.FitEnds.{all_labelled, at_label, at_label_asked, fit_start, given_here, given_lines_in, labelled_distinct, labelled_good, labelled_more, labelled_refused, labelled_start, labels_within, unlabelled, unlabelled_refused}
use Rattle.pict_check.proofs.PutFields.{put_count}
use Rattle.pict_check.proofs.+values.Goals as goal
use Rattle.pict_scope.proofs.ValueForms.{field_vals_are}

-- A VALUE IN ITS FIELD

pub value_fits-gives-requires : goal.fitting::value_fits-gives-requires
value_fits-gives-requires t c =
    let f = found_for c.args.bs.now c.args.found.now in
    let m = sym (c.in_ok-mentions_missing.ensures (plain_bounds c.args.bs.now)) ∙ c.if-branch.true in
    (search (rules, the_lemmas), value_gives_asked (environment_of c.args.env.now) c.args.span (val_of c.args.v.now) (plain c.args.t.now) f m c.requires.right)

pub value_fits-returns-in_err-given-clause-answer : goal.fitting::value_fits-returns-in_err-given-clause-answer
value_fits-returns-in_err-given-clause-answer t c =
    let e = environment_of c.args.env.now in
    let f : Found = found_for c.args.bs.now c.args.found.now in
    let m = sym (c.in_ok-mentions_missing.ensures (plain_bounds c.args.bs.now)) ∙ c.if-branch.true in
    let y = c.in_err-given.field-0.0 in
    answer_err (rule e (value_fits c.args.span (val_of c.args.v.now) (plain c.args.t.now) f)) (λ x. f) c.from_residual-in_err-given.result y c.from_residual-in_err-given.ensures.1
    (value_gives_refused e c.args.span (val_of c.args.v.now) (plain c.args.t.now) f y m c.in_err-given.ensures.answer)

pub value_fits-match_type-requires-clause-wanted : goal.fitting::value_fits-match_type-requires-clause-wanted
value_fits-match_type-requires-clause-wanted t c =
    let e = environment_of c.args.env.now in
    let k = c.in_ok-given.ensures in
    let names = c.context.ensures.names ∙ ap (λ (z : Environment). z.names) k.same.known in
    record {
      kinds_ = kinds_within (kinds_in e) (found_for c.args.bs.now c.args.found.now);
      formed = subst (λ ns. IsWellFormed ns (kinds_within (kinds_in e) (found_for c.args.bs.now c.args.found.now)) (plain c.args.t.now)) (sym names) c.requires.right.asked.0;
    }

pub value_fits-match_type-requires-clause-given : goal.fitting::value_fits-match_type-requires-clause-given
value_fits-match_type-requires-clause-given t c =
    let e = environment_of c.args.env.now in
    let f = found_for c.args.bs.now c.args.found.now in
    let m = sym (c.in_ok-mentions_missing.ensures (plain_bounds c.args.bs.now)) ∙ c.if-branch.true in
    let k = c.in_ok-given.ensures in
    rw (c.context.ensures.names, c.context.ensures.entries)
    (given_there (environment_of c.gives.new.env) e (val_of c.args.v.now) (plain c.in_ok-given.given) k.same.known (value_gives_asked e c.args.span (val_of c.args.v.now) (plain c.args.t.now) f m c.requires.right) k.answer)

pub value_fits-given_fits-requires-clause-count : goal.fitting::value_fits-given_fits-requires-clause-count
value_fits-given_fits-requires-clause-count t c =
    let e = environment_of c.args.env.now in
    let f = found_for c.args.bs.now c.args.found.now in
    let m = sym (c.in_ok-mentions_missing.ensures (plain_bounds c.args.bs.now)) ∙ c.if-branch.true in
    let k = c.in_ok-given.ensures in
    let w = value_gives_asked e c.args.span (val_of c.args.v.now) (plain c.args.t.now) f m c.requires.right in
    let now = rw c.context.ensures.entries at (c.in_ok-match_type.ensures (plain_bounds c.args.bs.now)) in
    let is = now ∙ ap (λ (z : Environment). matched (context_of z) 0 (plain c.args.t.now) (plain c.in_ok-given.given) f) k.same.known in
    sym (matched_count e (plain c.args.t.now) (plain c.in_ok-given.given) (plain_bounds c.args.bs.now) c.args.found.now.list.items c.match_type.new.found.list.items c.requires.right.regular c.requires.right.asked.0 (good_of {j = gives (val_of c.args.v.now)} w k.answer) c.requires.right.asked.1 is ∙ c.requires.count)

pub value_fits-given_fits-requires-clause-t : goal.fitting::value_fits-given_fits-requires-clause-t
value_fits-given_fits-requires-clause-t t c =
    let e = environment_of c.args.env.now in
    let f = found_for c.args.bs.now c.args.found.now in
    let m = sym (c.in_ok-mentions_missing.ensures (plain_bounds c.args.bs.now)) ∙ c.if-branch.true in
    let k = c.in_ok-given.ensures in
    let now = rw c.context.ensures.entries at (c.in_ok-match_type.ensures (plain_bounds c.args.bs.now)) in
    let is = now ∙ ap (λ (z : Environment). matched (context_of z) 0 (plain c.args.t.now) (plain c.in_ok-given.given) f) k.same.known in
    (given_here (environment_of c.gives.new.env) e c.args.span (val_of c.args.v.now) (plain c.args.t.now) (plain c.in_ok-given.given) (found_for c.args.bs.now c.match_type.new.found) (matched (context_of e) 0 (plain c.args.t.now) (plain c.in_ok-given.given) f) k.same.known is
    (value_given_asked e c.args.span (val_of c.args.v.now) (plain c.args.t.now) (plain c.in_ok-given.given) f m c.requires.right k.answer)).asked.0

pub value_fits-given_fits-requires-clause-given : goal.fitting::value_fits-given_fits-requires-clause-given
value_fits-given_fits-requires-clause-given t c =
    let e = environment_of c.args.env.now in
    let f = found_for c.args.bs.now c.args.found.now in
    let m = sym (c.in_ok-mentions_missing.ensures (plain_bounds c.args.bs.now)) ∙ c.if-branch.true in
    let k = c.in_ok-given.ensures in
    given_there (environment_of c.gives.new.env) e (val_of c.args.v.now) (plain c.in_ok-given.given) k.same.known (value_gives_asked e c.args.span (val_of c.args.v.now) (plain c.args.t.now) f m c.requires.right) k.answer

pub value_fits-given_fits-requires-clause-fits : goal.fitting::value_fits-given_fits-requires-clause-fits
value_fits-given_fits-requires-clause-fits t c =
    let e = environment_of c.args.env.now in
    let f = found_for c.args.bs.now c.args.found.now in
    let m = sym (c.in_ok-mentions_missing.ensures (plain_bounds c.args.bs.now)) ∙ c.if-branch.true in
    let k = c.in_ok-given.ensures in
    let now = rw c.context.ensures.entries at (c.in_ok-match_type.ensures (plain_bounds c.args.bs.now)) in
    let is = now ∙ ap (λ (z : Environment). matched (context_of z) 0 (plain c.args.t.now) (plain c.in_ok-given.given) f) k.same.known in
    (given_here (environment_of c.gives.new.env) e c.args.span (val_of c.args.v.now) (plain c.args.t.now) (plain c.in_ok-given.given) (found_for c.args.bs.now c.match_type.new.found) (matched (context_of e) 0 (plain c.args.t.now) (plain c.in_ok-given.given) f) k.same.known is
    (value_given_asked e c.args.span (val_of c.args.v.now) (plain c.args.t.now) (plain c.in_ok-given.given) f m c.requires.right k.answer)).asked.1.1

pub value_fits-returns-then-branch-clause-answer : goal.fitting::value_fits-returns-then-branch-clause-answer
value_fits-returns-then-branch-clause-answer t c =
    let e = environment_of c.args.env.now in
    let f = found_for c.args.bs.now c.args.found.now in
    let h : Found = found_for c.args.bs.now c.match_type.new.found in
    let m = sym (c.in_ok-mentions_missing.ensures (plain_bounds c.args.bs.now)) ∙ c.if-branch.true in
    let k = c.in_ok-given.ensures in
    let now = rw c.context.ensures.entries at (c.in_ok-match_type.ensures (plain_bounds c.args.bs.now)) in
    let is = now ∙ ap (λ (z : Environment). matched (context_of z) 0 (plain c.args.t.now) (plain c.in_ok-given.given) f) k.same.known in
    value_given e c.args.span (val_of c.args.v.now) (plain c.args.t.now) (plain c.in_ok-given.given) f h c.given_fits.result m k.answer is
    (given_lines_in (environment_of c.gives.new.env) e c.args.span c.val_span.result (val_span (val_of c.args.v.now)) (plain c.args.t.now) (plain c.in_ok-given.given) h (λ x. h) c.given_fits.result k.same.known c.val_span.ensures c.given_fits.ensures)

pub value_fits-returns-then-branch-clause-count : goal.fitting::value_fits-returns-then-branch-clause-count
value_fits-returns-then-branch-clause-count t c =
    let e = environment_of c.args.env.now in
    let f = found_for c.args.bs.now c.args.found.now in
    let m = sym (c.in_ok-mentions_missing.ensures (plain_bounds c.args.bs.now)) ∙ c.if-branch.true in
    let k = c.in_ok-given.ensures in
    let w = value_gives_asked e c.args.span (val_of c.args.v.now) (plain c.args.t.now) f m c.requires.right in
    let now = rw c.context.ensures.entries at (c.in_ok-match_type.ensures (plain_bounds c.args.bs.now)) in
    let is = now ∙ ap (λ (z : Environment). matched (context_of z) 0 (plain c.args.t.now) (plain c.in_ok-given.given) f) k.same.known in
    on_any c.given_fits.result
    (matched_count e (plain c.args.t.now) (plain c.in_ok-given.given) (plain_bounds c.args.bs.now) c.args.found.now.list.items c.match_type.new.found.list.items c.requires.right.regular c.requires.right.asked.0 (good_of {j = gives (val_of c.args.v.now)} w k.answer) c.requires.right.asked.1 is ∙ c.requires.count)

pub value_fits-returns-then-branch-clause-same : goal.fitting::value_fits-returns-then-branch-clause-same
value_fits-returns-then-branch-clause-same t c = kept_any c.args.env.now c.gives.new.env c.given_fits.result c.in_ok-given.ensures.same

pub value_fits-returns-in_err-put-clause-answer : goal.fitting::value_fits-returns-in_err-put-clause-answer
value_fits-returns-in_err-put-clause-answer t c =
    let e = environment_of c.args.env.now in
    let f : Found = found_for c.args.bs.now c.args.found.now in
    let m = sym (c.in_ok-mentions_missing.ensures (plain_bounds c.args.bs.now)) ∙ c.if-branch.false in
    let y = c.in_err-put.field-0.0 in
    answer_err (rule e (value_fits c.args.span (val_of c.args.v.now) (plain c.args.t.now) f)) (λ x. f) c.from_residual-in_err-put.result y c.from_residual-in_err-put.ensures.1
    (value_limits e c.args.span (val_of c.args.v.now) (plain c.args.t.now) f y m c.in_err-put.ensures.answer)

pub value_fits-has-requires : goal.fitting::value_fits-has-requires
value_fits-has-requires t c =
    let e = environment_of c.args.env.now in
    let f = found_for c.args.bs.now c.args.found.now in
    let m = sym (c.in_ok-mentions_missing.ensures (plain_bounds c.args.bs.now)) ∙ c.if-branch.false in
    let p = subst (λ u. Runs (formed e (with_found f (plain c.args.t.now)) c.args.span) (ok u)) (sym c.changed_or_same.ensures) c.in_ok-put.ensures.answer in
    (search (rules, the_lemmas), value_has_asked e c.args.span (val_of c.args.v.now) (plain c.args.t.now) (plain c.changed_or_same.result.now) f m c.requires.right p)

pub value_fits-returns-clause-answer : goal.fitting::value_fits-returns-clause-answer
value_fits-returns-clause-answer t c =
    let e = environment_of c.args.env.now in
    let f = found_for c.args.bs.now c.args.found.now in
    let m = sym (c.in_ok-mentions_missing.ensures (plain_bounds c.args.bs.now)) ∙ c.if-branch.false in
    let p = subst (λ u. Runs (formed e (with_found f (plain c.args.t.now)) c.args.span) (ok u)) (sym c.changed_or_same.ensures) c.in_ok-put.ensures.answer in
    value_had e c.args.span (val_of c.args.v.now) (plain c.args.t.now) (plain c.changed_or_same.result.now) f nothing c.has.result m p c.has.ensures.answer

-- A LABELLED VALUE

pub labelled_value_fits-labelled_type-requires : goal.fitting::labelled_value_fits-labelled_type-requires
labelled_value_fits-labelled_type-requires t c =
    record {
      ordered = subst (λ ns. AreInOrder ns (plain_labels c.args.ts.now)) (sym (c.names.ensures.same ∙ c.context.ensures.names))
          (formed_in_order (environment_of c.args.env.now).names (kinds_within (kinds_in (environment_of c.args.env.now)) (found_for c.args.bs.now c.args.found.now)) (plain_labels c.args.ts.now) c.requires.labelled);
    }

pub labelled_value_fits-value_fits-requires : goal.fitting::labelled_value_fits-value_fits-requires
labelled_value_fits-value_fits-requires t c =
    let e = environment_of c.args.env.now in
    let f = found_for c.args.bs.now c.args.found.now in
    (search (rules, the_lemmas), (at_label_asked e c.args.span c.args.l.now.label (val_of c.args.l.now.value) (plain_labels c.args.ts.now) (plain c.in-Some.t.now) f c.in-Some.ensures.some c.requires.labels c.requires.regular c.requires.labelled c.requires.fits, c.requires.count))

pub labelled_value_fits-returns-in-Some-clause-answer : goal.fitting::labelled_value_fits-returns-in-Some-clause-answer
labelled_value_fits-returns-in-Some-clause-answer t c =
    let e = environment_of c.args.env.now in
    let f = found_for c.args.bs.now c.args.found.now in
    at_label e c.args.span c.args.l.now.label (val_of c.args.l.now.value) (plain_labels c.args.ts.now) (plain c.in-Some.t.now) f (λ x. found_for c.args.bs.now c.value_fits.new.found) c.value_fits.result c.in-Some.ensures.some c.value_fits.ensures.answer

pub labelled_value_fits-gives-requires : goal.fitting::labelled_value_fits-gives-requires
labelled_value_fits-gives-requires t c = (search (rules, the_lemmas), record { labels = c.requires.labels; regular = c.requires.regular; asked = tt })

pub labelled_value_fits-returns-in_err-gives-in-None-clause-answer : goal.fitting::labelled_value_fits-returns-in_err-gives-in-None-clause-answer
labelled_value_fits-returns-in_err-gives-in-None-clause-answer t c =
    let e = environment_of c.args.env.now in
    let f : Found = found_for c.args.bs.now c.args.found.now in
    let y = c.in_err-gives-in-None.field-0.0 in
    answer_err (labelled_value_fits e c.args.span c.args.l.now.label (val_of c.args.l.now.value) (plain_labels c.args.ts.now) f) (λ x. f) c.from_residual.result y c.from_residual.ensures.1
    (unlabelled_refused e c.args.span c.args.l.now.label (val_of c.args.l.now.value) (plain_labels c.args.ts.now) f y c.in-None.ensures.none c.in_err-gives-in-None.ensures.answer)

pub labelled_value_fits-returns-in_ok-gives-in-None-clause-answer : goal.fitting::labelled_value_fits-returns-in_ok-gives-in-None-clause-answer
labelled_value_fits-returns-in_ok-gives-in-None-clause-answer t c =
    unlabelled (environment_of c.args.env.now) c.args.span c.args.l.now.label (val_of c.args.l.now.value) (plain_labels c.args.ts.now) (plain c.in_ok-gives-in-None.field-0) (found_for c.args.bs.now c.args.found.now) c.in-None.ensures.none c.in_ok-gives-in-None.ensures.answer

-- LABELLED VALUES

pub labelled_values_fit-loop-l-init : goal.fitting::labelled_values_fit-loop-l-init
labelled_values_fit-loop-l-init t c = record {
  so_far = labelled_start (environment_of c.args.env.now) c.args.span (plain_labels c.args.ts.now) (found_for c.args.bs.now c.args.found.now);
  count = c.requires.count;
  same = kept_here c.args.env.now;
}

pub labelled_values_fit-labelled_value_fits-requires : goal.fitting::labelled_values_fit-labelled_value_fits-requires
labelled_values_fit-labelled_value_fits-requires t c =
    let e = environment_of c.args.env.now in
    let g = found_for c.args.bs.now c.args.found.now in
    let h = found_for c.args.bs.now c.loop-l.found in
    let i = c.loop-l.invariant in
    let k = labelled_good e c.args.span c.args.ls.now c.loop-l.l-index (plain_labels c.args.ts.now) g h c.requires.right i.so_far in
    (search (rules, the_lemmas), (labelled_distinct c.args.ls.now c.loop-l.l-index c.l-item.result c.loop-l-test.true c.l-item.is c.requires.right.labels, (subst IsRegular (sym i.same.known) c.requires.right.regular, (subst (λ x. LabelsAreWellFormed x.names (kinds_within (kinds_in x) h) (plain_labels c.args.ts.now)) (sym i.same.known) (labels_within e (plain_labels c.args.ts.now) g h k.0 c.requires.right.asked.0), (subst (λ x. FoundFits x h) (sym i.same.known) k.1, i.count)))))

pub labelled_values_fit-returns-in_err-labelled_value_fits-clause-answer : goal.fitting::labelled_values_fit-returns-in_err-labelled_value_fits-clause-answer
labelled_values_fit-returns-in_err-labelled_value_fits-clause-answer t c =
    let e = environment_of c.args.env.now in
    let g : Found = found_for c.args.bs.now c.args.found.now in
    let h : Found = found_for c.args.bs.now c.loop-l.found in
    let i = c.loop-l.invariant in
    let y = c.in_err-labelled_value_fits.field-0.0 in
    answer_err (rule e (labelled_values_fit c.args.span (labelled_vals_on no_labelled_vals c.args.ls.now) (plain_labels c.args.ts.now) g)) (λ x. found_for c.args.bs.now c.labelled_value_fits.new.found) c.from_residual.result y c.from_residual.ensures.1
    (labelled_refused e c.args.span c.args.ls.now c.loop-l.l-index c.l-item.result (plain_labels c.args.ts.now) g h y c.loop-l-test.true c.l-item.is i.so_far
    (subst (λ x. IsRefused (labelled_value_fits x c.args.span c.l-item.result.label (val_of c.l-item.result.value) (plain_labels c.args.ts.now) h) y) i.same.known c.in_err-labelled_value_fits.ensures.answer))

pub labelled_values_fit-loop-l-preserved : goal.fitting::labelled_values_fit-loop-l-preserved
labelled_values_fit-loop-l-preserved t c =
    let e = environment_of c.args.env.now in
    let i = c.loop-l.invariant in
    let k = c.in_ok-labelled_value_fits.ensures in
    let h : Found = found_for c.args.bs.now c.labelled_value_fits.new.found in
    let one = subst (λ x. Runs (labelled_value_fits x c.args.span c.l-item.result.label (val_of c.l-item.result.value) (plain_labels c.args.ts.now) (found_for c.args.bs.now c.loop-l.found)) (ok h)) i.same.known k.answer in
    record {
      so_far = labelled_more e c.args.span c.args.ls.now c.loop-l.l-index c.l-item.result (plain_labels c.args.ts.now) (found_for c.args.bs.now c.args.found.now) (found_for c.args.bs.now c.loop-l.found) h c.loop-l-test.true c.l-item.is i.so_far one;
      count = k.count;
      same = kept_twice c.args.env.now c.loop-l.env c.labelled_value_fits.new.env i.same k.same;
    }

pub labelled_values_fit-returns-clause-answer : goal.fitting::labelled_values_fit-returns-clause-answer
labelled_values_fit-returns-clause-answer t c =
    all_labelled (environment_of c.args.env.now) c.args.span c.args.ls.now c.loop-l.l-index (plain_labels c.args.ts.now) (found_for c.args.bs.now c.args.found.now) (found_for c.args.bs.now c.loop-l.found) c.loop-l-test.false c.loop-l.invariant.so_far

-- VALUES

pub values_fit-loop-i-init : goal.fitting::values_fit-loop-i-init
values_fit-loop-i-init t c = record {
  so_far = fit_start (environment_of c.args.env.now) c.args.span (plain_types c.args.ts.now) (found_for c.args.bs.now c.args.found.now);
  count = c.requires.count;
  same = kept_here c.args.env.now;
}

pub values_fit-value_fits-requires : goal.fitting::values_fit-value_fits-requires
values_fit-value_fits-requires t c =
    let e = environment_of c.args.env.now in
    let i = c.loop-i.invariant in
    let g = found_for c.args.bs.now c.args.found.now in
    let h = found_for c.args.bs.now c.loop-i.found in
    let w = fit_asked e c.args.span c.args.vs.now c.loop-i.i c.index-vs-i.result c.args.ts.now c.index-ts-i.result g h c.loop-i-test.true c.requires.few c.index-ts-i.is c.requires.right i.so_far in
    (search (rules, the_lemmas), (subst (λ x. IsWellAsked found_ x (value_fits c.args.span (val_of c.index-vs-i.result) (plain c.index-ts-i.result) h)) (sym i.same.known) (subst (λ (v : RVal). IsWellAsked found_ e (value_fits c.args.span (val_of v) (plain c.index-ts-i.result) h)) (sym c.index-vs-i.is) w), i.count))

pub values_fit-returns-in_err-value_fits-clause-answer : goal.fitting::values_fit-returns-in_err-value_fits-clause-answer
values_fit-returns-in_err-value_fits-clause-answer t c =
    let e = environment_of c.args.env.now in
    let g : Found = found_for c.args.bs.now c.args.found.now in
    let h : Found = found_for c.args.bs.now c.loop-i.found in
    let i = c.loop-i.invariant in
    let y = c.in_err-value_fits.field-0.0 in
    let one = subst (λ x. IsRefused (rule x (value_fits c.args.span (val_of c.index-vs-i.result) (plain c.index-ts-i.result) h)) y) i.same.known c.in_err-value_fits.ensures.answer in
    answer_err (rule e (values_fit c.args.span (vals_on no_vals c.args.vs.now) (plain_types c.args.ts.now) g)) (λ x. found_for c.args.bs.now c.value_fits.new.found) c.from_residual.result y c.from_residual.ensures.1
    (fit_refused e c.args.span c.args.vs.now c.loop-i.i c.index-vs-i.result c.args.ts.now c.index-ts-i.result g h y c.loop-i-test.true c.requires.few c.index-ts-i.is i.so_far
    (subst (λ (v : RVal). IsRefused (rule e (value_fits c.args.span (val_of v) (plain c.index-ts-i.result) h)) y) c.index-vs-i.is one))

pub values_fit-loop-i-preserved : goal.fitting::values_fit-loop-i-preserved
values_fit-loop-i-preserved t c =
    let e = environment_of c.args.env.now in
    let i = c.loop-i.invariant in
    let k = c.in_ok-value_fits.ensures in
    let h : Found = found_for c.args.bs.now c.loop-i.found in
    let m : Found = found_for c.args.bs.now c.value_fits.new.found in
    let one = subst (λ x. Runs (rule x (value_fits c.args.span (val_of c.index-vs-i.result) (plain c.index-ts-i.result) h)) (ok m)) i.same.known k.answer in
    record {
      so_far = fit_more e c.args.span c.args.vs.now c.loop-i.i c.index-vs-i.result c.args.ts.now c.index-ts-i.result (found_for c.args.bs.now c.args.found.now) h m c.loop-i-test.true c.requires.few c.index-ts-i.is i.so_far
          (subst (λ (v : RVal). Runs (rule e (value_fits c.args.span (val_of v) (plain c.index-ts-i.result) h)) (ok m)) c.index-vs-i.is one);
      count = k.count;
      same = kept_twice c.args.env.now c.loop-i.env c.value_fits.new.env i.same k.same;
    }

pub values_fit-returns-clause-answer : goal.fitting::values_fit-returns-clause-answer
values_fit-returns-clause-answer t c =
    all_fit (environment_of c.args.env.now) c.args.span c.args.vs.now c.loop-i.i c.args.ts.now (found_for c.args.bs.now c.args.found.now) (found_for c.args.bs.now c.loop-i.found) c.loop-i-test.false c.loop-i.invariant.so_far

-- ALL VALUES

pub in_order-values_fit-requires : goal.fitting::in_order-values_fit-requires
in_order-values_fit-requires t c =
    let e = environment_of c.args.env.now in
    let r = c.args.r.now in (
      search (rules, the_lemmas),
      (
        rw (c.deref.ensures.value, c.deref-2.ensures.value, c.deref-3.ensures.value)
            (subst (λ x. IsWellAsked found_ e (values_fit c.args.span x (plain_types r.positional.items) (found_for r.binders.items c.args.found.now))) (ap positional_of (field_vals_are c.args.fields.now)) c.requires.positional),
        (rw (c.deref.ensures.value, c.deref-2.ensures.value) c.requires.few, rw c.deref-3.ensures.value c.requires.count),
      ),
    )

pub in_order-returns-in_err-values_fit-clause-answer : goal.fitting::in_order-returns-in_err-values_fit-clause-answer
in_order-returns-in_err-values_fit-clause-answer t c =
    let e = environment_of c.args.env.now in
    let r = c.args.r.now in
    let f = field_vals_of c.args.fields.now in
    let g : Found = found_for r.binders.items c.args.found.now in
    let y = c.in_err-values_fit.field-0.0 in
    let first = rw (c.deref.ensures.value, c.deref-2.ensures.value, c.deref-3.ensures.value) at c.in_err-values_fit.ensures.answer in
    answer_err (values_in_order e c.args.span f r g) (λ x. found_for r.binders.items c.values_fit.new.found) c.from_residual.result y c.from_residual.ensures.1
    (order_first e c.args.span (positional_of f) (labelled_of f) (plain_types r.positional.items) (plain_labels r.labelled.items) g y
    (subst (λ x. IsRefused (rule e (values_fit c.args.span x (plain_types r.positional.items) g)) y) (sym (ap positional_of (field_vals_are c.args.fields.now))) first))

pub in_order-labelled_values_fit-requires : goal.fitting::in_order-labelled_values_fit-requires
in_order-labelled_values_fit-requires t c =
    let e = environment_of c.args.env.now in
    let r = c.args.r.now in
    let f = field_vals_of c.args.fields.now in
    let g : Found = found_for r.binders.items c.args.found.now in
    let h : Found = found_for r.binders.items c.values_fit.new.found in
    let first = rw (c.deref.ensures.value, c.deref-2.ensures.value, c.deref-3.ensures.value) at c.in_ok-values_fit.ensures.answer in
    let p = subst (λ x. Runs (rule e (values_fit c.args.span x (plain_types r.positional.items) g)) (ok h)) (sym (ap positional_of (field_vals_are c.args.fields.now))) first in
    let w = labelled_asked e c.args.span (positional_of f) (labelled_of f) (plain_types r.positional.items) (plain_labels r.labelled.items) g h c.requires.positional c.requires.labels c.requires.labelled p in (
      search (rules, the_lemmas),
      (
        rw (c.deref-4.ensures.value, c.deref-5.ensures.value, c.deref-6.ensures.value)
            (subst (λ x. IsWellAsked found_ x (labelled_values_fit c.args.span (labelled_vals_on no_labelled_vals (out-FieldVals c.args.fields.now).labelled.items) (plain_labels r.labelled.items) h)) (sym c.in_ok-values_fit.ensures.same.known)
            (subst (λ x. IsWellAsked found_ e (labelled_values_fit c.args.span x (plain_labels r.labelled.items) h)) (ap labelled_of (field_vals_are c.args.fields.now)) w)),
        rw c.deref-6.ensures.value (c.in_ok-values_fit.ensures.count ∙ ap length c.deref-3.ensures.value),
      ),
    )

pub in_order-returns-clause-answer : goal.fitting::in_order-returns-clause-answer
in_order-returns-clause-answer t c =
    let e = environment_of c.args.env.now in
    let r = c.args.r.now in
    let f = field_vals_of c.args.fields.now in
    let g : Found = found_for r.binders.items c.args.found.now in
    let h : Found = found_for r.binders.items c.values_fit.new.found in
    let first = rw (c.deref.ensures.value, c.deref-2.ensures.value, c.deref-3.ensures.value) at c.in_ok-values_fit.ensures.answer in
    let p = subst (λ x. Runs (rule e (values_fit c.args.span x (plain_types r.positional.items) g)) (ok h)) (sym (ap positional_of (field_vals_are c.args.fields.now))) first in
    let last = rw (c.deref-4.ensures.value, c.deref-5.ensures.value, c.deref-6.ensures.value) at c.labelled_values_fit.ensures.answer in
    order_last (λ x. found_for r.binders.items c.labelled_values_fit.new.found) e c.args.span (positional_of f) (labelled_of f) (plain_types r.positional.items) (plain_labels r.labelled.items) g h c.labelled_values_fit.result p
    (subst (λ z. IsAnswer (rule e (labelled_values_fit c.args.span z (plain_labels r.labelled.items) h)) (λ x. found_for r.binders.items c.labelled_values_fit.new.found) c.labelled_values_fit.result) (sym (ap labelled_of (field_vals_are c.args.fields.now)))
    (subst (λ x. IsAnswer (rule x (labelled_values_fit c.args.span (labelled_vals_on no_labelled_vals (out-FieldVals c.args.fields.now).labelled.items) (plain_labels r.labelled.items) h)) (λ x. found_for r.binders.items c.labelled_values_fit.new.found) c.labelled_values_fit.result)
    c.in_ok-values_fit.ensures.same.known last))

-- FIELDS

pub fields_fit-returns-in_err-counted-clause-answer : goal.fitting::fields_fit-returns-in_err-counted-clause-answer
fields_fit-returns-in_err-counted-clause-answer t c =
    let e = environment_of c.args.env.now in
    let g : Found = found_for c.args.r.now.binders.items c.args.found in
    let y = c.in_err-counted.field-0.0 in
    answer_err (rule e (fits_record c.args.span (field_vals_of c.args.fields.now) c.args.r.now g)) (λ args. plain_args args.items) c.from_residual.result y c.from_residual.ensures.1
    (counted_refused e c.args.span c.args.fields.now c.args.r.now g y c.in_err-counted.ensures)

-- no type argument is written

pub fields_fit-in_order-requires : goal.fitting::fields_fit-in_order-requires
fields_fit-in_order-requires t c =
    let g : Found = found_for c.args.r.now.binders.items c.args.found in
    let k = parts_asked (environment_of c.args.env.now) c.args.span (field_vals_of c.args.fields.now) c.args.r.now g c.requires.right in
    let say = said c.args.span c.args.fields.now c.args.r.now c.in_ok-counted.ensures in
    (search (rules, the_lemmas), (k.positional, (k.distinct, (k.labelled, (as_many_values (out-FieldVals c.args.fields.now).positional.items c.args.r.now.positional.items say.1, c.requires.count)))))

pub fields_fit-returns-in_err-in_order-clause-answer : goal.fitting::fields_fit-returns-in_err-in_order-clause-answer
fields_fit-returns-in_err-in_order-clause-answer t c =
    let e = environment_of c.args.env.now in
    let g : Found = found_for c.args.r.now.binders.items c.args.found in
    let given = (out-FieldVals c.args.fields.now).type_arguments in
    let none = none_on given.items _ c.is_empty.result given.ok.0 c.is_empty.ensures ∙ c.if-is_empty.true in
    let y = c.in_err-in_order.field-0.0 in
    answer_err (rule e (fits_record c.args.span (field_vals_of c.args.fields.now) c.args.r.now g)) (λ args. plain_args args.items) c.from_residual-in_err-in_order.result y c.from_residual-in_err-in_order.ensures.1
    (omitted_refused e c.args.span c.args.fields.now c.args.r.now g y none c.in_ok-counted.ensures c.in_err-in_order.ensures.answer)

pub fields_fit-fields_end-requires-clause-kinds : goal.fitting::fields_fit-fields_end-requires-clause-kinds
fields_fit-fields_end-requires-clause-kinds t c =
    let g : Found = found_for c.args.r.now.binders.items c.args.found in
    let h : Found = found_for c.args.r.now.binders.items c.in_order.new.found in
    let good = fields_good (environment_of c.args.env.now) c.args.span (field_vals_of c.args.fields.now) c.args.r.now g h c.requires.right c.in_ok-in_order.ensures.answer in
    rw c.deref.ensures.value (good.0 ∙ c.requires.right.asked.1.0)

pub fields_fit-fields_end-requires-clause-fits : goal.fitting::fields_fit-fields_end-requires-clause-fits
fields_fit-fields_end-requires-clause-fits t c =
    let g : Found = found_for c.args.r.now.binders.items c.args.found in
    let h : Found = found_for c.args.r.now.binders.items c.in_order.new.found in
    let good = fields_good (environment_of c.args.env.now) c.args.span (field_vals_of c.args.fields.now) c.args.r.now g h c.requires.right c.in_ok-in_order.ensures.answer in
    rw c.deref.ensures.value (subst (λ x. FoundFits x h) (sym c.in_ok-in_order.ensures.same.known) good.1)

pub fields_fit-returns-then-is_empty-clause-answer : goal.fitting::fields_fit-returns-then-is_empty-clause-answer
fields_fit-returns-then-is_empty-clause-answer t c =
    let r = c.args.r.now in
    let g : Found = found_for r.binders.items c.args.found in
    let h : Found = found_for r.binders.items c.in_order.new.found in
    let given = (out-FieldVals c.args.fields.now).type_arguments in
    let none = none_on given.items _ c.is_empty.result given.ok.0 c.is_empty.ensures ∙ c.if-is_empty.true in
    let end = rw c.deref.ensures.value at c.fields_end.ensures.answer in
    omitted_end (λ args. plain_args args.items) (environment_of c.args.env.now) c.args.span c.args.fields.now r g h c.fields_end.result none c.in_ok-counted.ensures c.in_ok-in_order.ensures.answer
    (subst (λ x. IsAnswer (fields_end x c.args.span (plain_bounds r.binders.items) h) (λ args. plain_args args.items) c.fields_end.result) c.in_ok-in_order.ensures.same.known end)

-- some are

pub fields_fit-written_arguments-requires-clause-right : goal.fitting::fields_fit-written_arguments-requires-clause-right
fields_fit-written_arguments-requires-clause-right t c =
    let r = c.args.r.now in
    let g : Found = found_for r.binders.items c.args.found in
    let given = (out-FieldVals c.args.fields.now).type_arguments in
    let some = none_on given.items _ c.is_empty.result given.ok.0 c.is_empty.ensures ∙ c.if-is_empty.false in
    let w = (are_written (environment_of c.args.env.now) c.args.span c.args.fields.now r g some c.in_ok-counted.ensures c.requires.right).asked in
    rw (c.deref-2.ensures.value, c.deref-3.ensures.value) w

pub fields_fit-written_arguments-requires-clause-count : goal.fitting::fields_fit-written_arguments-requires-clause-count
fields_fit-written_arguments-requires-clause-count t c =
    let r = c.args.r.now in
    let g : Found = found_for r.binders.items c.args.found in
    let given = (out-FieldVals c.args.fields.now).type_arguments in
    let some = none_on given.items _ c.is_empty.result given.ok.0 c.is_empty.ensures ∙ c.if-is_empty.false in
    let n = (are_written (environment_of c.args.env.now) c.args.span c.args.fields.now r g some c.in_ok-counted.ensures c.requires.right).count in
    rw (c.deref-2.ensures.value, c.deref-3.ensures.value) (omega (arith, n))

pub fields_fit-returns-in_err-args-clause-answer : goal.fitting::fields_fit-returns-in_err-args-clause-answer
fields_fit-returns-in_err-args-clause-answer t c =
    let e = environment_of c.args.env.now in
    let g : Found = found_for c.args.r.now.binders.items c.args.found in
    let given = (out-FieldVals c.args.fields.now).type_arguments in
    let some = none_on given.items _ c.is_empty.result given.ok.0 c.is_empty.ensures ∙ c.if-is_empty.false in
    let y = c.in_err-args.field-0.0 in
    let h = rw (c.deref-2.ensures.value, c.deref-3.ensures.value) at c.in_err-args.ensures in
    answer_err (rule e (fits_record c.args.span (field_vals_of c.args.fields.now) c.args.r.now g)) (λ args. plain_args args.items) c.from_residual-in_err-args.result y c.from_residual-in_err-args.ensures.1
    (written_refused e c.args.span c.args.fields.now c.args.r.now g y some c.in_ok-counted.ensures h)

pub fields_fit-record_instance-requires-clause-args : goal.fitting::fields_fit-record_instance-requires-clause-args
fields_fit-record_instance-requires-clause-args t c =
    let r = c.args.r.now in
    let g : Found = found_for r.binders.items c.args.found in
    let given = (out-FieldVals c.args.fields.now).type_arguments in
    let some = none_on given.items _ c.is_empty.result given.ok.0 c.is_empty.ensures ∙ c.if-is_empty.false in
    let w = are_written (environment_of c.args.env.now) c.args.span c.args.fields.now r g some c.in_ok-counted.ensures c.requires.right in
    let a = rw (c.deref-2.ensures.value, c.deref-3.ensures.value) at c.in_ok-args.ensures in
    rw c.deref-4.ensures.value (good_of {j = written_arguments c.args.span (types_on no_types given.items) (plain_bounds r.binders.items)} w.asked a).0

pub fields_fit-record_instance-requires-clause-fit : goal.fitting::fields_fit-record_instance-requires-clause-fit
fields_fit-record_instance-requires-clause-fit t c =
    let e = environment_of c.args.env.now in
    let r = c.args.r.now in
    let g : Found = found_for r.binders.items c.args.found in
    let given = (out-FieldVals c.args.fields.now).type_arguments in
    let some = none_on given.items _ c.is_empty.result given.ok.0 c.is_empty.ensures ∙ c.if-is_empty.false in
    let w = are_written e c.args.span c.args.fields.now r g some c.in_ok-counted.ensures c.requires.right in
    let a = rw (c.deref-2.ensures.value, c.deref-3.ensures.value) at c.in_ok-args.ensures in
    rw c.deref-4.ensures.value (arguments_fit e c.args.span (types_on no_types given.items) (plain_bounds r.binders.items) (plain_args c.in_ok-args.args.items) w.asked w.trees a)

pub fields_fit-record_instance-requires-clause-vary : goal.fitting::fields_fit-record_instance-requires-clause-vary
fields_fit-record_instance-requires-clause-vary t c =
    let e = environment_of c.args.env.now in
    let r = c.args.r.now in
    let g : Found = found_for r.binders.items c.args.found in
    let given = (out-FieldVals c.args.fields.now).type_arguments in
    let some = none_on given.items _ c.is_empty.result given.ok.0 c.is_empty.ensures ∙ c.if-is_empty.false in
    let w = are_written e c.args.span c.args.fields.now r g some c.in_ok-counted.ensures c.requires.right in
    let a = rw (c.deref-2.ensures.value, c.deref-3.ensures.value) at c.in_ok-args.ensures in
    rw c.deref-4.ensures.value (arguments_vary e c.args.span (types_on no_types given.items) (plain_bounds r.binders.items) (plain_args c.in_ok-args.args.items) w.asked a)

pub fields_fit-returns-in_err-put-clause-answer : goal.fitting::fields_fit-returns-in_err-put-clause-answer
fields_fit-returns-in_err-put-clause-answer t c =
    let e = environment_of c.args.env.now in
    let g : Found = found_for c.args.r.now.binders.items c.args.found in
    let given = (out-FieldVals c.args.fields.now).type_arguments in
    let some = none_on given.items _ c.is_empty.result given.ok.0 c.is_empty.ensures ∙ c.if-is_empty.false in
    let a = rw (c.deref-2.ensures.value, c.deref-3.ensures.value) at c.in_ok-args.ensures in
    let y = c.in_err-put.field-0.0 in
    let h = rw c.deref-4.ensures.value at c.in_err-put.ensures.answer in
    answer_err (rule e (fits_record c.args.span (field_vals_of c.args.fields.now) c.args.r.now g)) (λ args. plain_args args.items) c.from_residual-in_err-put.result y c.from_residual-in_err-put.ensures.1
    (instance_refused e c.args.span c.args.fields.now c.args.r.now g (plain_args c.in_ok-args.args.items) y some c.in_ok-counted.ensures a h)

pub fields_fit-in_order-requires-2 : goal.fitting::fields_fit-in_order-requires-2
fields_fit-in_order-requires-2 t c =
    let e = environment_of c.args.env.now in
    let r = c.args.r.now in
    let q = c.in_ok-put.put in
    let g : Found = found_for r.binders.items c.args.found in
    let args = plain_args c.in_ok-args.args.items in
    let p = rw c.deref-4.ensures.value at c.in_ok-put.ensures.answer in
    let n = ap (λ (xs : List (Option Ty)). slots (plain_bounds q.binders.items) xs) c.new.ensures.items in
    let w = put_asked e c.args.span (field_vals_of c.args.fields.now) r q g _ args p c.in_ok-put.ensures.formed n c.requires.right in
    let k = parts_asked e c.args.span (field_vals_of c.args.fields.now) r g c.requires.right in
    let given = (out-FieldVals c.args.fields.now).positional.items in
    let many = as_many_put e c.args.span args r q (length given) p (as_many_values given r.positional.items (said c.args.span c.args.fields.now r c.in_ok-counted.ensures).1) in
    (search (rules, the_lemmas), (w, (k.distinct, (put_labels e c.args.span r q _ args p c.in_ok-put.ensures.formed n, (many, ap length c.new.ensures.items ∙ sym (put_count e c.args.span args r q p))))))

pub fields_fit-returns-in_err-in_order-2-clause-answer : goal.fitting::fields_fit-returns-in_err-in_order-2-clause-answer
fields_fit-returns-in_err-in_order-2-clause-answer t c =
    let e = environment_of c.args.env.now in
    let q = c.in_ok-put.put in
    let g : Found = found_for c.args.r.now.binders.items c.args.found in
    let given = (out-FieldVals c.args.fields.now).type_arguments in
    let some = none_on given.items _ c.is_empty.result given.ok.0 c.is_empty.ensures ∙ c.if-is_empty.false in
    let a = rw (c.deref-2.ensures.value, c.deref-3.ensures.value) at c.in_ok-args.ensures in
    let p = rw c.deref-4.ensures.value at c.in_ok-put.ensures.answer in
    let n = ap (λ (xs : List (Option Ty)). slots (plain_bounds q.binders.items) xs) c.new.ensures.items in
    let y = c.in_err-in_order-2.field-0.0 in
    answer_err (rule e (fits_record c.args.span (field_vals_of c.args.fields.now) c.args.r.now g)) (λ args. plain_args args.items) c.from_residual-in_err-in_order-2.result y c.from_residual-in_err-in_order-2.ensures.1
    (put_refused e c.args.span c.args.fields.now c.args.r.now q g _ (plain_args c.in_ok-args.args.items) y some c.in_ok-counted.ensures a p c.in_ok-put.ensures.formed n c.in_err-in_order-2.ensures.answer)

pub fields_fit-returns-clause-answer : goal.fitting::fields_fit-returns-clause-answer
fields_fit-returns-clause-answer t c =
    let q = c.in_ok-put.put in
    let g : Found = found_for c.args.r.now.binders.items c.args.found in
    let given = (out-FieldVals c.args.fields.now).type_arguments in
    let some = none_on given.items _ c.is_empty.result given.ok.0 c.is_empty.ensures ∙ c.if-is_empty.false in
    let a = rw (c.deref-2.ensures.value, c.deref-3.ensures.value) at c.in_ok-args.ensures in
    let p = rw c.deref-4.ensures.value at c.in_ok-put.ensures.answer in
    let n = ap (λ (xs : List (Option Ty)). slots (plain_bounds q.binders.items) xs) c.new.ensures.items in
    put_done (environment_of c.args.env.now) c.args.span c.args.fields.now c.args.r.now q g _ _ (plain_args c.in_ok-args.args.items) some c.in_ok-counted.ensures a p c.in_ok-put.ensures.formed n c.in_ok-in_order-2.ensures.answer
