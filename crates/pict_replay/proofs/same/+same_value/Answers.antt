use Rattle.std.proofs.Common.{◌≡◌, map, drop, sym, ap, ◌∙◌, arith, Some, None}
use Rattle.std.proofs.lemmas.Bool.{iff_false}
use Rattle.std.proofs.lemmas.List.{drop_all}
use Rattle.pict_core.specs.Plain.{plain_val, plain_field, vals_of, labelled_of}
use Rattle.pict_core.specs.Term as term
use Rattle.pict_core.proofs.Fields.{plain_val-Fields}
use Rattle.pict_heap.specs.Fields.{positional_field, labelled_field_at}
use Rattle.pict_heap.specs.HeapState.{value_of}
use Rattle.pict_show_words.specs.Fields.{labelled_from}
use Rattle.pict_show_words.proofs.Rests.{from_some, from_none, labelled_from_some, labelled_from_none}
use Rattle.pict_replay.proofs.Plainly.{var_is, not_so, tests_as}
use Rattle.pict_replay.proofs.Simple.{no_variable}
use Rattle.pict_replay.proofs.FieldByField.{vals_on, vals_differ, vals_short, vals_over, labelled_on, labels_differ, labelled_differ, labelled_short, labelled_over, values_left, fields_left, record_tells, vals_end, labelled_end, both_ways}
use Rattle.pict_replay.proofs.same.+same_value.Goals as goal

pub same_value-returns-in-Var : goal.same_value-returns-in-Var
same_value-returns-in-Var t c = not_so (λ e. no_variable c.args.heap.now c.args.word c.in-Var.field-0 (e ∙ sym (var_is c.args.value.now c.in-Var.field-0 c.in-Var.is)))

pub same_value-returns-else-not-branch : goal.same_value-returns-else-not-branch
same_value-returns-else-not-branch t c =
    let h = c.args.heap.now in
    let w = c.args.word in
    let vs = vals_of (map plain_val c.deref.result.now) in
    let ls = labelled_of (map plain_field c.deref-in-Fields-word.result.now) in
    let plain : plain_val c.args.value.now ≡ term.Record vs ls
    = ap plain_val c.in-Fields.is ∙ plain_val-Fields c.in-Fields.positional c.in-Fields.labelled
    ∙ ap (λ xs. term.Record (vals_of (map plain_val xs)) (labelled_of (map plain_field c.in-Fields.labelled.items))) (sym c.deref.ensures.value)
    ∙ ap (λ xs. term.Record vs (labelled_of (map plain_field xs))) (sym c.deref-in-Fields-word.ensures.value) in
    tests_as c.same_fields.result (labelled_from 0 (value_of h w) ≡ ls) (value_of h w ≡ plain_val c.args.value.now)
    (record_tells h w c.in-Fields-word.field-0 (plain_val c.args.value.now) vs ls c.in-Fields-word.is plain (c.in_ok-same_values-in-Fields-word.ensures.0 c.if-not-branch.false)) c.same_fields.ensures

pub same_values-returns-then-not-branch : goal.same_values-returns-then-not-branch
same_values-returns-then-not-branch t c =
    let h = c.args.heap.now in
    let v = value_of h c.args.word in
    let i = c.loop-i.i in
    let x = value_of h c.in-Some.field in
    let there : positional_field v i ≡ Some x = ap (positional_field v) (sym c.in_ok-index_of.ensures) ∙ sym c.in-Some.ensures.value in
    not_so (vals_differ _ _ _ c.loop-i.invariant x (plain_val c.index-values-i.result) _ _ (from_some v x i there) (values_left c.args.values.now i c.index-values-i.result c.loop-i-test.true c.index-values-i.is)
    (iff_false c.in_ok-same_value-in-Some.ensures c.if-not-branch.true))

pub same_values-returns-in-None : goal.same_values-returns-in-None
same_values-returns-in-None t c =
    let h = c.args.heap.now in
    let v = value_of h c.args.word in
    let i = c.loop-i.i in
    let there : positional_field v i ≡ None = ap (positional_field v) (sym c.in_ok-index_of.ensures) ∙ sym c.in-None.ensures.value in
    not_so (vals_short _ _ _ c.loop-i.invariant (plain_val c.index-values-i.result) _ (from_none v i there) (values_left c.args.values.now i c.index-values-i.result c.loop-i-test.true c.index-values-i.is))

pub same_values-loop-i-preserved : goal.same_values-loop-i-preserved
same_values-loop-i-preserved t c =
    let h = c.args.heap.now in
    let v = value_of h c.args.word in
    let i = c.loop-i.i in
    let x = value_of h c.in-Some.field in
    let there : positional_field v i ≡ Some x = ap (positional_field v) (sym c.in_ok-index_of.ensures) ∙ sym c.in-Some.ensures.value in
    vals_on _ _ _ c.loop-i.invariant x (plain_val c.index-values-i.result) _ _ (from_some v x i there) (values_left c.args.values.now i c.index-values-i.result c.loop-i-test.true c.index-values-i.is)
    (c.in_ok-same_value-in-Some.ensures.0 c.if-not-branch.false)

pub same_values-returns : goal.same_values-returns
same_values-returns t c =
    let h = c.args.heap.now in
    let v = value_of h c.args.word in
    let i = c.loop-i.i in
    let at : c.in_ok-index_of-2.field-0 ≡ i = let a = c.loop-i.auto.i-end in let b = c.loop-i-test.false in let e = c.in_ok-index_of-2.ensures in omega (arith, a, b, e) in
    let over : vals_of (map plain_val (drop i c.args.values.now)) ≡ term.no_vals = ap (λ l. vals_of (map plain_val l)) (drop_all i c.args.values.now (let b = c.loop-i-test.false in omega (arith, b))) in
    both_ways (vals_end h v i c.positional-2.result c.is_absent.result (c.positional-2.ensures.value ∙ ap (positional_field v) at) c.is_absent.ensures) (vals_over _ _ _ c.loop-i.invariant over)

pub same_fields-returns-then-not-same_name : goal.same_fields-returns-then-not-same_name
same_fields-returns-then-not-same_name t c =
    let h = c.args.heap.now in
    let v = value_of h c.args.word in
    let i = c.loop-i.i in
    let x = value_of h c.in-Some.found.1 in
    let l = c.in-Some.found.0.0 in
    let there : labelled_field_at v i ≡ Some (l, x) = ap (labelled_field_at v) (sym c.in_ok-index_of.ensures) ∙ sym c.in-Some.ensures.value in
    not_so (labels_differ _ _ _ c.loop-i.invariant l c.index-fields-i.result.0.0 x (plain_val c.index-fields-i.result.1) _ _ (labelled_from_some v x i l there) (fields_left c.args.fields.now i c.index-fields-i.result c.loop-i-test.true c.index-fields-i.is)
    (iff_false c.same_name.ensures c.if-not-same_name.true))

pub same_fields-returns-then-not-branch : goal.same_fields-returns-then-not-branch
same_fields-returns-then-not-branch t c =
    let h = c.args.heap.now in
    let v = value_of h c.args.word in
    let i = c.loop-i.i in
    let x = value_of h c.in-Some.found.1 in
    let l = c.in-Some.found.0.0 in
    let there : labelled_field_at v i ≡ Some (l, x) = ap (labelled_field_at v) (sym c.in_ok-index_of.ensures) ∙ sym c.in-Some.ensures.value in
    not_so (labelled_differ _ _ _ c.loop-i.invariant l c.index-fields-i.result.0.0 x (plain_val c.index-fields-i.result.1) _ _ (labelled_from_some v x i l there) (fields_left c.args.fields.now i c.index-fields-i.result c.loop-i-test.true c.index-fields-i.is)
    (iff_false c.in_ok-same_value-in-Some.ensures c.if-not-branch.true))

pub same_fields-returns-in-None : goal.same_fields-returns-in-None
same_fields-returns-in-None t c =
    let h = c.args.heap.now in
    let v = value_of h c.args.word in
    let i = c.loop-i.i in
    let there : labelled_field_at v i ≡ None = ap (labelled_field_at v) (sym c.in_ok-index_of.ensures) ∙ sym c.in-None.ensures.value in
    not_so (labelled_short _ _ _ c.loop-i.invariant c.index-fields-i.result.0.0 (plain_val c.index-fields-i.result.1) _ (labelled_from_none v i there) (fields_left c.args.fields.now i c.index-fields-i.result c.loop-i-test.true c.index-fields-i.is))

pub same_fields-loop-i-preserved : goal.same_fields-loop-i-preserved
same_fields-loop-i-preserved t c =
    let h = c.args.heap.now in
    let v = value_of h c.args.word in
    let i = c.loop-i.i in
    let x = value_of h c.in-Some.found.1 in
    let l = c.in-Some.found.0.0 in
    let there : labelled_field_at v i ≡ Some (l, x) = ap (labelled_field_at v) (sym c.in_ok-index_of.ensures) ∙ sym c.in-Some.ensures.value in
    labelled_on _ _ _ c.loop-i.invariant l c.index-fields-i.result.0.0 x (plain_val c.index-fields-i.result.1) _ _ (labelled_from_some v x i l there) (fields_left c.args.fields.now i c.index-fields-i.result c.loop-i-test.true c.index-fields-i.is)
    (c.same_name.ensures.0 c.if-not-same_name.false) (c.in_ok-same_value-in-Some.ensures.0 c.if-not-branch.false)

pub same_fields-returns : goal.same_fields-returns
same_fields-returns t c =
    let h = c.args.heap.now in
    let v = value_of h c.args.word in
    let i = c.loop-i.i in
    let at : c.in_ok-index_of-2.field-0 ≡ i = let a = c.loop-i.auto.i-end in let b = c.loop-i-test.false in let e = c.in_ok-index_of-2.ensures in omega (arith, a, b, e) in
    let over : labelled_of (map plain_field (drop i c.args.fields.now)) ≡ term.no_labelled = ap (λ l. labelled_of (map plain_field l)) (drop_all i c.args.fields.now (let b = c.loop-i-test.false in omega (arith, b))) in
    both_ways (labelled_end h v i c.label_at-2.result c.is_unlabelled.result (c.label_at-2.ensures.value ∙ ap (labelled_field_at v) at) c.is_unlabelled.ensures) (labelled_over _ _ _ c.loop-i.invariant over)
