use Rattle.std.proofs.Common.{◌≡◌, ◌∷◌, ◌-◌, [], map, refl, sym, ◌∙◌, ap, subst, append-nil, Err}
use Rattle.pict_syntax.specs.Names.{with_names}
use Rattle.pict_core.specs.Plain.{plain_val, plain_field, vals_of, labelled_of}
use Rattle.pict_core.specs.Term.{Record, no_labelled}
use Rattle.pict_trace.specs.Found.{positional_of, labelled_fields}
use Rattle.pict_trace.specs.Readable.{labels_of, labels_of_all, labels_of_labelled, GainsLabels}
use Rattle.pict_trace.specs.Reading.{Reads, ReadsFields, ReadsLabelled, BeginsNoValue, NamesGrow}
use Rattle.pict_trace.proofs.Records.{Midway, MidLabelled, begun, field_bad, behind_bad, stepped, closed, closed_labelled, labelled_bad, fields_value, no_fields, end_bad, too_deep, shallow, no_record, flat_labels, label_bad, value_bad, after_bad, stepped_labelled, ended_labelled}
use Rattle.pict_trace.proofs.Growing.{begun_growing, same_names, gained_on, grown_on, labelled_grows, value_grows}
use Rattle.pict_trace.proofs.Fields.{field_of, values_gained, labels_gained, record_gained, labels_extend, label_extends}
use Rattle.pict_trace.proofs.Kept.{extends_on}
use Rattle.pict_trace.proofs.Steps.{pushed, none_read, none_gained, unlabelled_read, on_all, on_one, at_text, reads_text}
use Rattle.pict_trace.proofs.read.+read_value.Goals as goal

-- ---- read_labelled

pub read_labelled-returns-in_err-label-clause-bad : goal.read_labelled-returns-in_err-label-clause-bad
read_labelled-returns-in_err-label-clause-bad t c e =
    label_bad c.fields.names c.args.depth c.args.text.now (map plain_field c.fields.labelled.items) c.fields.before.now c.fields.rest.now c.fields.invariant.mid
    (c.read_label.ensures.bad (let k = rw e at c.from_residual.ensures.1 in c.in_err-label.was ∙ ap Err (sym k)))

pub read_labelled-returns-in_err-label-clause-kept : goal.read_labelled-returns-in_err-label-clause-kept
read_labelled-returns-in_err-label-clause-kept t c = subst (λ n. GainsLabels c.args.text.now c.args.names.now n) (sym c.in_err-label.ensures.err) c.fields.invariant.grown.kept

pub read_labelled-returns-in_err-found-clause-bad : goal.read_labelled-returns-in_err-found-clause-bad
read_labelled-returns-in_err-found-clause-bad t c e =
    let l = c.in_ok-label.ensures.label in
    value_bad c.fields.names c.args.depth c.args.text.now (map plain_field c.fields.labelled.items) c.fields.before.now c.fields.rest.now c.in_ok-label.label.bytes.now c.in_ok-label.label.rest.now c.fields.invariant.mid l.is l.whole
    (c.read_value.ensures.bad (let k = rw e at c.from_residual-in_err-found.ensures.1 in c.in_err-found.was ∙ ap Err (sym k)))

pub read_labelled-returns-in_err-found-clause-kept : goal.read_labelled-returns-in_err-found-clause-kept
read_labelled-returns-in_err-found-clause-kept t c =
    gained_on c.args.text.now c.in_ok-label.label.rest.now c.args.names.now c.read_label.new.names c.read_value.new.names
    (labelled_grows c.args.text.now c.fields.rest.now c.in_ok-label.label.bytes.now c.in_ok-label.label.rest.now c.args.names.now c.fields.names c.read_label.new.names c.fields.invariant.grown c.in_ok-label.ensures.label.whole c.in_ok-label.ensures.label.is c.in_ok-label.ensures.gained)
    c.read_value.ensures.kept

pub read_labelled-returns-in_err-push-clause-kept : goal.read_labelled-returns-in_err-push-clause-kept
read_labelled-returns-in_err-push-clause-kept t c =
    gained_on c.args.text.now c.in_ok-label.label.rest.now c.args.names.now c.read_label.new.names c.read_value.new.names
    (labelled_grows c.args.text.now c.fields.rest.now c.in_ok-label.label.bytes.now c.in_ok-label.label.rest.now c.args.names.now c.fields.names c.read_label.new.names c.fields.invariant.grown c.in_ok-label.ensures.label.whole c.in_ok-label.ensures.label.is c.in_ok-label.ensures.gained)
    c.read_value.ensures.kept

pub read_labelled-returns-in-Some-clause-ok : goal.read_labelled-returns-in-Some-clause-ok
read_labelled-returns-in-Some-clause-ok t c =
    let mid = c.read_label.new.names in
    let new = c.read_value.new.names in
    let word = c.in_ok-label.label.bytes.now in
    let name = c.in_ok-label.label.name in
    let v = plain_val c.in_ok-found.found.value in
    let fs = map plain_field c.fields.labelled.items in
    let more = labels_extend mid new (labels_of new v) c.in_ok-found.ensures.gained in
    let field = field_of mid new c.args.depth c.fields.before.now c.fields.rest.now word c.in_ok-label.label.rest.now name.0 v c.in_ok-found.found.rest.now c.in_ok-label.ensures.label more c.in_ok-found.ensures.ok in
    let grown = extends_on c.fields.names mid new (label_extends c.fields.names mid word c.in_ok-label.ensures.gained) more in
    let items = pushed plain_field c.fields.labelled.items c.push.new.self.items (name, c.in_ok-found.found.value) c.in_ok-push.ensures.items in
    subst (λ l. ReadsLabelled new c.args.depth [] c.args.text.now (labelled_of l) c.in-Some.end.now) (sym items)
    (ended_labelled c.fields.names new c.args.depth c.args.text.now fs c.fields.before.now c.fields.rest.now word name v c.in_ok-found.found.rest.now c.in-Some.end.now c.fields.invariant.mid grown field c.in_ok-label.ensures.label.less c.in-Some.ensures.some)

pub read_labelled-returns-in-Some-clause-gained : goal.read_labelled-returns-in-Some-clause-gained
read_labelled-returns-in-Some-clause-gained t c =
    let mid = c.read_label.new.names in
    let new = c.read_value.new.names in
    let word = c.in_ok-label.label.bytes.now in
    let name = c.in_ok-label.label.name in
    let v = plain_val c.in_ok-found.found.value in
    let fs = map plain_field c.fields.labelled.items in
    let more = labels_extend mid new (labels_of new v) c.in_ok-found.ensures.gained in
    let field = field_of mid new c.args.depth c.fields.before.now c.fields.rest.now word c.in_ok-label.label.rest.now name.0 v c.in_ok-found.found.rest.now c.in_ok-label.ensures.label more c.in_ok-found.ensures.ok in
    let grown = extends_on c.fields.names mid new (label_extends c.fields.names mid word c.in_ok-label.ensures.gained) more in
    let items = pushed plain_field c.fields.labelled.items c.push.new.self.items (name, c.in_ok-found.found.value) c.in_ok-push.ensures.items in
    labels_gained c.args.names.now c.fields.names mid new fs name v word [] c.fields.invariant.mid.orderly c.fields.invariant.gained c.in_ok-label.ensures.gained field.text c.in_ok-found.ensures.gained
    ∙ ap (λ l. with_names c.args.names.now (labels_of_labelled new (labelled_of l))) (sym items)

pub read_labelled-returns-in-Some-clause-grows : goal.read_labelled-returns-in-Some-clause-grows
read_labelled-returns-in-Some-clause-grows t c =
    value_grows c.args.text.now c.in_ok-label.label.rest.now c.in_ok-found.found.rest.now c.in-Some.end.now 93 c.args.names.now c.read_label.new.names c.read_value.new.names
    (labelled_grows c.args.text.now c.fields.rest.now c.in_ok-label.label.bytes.now c.in_ok-label.label.rest.now c.args.names.now c.fields.names c.read_label.new.names c.fields.invariant.grown c.in_ok-label.ensures.label.whole c.in_ok-label.ensures.label.is c.in_ok-label.ensures.gained)
    c.in_ok-found.ensures.grows c.in-Some.ensures.some

pub read_labelled-returns-in-Some-clause-kept : goal.read_labelled-returns-in-Some-clause-kept
read_labelled-returns-in-Some-clause-kept t c =
    gained_on c.args.text.now c.in_ok-label.label.rest.now c.args.names.now c.read_label.new.names c.read_value.new.names
    (labelled_grows c.args.text.now c.fields.rest.now c.in_ok-label.label.bytes.now c.in_ok-label.label.rest.now c.args.names.now c.fields.names c.read_label.new.names c.fields.invariant.grown c.in_ok-label.ensures.label.whole c.in_ok-label.ensures.label.is c.in_ok-label.ensures.gained)
    c.read_value.ensures.kept

pub read_labelled-returns-in-None-clause-bad : goal.read_labelled-returns-in-None-clause-bad
read_labelled-returns-in-None-clause-bad t c e =
    let mid = c.read_label.new.names in
    let new = c.read_value.new.names in
    let word = c.in_ok-label.label.bytes.now in
    let name = c.in_ok-label.label.name in
    let v = plain_val c.in_ok-found.found.value in
    let fs = map plain_field c.fields.labelled.items in
    let more = labels_extend mid new (labels_of new v) c.in_ok-found.ensures.gained in
    let field = field_of mid new c.args.depth c.fields.before.now c.fields.rest.now word c.in_ok-label.label.rest.now name.0 v c.in_ok-found.found.rest.now c.in_ok-label.ensures.label more c.in_ok-found.ensures.ok in
    after_bad c.fields.names new c.args.depth c.args.text.now fs c.fields.before.now c.fields.rest.now word name.0 v c.in_ok-found.found.rest.now c.fields.invariant.mid field (c.behind.ensures.none c.in_default.is) (c.behind-in-fields.ensures.none c.in-None.is)

pub read_labelled-returns-in-None-clause-kept : goal.read_labelled-returns-in-None-clause-kept
read_labelled-returns-in-None-clause-kept t c =
    gained_on c.args.text.now c.in_ok-label.label.rest.now c.args.names.now c.read_label.new.names c.read_value.new.names
    (labelled_grows c.args.text.now c.fields.rest.now c.in_ok-label.label.bytes.now c.in_ok-label.label.rest.now c.args.names.now c.fields.names c.read_label.new.names c.fields.invariant.grown c.in_ok-label.ensures.label.whole c.in_ok-label.ensures.label.is c.in_ok-label.ensures.gained)
    c.read_value.ensures.kept

pub read_labelled-fields-preserved : goal.read_labelled-fields-preserved
read_labelled-fields-preserved t c =
    let mid = c.read_label.new.names in
    let new = c.read_value.new.names in
    let word = c.in_ok-label.label.bytes.now in
    let name = c.in_ok-label.label.name in
    let v = plain_val c.in_ok-found.found.value in
    let fs = map plain_field c.fields.labelled.items in
    let more = labels_extend mid new (labels_of new v) c.in_ok-found.ensures.gained in
    let field = field_of mid new c.args.depth c.fields.before.now c.fields.rest.now word c.in_ok-label.label.rest.now name.0 v c.in_ok-found.found.rest.now c.in_ok-label.ensures.label more c.in_ok-found.ensures.ok in
    let grown = extends_on c.fields.names mid new (label_extends c.fields.names mid word c.in_ok-label.ensures.gained) more in
    let items = pushed plain_field c.fields.labelled.items c.push.new.self.items (name, c.in_ok-found.found.value) c.in_ok-push.ensures.items in
    record {
      mid = subst (λ l. MidLabelled new c.args.depth c.args.text.now l word c.in-Some-behind.more.now) (sym items)
          (stepped_labelled c.fields.names new c.args.depth c.args.text.now fs c.fields.before.now c.fields.rest.now word name v c.in_ok-found.found.rest.now c.in-Some-behind.more.now c.fields.invariant.mid grown field c.in_ok-label.ensures.label.less c.in-Some-behind.ensures.some);
      gained = labels_gained c.args.names.now c.fields.names mid new fs name v word [] c.fields.invariant.mid.orderly c.fields.invariant.gained c.in_ok-label.ensures.gained field.text c.in_ok-found.ensures.gained
          ∙ ap (λ l. with_names c.args.names.now (labels_of_labelled new (labelled_of l))) (sym items);
      grown = value_grows c.args.text.now c.in_ok-label.label.rest.now c.in_ok-found.found.rest.now c.in-Some-behind.more.now 32 c.args.names.now c.read_label.new.names c.read_value.new.names
          (labelled_grows c.args.text.now c.fields.rest.now c.in_ok-label.label.bytes.now c.in_ok-label.label.rest.now c.args.names.now c.fields.names c.read_label.new.names c.fields.invariant.grown c.in_ok-label.ensures.label.whole c.in_ok-label.ensures.label.is c.in_ok-label.ensures.gained)
          c.in_ok-found.ensures.grows c.in-Some-behind.ensures.some;
    }

-- ---- read_fields

pub read_fields-returns-in-Some-clause-ok : goal.read_fields-returns-in-Some-clause-ok
read_fields-returns-in-Some-clause-ok t c = none_read c.args.names.now c.args.depth c.args.text.now c.in-Some.rest.now c.new.result.items c.new-in-Some.result.items c.new.ensures.items c.new-in-Some.ensures.items c.in-Some.ensures.some

pub read_fields-returns-in-Some-clause-gained : goal.read_fields-returns-in-Some-clause-gained
read_fields-returns-in-Some-clause-gained t c = none_gained c.args.names.now c.new.result.items c.new-in-Some.result.items c.new.ensures.items c.new-in-Some.ensures.items

pub read_fields-returns-in-Some-clause-grows : goal.read_fields-returns-in-Some-clause-grows
read_fields-returns-in-Some-clause-grows t c = same_names c.args.text.now c.in-Some.rest.now (93 ∷ []) c.args.names.now c.in-Some.ensures.some

pub read_fields-values-init : goal.read_fields-values-init
read_fields-values-init t c =
    let names = c.args.names.now in
    record {
      mid = subst (λ l. Midway names c.args.depth c.args.text.now (map plain_val l) c.args.text.now) (sym c.new-positional.ensures.items) (begun names c.args.depth c.args.text.now (c.behind.ensures.none c.in_default.is));
      gained = ap (λ l. with_names names (labels_of_all names (vals_of (map plain_val l)))) (sym c.new-positional.ensures.items);
      grown = begun_growing c.args.text.now names;
    }

pub read_fields-returns-in_err-found-clause-kept : goal.read_fields-returns-in_err-found-clause-kept
read_fields-returns-in_err-found-clause-kept t c = gained_on c.args.text.now c.values.rest.now c.args.names.now c.values.names c.read_value.new.names c.values.invariant.grown c.read_value.ensures.kept

pub read_fields-returns-in_err-push-clause-kept : goal.read_fields-returns-in_err-push-clause-kept
read_fields-returns-in_err-push-clause-kept t c = gained_on c.args.text.now c.values.rest.now c.args.names.now c.values.names c.read_value.new.names c.values.invariant.grown c.read_value.ensures.kept

pub read_fields-returns-in-Some-behind-clause-ok : goal.read_fields-returns-in-Some-behind-clause-ok
read_fields-returns-in-Some-behind-clause-ok t c =
    let new = c.read_value.new.names in
    let v = plain_val c.in_ok-found.found.value in
    let vs = map plain_val c.values.positional.items in
    unlabelled_read new c.args.depth c.args.text.now c.in-Some-behind.rest.now (vals_of (map plain_val c.push.new.self.items)) c.new-in-Some-behind.result.items c.new-in-Some-behind.ensures.items
    (subst (λ l. ReadsFields new c.args.depth c.args.text.now (vals_of l) no_labelled c.in-Some-behind.rest.now) (sym (pushed plain_val c.values.positional.items c.push.new.self.items c.in_ok-found.found.value c.in_ok-push.ensures.items))
    (closed c.values.names new c.args.depth c.args.text.now vs c.values.rest.now c.in_ok-found.found.rest.now c.in-Some-behind.rest.now v c.values.invariant.mid (labels_extend c.values.names new (labels_of new v) c.in_ok-found.ensures.gained) c.in_ok-found.ensures.ok c.in-Some-behind.ensures.some))

pub read_fields-returns-in-Some-behind-clause-gained : goal.read_fields-returns-in-Some-behind-clause-gained
read_fields-returns-in-Some-behind-clause-gained t c =
    let names = c.args.names.now in
    let new = c.read_value.new.names in
    let v = plain_val c.in_ok-found.found.value in
    let vs = map plain_val c.values.positional.items in
    values_gained names c.values.names new vs v c.values.invariant.mid.orderly c.values.invariant.gained c.in_ok-found.ensures.gained
    ∙ ap (λ l. with_names names (labels_of_all new (vals_of l))) (sym (pushed plain_val c.values.positional.items c.push.new.self.items c.in_ok-found.found.value c.in_ok-push.ensures.items))
    ∙ ap (with_names names) (sym (append-nil (labels_of_all new (vals_of (map plain_val c.push.new.self.items)))))
    ∙ ap (λ l. with_names names (labels_of new (Record (vals_of (map plain_val c.push.new.self.items)) (labelled_of (map plain_field l))))) (sym c.new-in-Some-behind.ensures.items)

pub read_fields-returns-in-Some-behind-clause-grows : goal.read_fields-returns-in-Some-behind-clause-grows
read_fields-returns-in-Some-behind-clause-grows t c =
    value_grows c.args.text.now c.values.rest.now c.in_ok-found.found.rest.now c.in-Some-behind.rest.now 93 c.args.names.now c.values.names c.read_value.new.names c.values.invariant.grown c.in_ok-found.ensures.grows c.in-Some-behind.ensures.some

pub read_fields-returns-in-Some-behind-clause-kept : goal.read_fields-returns-in-Some-behind-clause-kept
read_fields-returns-in-Some-behind-clause-kept t c = gained_on c.args.text.now c.values.rest.now c.args.names.now c.values.names c.read_value.new.names c.values.invariant.grown c.read_value.ensures.kept

pub read_fields-values-preserved : goal.read_fields-values-preserved
read_fields-values-preserved t c =
    let names = c.args.names.now in
    let new = c.read_value.new.names in
    let v = plain_val c.in_ok-found.found.value in
    let vs = map plain_val c.values.positional.items in
    let items = pushed plain_val c.values.positional.items c.push.new.self.items c.in_ok-found.found.value c.in_ok-push.ensures.items in
    record {
      mid = subst (λ l. Midway new c.args.depth c.args.text.now l c.in-Some-behind-2.more.now) (sym items)
          (stepped c.values.names new c.args.depth c.args.text.now vs c.values.rest.now c.in_ok-found.found.rest.now c.in-Some-behind-2.more.now v c.values.invariant.mid (labels_extend c.values.names new (labels_of new v) c.in_ok-found.ensures.gained)
          (c.begins_label.ensures.none c.values-test.true) c.in_ok-found.ensures.ok c.in-Some-behind-2.ensures.some);
      gained = values_gained names c.values.names new vs v c.values.invariant.mid.orderly c.values.invariant.gained c.in_ok-found.ensures.gained ∙ ap (λ l. with_names names (labels_of_all new (vals_of l))) (sym items);
      grown = value_grows c.args.text.now c.values.rest.now c.in_ok-found.found.rest.now c.in-Some-behind-2.more.now 32 names c.values.names new c.values.invariant.grown c.in_ok-found.ensures.grows c.in-Some-behind-2.ensures.some;
    }

pub read_fields-returns-in_err-found-clause-bad : goal.read_fields-returns-in_err-found-clause-bad
read_fields-returns-in_err-found-clause-bad t c e =
    field_bad c.values.names c.args.depth c.args.text.now (map plain_val c.values.positional.items) c.values.rest.now c.values.invariant.mid (c.begins_label.ensures.none c.values-test.true)
    (c.read_value.ensures.bad (let k = rw e at c.from_residual.ensures.1 in c.in_err-found.was ∙ ap Err (sym k)))

pub read_fields-returns-in-None-clause-bad : goal.read_fields-returns-in-None-clause-bad
read_fields-returns-in-None-clause-bad t c e =
    behind_bad c.values.names c.read_value.new.names c.args.depth c.args.text.now (map plain_val c.values.positional.items) c.values.rest.now c.in_ok-found.found.rest.now (plain_val c.in_ok-found.found.value) c.values.invariant.mid
    (c.begins_label.ensures.none c.values-test.true) c.in_ok-found.ensures.ok (c.behind-in-values.ensures.none c.in_default-behind.is) (c.behind-in-values-2.ensures.none c.in-None.is)

pub read_fields-returns-in-None-clause-kept : goal.read_fields-returns-in-None-clause-kept
read_fields-returns-in-None-clause-kept t c = gained_on c.args.text.now c.values.rest.now c.args.names.now c.values.names c.read_value.new.names c.values.invariant.grown c.read_value.ensures.kept

pub read_fields-returns-in_err-labelled-clause-bad : goal.read_fields-returns-in_err-labelled-clause-bad
read_fields-returns-in_err-labelled-clause-bad t c e =
    let b = c.begins_label.ensures.label c.values-test.false in
    labelled_bad c.values.names c.args.depth c.args.text.now (map plain_val c.values.positional.items) c.values.rest.now b.word b.more c.values.invariant.mid b.is b.whole
    (c.read_labelled.ensures.bad (let k = rw e at c.from_residual-in_err-labelled.ensures.1 in c.in_err-labelled.was ∙ ap Err (sym k)))

pub read_fields-returns-in_err-labelled-clause-kept : goal.read_fields-returns-in_err-labelled-clause-kept
read_fields-returns-in_err-labelled-clause-kept t c = gained_on c.args.text.now c.values.rest.now c.args.names.now c.values.names c.read_labelled.new.names c.values.invariant.grown c.read_labelled.ensures.kept

pub read_fields-returns-clause-ok : goal.read_fields-returns-clause-ok
read_fields-returns-clause-ok t c =
    closed_labelled c.values.names c.read_labelled.new.names c.args.depth c.args.text.now (map plain_val c.values.positional.items) c.values.rest.now _ _ c.values.invariant.mid
    (labels_extend c.values.names c.read_labelled.new.names c.read_labelled.ensures.kept.labels c.read_labelled.ensures.kept.gained) c.in_ok-labelled.ensures.ok

pub read_fields-returns-clause-gained : goal.read_fields-returns-clause-gained
read_fields-returns-clause-gained t c =
    record_gained c.args.names.now c.values.names c.read_labelled.new.names (map plain_val c.values.positional.items) _ c.values.invariant.mid.orderly c.values.invariant.gained c.in_ok-labelled.ensures.gained

pub read_fields-returns-clause-grows : goal.read_fields-returns-clause-grows
read_fields-returns-clause-grows t c = grown_on c.args.text.now c.values.rest.now _ c.args.names.now c.values.names c.read_labelled.new.names c.values.invariant.grown c.in_ok-labelled.ensures.grows

pub read_fields-returns-clause-kept : goal.read_fields-returns-clause-kept
read_fields-returns-clause-kept t c = gained_on c.args.text.now c.values.rest.now c.args.names.now c.values.names c.read_labelled.new.names c.values.invariant.grown c.read_labelled.ensures.kept

-- ---- read_value

pub read_value-returns-then-depth-eq0-clause-bad : goal.read_value-returns-then-depth-eq0-clause-bad
read_value-returns-then-depth-eq0-clause-bad t c e = subst (λ d. BeginsNoValue d c.args.text.now) (sym c.if-depth-eq0.true) (subst (BeginsNoValue 0) (sym c.in-Some.ensures.some) (too_deep c.in-Some.inner.now))

pub read_value-returns-in_err-fields-in-Some-clause-bad : goal.read_value-returns-in_err-fields-in-Some-clause-bad
read_value-returns-in_err-fields-in-Some-clause-bad t c e =
    at_text c.args.depth (c.args.depth - 1) c.args.text.now c.in-Some.inner.now c.if-depth-eq0.false refl c.in-Some.ensures.some
    (no_fields (c.args.depth - 1) c.in-Some.inner.now (c.read_fields.ensures.bad (let k = rw e at c.from_residual.ensures.1 in c.in_err-fields-in-Some.was ∙ ap Err (sym k))))

pub read_value-returns-in_err-fields-in-Some-clause-kept : goal.read_value-returns-in_err-fields-in-Some-clause-kept
read_value-returns-in_err-fields-in-Some-clause-kept t c =
    gained_on c.args.text.now c.in-Some.inner.now c.args.names.now c.args.names.now c.read_fields.new.names (same_names c.args.text.now c.in-Some.inner.now (91 ∷ []) c.args.names.now c.in-Some.ensures.some) c.read_fields.ensures.kept

pub read_value-returns-in_ok-fields-in-Some-clause-ok : goal.read_value-returns-in_ok-fields-in-Some-clause-ok
read_value-returns-in_ok-fields-in-Some-clause-ok t c =
    let new = c.read_fields.new.names in
    let fields = c.in_ok-fields-in-Some.fields in
    let d = c.args.depth - 1 in
    on_all c.finish.result _ _ _ (λ x. Reads new c.args.depth c.args.text.now (plain_val x.value) x.rest.now) c.finish.ensures.value c.finish.ensures.rest c.finish.ensures.ends
    (λ x value rest ends. reads_text new c.args.depth d c.args.text.now c.in-Some.inner.now (plain_val x.value) x.rest.now c.if-depth-eq0.false refl c.in-Some.ensures.some
    (fields_value new d c.in-Some.inner.now (positional_of fields) (labelled_fields fields) (plain_val x.value) fields.rest.now x.rest.now c.in_ok-fields-in-Some.ensures.ok ends value rest))

pub read_value-returns-in_ok-fields-in-Some-clause-bad : goal.read_value-returns-in_ok-fields-in-Some-clause-bad
read_value-returns-in_ok-fields-in-Some-clause-bad t c e =
    let fields = c.in_ok-fields-in-Some.fields in
    at_text c.args.depth (c.args.depth - 1) c.args.text.now c.in-Some.inner.now c.if-depth-eq0.false refl c.in-Some.ensures.some
    (end_bad c.read_fields.new.names (c.args.depth - 1) c.in-Some.inner.now (positional_of fields) (labelled_fields fields) fields.rest.now c.in_ok-fields-in-Some.ensures.ok (c.finish.ensures.bad e))

pub read_value-returns-in_ok-fields-in-Some-clause-gained : goal.read_value-returns-in_ok-fields-in-Some-clause-gained
read_value-returns-in_ok-fields-in-Some-clause-gained t c =
    let new = c.read_fields.new.names in
    on_one c.finish.result _ (λ x. new ≡ with_names c.args.names.now (labels_of new (plain_val x.value))) c.finish.ensures.value
    (λ x value. c.in_ok-fields-in-Some.ensures.gained ∙ ap (λ v. with_names c.args.names.now (labels_of new v)) (sym value))

pub read_value-returns-in_ok-fields-in-Some-clause-grows : goal.read_value-returns-in_ok-fields-in-Some-clause-grows
read_value-returns-in_ok-fields-in-Some-clause-grows t c =
    let new = c.read_fields.new.names in
    let names = c.args.names.now in
    let fields = c.in_ok-fields-in-Some.fields in
    on_one c.finish.result _ (λ x. NamesGrow c.args.text.now names new x.rest.now) c.finish.ensures.rest
    (λ x rest. subst (λ r. NamesGrow c.args.text.now names new r) (sym rest)
    (grown_on c.args.text.now c.in-Some.inner.now fields.rest.now names names new (same_names c.args.text.now c.in-Some.inner.now (91 ∷ []) names c.in-Some.ensures.some) c.in_ok-fields-in-Some.ensures.grows))

pub read_value-returns-in_ok-fields-in-Some-clause-kept : goal.read_value-returns-in_ok-fields-in-Some-clause-kept
read_value-returns-in_ok-fields-in-Some-clause-kept t c =
    gained_on c.args.text.now c.in-Some.inner.now c.args.names.now c.args.names.now c.read_fields.new.names (same_names c.args.text.now c.in-Some.inner.now (91 ∷ []) c.args.names.now c.in-Some.ensures.some) c.read_fields.ensures.kept

pub read_value-returns-in-None-clause-ok : goal.read_value-returns-in-None-clause-ok
read_value-returns-in-None-clause-ok t c = on_one c.read_simple.result _ (λ r. Reads c.args.names.now c.args.depth c.args.text.now (plain_val r.value) r.rest.now) (c.read_simple.ensures.ok c.args.names.now) (λ x. shallow c.args.names.now c.args.depth c.args.text.now (plain_val x.value) x.rest.now)

pub read_value-returns-in-None-clause-bad : goal.read_value-returns-in-None-clause-bad
read_value-returns-in-None-clause-bad t c e = no_record c.args.depth c.args.text.now (c.behind.ensures.none c.in-None.is) (c.read_simple.ensures.bad e)

pub read_value-returns-in-None-clause-gained : goal.read_value-returns-in-None-clause-gained
read_value-returns-in-None-clause-gained t c =
    on_one c.read_simple.result _ (λ r. c.args.names.now ≡ with_names c.args.names.now (labels_of c.args.names.now (plain_val r.value))) (c.read_simple.ensures.ok c.args.names.now)
    (λ x h. ap (with_names c.args.names.now) (sym (flat_labels c.args.names.now (plain_val x.value) h.low)))

pub read_value-returns-in-None-clause-grows : goal.read_value-returns-in-None-clause-grows
read_value-returns-in-None-clause-grows t c =
    on_one c.read_simple.result _ (λ r. NamesGrow c.args.text.now c.args.names.now c.args.names.now r.rest.now) (c.read_simple.ensures.ok c.args.names.now) (λ x h. same_names c.args.text.now x.rest.now _ c.args.names.now h.whole)
