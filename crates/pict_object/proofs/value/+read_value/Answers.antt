use Rattle.std.proofs.Common.{sym, subst, ◌≡◌, ◌++◌, ◌∷◌, [], map, ap, arith}
use Rattle.std.proofs.lemmas.Result.{err_from_is_err_and}
use Rattle.std.proofs.lemmas.List.{map_push}
use Rattle.pict_core.specs.Plain.{plain_val, plain_field}
use Rattle.pict_object.specs.Reading.{GivesReading, label_in, value_at, counted_at, labelled_at}
use Rattle.pict_object.proofs.Loops.{count_ends, begins, goes_on, ends, is_done, fields_count_ends, fields_begin, fields_go_on, label_ends, field_ends, fields_done}
use Rattle.pict_object.proofs.Forms.{behind_tag, without_tag, value_empty, value_is_simple, value_too_deep, value_is_record}
use Rattle.pict_object.proofs.value.+read_value.Goals as goal

pub read_values-returns-in_err-count : goal.read_values-returns-in_err-count
read_values-returns-in_err-count t c =
    let p = err_from_is_err_and c.from_residual.result c.from_residual.ensures.1 in
    rw (p.1, p.2) (count_ends (value_at c.args.labels.now c.args.bound c.args.left) c.in_err-count.field-0.0 c.args.bytes.now c.in_err-count.ensures)

pub read_values-loop-init : goal.read_values-loop-init
read_values-loop-init t c = begins (value_at c.args.labels.now c.args.bound c.args.left) (map plain_val c.new-values.result.items) c.in_ok-count.count c.args.bytes.now c.in_ok-count.first.now (ap (map plain_val) c.new-values.ensures.items) c.in_ok-count.ensures

pub read_values-returns-in_err-value : goal.read_values-returns-in_err-value
read_values-returns-in_err-value t c =
    let p = err_from_is_err_and c.from_residual-in_err-value.result c.from_residual-in_err-value.ensures.1 in
    rw (p.1, p.2) (ends (value_at c.args.labels.now c.args.bound c.args.left) c.in_err-value.field-0.0 (map plain_val c.loop.values.items) c.in_ok-count.count c.loop.counter c.loop.rest.now (counted_at (value_at c.args.labels.now c.args.bound c.args.left) c.args.bytes.now) c.loop-test.true c.in_err-value.ensures c.loop.invariant)

pub read_values-loop-preserved : goal.read_values-loop-preserved
read_values-loop-preserved t c =
    let e : map plain_val c.push.new.self.items ≡ map plain_val c.loop.values.items ++ plain_val c.in_ok-value.value ∷ [] = rw c.in_ok-push.ensures.items (map_push _ c.loop.values.items c.in_ok-value.value) in
    rw e (goes_on (value_at c.args.labels.now c.args.bound c.args.left) (map plain_val c.loop.values.items) c.in_ok-count.count c.loop.counter c.loop.rest.now (plain_val c.in_ok-value.value) c.in_ok-value.after.now (counted_at (value_at c.args.labels.now c.args.bound c.args.left) c.args.bytes.now) c.loop-test.true c.in_ok-value.ensures c.loop.invariant)

pub read_values-returns : goal.read_values-returns
read_values-returns t c = is_done (value_at c.args.labels.now c.args.bound c.args.left) (map plain_val c.loop.values.items) c.in_ok-count.count c.loop.counter c.loop.rest.now (counted_at (value_at c.args.labels.now c.args.bound c.args.left) c.args.bytes.now) c.loop-test.false c.loop.invariant

pub read_fields-returns-in_err-count : goal.read_fields-returns-in_err-count
read_fields-returns-in_err-count t c =
    let p = err_from_is_err_and c.from_residual.result c.from_residual.ensures.1 in
    rw (p.1, p.2) (fields_count_ends c.args.labels.now (value_at c.args.labels.now c.args.bound c.args.left) c.in_err-count.field-0.0 c.args.bytes.now c.in_err-count.ensures)

pub read_fields-loop-init : goal.read_fields-loop-init
read_fields-loop-init t c = fields_begin c.args.labels.now (value_at c.args.labels.now c.args.bound c.args.left) (map plain_field c.new-fields.result.items) c.in_ok-count.count c.args.bytes.now c.in_ok-count.first.now (ap (map plain_field) c.new-fields.ensures.items) c.in_ok-count.ensures

pub read_fields-returns-in_err-place : goal.read_fields-returns-in_err-place
read_fields-returns-in_err-place t c =
    let p = err_from_is_err_and c.from_residual-in_err-place.result c.from_residual-in_err-place.ensures.1 in
    rw (p.1, p.2) (label_ends c.args.labels.now (value_at c.args.labels.now c.args.bound c.args.left) c.in_err-place.field-0.0 (map plain_field c.loop.fields.items) c.in_ok-count.count c.loop.counter c.loop.from c.loop.rest.now (labelled_at c.args.labels.now (value_at c.args.labels.now c.args.bound c.args.left) c.args.bytes.now)
    c.loop-test.true c.in_err-place.ensures.place c.loop.invariant)

pub read_fields-returns-in_err-value : goal.read_fields-returns-in_err-value
read_fields-returns-in_err-value t c =
    let p = err_from_is_err_and c.from_residual-in_err-value.result c.from_residual-in_err-value.ensures.1 in
    rw (p.1, p.2) (field_ends c.args.labels.now (value_at c.args.labels.now c.args.bound c.args.left) c.in_err-value.field-0.0 (map plain_field c.loop.fields.items) c.in_ok-count.count c.loop.counter c.loop.from c.loop.rest.now c.in_ok-place.place c.in_ok-place.behind.now
    (labelled_at c.args.labels.now (value_at c.args.labels.now c.args.bound c.args.left) c.args.bytes.now) c.loop-test.true c.in_ok-place.ensures.place c.in_err-value.ensures c.loop.invariant)

pub read_fields-loop-preserved : goal.read_fields-loop-preserved
read_fields-loop-preserved t c =
    let e : map plain_field c.push.new.self.items ≡ map plain_field c.loop.fields.items ++ (label_in c.args.labels.now c.in_ok-place.place, plain_val c.in_ok-value.value) ∷ [] =
    rw c.in_ok-push.ensures.items (map_push _ c.loop.fields.items (label_in c.args.labels.now c.in_ok-place.place, c.in_ok-value.value)) in
    rw e (fields_go_on c.args.labels.now (value_at c.args.labels.now c.args.bound c.args.left) (map plain_field c.loop.fields.items) c.in_ok-count.count c.loop.counter c.loop.from c.loop.rest.now c.in_ok-place.place c.in_ok-place.behind.now (plain_val c.in_ok-value.value) c.in_ok-value.after.now
    (labelled_at c.args.labels.now (value_at c.args.labels.now c.args.bound c.args.left) c.args.bytes.now) c.loop-test.true c.in_ok-place.ensures.place c.in_ok-value.ensures c.loop.invariant)

pub read_fields-returns : goal.read_fields-returns
read_fields-returns t c = fields_done c.args.labels.now (value_at c.args.labels.now c.args.bound c.args.left) (map plain_field c.loop.fields.items) c.in_ok-count.count c.loop.counter c.loop.from c.loop.rest.now (labelled_at c.args.labels.now (value_at c.args.labels.now c.args.bound c.args.left) c.args.bytes.now) c.loop-test.false c.loop.invariant

pub read_value-returns-in_err-tag : goal.read_value-returns-in_err-tag
read_value-returns-in_err-tag t c =
    let p = err_from_is_err_and c.from_residual.result c.from_residual.ensures.1 in
    rw (p.1, p.2) (without_tag (value_at c.args.labels.now c.args.bound c.args.left) c.in_err-tag.field-0.0 c.args.bytes.now (value_empty c.args.labels.now c.args.bound c.args.left) c.in_err-tag.ensures)

pub read_value-returns-then-tag-ne23 : goal.read_value-returns-then-tag-ne23
read_value-returns-then-tag-ne23 t c =
    subst (λ z. GivesReading (λ x. (plain_val x.0, x.1.now)) c.read_simple.result z)
    (sym (behind_tag (value_at c.args.labels.now c.args.bound c.args.left) c.args.bytes.now c.in_ok-tag.tag c.in_ok-tag.rest.now _ c.in_ok-tag.ensures
    (value_is_simple c.args.labels.now c.args.bound c.args.left c.in_ok-tag.tag c.in_ok-tag.rest.now c.if-tag-ne23.true))) c.read_simple.ensures

pub read_value-returns-then-left-eq0 : goal.read_value-returns-then-left-eq0
read_value-returns-then-left-eq0 t c =
    behind_tag (value_at c.args.labels.now c.args.bound c.args.left) c.args.bytes.now c.in_ok-tag.tag c.in_ok-tag.rest.now _ c.in_ok-tag.ensures
    (value_too_deep c.args.labels.now c.args.bound c.args.left c.in_ok-tag.tag c.in_ok-tag.rest.now c.if-tag-ne23.false c.if-left-eq0.true)

pub read_value-returns : goal.read_value-returns
read_value-returns t c =
    subst (λ z. GivesReading (λ x. (plain_val x.0, x.1.now)) c.read_record.result z)
    (sym (behind_tag (value_at c.args.labels.now c.args.bound c.args.left) c.args.bytes.now c.in_ok-tag.tag c.in_ok-tag.rest.now _ c.in_ok-tag.ensures
    (value_is_record c.args.labels.now c.args.bound c.args.left c.in_ok-tag.tag c.in_ok-tag.rest.now c.if-tag-ne23.false (omega arith)))) c.read_record.ensures
