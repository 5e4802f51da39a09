use Rattle.std.proofs.Common.{sym, subst, rules, Some, ◌∙◌, ◌≡◌, ◌++◌, ◌∷◌, [], map, ap, arith}
use Rattle.std.proofs.lemmas.Result.{err_from_is_err_and}
use Rattle.std.proofs.lemmas.List.{map_push}
use Rattle.pict_core.specs.Term.{Bind, Any}
use Rattle.pict_core.specs.declared.pattern.CorePat.{the_lemmas as pattern_lemmas}
use Rattle.pict_core.specs.declared.pattern.CorePat.TheVariants as pattern
use Rattle.pict_core.specs.Plain.{plain_pat, plain_pat_field}
use Rattle.pict_object.specs.Reading.{GivesReading, label_in, pattern_at, counted_at, labelled_at}
use Rattle.pict_object.proofs.Loops.{count_ends, begins, goes_on, ends, is_done, fields_count_ends, fields_begin, fields_go_on, label_ends, field_ends, fields_done}
use Rattle.pict_object.proofs.Forms.{behind_tag, without_tag, pattern_empty, pattern_is_bind, pattern_is_any, pattern_too_deep, pattern_is_record, pattern_is_none}
use Rattle.pict_object.proofs.pattern.+read_pattern.Goals as goal

pub read_patterns-returns-in_err-count : goal.read_patterns-returns-in_err-count
read_patterns-returns-in_err-count t c =
    let p = err_from_is_err_and c.from_residual.result c.from_residual.ensures.1 in
    rw (p.1, p.2) (count_ends (pattern_at c.args.labels.now c.args.left) c.in_err-count.field-0.0 c.args.bytes.now c.in_err-count.ensures)

pub read_patterns-loop-init : goal.read_patterns-loop-init
read_patterns-loop-init t c = begins (pattern_at c.args.labels.now c.args.left) (map plain_pat c.new-patterns.result.items) c.in_ok-count.count c.args.bytes.now c.in_ok-count.first.now (ap (map plain_pat) c.new-patterns.ensures.items) c.in_ok-count.ensures

pub read_patterns-returns-in_err-pattern : goal.read_patterns-returns-in_err-pattern
read_patterns-returns-in_err-pattern t c =
    let p = err_from_is_err_and c.from_residual-in_err-pattern.result c.from_residual-in_err-pattern.ensures.1 in
    rw (p.1, p.2) (ends (pattern_at c.args.labels.now c.args.left) c.in_err-pattern.field-0.0 (map plain_pat c.loop.patterns.items) c.in_ok-count.count c.loop.counter c.loop.rest.now (counted_at (pattern_at c.args.labels.now c.args.left) c.args.bytes.now) c.loop-test.true c.in_err-pattern.ensures c.loop.invariant)

pub read_patterns-loop-preserved : goal.read_patterns-loop-preserved
read_patterns-loop-preserved t c =
    let e : map plain_pat c.push.new.self.items ≡ map plain_pat c.loop.patterns.items ++ plain_pat c.in_ok-pattern.pattern ∷ [] = rw c.in_ok-push.ensures.items (map_push _ c.loop.patterns.items c.in_ok-pattern.pattern) in
    rw e (goes_on (pattern_at c.args.labels.now c.args.left) (map plain_pat c.loop.patterns.items) c.in_ok-count.count c.loop.counter c.loop.rest.now (plain_pat c.in_ok-pattern.pattern) c.in_ok-pattern.after.now (counted_at (pattern_at c.args.labels.now c.args.left) c.args.bytes.now) c.loop-test.true c.in_ok-pattern.ensures c.loop.invariant)

pub read_patterns-returns : goal.read_patterns-returns
read_patterns-returns t c = is_done (pattern_at c.args.labels.now c.args.left) (map plain_pat c.loop.patterns.items) c.in_ok-count.count c.loop.counter c.loop.rest.now (counted_at (pattern_at c.args.labels.now c.args.left) c.args.bytes.now) c.loop-test.false c.loop.invariant

pub read_pattern_fields-returns-in_err-count : goal.read_pattern_fields-returns-in_err-count
read_pattern_fields-returns-in_err-count t c =
    let p = err_from_is_err_and c.from_residual.result c.from_residual.ensures.1 in
    rw (p.1, p.2) (fields_count_ends c.args.labels.now (pattern_at c.args.labels.now c.args.left) c.in_err-count.field-0.0 c.args.bytes.now c.in_err-count.ensures)

pub read_pattern_fields-loop-init : goal.read_pattern_fields-loop-init
read_pattern_fields-loop-init t c = fields_begin c.args.labels.now (pattern_at c.args.labels.now c.args.left) (map plain_pat_field c.new-fields.result.items) c.in_ok-count.count c.args.bytes.now c.in_ok-count.first.now (ap (map plain_pat_field) c.new-fields.ensures.items) c.in_ok-count.ensures

pub read_pattern_fields-returns-in_err-place : goal.read_pattern_fields-returns-in_err-place
read_pattern_fields-returns-in_err-place t c =
    let p = err_from_is_err_and c.from_residual-in_err-place.result c.from_residual-in_err-place.ensures.1 in
    rw (p.1, p.2) (label_ends c.args.labels.now (pattern_at c.args.labels.now c.args.left) c.in_err-place.field-0.0 (map plain_pat_field c.loop.fields.items) c.in_ok-count.count c.loop.counter c.loop.from c.loop.rest.now (labelled_at c.args.labels.now (pattern_at c.args.labels.now c.args.left) c.args.bytes.now)
    c.loop-test.true c.in_err-place.ensures.place c.loop.invariant)

pub read_pattern_fields-returns-in_err-pattern : goal.read_pattern_fields-returns-in_err-pattern
read_pattern_fields-returns-in_err-pattern t c =
    let p = err_from_is_err_and c.from_residual-in_err-pattern.result c.from_residual-in_err-pattern.ensures.1 in
    rw (p.1, p.2) (field_ends c.args.labels.now (pattern_at c.args.labels.now c.args.left) c.in_err-pattern.field-0.0 (map plain_pat_field c.loop.fields.items) c.in_ok-count.count c.loop.counter c.loop.from c.loop.rest.now c.in_ok-place.place c.in_ok-place.behind.now
    (labelled_at c.args.labels.now (pattern_at c.args.labels.now c.args.left) c.args.bytes.now) c.loop-test.true c.in_ok-place.ensures.place c.in_err-pattern.ensures c.loop.invariant)

pub read_pattern_fields-loop-preserved : goal.read_pattern_fields-loop-preserved
read_pattern_fields-loop-preserved t c =
    let e : map plain_pat_field c.push.new.self.items ≡ map plain_pat_field c.loop.fields.items ++ (label_in c.args.labels.now c.in_ok-place.place, plain_pat c.in_ok-pattern.pattern) ∷ [] =
    rw c.in_ok-push.ensures.items (map_push _ c.loop.fields.items (label_in c.args.labels.now c.in_ok-place.place, c.in_ok-pattern.pattern)) in
    rw e (fields_go_on c.args.labels.now (pattern_at c.args.labels.now c.args.left) (map plain_pat_field c.loop.fields.items) c.in_ok-count.count c.loop.counter c.loop.from c.loop.rest.now c.in_ok-place.place c.in_ok-place.behind.now (plain_pat c.in_ok-pattern.pattern) c.in_ok-pattern.after.now
    (labelled_at c.args.labels.now (pattern_at c.args.labels.now c.args.left) c.args.bytes.now) c.loop-test.true c.in_ok-place.ensures.place c.in_ok-pattern.ensures c.loop.invariant)

pub read_pattern_fields-returns : goal.read_pattern_fields-returns
read_pattern_fields-returns t c = fields_done c.args.labels.now (pattern_at c.args.labels.now c.args.left) (map plain_pat_field c.loop.fields.items) c.in_ok-count.count c.loop.counter c.loop.from c.loop.rest.now (labelled_at c.args.labels.now (pattern_at c.args.labels.now c.args.left) c.args.bytes.now) c.loop-test.false c.loop.invariant

pub read_pattern-returns-in_err-tag : goal.read_pattern-returns-in_err-tag
read_pattern-returns-in_err-tag t c =
    let p = err_from_is_err_and c.from_residual.result c.from_residual.ensures.1 in
    rw (p.1, p.2) (without_tag (pattern_at c.args.labels.now c.args.left) c.in_err-tag.field-0.0 c.args.bytes.now (pattern_empty c.args.labels.now c.args.left) c.in_err-tag.ensures)

pub read_pattern-returns-in-32 : goal.read_pattern-returns-in-32
read_pattern-returns-in-32 t c =
    let plain : plain_pat pattern.Bind ≡ Bind = search (rules, pattern_lemmas) in
    behind_tag (pattern_at c.args.labels.now c.args.left) c.args.bytes.now c.in_ok-tag.tag c.in_ok-tag.rest.now _ c.in_ok-tag.ensures (pattern_is_bind c.args.labels.now c.args.left c.in_ok-tag.tag c.in_ok-tag.rest.now c.in-32.is) ∙ ap (λ v. Some (v, c.in_ok-tag.rest.now)) (sym plain)

pub read_pattern-returns-in-33 : goal.read_pattern-returns-in-33
read_pattern-returns-in-33 t c =
    let plain : plain_pat pattern.Any ≡ Any = search (rules, pattern_lemmas) in
    behind_tag (pattern_at c.args.labels.now c.args.left) c.args.bytes.now c.in_ok-tag.tag c.in_ok-tag.rest.now _ c.in_ok-tag.ensures (pattern_is_any c.args.labels.now c.args.left c.in_ok-tag.tag c.in_ok-tag.rest.now c.in-33.is) ∙ ap (λ v. Some (v, c.in_ok-tag.rest.now)) (sym plain)

pub read_pattern-returns-then-left-eq0 : goal.read_pattern-returns-then-left-eq0
read_pattern-returns-then-left-eq0 t c = behind_tag (pattern_at c.args.labels.now c.args.left) c.args.bytes.now c.in_ok-tag.tag c.in_ok-tag.rest.now _ c.in_ok-tag.ensures (pattern_too_deep c.args.labels.now c.args.left c.in_ok-tag.tag c.in_ok-tag.rest.now c.in-34.is c.if-left-eq0.true)

pub read_pattern-returns-else-left-eq0 : goal.read_pattern-returns-else-left-eq0
read_pattern-returns-else-left-eq0 t c =
    subst (λ z. GivesReading (λ x. (plain_pat x.0, x.1.now)) c.read_record.result z) (sym (behind_tag (pattern_at c.args.labels.now c.args.left) c.args.bytes.now c.in_ok-tag.tag c.in_ok-tag.rest.now _ c.in_ok-tag.ensures (pattern_is_record c.args.labels.now c.args.left c.in_ok-tag.tag c.in_ok-tag.rest.now c.in-34.is (omega arith)))) c.read_record.ensures

pub read_pattern-returns-in_default : goal.read_pattern-returns-in_default
read_pattern-returns-in_default t c = behind_tag (pattern_at c.args.labels.now c.args.left) c.args.bytes.now c.in_ok-tag.tag c.in_ok-tag.rest.now _ c.in_ok-tag.ensures (pattern_is_none c.args.labels.now c.args.left c.in_ok-tag.tag c.in_ok-tag.rest.now (omega arith) (omega arith) (omega arith))
