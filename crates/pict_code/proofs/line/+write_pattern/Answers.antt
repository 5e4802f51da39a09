use Rattle.std.proofs.Common.{◌≡◌, ◌+◌, ◌++◌, ◌∷◌, [], ◌==◌, ◌&&◌, true, map, take, length, ap, sym, ◌∙◌, append_assoc, arith}
use Rattle.std.specs.Vec.{vec_len}
use Rattle.std.proofs.lemmas.List.{take_all}
use Rattle.pict_syntax.specs.Names.{text_of}
use Rattle.pict_code.specs.Plain.{plain_pat, plain_pat_field, pats_of, labelled_pats_of}
use Rattle.pict_code.specs.Listing.{pattern_text, pattern_texts, labelled_pattern_texts}
use Rattle.pict_code.specs.Written.{gap, spaced}
use Rattle.pict_code.proofs.Lines.{next_spaced, next_written, field_text, labelled_field_text, fields_are, labelled_are, label_behind, record_written}
use Rattle.pict_code.proofs.line.+write_pattern.Goals as goal
use Rattle.pict_code.proofs.line.+write_pattern.Goals.{write_labelled-then-first, write_labelled-else-first}

pub write_fields-loop-index-preserved : goal.write_fields-loop-index-preserved
write_fields-loop-index-preserved t c =
    let i = c.loop-index.index in
    let fields = c.args.fields.now in
    let f = field_text c.args.names.now in
    next_written c.loop-index.line.items c.args.line.now.items c.write_gap.new.line.items c.write_pattern.new.line.items
    (spaced true (map f (take i fields))) (gap (i == 0)) _ c.loop-index.invariant c.in_ok-write_gap.ensures c.in_ok-write_pattern.ensures
    ∙ ap (λ t. c.args.line.now.items ++ t) (sym (next_spaced true f fields i c.index-fields-index.result c.loop-index-test.true c.index-fields-index.is))

pub write_fields-returns : goal.write_fields-returns
write_fields-returns t c =
    c.loop-index.invariant
    ∙ ap (λ l. c.args.line.now.items ++ spaced true (map (field_text c.args.names.now) l)) (take_all c.loop-index.index c.args.fields.now (omega arith))
    ∙ ap (λ ts. c.args.line.now.items ++ spaced true ts) (fields_are c.args.names.now c.args.fields.now)

pub write_labelled-loop-index-preserved : goal.write_labelled-loop-index-preserved
write_labelled-loop-index-preserved t c =
    let i = c.loop-index.index in
    let first = c.args.first in
    let fields = c.args.fields.now in
    let f = labelled_field_text c.args.names.now in
    let chosen : c.if-first.write_gap ≡ (first && (i == 0)) = elim c.if-first.branch [
      | write_labelled-then-first w ↦ w.write_gap-is ∙ sym (ap (λ b. b && (i == 0)) w.if-first.true)
      | write_labelled-else-first w ↦ w.write_gap-is ∙ w.if-first.false ∙ sym (ap (λ b. b && (i == 0)) w.if-first.false)
    ] in
    next_written c.loop-index.line.items c.args.line.now.items c.write_gap.new.line.items c.write_pattern.new.line.items
    (spaced first (map f (take i fields))) (gap (first && (i == 0))) _ c.loop-index.invariant
    (c.in_ok-write_gap.ensures ∙ ap (λ b. c.loop-index.line.items ++ gap b) chosen)
    (label_behind c.write_gap.new.line.items _ _ _ (text_of c.args.names.now c.index-fields-index.result.0.0) _
    (c.in_ok-extend_from_slice.ensures.items ∙ ap (λ t. c.write_gap.new.line.items ++ t) c.text.ensures.text) c.in_ok-push.ensures.items c.in_ok-write_pattern.ensures)
    ∙ ap (λ t. c.args.line.now.items ++ t) (sym (next_spaced first f fields i c.index-fields-index.result c.loop-index-test.true c.index-fields-index.is))

pub write_labelled-returns : goal.write_labelled-returns
write_labelled-returns t c =
    c.loop-index.invariant
    ∙ ap (λ l. c.args.line.now.items ++ spaced c.args.first (map (labelled_field_text c.args.names.now) l)) (take_all c.loop-index.index c.args.fields.now (omega arith))
    ∙ ap (λ ts. c.args.line.now.items ++ spaced c.args.first ts) (labelled_are c.args.names.now c.args.fields.now)

pub write_pattern-returns-in_ok-push-in-Fields-2 : goal.write_pattern-returns-in_ok-push-in-Fields-2
write_pattern-returns-in_ok-push-in-Fields-2 t c =
    let count : vec_len c.in-Fields.positional ≡ length c.in-Fields.positional.items = omega (arith, c.in-Fields.positional.ok.0) in
    record_written c.args.names.now c.args.line.now.items _ _ _ _ c.args.pattern.now c.in-Fields.positional c.in-Fields.labelled _ c.in-Fields.is
    c.in_ok-push-in-Fields.ensures.items
    (c.in_ok-write_fields-in-Fields.ensures ∙ ap (λ l. c.push.new.self.items ++ spaced true (pattern_texts c.args.names.now (pats_of (map plain_pat l)))) c.deref.ensures.value)
    (c.in_ok-write_labelled-in-Fields.ensures ∙ ap (λ l. c.write_fields.new.line.items ++ spaced c.is_empty.result (labelled_pattern_texts c.args.names.now (labelled_pats_of (map plain_pat_field l)))) c.deref-in-Fields.ensures.value)
    c.in_ok-push-in-Fields-2.ensures.items
    (c.is_empty.ensures ∙ ap (λ n. n == 0) count)
