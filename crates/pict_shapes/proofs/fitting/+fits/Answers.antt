use Rattle.std.proofs.Common.{arith, ◌≡◌, length, sym, ap, ◌+◌, drop, ◌∙◌, cond, false}
use Rattle.pict_heap.specs.HeapState.{value_of}
use Rattle.pict_desk.specs.Parts.{labelled_found, found_from}
use Rattle.pict_shapes.specs.Fitting.{is_found}
use Rattle.pict_shapes.proofs.Found.{pats, labels, pattern_found, not_as_many, field_there, no_field_at, all_fields}
use Rattle.pict_shapes.proofs.fitting.+fits.Goals as goal

pub fits-returns-then-fits_positional : goal.fits-returns-then-fits_positional
fits-returns-then-fits_positional t c =
    let v = value_of c.args.heap.now c.args.word in
    c.fits_labelled.ensures
    ∙ sym (pattern_found c.args.pattern.now c.in-Fields.positional c.in-Fields.labelled c.deref.result.now c.deref-then-fits_positional.result.now c.in-Fields.is c.deref.ensures.value c.deref-then-fits_positional.ensures.value v
    ∙ ap (λ b. cond b (is_found (labelled_found (labels c.deref-then-fits_positional.result.now) v)) false) (sym c.fits_positional.ensures ∙ c.if-fits_positional.true))

pub fits_positional-returns-then-count-patterns : goal.fits_positional-returns-then-count-patterns
fits_positional-returns-then-count-patterns t c = not_as_many (value_of c.args.heap.now c.args.word) c.args.patterns.now c.in-Some.count c.in-Some.ensures (λ e. c.if-count-patterns.true e)

pub fits_positional-returns-then-not-fits : goal.fits_positional-returns-then-not-fits
fits_positional-returns-then-not-fits t c =
    let v = value_of c.args.heap.now c.args.word in
    sym (c.loop-i.invariant
    ∙ field_there v c.args.patterns.now c.loop-i.i c.index-patterns-i.result c.loop-i-test.true c.index-patterns-i.is (value_of c.args.heap.now c.in-Some-positional.part) c.in-Some-positional.ensures.value
    ∙ ap (λ b. cond b (is_found (found_from (c.loop-i.i + 1) (pats (drop (c.loop-i.i + 1) c.args.patterns.now)) v)) false) (sym c.fits.ensures ∙ c.if-not-fits.true))

pub fits_positional-returns-in-None-positional : goal.fits_positional-returns-in-None-positional
fits_positional-returns-in-None-positional t c =
    sym (c.loop-i.invariant ∙ no_field_at (value_of c.args.heap.now c.args.word) c.args.patterns.now c.loop-i.i c.loop-i-test.true c.in-None-positional.ensures.value)

pub fits_positional-loop-i-preserved : goal.fits_positional-loop-i-preserved
fits_positional-loop-i-preserved t c =
    let v = value_of c.args.heap.now c.args.word in
    c.loop-i.invariant
    ∙ field_there v c.args.patterns.now c.loop-i.i c.index-patterns-i.result c.loop-i-test.true c.index-patterns-i.is (value_of c.args.heap.now c.in-Some-positional.part) c.in-Some-positional.ensures.value
    ∙ ap (λ b. cond b (is_found (found_from (c.loop-i.i + 1) (pats (drop (c.loop-i.i + 1) c.args.patterns.now)) v)) false) (sym c.fits.ensures ∙ c.if-not-fits.false)

pub fits_positional-returns : goal.fits_positional-returns
fits_positional-returns t c =
    let v = value_of c.args.heap.now c.args.word in
    let n : c.in-Some.count ≡ length c.args.patterns.now = c.if-count-patterns.false in
    sym (c.loop-i.invariant ∙ all_fields v c.args.patterns.now c.loop-i.i c.in-Some.count c.in-Some.ensures n (omega (arith, c.loop-i-test.false, c.loop-i.auto)))
