use Rattle.std.proofs.Common.{map, ap, ◌∙◌, arith}
use Rattle.pict_code.specs.Plain.{plain_pat, plain_pat_field, pats_of, labelled_pats_of}
use Rattle.pict_desk.specs.Binding.{levels_of, levels_of_all, levels_of_labelled}
use Rattle.pict_desk.proofs.Loops.{record_pattern}
use Rattle.pict_desk.specs.Levels.{past}
use Rattle.pict_desk.proofs.Counting.{past_append, fields_past, labelled_past}
use Rattle.pict_desk.proofs.levels.+pattern_end.Goals as goal

pub fields_end-loop-pattern-preserved : goal.fields_end-loop-pattern-preserved
fields_end-loop-pattern-preserved t c =
    let next = fields_past c.args.patterns.now c.loop-pattern.pattern-index c.pattern-item.result c.loop-pattern-test.true c.pattern-item.is in
    omega (arith, next, c.loop-pattern.invariant, c.greater-end.ensures, c.pattern_end.ensures)

pub labelled_end-loop-field-preserved : goal.labelled_end-loop-field-preserved
labelled_end-loop-field-preserved t c =
    let next = labelled_past c.args.patterns.now c.loop-field.field-index c.field-item.result c.loop-field-test.true c.field-item.is in
    omega (arith, next, c.loop-field.invariant, c.greater-end.ensures, c.pattern_end.ensures)

pub pattern_end-returns-in-Fields : goal.pattern_end-returns-in-Fields
pattern_end-returns-in-Fields t c =
    let is = record_pattern c.args.pattern.now c.in-Fields.positional c.in-Fields.labelled c.deref.result.now c.deref-in-Fields.result.now c.in-Fields.is c.deref.ensures.value c.deref-in-Fields.ensures.value in
    let whole = ap (λ p. past (levels_of p)) is ∙ past_append (levels_of_all (pats_of (map plain_pat c.deref.result.now))) (levels_of_labelled (labelled_pats_of (map plain_pat_field c.deref-in-Fields.result.now))) in
    omega (arith, whole, c.greater.ensures, c.fields_end-first.ensures, c.labelled_end.ensures)
