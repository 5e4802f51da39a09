use Rattle.std.proofs.Common.{◌≡◌, map, take, ap, subst, sym, ◌∙◌}
use Rattle.std.specs.Result.{IfOk}
use Rattle.pict_core.specs.Plain.{plain_val, plain_field, vals_of, labelled_of}
use Rattle.pict_desk.specs.Needs.{needs_of, needs_of_labelled, both_needs}
use Rattle.pict_desk.proofs.Making.{needs_more, labelled_needs_more}
use Rattle.pict_desk.proofs.Recording.{needed}
use Rattle.pict_desk.proofs.needs.+need.Goals as goal

pub need-returns-in_ok-both-in-Fields : goal.need-returns-in_ok-both-in-Fields
need-returns-in_ok-both-in-Fields t c =
    subst (λ m. IfOk c.both-in-Fields.result (λ n. n ≡ m))
    (needed c.args.operand.now c.in-Fields.positional c.in-Fields.labelled c.deref.result.now c.deref-in-Fields.result.now c.len.result c.len-in-Fields.result c.in_ok-need_of_all-in-Fields.field-0 c.in_ok-needs_labelled-in-Fields.field-0
    c.in_ok-both-in-Fields.field-0 c.in-Fields.is c.deref.ensures.value c.deref-in-Fields.ensures.value (c.len.ensures ∙ sym c.deref.ensures.len) (c.len-in-Fields.ensures ∙ sym c.deref-in-Fields.ensures.len)
    c.in_ok-need_of_all-in-Fields.ensures c.in_ok-needs_labelled-in-Fields.ensures c.in_ok-both-in-Fields.ensures)
    c.both-in-Fields.ensures

pub need_of_all-loop-operand-preserved : goal.need_of_all-loop-operand-preserved
need_of_all-loop-operand-preserved t c =
    c.in_ok-sum.ensures
    ∙ ap (λ n. both_needs n c.in_ok-need.field-0) c.loop-operand.invariant
    ∙ ap (both_needs (needs_of (vals_of (map plain_val (take c.loop-operand.operand-index c.args.operands.now))))) c.in_ok-need.ensures
    ∙ sym (needs_more c.args.operands.now c.loop-operand.operand-index c.operand-item.result c.loop-operand-test.true c.operand-item.is)

pub needs_labelled-loop-field-preserved : goal.needs_labelled-loop-field-preserved
needs_labelled-loop-field-preserved t c =
    c.in_ok-sum.ensures
    ∙ ap (λ n. both_needs n c.in_ok-need.field-0) c.loop-field.invariant
    ∙ ap (both_needs (needs_of_labelled (labelled_of (map plain_field (take c.loop-field.field-index c.args.operands.now))))) c.in_ok-need.ensures
    ∙ sym (labelled_needs_more c.args.operands.now c.loop-field.field-index c.field-item.result c.loop-field-test.true c.field-item.is)
