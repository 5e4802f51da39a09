-- Another number of fields, or a label.
use Rattle.std.proofs.Common.{◌∙◌, ap, nat_eq, arith}
use Rattle.pict_lines.proofs.NestedSteps.{some_there, unfit_by_label, unfit_by_number}
use Rattle.pict_lines.proofs.nested.two_fields.Goals as goal

pub returns-then-len-ne2-clause-refused : goal.returns-then-len-ne2-clause-refused
returns-then-len-ne2-clause-refused c = λ e. unfit_by_number e c.args.function c.args.span (omega arith)

pub returns-then-not-is_empty-clause-refused : goal.returns-then-not-is_empty-clause-refused
returns-then-not-is_empty-clause-refused c = λ e. unfit_by_label e c.args.function c.args.span (omega arith)
    (some_there _ c.is_empty.result (c.is_empty.ensures ∙ ap (λ n. nat_eq n 0) c.args.function.fields.labelled.ok.0) c.if-not-is_empty.true)
