-- The marks of a type field that is read are those of the variable.
use Rattle.std.proofs.Common.{◌∙◌, sym, ap}
use Rattle.pict_types.specs.Plain.{plain_bound}
use Rattle.pict_types.specs.Variance.{marks_by, marks_at}
use Rattle.pict_types.specs.Bodies.{body_context}
use Rattle.pict_types.proofs.Contexts.{bound_inside}
use Rattle.pict_types.proofs.variance.+marks_of.Goals as goal

pub returns-in-Operator-clause-some : goal.returns-in-Operator-clause-some
returns-in-Operator-clause-some t c =
    ap (λ s. marks_at (body_context s) c.args.i) c.in-Inner.is
    ∙ ap marks_by (bound_inside (body_context c.in-Inner.outer.now) c.in-Inner.bs.now c.args.i _ c.if-i-bs.false ∙ ap plain_bound c.in-Operator.is)
    ∙ sym c.deref-in-Operator.ensures.value

pub returns-in-Free-clause-none : goal.returns-in-Free-clause-none
returns-in-Free-clause-none t c =
    ap (λ s. marks_at (body_context s) c.args.i) c.in-Inner.is
    ∙ ap marks_by (bound_inside (body_context c.in-Inner.outer.now) c.in-Inner.bs.now c.args.i _ c.if-i-bs.false ∙ ap plain_bound c.in-Free.is)

pub returns-in-Below-clause-none : goal.returns-in-Below-clause-none
returns-in-Below-clause-none t c =
    ap (λ s. marks_at (body_context s) c.args.i) c.in-Inner.is
    ∙ ap marks_by (bound_inside (body_context c.in-Inner.outer.now) c.in-Inner.bs.now c.args.i _ c.if-i-bs.false ∙ ap plain_bound c.in-Below.is)
