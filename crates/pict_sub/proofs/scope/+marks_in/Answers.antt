-- The marks of a type field that is read are those of the variable.
use Rattle.std.proofs.Common.{◌≡◌, ◌∙◌, sym, ap}
use Rattle.pict_types.specs.Types.{Free, Below, Operator}
use Rattle.pict_types.specs.Plain.{plain, plain_bound}
use Rattle.pict_types.specs.Renaming.{bound_at}
use Rattle.pict_sub.specs.Scopes.{scope_context}
use Rattle.pict_sub.proofs.scope.+marks_in.Goals as goal
use Rattle.pict_types.proofs.Contexts.{bound_inside}

pub returns-in-Operator-clause-some : goal.returns-in-Operator-clause-some
returns-in-Operator-clause-some t c =
    ap (λ s. bound_at (scope_context s) c.args.i) c.in-Inner.is
    ∙ bound_inside (scope_context c.in-Inner.outer.now) c.in-Inner.bs.now c.args.i _ c.if-i-bs.false
    ∙ ap plain_bound c.in-Operator.is
    ∙ ap Operator (sym c.deref-in-Operator.ensures.value)

pub returns-in-Free-clause-none : goal.returns-in-Free-clause-none
returns-in-Free-clause-none t c = λ ms e.
    let h : bound_at (scope_context c.args.scope.now) c.args.i ≡ Free =
    ap (λ s. bound_at (scope_context s) c.args.i) c.in-Inner.is
    ∙ bound_inside (scope_context c.in-Inner.outer.now) c.in-Inner.bs.now c.args.i _ c.if-i-bs.false
    ∙ ap plain_bound c.in-Free.is in
    let z : Free ≡ Operator ms = sym h ∙ e in
    absurd (cc)

pub returns-in-Below-clause-none : goal.returns-in-Below-clause-none
returns-in-Below-clause-none t c = λ ms e.
    let h : bound_at (scope_context c.args.scope.now) c.args.i ≡ Below (plain c.in-Below.field-0) =
    ap (λ s. bound_at (scope_context s) c.args.i) c.in-Inner.is
    ∙ bound_inside (scope_context c.in-Inner.outer.now) c.in-Inner.bs.now c.args.i _ c.if-i-bs.false
    ∙ ap plain_bound c.in-Below.is in
    let z : Below (plain c.in-Below.field-0) ≡ Operator ms = sym h ∙ e in
    absurd (cc)
