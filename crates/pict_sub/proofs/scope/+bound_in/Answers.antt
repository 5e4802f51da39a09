-- A type field that is read is the one of the variable.
use Rattle.std.proofs.Common.{◌≡◌, ◌∙◌, sym, ap}
use Rattle.pict_types.specs.Types.{Free, Below, Operator}
use Rattle.pict_types.specs.Plain.{plain_bound}
use Rattle.pict_types.specs.Renaming.{bound_at}
use Rattle.pict_sub.specs.Scopes.{scope_context}
use Rattle.pict_sub.proofs.scope.+bound_in.Goals as goal
use Rattle.pict_types.proofs.Contexts.{bound_inside}

pub returns-in-Below-clause-some : goal.returns-in-Below-clause-some
returns-in-Below-clause-some t c =
    ap (λ s. bound_at (scope_context s) c.args.i) c.in-Inner.is
    ∙ bound_inside (scope_context c.in-Inner.outer.now) c.in-Inner.bs.now c.args.i _ c.if-i-bs.false
    ∙ ap plain_bound c.in-Below.is

pub returns-in-Free-clause-none : goal.returns-in-Free-clause-none
returns-in-Free-clause-none t c = λ b e.
    let h : bound_at (scope_context c.args.scope.now) c.args.i ≡ Free =
    ap (λ s. bound_at (scope_context s) c.args.i) c.in-Inner.is
    ∙ bound_inside (scope_context c.in-Inner.outer.now) c.in-Inner.bs.now c.args.i _ c.if-i-bs.false
    ∙ ap plain_bound c.in-Free.is in
    let z : Free ≡ Below b = sym h ∙ e in
    absurd (cc)

pub returns-in-Operator-clause-none : goal.returns-in-Operator-clause-none
returns-in-Operator-clause-none t c = λ b e.
    let h : bound_at (scope_context c.args.scope.now) c.args.i ≡ Operator c.in-Operator.field-0.items =
    ap (λ s. bound_at (scope_context s) c.args.i) c.in-Inner.is
    ∙ bound_inside (scope_context c.in-Inner.outer.now) c.in-Inner.bs.now c.args.i _ c.if-i-bs.false
    ∙ ap plain_bound c.in-Operator.is in
    let z : Operator c.in-Operator.field-0.items ≡ Below b = sym h ∙ e in
    absurd (cc)
