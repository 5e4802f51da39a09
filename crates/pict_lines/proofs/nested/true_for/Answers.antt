-- The literal gives Bool, or has it.
use Rattle.std.proofs.Common.{rules, sym, subst, Some, None}
use Rattle.pict_syntax.specs.Trees.{true_val}
use Rattle.pict_types.specs.Plain.{plain}
use Rattle.pict_types.specs.Types.{Boolean}
use Rattle.pict_rules.specs.Derivations.{give_}
use Rattle.pict_infer.specs.Environments.{environment_of}
use Rattle.pict_lines.specs.Judging.{IsFor, IsRefusedFor}
use Rattle.pict_lines.specs.Operators.{type_if}
use Rattle.pict_lines.proofs.NestedSteps.{true_has, true_refused}
use Rattle.pict_lines.proofs.nested.true_for.Goals as goal

pub returns-in-None : goal.returns-in-None
returns-in-None c = subst (λ z. IsFor (environment_of c.args.env.now) (true_val c.args.span) (type_if z) (Some Boolean)) (sym c.in-None.is) give_

pub returns-in_err-below-in-Some : goal.returns-in_err-below-in-Some
returns-in_err-below-in-Some c =
    let y = c.in_err-below-in-Some.field-0.0 in
    let h = subst (λ z. IsRefusedFor (environment_of c.args.env.now) (true_val c.args.span) (type_if z) y) (sym c.in-Some.is) (true_refused (environment_of c.args.env.now) c.args.span (plain c.in-Some.t) y c.in_err-below-in-Some.ensures) in
    search (rules, h)

pub returns-in_ok-below-in-Some : goal.returns-in_ok-below-in-Some
returns-in_ok-below-in-Some c =
    subst (λ z. IsFor (environment_of c.args.env.now) (true_val c.args.span) (type_if z) None) (sym c.in-Some.is) (true_has (environment_of c.args.env.now) c.args.span (plain c.in-Some.t) c.in_ok-below-in-Some.ensures)
