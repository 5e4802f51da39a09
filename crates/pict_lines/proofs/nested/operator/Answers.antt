-- The name may be applied, and to two fields; or it may not.
use Rattle.std.proofs.lemmas.Result.{IfErr-weaker, IfOk-weaker}
use Rattle.pict_types.specs.Plain.{plain}
use Rattle.pict_rules.specs.Environments.{Environment}
use Rattle.pict_infer.specs.Environments.{environment_of}
use Rattle.pict_lines.specs.Chains.{IsHead, IsNoOperator, IsUnfit}
use Rattle.pict_lines.specs.Functions.{function_of}
use Rattle.pict_lines.specs.Operators.{operator_of}
use Rattle.pict_lines.proofs.NestedSteps.{head_is, no_head, unfit_head}
use Rattle.pict_lines.proofs.nested.operator.Goals as goal

pub returns-in-Err-clause-refused : goal.returns-in-Err-clause-refused
returns-in-Err-clause-refused c = no_head (environment_of c.args.env.now) c.args.span c.args.name (plain c.in_ok-t.t) c.in-Err.error c.in_ok-t.ensures c.in-Err.ensures.refused

pub returns-in-Ok-clause-head : goal.returns-in-Ok-clause-head
returns-in-Ok-clause-head c =
    IfOk-weaker c.two_fields.result _ (λ o. IsHead (environment_of c.args.env.now) c.args.name (operator_of o))
    (λ o h. head_is (environment_of c.args.env.now) c.args.name c.in-Ok.function (plain c.in_ok-t.t) o c.in_ok-t.ensures c.in-Ok.ensures.ok h) c.two_fields.ensures.function

pub returns-in-Ok-clause-refused : goal.returns-in-Ok-clause-refused
returns-in-Ok-clause-refused c =
    IfErr-weaker c.two_fields.result (λ y. (e : Environment) → IsUnfit e (function_of c.in-Ok.function) c.args.span y) (IsNoOperator (environment_of c.args.env.now) c.args.span c.args.name)
    (λ y h. unfit_head (environment_of c.args.env.now) c.args.span c.args.name c.in-Ok.function (plain c.in_ok-t.t) y c.in_ok-t.ensures c.in-Ok.ensures.ok (h (environment_of c.args.env.now))) c.two_fields.ensures.refused
