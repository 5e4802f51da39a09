-- A type with arguments put in, or one that passes a limit.
use Rattle.std.proofs.Common.{◌∙◌, ap, Err}
use Rattle.pict_types.specs.Plain.{plain, plain_args}
use Rattle.pict_types.specs.PlainContext.{plain_context}
use Rattle.pict_normal.specs.Written.{type_with}
use Rattle.pict_lines.proofs.Stepping.{instance_err, instance_ok}
use Rattle.pict_lines.proofs.fields.instance.Goals as goal

pub returns-in-Ok-clause-answer : goal.returns-in-Ok-clause-answer
returns-in-Ok-clause-answer c =
    rw c.context.ensures.entries at (instance_ok (plain_context c.context.result.now) (type_with (plain_args c.args.args.now) (plain c.args.t.now)) (plain c.in-Ok.u) c.args.at c.in-Ok.ensures.instance c.in-Ok.ensures.within)

pub returns-in-Err-clause-answer : goal.returns-in-Err-clause-answer
returns-in-Err-clause-answer c =
    rw c.context.ensures.entries at (instance_err (plain_context c.context.result.now) (type_with (plain_args c.args.args.now) (plain c.args.t.now)) c.args.at c.in-Err.e c.size_refusal.result c.size_refusal.ensures
    (λ h. c.instantiate_type.ensures.too_heavy (c.in-Err.is ∙ ap Err h)) (λ h. c.instantiate_type.ensures.too_high (c.in-Err.is ∙ ap Err h)))
