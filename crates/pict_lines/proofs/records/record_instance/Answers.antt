-- A record with arguments put in, or one that passes a limit.
use Rattle.std.proofs.Common.{◌∙◌, ap, sym, subst, Err}
use Rattle.pict_types.specs.Plain.{plain_args, plain_record}
use Rattle.pict_types.specs.PlainContext.{plain_context, type_context}
use Rattle.pict_types.specs.WithinLimits.{IsWithinLimits}
use Rattle.pict_normal.specs.Written.{record_with}
use Rattle.pict_lines.proofs.Stepping.{instance_err, instance_ok}
use Rattle.pict_lines.proofs.records.record_instance.Goals as goal

pub returns-in-Ok-clause-answer : goal.returns-in-Ok-clause-answer
returns-in-Ok-clause-answer c =
    rw c.context.ensures.entries at (instance_ok (plain_context c.context.result.now) (record_with (plain_args c.args.args.now) c.args.r.now) (plain_record c.in-Ok.q) c.args.span c.in-Ok.ensures.instance
    (subst (IsWithinLimits (type_context c.context.result.now)) (sym c.in-Ok.ensures.instance) c.in-Ok.ensures.within))

pub returns-in-Err-clause-answer : goal.returns-in-Err-clause-answer
returns-in-Err-clause-answer c =
    rw c.context.ensures.entries at (instance_err (plain_context c.context.result.now) (record_with (plain_args c.args.args.now) c.args.r.now) c.args.span c.in-Err.e c.size_refusal.result c.size_refusal.ensures
    (λ h. c.instantiate.ensures.too_heavy (c.in-Err.is ∙ ap Err h)) (λ h. c.instantiate.ensures.too_high (c.in-Err.is ∙ ap Err h)))
