-- The limits, the subtype, and the type.
use Rattle.std.proofs.Common.{option_map, Bor}
use Rattle.pict_types.specs.declared.types.Ty.{Ty}
use Rattle.pict_types.specs.Plain.{plain, plain_args}
use Rattle.pict_infer.specs.Environments.{environment_of}
use Rattle.pict_infer.proofs.Handed.{answer_err}
use Rattle.pict_lines.specs.Lines.{application_end}
use Rattle.pict_lines.proofs.WithinBounds.{answer_above, answer_done, answer_limits}
use Rattle.pict_lines.proofs.fields.application_end.Goals as goal

pub returns-in_err-t-clause-answer : goal.returns-in_err-t-clause-answer
returns-in_err-t-clause-answer c =
    let e = environment_of c.args.env.now in
    let x = option_map (λ (t : Bor Ty). plain t.now) c.args.expected in
    let err = c.in_err-t.field-0.0 in
    answer_err (application_end e c.args.node (plain c.args.answer.now) (plain_args c.args.args.now) x) plain c.from_residual.result err c.from_residual.ensures.1
    (answer_limits e c.args.node (plain c.args.answer.now) (plain_args c.args.args.now) x err c.in_err-t.ensures.answer)

pub returns-in-Ok-clause-answer : goal.returns-in-Ok-clause-answer
returns-in-Ok-clause-answer c =
    answer_done (environment_of c.args.env.now) c.args.node (plain c.args.answer.now) (plain c.in_ok-t.t) (plain_args c.args.args.now) (option_map (λ (t : Bor Ty). plain t.now) c.args.expected) c.in_ok-t.ensures.answer c.in-Ok.ensures

pub returns-in-Err-clause-answer : goal.returns-in-Err-clause-answer
returns-in-Err-clause-answer c =
    answer_above (environment_of c.args.env.now) c.args.node (plain c.args.answer.now) (plain c.in_ok-t.t) (plain_args c.args.args.now) (option_map (λ (t : Bor Ty). plain t.now) c.args.expected) c.in-Err.e c.in_ok-t.ensures.answer c.in-Err.ensures
