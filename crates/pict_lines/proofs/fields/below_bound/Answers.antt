-- The bound with the arguments put in, and then the argument below it.
use Rattle.std.proofs.Common.{sym, ap}
use Rattle.pict_types.specs.declared.types.Arg.{Arg}
use Rattle.pict_types.specs.Types.{Below, Top}
use Rattle.pict_types.specs.Replacing.{type_in}
use Rattle.pict_types.specs.Plain.{plain, plain_arg, plain_args}
use Rattle.pict_infer.specs.Answering.{nothing}
use Rattle.pict_infer.specs.Environments.{environment_of}
use Rattle.pict_infer.proofs.Handed.{answer_err}
use Rattle.pict_lines.specs.Lines.{within_one}
use Rattle.pict_lines.proofs.WithinBounds.{bound_end, bound_refused}
use Rattle.pict_lines.proofs.fields.below_bound.Goals as goal

pub returns-in_err-bound : goal.returns-in_err-bound
returns-in_err-bound c =
    let e = environment_of c.args.env.now in
    let err = c.in_err-bound.field-0.0 in
    answer_err (within_one e c.args.node (Below (plain c.args.t.now)) (plain_args c.args.earlier.now) (plain_arg c.args.a.now) c.args.at) nothing c.from_residual.result err c.from_residual.ensures.1
    (bound_refused e c.args.node (plain c.args.t.now) (plain_args c.args.earlier.now) (plain_arg c.args.a.now) c.args.at err c.in_err-bound.ensures.answer)

pub returns-in-Plain : goal.returns-in-Plain
returns-in-Plain c =
    bound_end (environment_of c.args.env.now) c.args.node (plain c.args.t.now) (plain c.in_ok-bound.bound) (plain c.in-Plain.u) (plain_args c.args.earlier.now) (plain_arg c.args.a.now) c.args.at c.below.result
    (ap (λ (x : Arg). type_in (plain_arg x)) (sym c.in-Plain.is)) c.in_ok-bound.ensures.answer c.below.ensures

pub returns : goal.returns
returns c =
    bound_end (environment_of c.args.env.now) c.args.node (plain c.args.t.now) (plain c.in_ok-bound.bound) Top (plain_args c.args.earlier.now) (plain_arg c.args.a.now) c.args.at c.below-in-Op.result
    (ap (λ (x : Arg). type_in (plain_arg x)) (sym c.in-Op.is)) c.in_ok-bound.ensures.answer c.below-in-Op.ensures
