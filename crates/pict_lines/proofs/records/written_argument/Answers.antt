-- The expansion, and then whether it fits.
use Rattle.std.proofs.Common.{◌++◌, ◌∷◌, []}
use Rattle.pict_syntax.specs.PlainTrees.{type_of}
use Rattle.pict_types.specs.Plain.{plain_arg, plain_args, plain_bound}
use Rattle.pict_infer.specs.Environments.{environment_of}
use Rattle.pict_infer.proofs.Handed.{answer_err}
use Rattle.pict_lines.specs.Lines.{argument_after}
use Rattle.pict_lines.proofs.Arguments.{fitted, unexpanded, unfit}
use Rattle.pict_lines.proofs.records.written_argument.Goals as goal

pub returns-in_err-a : goal.returns-in_err-a
returns-in_err-a c =
    let e = environment_of c.args.env.now in
    let args = plain_args c.args.earlier.now in
    let err = c.in_err-a.field-0.0 in
    answer_err (argument_after e c.args.span (type_of c.args.t.now) (plain_bound c.args.b.now) args) (λ a. args ++ plain_arg a ∷ []) c.from_residual.result err c.from_residual.ensures.1
    (unexpanded e c.args.span (type_of c.args.t.now) (plain_bound c.args.b.now) args err c.in_err-a.ensures.answer)

pub returns-in-Ok : goal.returns-in-Ok
returns-in-Ok c =
    fitted (environment_of c.args.env.now) c.args.span (type_of c.args.t.now) (plain_bound c.args.b.now) (plain_args c.args.earlier.now) (plain_arg c.in_ok-a.a) c.in_ok-a.ensures.answer (rw c.type_span.ensures at c.in-Ok.ensures)

pub returns-in-Err : goal.returns-in-Err
returns-in-Err c =
    unfit (environment_of c.args.env.now) c.args.span (type_of c.args.t.now) (plain_bound c.args.b.now) (plain_args c.args.earlier.now) (plain_arg c.in_ok-a.a) c.in-Err.e c.in_ok-a.ensures.answer (rw c.type_span.ensures at c.in-Err.ensures)
