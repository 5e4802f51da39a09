-- A result type that is written: each way in which it ends.
use Rattle.std.proofs.Common.{Some}
use Rattle.pict_syntax.specs.PlainTrees.{type_of}
use Rattle.pict_types.specs.Plain.{plain}
use Rattle.pict_infer.specs.Environments.{environment_of}
use Rattle.pict_infer.proofs.Handed.{answer_err}
use Rattle.pict_lines.specs.Definitions.{body_type}
use Rattle.pict_lines.proofs.Answering.{written_below, written_not_below, written_refused}
use Rattle.pict_lines.proofs.answers.written_below.Goals as goal

pub returns-in_err-t : goal.returns-in_err-t
returns-in_err-t c =
    let e = environment_of c.args.env.now in
    let a = type_of c.args.a.now in
    let u = plain c.args.answer.now in
    let err = c.in_err-t.field-0.0 in
    answer_err (body_type e (Some a) u) plain c.from_residual.result err c.from_residual.ensures.1 (written_refused e a u err c.in_err-t.ensures.answer)

pub returns-in_err-below : goal.returns-in_err-below
returns-in_err-below c =
    let e = environment_of c.args.env.now in
    let a = type_of c.args.a.now in
    let u = plain c.args.answer.now in
    let err = c.in_err-below.field-0.0 in
    answer_err (body_type e (Some a) u) plain c.from_residual-in_err-below.result err c.from_residual-in_err-below.ensures.1
    (written_not_below e a u (plain c.in_ok-t.t) c.type_span.result err c.type_span.ensures c.in_ok-t.ensures.answer c.in_err-below.ensures)

pub returns : goal.returns
returns c =
    written_below (environment_of c.args.env.now) (type_of c.args.a.now) (plain c.args.answer.now) (plain c.in_ok-t.t) c.type_span.result c.type_span.ensures c.in_ok-t.ensures.answer c.in_ok-below.ensures
