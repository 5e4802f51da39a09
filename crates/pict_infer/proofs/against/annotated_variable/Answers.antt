-- A variable with an annotation: each way in which it ends.
use Rattle.pict_syntax.specs.PlainTrees.{type_of}
use Rattle.pict_syntax.specs.Trees.{bind_pat}
use Rattle.pict_types.specs.Plain.{plain}
use Rattle.pict_rules.specs.Rules.{pattern_against}
use Rattle.std.proofs.Common.{Some}
use Rattle.pict_rules.specs.Typing.{rule}
use Rattle.pict_infer.specs.Adding.{extension_of}
use Rattle.pict_infer.specs.Places.{environment_in}
use Rattle.pict_infer.proofs.Handed.{answer_err}
use Rattle.pict_infer.proofs.PatternLines.{variable_not_below, variable_refused, variable_typed}
use Rattle.pict_infer.proofs.against.annotated_variable.Goals as goal

pub returns-in_err-has-clause-answer : goal.returns-in_err-has-clause-answer
returns-in_err-has-clause-answer c =
    let e = environment_in c.args.c.now in
    let a = type_of c.args.annotation.now in
    let t = plain c.args.t.now in
    let err = c.in_err-has.field-0.0 in
    answer_err (rule e (pattern_against (bind_pat c.args.span c.args.id (Some a)) t)) extension_of c.from_residual.result err c.from_residual.ensures.1
    (variable_refused e c.args.span c.args.id a t err c.in_err-has.ensures.answer)

pub returns-in_err-below-clause-answer : goal.returns-in_err-below-clause-answer
returns-in_err-below-clause-answer c =
    let e = environment_in c.args.c.now in
    let a = type_of c.args.annotation.now in
    let t = plain c.args.t.now in
    let err = c.in_err-below.field-0.0 in
    answer_err (rule e (pattern_against (bind_pat c.args.span c.args.id (Some a)) t)) extension_of c.from_residual-in_err-below.result err c.from_residual-in_err-below.ensures.1
    (variable_not_below e c.args.span c.args.id a t (plain c.in_ok-has.has) err c.in_ok-has.ensures.answer c.in_err-below.ensures)

pub returns-clause-answer : goal.returns-clause-answer
returns-clause-answer c =
    variable_typed (environment_in c.args.c.now) c.args.span c.args.id (type_of c.args.annotation.now) (plain c.args.t.now) (plain c.in_ok-has.has) (extension_of c.in_ok-value.field-0)
    c.in_ok-has.ensures.answer c.in_ok-below.ensures c.in_ok-value.ensures.value
