-- A variable: each way in which it ends.
use Rattle.std.proofs.Common.{◌∙◌, ap}
use Rattle.pict_syntax.specs.PlainTrees.{annotation_of}
use Rattle.pict_syntax.specs.Trees.{bind_pat}
use Rattle.pict_types.specs.Plain.{plain}
use Rattle.pict_rules.specs.Environments.{one_value}
use Rattle.pict_rules.specs.Rules.{pattern_gives}
use Rattle.pict_rules.specs.Typing.{rule}
use Rattle.pict_infer.specs.Adding.{extension_of}
use Rattle.pict_infer.specs.Giving.{typed_pattern}
use Rattle.pict_infer.specs.Places.{environment_in}
use Rattle.pict_infer.proofs.Handed.{answer_err}
use Rattle.pict_infer.proofs.GivingLines.{variable_refused, variable_typed}
use Rattle.pict_infer.proofs.giving.variable_gives.Goals as goal

pub returns-in_err-has-clause-answer : goal.returns-in_err-has-clause-answer
returns-in_err-has-clause-answer c =
    let e = environment_in c.args.c.now in
    let a = annotation_of c.args.annotation.now in
    let err = c.in_err-has.field-0.0 in
    answer_err (rule e (pattern_gives (bind_pat c.args.span c.args.id a))) typed_pattern c.from_residual.result err c.from_residual.ensures.1 (variable_refused e c.args.span c.args.id a err c.in_err-has.ensures.answer)

pub returns-clause-answer : goal.returns-clause-answer
returns-clause-answer c =
    variable_typed (environment_in c.args.c.now) c.args.span c.args.id (annotation_of c.args.annotation.now) (plain c.in_ok-has.has) (extension_of c.in_ok-adds.adds) c.in_ok-has.ensures.answer
    (c.in_ok-adds.ensures.value ∙ ap (one_value c.args.id) c.in_ok-copy.ensures.same)
