-- The answer is well formed under the arguments.
use Rattle.pict_types.specs.Plain.{plain, plain_args}
use Rattle.pict_infer.specs.Environments.{environment_of}
use Rattle.pict_lines.specs.Operators.{operator_of}
use Rattle.pict_lines.proofs.NestedSteps.{answer_under}
use Rattle.pict_lines.proofs.nested.end_application.Goals as goal

pub application_end-requires-clause-answer : goal.application_end-requires-clause-answer
application_end-requires-clause-answer c =
    answer_under (environment_of c.args.env.now) (operator_of c.args.o.now).binders (plain c.args.o.now.function.answer) (plain_args c.args.args.now) c.requires.fit c.requires.formed.answer_

pub application_end-requires-in-Some-clause-answer : goal.application_end-requires-in-Some-clause-answer
application_end-requires-in-Some-clause-answer c =
    answer_under (environment_of c.args.env.now) (operator_of c.args.o.now).binders (plain c.args.o.now.function.answer) (plain_args c.args.args.now) c.requires.fit c.requires.formed.answer_
