use Rattle.pict_front.specs.Answers.{plain_front, said_by}
use Rattle.pict_front.proofs.Said.{typed, stuck}
use Rattle.pict_front.proofs.phases.resolved.Goals as goal

pub returns-in-Ok-check-clause-answer : goal.returns-in-Ok-check-clause-answer
returns-in-Ok-check-clause-answer c =
    typed c.args.names c.in-Ok.scoped.program c.args.program c.in-Ok.ensures.program c.in-Ok.ensures.no_stop c.in-Ok-check.ensures.typed
    (said_by plain_front c.translated.result) c.translated.ensures.answer

pub returns-in-Err-check-clause-answer : goal.returns-in-Err-check-clause-answer
returns-in-Err-check-clause-answer c =
    stuck plain_front c.args.names c.in-Ok.scoped.program c.args.program c.in-Ok.ensures.program c.in-Ok.ensures.no_stop c.in-Err-check.error c.in-Err-check.ensures.stuck
    c.of_type_error.result c.of_type_error.ensures
