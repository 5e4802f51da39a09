use Rattle.std.proofs.Common.{ap, ◌∙◌, Err}
use Rattle.pict_syntax.specs.PlainTrees.{declarations_of}
use Rattle.pict_scope.proofs.LabelsScoped.{scoped_distinct}
use Rattle.pict_core.specs.Plain.{plain_core}
use Rattle.pict_front.specs.Answers.{plain_front}
use Rattle.pict_front.proofs.Said.{translated, too_deep}
use Rattle.pict_front.proofs.phases.translated.Goals as goal

pub returns-in-Ok-clause-answer : goal.returns-in-Ok-clause-answer
returns-in-Ok-clause-answer c = translated c.args.names (declarations_of c.args.scoped.now.program) (plain_core c.in-Ok.core) c.in-Ok.ensures.core c.in-Ok.ensures.shallow

pub returns-in-Ok-clause-closed : goal.returns-in-Ok-clause-closed
returns-in-Ok-clause-closed c = c.in-Ok.ensures.closed (scoped_distinct c.args.names (declarations_of c.args.scoped.now.program) c.requires.scoped)

pub returns-in-Err-clause-answer : goal.returns-in-Err-clause-answer
returns-in-Err-clause-answer c =
    too_deep plain_front c.args.names (declarations_of c.args.scoped.now.program) c.in-Err.error c.of_derive_error.result c.of_derive_error.ensures
    (λ depth e. ((c.derive.ensures.too_deep depth).0 (c.in-Err.is ∙ ap Err e)).0)
