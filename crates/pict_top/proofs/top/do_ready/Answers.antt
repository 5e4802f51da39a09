use Rattle.std.proofs.Common.{ap, ◌∙◌, Err, inl, inr}
use Rattle.pict_outside.proofs.Gaining.{keeps_same}
use Rattle.pict_front.specs.Answers.{plain_front}
use Rattle.pict_top.specs.Changes.{change_of, GainedFront, FailedWithin}
use Rattle.pict_words.specs.Plain.{plain_command}
use Rattle.pict_top.proofs.Right.{accepted_is_freely_right}
use Rattle.pict_top.proofs.Runs.{some_outcome, came_to_end}
use Rattle.pict_top.proofs.top.do_ready.Goals as goal

pub perform-requires-clause-right : goal.perform-requires-clause-right
perform-requires-clause-right g c = accepted_is_freely_right (plain_front c.args.front) c.requires.accepted

pub returns-in-Err-Memory-clause-meets : goal.returns-in-Err-Memory-clause-meets
returns-in-Err-Memory-clause-meets g c =
    let out = change_of g.O.Sink.taken g.O.Sink.faults c.args.out.now c.perform.new.out in
    let some = c.perform.ensures.memory (c.in-Err-Memory.is ∙ ap Err c.in-Err-Memory.field-0-is) in
    (keeps_same _, inr (some_outcome c.args.sources.now.list.items (plain_front c.args.front) (plain_command c.args.command) (GainedFront out) some))

pub returns-in-Err-Sink-clause-meets : goal.returns-in-Err-Sink-clause-meets
returns-in-Err-Sink-clause-meets g c =
    let out = change_of g.O.Sink.taken g.O.Sink.faults c.args.out.now c.perform.new.out in
    let some = c.perform.ensures.sink (c.in-Err-Sink.is ∙ ap Err c.in-Err-Sink.field-0-is) in
    let outcome = some_outcome c.args.sources.now.list.items (plain_front c.args.front) (plain_command c.args.command) (FailedWithin out) some in
    inl (outcome.0, outcome.1, inl (outcome.2, keeps_same _))

pub returns-in-Ok-clause-meets : goal.returns-in-Ok-clause-meets
returns-in-Ok-clause-meets g c =
    came_to_end c.args.sources.now.list.items (plain_front c.args.front) (plain_command c.args.command) c.in-Ok.end _ _ _ c.in-Ok.ensures.done c.report_end.ensures.text
