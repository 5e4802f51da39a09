use Rattle.std.proofs.Common.{subst, IfSome}
use Rattle.pict_front.specs.Answers.{fronted, gives_front}
use Rattle.pict_front.specs.Front.{IsFront}
use Rattle.pict_telling.proofs.Accepted.{accepted_short, accepted_right}
use Rattle.pict_telling.proofs.telling.phases.Goals as goal

pub returns-clause-answer : goal.returns-clause-answer
returns-clause-answer g c =
    let gives = gives_front c.front.result (g.S.Shelf.held c.args.shelf.now) in
    subst (λ prelude. IfSome (fronted c.front.result c.front.new.sources) (IsFront gives prelude c.args.file.now)) c.prelude_unless.ensures.is c.front.ensures.answer

pub returns-clause-short : goal.returns-clause-short
returns-clause-short g c = accepted_short c.front.result _ c.prelude_unless.result _ _ c.prelude_unless.ensures.short c.front.ensures.answer

pub returns-clause-right : goal.returns-clause-right
returns-clause-right g c = accepted_right c.front.result 10000 c.front.ensures.accepted
