use Rattle.std.proofs.Common.{sym, subst, IfSome, Err}
use Rattle.pict_gather.specs.Entry.{lent}
use Rattle.pict_front.specs.Answers.{MissedInFront, fronted, gives_front}
use Rattle.pict_front.specs.Front.{IsFront}
use Rattle.pict_front.proofs.Answered.{not_gathered, judged_behind, refused_behind, placed, accepted, import_missed, nothing_missed}
use Rattle.pict_front.proofs.phases.front.Goals as goal

pub returns-in-Err-clause-answer : goal.returns-in-Err-clause-answer
returns-in-Err-clause-answer g c =
    subst (λ e. IfSome (fronted (Err e) c.gather.new.sources) (IsFront (gives_front (Err e) (g.S.Shelf.held c.args.shelf.now)) (lent c.args.prelude) c.args.file.now)) (sym c.of_gather_error.ensures)
    (not_gathered (g.S.Shelf.held c.args.shelf.now) (lent c.args.prelude) c.args.file.now c.gather.new.sources c.in-Err.error c.in-Err.ensures.answer)

pub returns-in-Err-clause-placed : goal.returns-in-Err-clause-placed
returns-in-Err-clause-placed g c = placed (g.S.Shelf.held c.args.shelf.now) (lent c.args.prelude) c.args.file.now c.gather.new.sources c.of_gather_error.result (returns-in-Err-clause-answer g c)

pub returns-in-Err-clause-absent : goal.returns-in-Err-clause-absent
returns-in-Err-clause-absent g c = subst (MissedInFront _ _) (sym c.of_gather_error.ensures) (import_missed _ _ c.in-Err.error c.in-Err.ensures.absent)

pub returns-in-Ok-judged-clause-answer : goal.returns-in-Ok-judged-clause-answer
returns-in-Ok-judged-clause-answer g c =
    judged_behind (g.S.Shelf.held c.args.shelf.now) (lent c.args.prelude) c.args.file.now c.gather.new.sources c.in-Ok.gathering c.in-Ok-judged.front c.in-Ok.ensures.answer c.in-Ok-judged.ensures.answer

pub returns-in-Ok-judged-clause-accepted : goal.returns-in-Ok-judged-clause-accepted
returns-in-Ok-judged-clause-accepted g c = accepted (g.S.Shelf.held c.args.shelf.now) (lent c.args.prelude) c.args.file.now c.gather.new.sources c.in-Ok-judged.front (returns-in-Ok-judged-clause-answer g c)

pub returns-clause-answer : goal.returns-clause-answer
returns-clause-answer g c =
    subst (λ e. IfSome (fronted (Err e) c.gather.new.sources) (IsFront (gives_front (Err e) (g.S.Shelf.held c.args.shelf.now)) (lent c.args.prelude) c.args.file.now)) (sym c.of_refusal.ensures)
    (refused_behind (g.S.Shelf.held c.args.shelf.now) (lent c.args.prelude) c.args.file.now c.gather.new.sources c.in-Ok.gathering c.in-Err-judged.refusal c.in-Ok.ensures.answer c.in-Err-judged.ensures.answer)

pub returns-clause-placed : goal.returns-clause-placed
returns-clause-placed g c = placed (g.S.Shelf.held c.args.shelf.now) (lent c.args.prelude) c.args.file.now c.gather.new.sources c.of_refusal.result (returns-clause-answer g c)

pub returns-clause-absent : goal.returns-clause-absent
returns-clause-absent g c =
    subst (MissedInFront _ _) (sym c.of_refusal.ensures)
    (nothing_missed _ _ (g.S.Shelf.held c.args.shelf.now) (lent c.args.prelude) c.args.file.now c.gather.new.sources c.in-Ok.gathering c.in-Err-judged.refusal c.in-Ok.ensures.answer c.in-Err-judged.ensures.answer)
