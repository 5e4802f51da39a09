use Rattle.std.proofs.Common.{◌∙◌, sym, subst, IfSome, Err}
use Rattle.pict_gather.specs.Reached.{Reaches}
use Rattle.pict_gather.specs.Entry.{IsAsked, MissedInFile, gives_entry, lent, reached}
use Rattle.pict_gather.proofs.Causes.{file_missed, unopened_missed}
use Rattle.pict_gather.proofs.Entering.{opened_kept, unasked, unopened, file_too_long, file_visited, file_stopped}
use Rattle.pict_gather.proofs.entry.gather.Goals as goal

pub returns-in-Err-clause-answer : goal.returns-in-Err-clause-answer
returns-in-Err-clause-answer g c =
    unasked (g.S.Shelf.held c.args.shelf.now) (lent c.args.prelude) c.args.file.now c.in_ok-name.name c.add_prelude.new.sources c.ask.new.sources c.in-Err.error (c.in_ok-name.ensures ∙ c.as_bytes.ensures.value)
    c.in_ok-add_prelude.ensures c.in-Err.ensures.unasked

pub returns-in-Err-open-clause-answer : goal.returns-in-Err-open-clause-answer
returns-in-Err-open-clause-answer g c =
    subst (λ e. IfSome (reached (Err e) c.ask.new.sources) (Reaches (gives_entry (Err e) (g.S.Shelf.held c.args.shelf.now)) (lent c.args.prelude) c.args.file.now)) (sym c.of_prelude_error.ensures)
    (unopened (g.S.Shelf.held c.args.shelf.now) (lent c.args.prelude) c.args.file.now c.in-Ok.asked c.ask.new.sources c.in-Err-open.error c.in-Ok.ensures.asked.1
    (c.in-Ok.ensures.asked.0 ∙ c.in_ok-add_prelude.ensures) c.in-Err-open.ensures.unopened)

pub returns-in-Err-open-clause-absent : goal.returns-in-Err-open-clause-absent
returns-in-Err-open-clause-absent g c =
    subst (MissedInFile _ _) (sym c.of_prelude_error.ensures) (unopened_missed _ _ (lent c.args.prelude) c.in-Err-open.error c.in-Err-open.ensures.unopened)

pub returns-in-TooLong-clause-answer : goal.returns-in-TooLong-clause-answer
returns-in-TooLong-clause-answer g c =
    file_too_long (g.S.Shelf.held c.args.shelf.now) (lent c.args.prelude) c.args.file.now c.ask.new.sources c.add_empty.new.sources c.in-Ok-open.gathering c.in_ok-name.name
    (c.in-Ok.ensures.asked.0 ∙ c.in_ok-add_prelude.ensures) c.in-Ok-open.ensures.opened (c.in_ok-name.ensures ∙ c.as_bytes.ensures.value)
    (subst (IsAsked (g.S.Shelf.held c.args.shelf.now) c.args.file.now) c.in-TooLong.is c.in-Ok.ensures.asked.1) c.in_ok-add_empty-in-TooLong.ensures

pub visit-requires-clause-kept : goal.visit-requires-clause-kept
visit-requires-clause-kept g c = opened_kept (lent c.args.prelude) c.ask.new.sources c.in-Ok-open.gathering (c.in-Ok.ensures.asked.0 ∙ c.in_ok-add_prelude.ensures) c.in-Ok-open.ensures.opened

pub returns-in-Ok-visit-clause-answer : goal.returns-in-Ok-visit-clause-answer
returns-in-Ok-visit-clause-answer g c =
    let f = subst (IsAsked (g.S.Shelf.held c.args.shelf.now) c.args.file.now) c.in-Text.is c.in-Ok.ensures.asked.1 in
    file_visited (g.S.Shelf.held c.args.shelf.now) (lent c.args.prelude) c.args.file.now _ c.ask.new.sources c.in-Ok-open.gathering c.in_ok-name.name c.in-Text.text.items
    c.ask.ensures.held (c.in_ok-name.ensures ∙ c.as_bytes.ensures.value) (c.in-Ok.ensures.asked.0 ∙ c.in_ok-add_prelude.ensures) c.in-Ok-open.ensures.opened f.1 c.visit.new.sources c.visit.new.gathering c.in-Ok-visit.ensures.answer

pub returns-clause-answer : goal.returns-clause-answer
returns-clause-answer g c =
    let f = subst (IsAsked (g.S.Shelf.held c.args.shelf.now) c.args.file.now) c.in-Text.is c.in-Ok.ensures.asked.1 in
    subst (λ e. IfSome (reached (Err e) c.visit.new.sources) (Reaches (gives_entry (Err e) (g.S.Shelf.held c.args.shelf.now)) (lent c.args.prelude) c.args.file.now)) (sym c.of_visit_error.ensures)
    (file_stopped (g.S.Shelf.held c.args.shelf.now) (lent c.args.prelude) c.args.file.now _ c.ask.new.sources c.in-Ok-open.gathering c.in_ok-name.name c.in-Text.text.items
    c.ask.ensures.held (c.in_ok-name.ensures ∙ c.as_bytes.ensures.value) (c.in-Ok.ensures.asked.0 ∙ c.in_ok-add_prelude.ensures) c.in-Ok-open.ensures.opened f.1 c.visit.new.sources c.in-Err-visit.error c.in-Err-visit.ensures.answer)

pub returns-clause-absent : goal.returns-clause-absent
returns-clause-absent g c =
    subst (MissedInFile _ _) (sym c.of_visit_error.ensures) (file_missed _ _ _ c.ask.ensures.counts.1 c.in-Err-visit.error c.in-Err-visit.ensures.absent)
