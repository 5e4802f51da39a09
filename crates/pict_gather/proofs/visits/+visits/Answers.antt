use Rattle.std.proofs.Common.{◌∙◌, sym, subst, arith, IfSome}
use Rattle.pict_gather.specs.Fetching.{MayGive}
use Rattle.pict_gather.specs.Phases.{accepts}
use Rattle.pict_gather.specs.Gathered.{at_once, Along, Visits}
use Rattle.pict_gather.specs.Found.{IsFound, MissedFor}
use Rattle.pict_gather.specs.Kept.{gathered_in, said_error, gives_error}
use Rattle.pict_gather.proofs.Causes.{unread_missed, settled_missed, fault_missed, missed_earlier, result_earlier}
use Rattle.pict_gather.proofs.Following.{following_stops, following_on, following_ends}
use Rattle.pict_gather.proofs.Visiting.{unread_visit, cut_off_visit, whole_visit, lead_visit, lead_fault, lead_missing, lead_too_long}
use Rattle.pict_gather.proofs.visits.+visits.Goals as goal

-- ---- the loop over imports

pub follow-returns-in-Err-clause-answer : goal.follow-returns-in-Err-clause-answer
follow-returns-in-Err-clause-answer g t c =
    following_stops _ _ (gathered_in c.args.sources.now c.args.gathering.now) (gathered_in c.loop-import.sources c.loop-import.gathering) c.args.imports.now c.loop-import.import-index c.import-item.result
    c.lead.new.sources c.in-Err.error c.loop-import.invariant.held c.loop-import-test.true c.import-item.is c.loop-import.invariant.following c.in-Err.ensures.answer

pub follow-loop-import-preserved : goal.follow-loop-import-preserved
follow-loop-import-preserved g t c = record {
  following = following_on _ _ (gathered_in c.args.sources.now c.args.gathering.now) (gathered_in c.loop-import.sources c.loop-import.gathering) (gathered_in c.lead.new.sources c.lead.new.gathering) c.args.imports.now
      c.loop-import.import-index c.import-item.result c.loop-import.invariant.held c.loop-import-test.true c.import-item.is c.loop-import.invariant.following c.in-Ok.ensures.answer;
  kept = c.in-Ok.ensures.kept;
  grown = omega (arith, c.in-Ok.ensures.grown, c.loop-import.invariant.grown);
  held = c.lead.ensures.held ∙ c.loop-import.invariant.held;
  faults = omega (arith, c.lead.ensures.counts.0, c.loop-import.invariant.faults);
  misses = omega (arith, c.lead.ensures.counts.1, c.loop-import.invariant.misses);
}

pub follow-returns-clause-answer : goal.follow-returns-clause-answer
follow-returns-clause-answer g t c =
    following_ends _ (gathered_in c.args.sources.now c.args.gathering.now) (gathered_in c.loop-import.sources c.loop-import.gathering) c.args.imports.now c.loop-import.import-index (omega (arith, c.loop-import-test.false)) c.loop-import.invariant.following

pub follow-returns-in-Err-clause-absent : goal.follow-returns-in-Err-clause-absent
follow-returns-in-Err-clause-absent g t c = missed_earlier _ _ _ c.loop-import.invariant.misses c.in-Err.error c.in-Err.ensures.absent

-- ---- one import

pub lead-returns-in-Refused-clause-absent : goal.lead-returns-in-Refused-clause-absent
lead-returns-in-Refused-clause-absent g t c = settled_missed _ _ c.in-Refused.code c.args.import.now.span c.in-Refused.ensures.code

pub lead-returns-in-Err-clause-absent : goal.lead-returns-in-Err-clause-absent
lead-returns-in-Err-clause-absent g t c = fault_missed _ _ c.args.import.now.name c.args.sources.now.list.items c.fetch.new.sources.list.items c.in-Err.error c.in-Err.ensures.fault

pub lead-returns-in-Text-clause-absent : goal.lead-returns-in-Text-clause-absent
lead-returns-in-Text-clause-absent g t c = result_earlier _ _ _ c.fetch.ensures.counts.1 c.visit.result c.visit.ensures.absent

pub lead-returns-in-Refused-clause-answer : goal.lead-returns-in-Refused-clause-answer
lead-returns-in-Refused-clause-answer g t c = at_once (sym c.in-Refused.ensures.comes)

pub lead-returns-in-Over-clause-answer : goal.lead-returns-in-Over-clause-answer
lead-returns-in-Over-clause-answer g t c = at_once (sym c.in-Over.ensures.comes)

pub lead-returns-in-Err-clause-answer : goal.lead-returns-in-Err-clause-answer
lead-returns-in-Err-clause-answer g t c =
    lead_fault (g.S.Shelf.held c.args.shelf.now) c.args.sources.now c.args.gathering.now c.args.import.now (sym c.in-Open.ensures.comes) c.fetch.new.sources c.in-Err.error c.in-Err.ensures.fault

pub lead-returns-in-Text-clause-answer : goal.lead-returns-in-Text-clause-answer
lead-returns-in-Text-clause-answer g t c =
    let f = subst (IsFound (g.S.Shelf.held c.args.shelf.now) c.args.import.now.name c.args.gathering.now.left c.args.sources.now.list.items c.fetch.new.sources.list.items) c.in-Text.is c.in-Ok.ensures.found in
    lead_visit (g.S.Shelf.held c.args.shelf.now) c.args.sources.now c.args.gathering.now c.args.import.now (sym c.in-Open.ensures.comes) c.fetch.new.sources _ c.in-Text.text.items c.visit.new.sources c.visit.new.gathering c.visit.result
    c.fetch.ensures.held f.0 f.2 c.visit.ensures.answer

pub lead-returns-in-Missing-clause-answer : goal.lead-returns-in-Missing-clause-answer
lead-returns-in-Missing-clause-answer g t c =
    let f = subst (IsFound (g.S.Shelf.held c.args.shelf.now) c.args.import.now.name c.args.gathering.now.left c.args.sources.now.list.items c.fetch.new.sources.list.items) c.in-Missing.is c.in-Ok.ensures.found in
    lead_missing (g.S.Shelf.held c.args.shelf.now) c.args.sources.now c.args.gathering.now c.args.import.now (sym c.in-Open.ensures.comes) c.fetch.new.sources f.0 f.1

pub lead-returns-in-TooLong-clause-answer : goal.lead-returns-in-TooLong-clause-answer
lead-returns-in-TooLong-clause-answer g t c =
    let f = subst (IsFound (g.S.Shelf.held c.args.shelf.now) c.args.import.now.name c.args.gathering.now.left c.args.sources.now.list.items c.fetch.new.sources.list.items) c.in-TooLong.is c.in-Ok.ensures.found in
    lead_too_long (g.S.Shelf.held c.args.shelf.now) c.args.sources.now c.args.gathering.now c.args.import.now (sym c.in-Open.ensures.comes) c.fetch.new.sources c.in-TooLong.place c.requires.kept f.0 f.1 f.2

-- ---- one visit

pub visit-returns-in-Err-clause-answer : goal.visit-returns-in-Err-clause-answer
visit-returns-in-Err-clause-answer g t c =
    subst (λ e. IfSome (said_error e c.begin.new.sources) (Visits (gives_error e (g.S.Shelf.held c.args.shelf.now)) (gathered_in c.args.sources.now c.args.gathering.now) c.args.name.now c.args.text.items)) (sym c.of_read_error.ensures)
    (unread_visit (g.S.Shelf.held c.args.shelf.now) c.args.sources.now c.args.gathering.now c.requires.kept c.args.name.now c.args.text.items c.requires.fits c.begin.new.sources c.in-Err.error c.in-Err.ensures.unread)

pub visit-returns-in-Err-clause-absent : goal.visit-returns-in-Err-clause-absent
visit-returns-in-Err-clause-absent g t c =
    subst (MissedFor _ _) (sym c.of_read_error.ensures) (unread_missed _ _ c.args.sources.now c.args.gathering.now c.args.name.now c.args.text.items c.begin.new.sources c.in-Err.error c.in-Err.ensures.unread)

pub visit-returns-in-Ok-end-clause-answer : goal.visit-returns-in-Ok-end-clause-answer
visit-returns-in-Ok-end-clause-answer g t c =
    whole_visit (g.S.Shelf.held c.args.shelf.now) c.args.sources.now c.args.gathering.now c.requires.kept c.args.name.now c.args.text.items c.requires.fits c.in-Ok.program c.begin.new.sources c.begin.new.gathering c.in-Ok.ensures.begun
    c.follow.new.sources c.follow.new.gathering c.end.new.gathering
    (subst (λ l. Along (MayGive (g.S.Shelf.held c.args.shelf.now)) (gathered_in c.begin.new.sources c.begin.new.gathering) l (accepts (gathered_in c.follow.new.sources c.follow.new.gathering))) c.deref.ensures.value c.in-Ok-follow.ensures.answer)
    c.in-Ok-end.ensures.ended c.in-Ok-end.ensures.decs c.end.ensures.names

pub visit-returns-in-Err-follow-clause-answer : goal.visit-returns-in-Err-follow-clause-answer
visit-returns-in-Err-follow-clause-answer g t c =
    cut_off_visit (g.S.Shelf.held c.args.shelf.now) c.args.sources.now c.args.gathering.now c.requires.kept c.args.name.now c.args.text.items c.requires.fits c.in-Ok.program c.begin.new.sources c.begin.new.gathering c.in-Ok.ensures.begun
    c.follow.new.sources c.in-Err-follow.error
    (subst (λ l. IfSome (said_error c.in-Err-follow.error c.follow.new.sources) (Along (gives_error c.in-Err-follow.error (g.S.Shelf.held c.args.shelf.now)) (gathered_in c.begin.new.sources c.begin.new.gathering) l)) c.deref.ensures.value c.in-Err-follow.ensures.answer)
