use Rattle.std.proofs.Common.{map, sym, ◌∙◌, ap, subst, Err}
use Rattle.pict_syntax.specs.Names.{with_names}
use Rattle.pict_trace.specs.Plain.{plain_line}
use Rattle.pict_trace.specs.Readable.{BeginsWithLines, labels_in}
use Rattle.pict_trace.proofs.Shown.{none_yet, one_line_more, lines_stand, lines_gained, some_left, nothing_left}
use Rattle.pict_trace.proofs.Fields.{labels_extend}
use Rattle.pict_trace.proofs.Ends.{BeginsWithNone, end_begins_none}
use Rattle.pict_trace.proofs.Growing.{begun_growing, gained_on, grown_on}
use Rattle.pict_trace.proofs.Steps.{pushed}
use Rattle.pict_trace.proofs.lines.begin_lines.Goals as goal

pub lines-init : goal.lines-init
lines-init c =
    let names = c.args.names.now in
    record {
      before = subst (λ l. BeginsWithLines names c.args.text.now (map plain_line l) c.args.text.now) (sym c.new-lines.ensures.items) (none_yet names c.args.text.now);
      gained = ap (λ l. with_names names (labels_in names (map plain_line l))) (sym c.new-lines.ensures.items);
      grown = begun_growing c.args.text.now names;
    }

pub lines-preserved : goal.lines-preserved
lines-preserved c =
    let new = c.read_line.new.names in
    let lines = map plain_line c.lines.lines.items in
    let line = plain_line c.in-Ok.found.line in
    let items = pushed plain_line c.lines.lines.items c.push.new.self.items c.in-Ok.found.line c.in_ok-push-in-Ok.ensures.items in
    record {
      before = subst (λ l. BeginsWithLines new c.args.text.now l c.in-Ok.found.rest.now) (sym items)
          (one_line_more c.lines.names new c.args.text.now c.lines.rest.now c.in-Ok.found.rest.now lines line c.lines.invariant.before c.in-Ok.ensures.gained c.in-Ok.ensures.ok);
      gained = lines_gained c.args.names.now c.lines.names new lines line c.lines.invariant.before.shown c.lines.invariant.gained c.in-Ok.ensures.gained ∙ ap (λ l. with_names c.args.names.now (labels_in new l)) (sym items);
      grown = grown_on c.args.text.now c.lines.rest.now c.in-Ok.found.rest.now c.args.names.now c.lines.names new c.lines.invariant.grown c.in-Ok.ensures.grows;
    }

pub returns-in_err-push-in-Ok-clause-kept : goal.returns-in_err-push-in-Ok-clause-kept
returns-in_err-push-in-Ok-clause-kept c = gained_on c.args.text.now c.lines.rest.now c.args.names.now c.lines.names c.read_line.new.names c.lines.invariant.grown c.read_line.ensures.kept

pub returns-in-Err-Bad-clause-lines : goal.returns-in-Err-Bad-clause-lines
returns-in-Err-Bad-clause-lines c =
    let kept = c.read_line.ensures.kept in
    lines_stand c.lines.names c.read_line.new.names c.args.text.now c.lines.rest.now (map plain_line c.lines.lines.items) c.lines.invariant.before (labels_extend c.lines.names c.read_line.new.names kept.labels kept.gained)

pub returns-in-Err-Bad-clause-gained : goal.returns-in-Err-Bad-clause-gained
returns-in-Err-Bad-clause-gained c over = absurd (some_left c.lines.rest.now (sym c.is_empty.ensures ∙ c.lines-test.true) over)

pub returns-in-Err-Bad-clause-no_more : goal.returns-in-Err-Bad-clause-no_more
returns-in-Err-Bad-clause-no_more c = c.read_line.ensures.bad (c.in-Err-Bad.is ∙ ap Err c.in-Err-Bad.field-0-is)

pub returns-in-Err-Bad-clause-kept : goal.returns-in-Err-Bad-clause-kept
returns-in-Err-Bad-clause-kept c = gained_on c.args.text.now c.lines.rest.now c.args.names.now c.lines.names c.read_line.new.names c.lines.invariant.grown c.read_line.ensures.kept

pub returns-in-Err-Memory-clause-kept : goal.returns-in-Err-Memory-clause-kept
returns-in-Err-Memory-clause-kept c = gained_on c.args.text.now c.lines.rest.now c.args.names.now c.lines.names c.read_line.new.names c.lines.invariant.grown c.read_line.ensures.kept

pub returns-clause-gained : goal.returns-clause-gained
returns-clause-gained c over = c.lines.invariant.gained

pub returns-clause-no_more : goal.returns-clause-no_more
returns-clause-no_more c = subst BeginsWithNone (sym (nothing_left c.lines.rest.now (sym c.is_empty.ensures ∙ c.lines-test.false))) end_begins_none
