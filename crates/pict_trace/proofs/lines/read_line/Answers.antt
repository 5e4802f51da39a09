use Rattle.std.proofs.Common.{sym, ◌∙◌, ap, Err}
use Rattle.pict_trace.specs.Plain.{plain_label}
use Rattle.pict_trace.proofs.Shown.{line_found, line_number_bad, line_shown_bad, number_grows}
use Rattle.pict_trace.proofs.Growing.{gained_on, grown_on}
use Rattle.pict_trace.proofs.lines.read_line.Goals as goal

pub returns-in_err-number-clause-bad : goal.returns-in_err-number-clause-bad
returns-in_err-number-clause-bad c e = line_number_bad c.args.text.now (c.number_before.ensures.bad (let k = rw e at c.from_residual.ensures.1 in c.in_err-number.was ∙ ap Err (sym k)))

pub returns-in_err-found-clause-bad : goal.returns-in_err-found-clause-bad
returns-in_err-found-clause-bad c e =
    let n = c.in_ok-number.number in
    line_shown_bad c.args.text.now n.1.now n.0 c.in_ok-number.ensures.small c.in_ok-number.ensures.some
    (c.read_shown.ensures.bad (let k = rw e at c.from_residual-in_err-found.ensures.1 in c.in_err-found.was ∙ ap Err (sym k)))

pub returns-in_err-found-clause-kept : goal.returns-in_err-found-clause-kept
returns-in_err-found-clause-kept c =
    let n = c.in_ok-number.number in
    gained_on c.args.text.now n.1.now c.args.names.now c.args.names.now c.read_shown.new.names (number_grows c.args.text.now n.0 n.1.now c.args.names.now c.in_ok-number.ensures.some) c.read_shown.ensures.kept

pub returns-clause-ok : goal.returns-clause-ok
returns-clause-ok c =
    let n = c.in_ok-number.number in
    line_found c.read_shown.new.names c.args.text.now n.1.now n.0 (plain_label c.in_ok-found.found.label) c.in_ok-found.found.rest.now c.in_ok-number.ensures.small c.in_ok-number.ensures.some c.in_ok-found.ensures.ok

pub returns-clause-grows : goal.returns-clause-grows
returns-clause-grows c =
    let n = c.in_ok-number.number in
    grown_on c.args.text.now n.1.now c.in_ok-found.found.rest.now c.args.names.now c.args.names.now c.read_shown.new.names (number_grows c.args.text.now n.0 n.1.now c.args.names.now c.in_ok-number.ensures.some) c.in_ok-found.ensures.grows

pub returns-clause-kept : goal.returns-clause-kept
returns-clause-kept c =
    let n = c.in_ok-number.number in
    gained_on c.args.text.now n.1.now c.args.names.now c.args.names.now c.read_shown.new.names (number_grows c.args.text.now n.0 n.1.now c.args.names.now c.in_ok-number.ensures.some) c.read_shown.ensures.kept
