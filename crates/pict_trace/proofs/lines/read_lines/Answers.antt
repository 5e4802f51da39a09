use Rattle.std.proofs.Common.{◌≡◌, ◌+◌, map, length, sym, ◌∙◌, arith}
use Rattle.std.proofs.lemmas.List.{length-map}
use Rattle.pict_trace.specs.Plain.{plain_line}
use Rattle.pict_trace.proofs.Shown.{first_bad, all_lines, some_left, nothing_left}
use Rattle.pict_trace.proofs.lines.read_lines.Goals as goal

pub returns-then-not-is_empty-clause-bad : goal.returns-then-not-is_empty-clause-bad
returns-then-not-is_empty-clause-bad c number e =
    let found = c.in_ok-found.found in
    let lines = map plain_line found.0.items in
    let same : c.len.result + 1 ≡ number = cc in
    let count : length lines ≡ length found.0.items = length-map found.0.items plain_line in
    first_bad c.begin_lines.new.names c.args.text.now found.1.now lines number c.in_ok-found.ensures.lines (let k = c.len.ensures in omega (arith, same, k, count))
    (some_left found.1.now (sym c.is_empty.ensures ∙ c.if-not-is_empty.true)) c.in_ok-found.ensures.no_more

pub returns-clause-lines : goal.returns-clause-lines
returns-clause-lines c =
    let found = c.in_ok-found.found in
    all_lines c.begin_lines.new.names c.args.text.now found.1.now (map plain_line found.0.items) c.in_ok-found.ensures.lines (nothing_left found.1.now (sym c.is_empty.ensures ∙ c.if-not-is_empty.false))

pub returns-clause-gained : goal.returns-clause-gained
returns-clause-gained c = c.in_ok-found.ensures.gained (nothing_left c.in_ok-found.found.1.now (sym c.is_empty.ensures ∙ c.if-not-is_empty.false))
