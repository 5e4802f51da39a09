use Rattle.std.proofs.Common.{◌≡◌, length, map, sym, ◌∙◌}
use Rattle.std.proofs.lemmas.Bool.{iff_false}
use Rattle.pict_trace.specs.Plain.{plain_line}
use Rattle.pict_trace.proofs.Shown.{some_left, nothing_left}
use Rattle.pict_replay.specs.Plain.{place_of}
use Rattle.pict_replay.proofs.Filing.{is_file, ends_early, bad_choice, bad_line, labels_kept}
use Rattle.pict_replay.proofs.file.read_file.Goals as goal

pub returns-then-is_empty-clause-no_file : goal.returns-then-is_empty-clause-no_file
returns-then-is_empty-clause-no_file c at e =
    let found = c.in_ok-choices.choices in
    let same : length c.args.text.now ≡ at = cc in
    ends_early c.args.text.now found.1.now (map place_of found.0.items) at c.in_ok-choices.ensures.choices (nothing_left found.1.now (sym c.is_empty.ensures ∙ c.if-is_empty.true)) (sym same)

pub returns-in_err-lines-in-Some-clause-kept : goal.returns-in_err-lines-in-Some-clause-kept
returns-in_err-lines-in-Some-clause-kept c =
    let found = c.in_ok-choices.choices in
    labels_kept c.args.text.now found.1.now c.in-Some.part.now (map place_of found.0.items) c.args.names.now c.begin_lines.new.names c.in_ok-choices.ensures.choices c.in-Some.ensures.some c.begin_lines.ensures.kept

pub returns-then-not-is_over-clause-no_file : goal.returns-then-not-is_over-clause-no_file
returns-then-not-is_over-clause-no_file c at e =
    let found = c.in_ok-choices.choices in
    let lines = c.in_ok-lines-in-Some.lines in
    let same : c.bytes_before.result ≡ at = cc in
    bad_line c.begin_lines.new.names c.args.text.now found.1.now c.in-Some.part.now lines.1.now (map place_of found.0.items) (map plain_line lines.0.items) at
    c.in_ok-choices.ensures.choices c.in-Some.ensures.some c.in_ok-lines-in-Some.ensures.lines (iff_false c.is_over.ensures c.if-not-is_over.true) c.in_ok-lines-in-Some.ensures.no_more (sym same ∙ c.bytes_before.ensures)

pub returns-then-not-is_over-clause-kept : goal.returns-then-not-is_over-clause-kept
returns-then-not-is_over-clause-kept c =
    let found = c.in_ok-choices.choices in
    labels_kept c.args.text.now found.1.now c.in-Some.part.now (map place_of found.0.items) c.args.names.now c.begin_lines.new.names c.in_ok-choices.ensures.choices c.in-Some.ensures.some c.begin_lines.ensures.kept

pub returns-else-not-is_over-clause-file : goal.returns-else-not-is_over-clause-file
returns-else-not-is_over-clause-file c =
    let found = c.in_ok-choices.choices in
    let lines = c.in_ok-lines-in-Some.lines in
    is_file c.begin_lines.new.names c.args.text.now found.1.now c.in-Some.part.now (map place_of found.0.items) (map plain_line lines.0.items) lines.1.now
    c.in_ok-choices.ensures.choices c.in-Some.ensures.some c.in_ok-lines-in-Some.ensures.lines (c.is_over.ensures.0 c.if-not-is_over.false)

pub returns-else-not-is_over-clause-gained : goal.returns-else-not-is_over-clause-gained
returns-else-not-is_over-clause-gained c = c.in_ok-lines-in-Some.ensures.gained (c.is_over.ensures.0 c.if-not-is_over.false)

pub returns-else-not-is_over-clause-kept : goal.returns-else-not-is_over-clause-kept
returns-else-not-is_over-clause-kept c =
    let found = c.in_ok-choices.choices in
    labels_kept c.args.text.now found.1.now c.in-Some.part.now (map place_of found.0.items) c.args.names.now c.begin_lines.new.names c.in_ok-choices.ensures.choices c.in-Some.ensures.some c.begin_lines.ensures.kept

pub returns-in-None-clause-no_file : goal.returns-in-None-clause-no_file
returns-in-None-clause-no_file c at e =
    let found = c.in_ok-choices.choices in
    let same : c.bytes_before-place.result ≡ at = cc in
    bad_choice c.args.text.now found.1.now (map place_of found.0.items) at c.in_ok-choices.ensures.choices (some_left found.1.now (sym c.is_empty.ensures ∙ c.if-is_empty.false)) c.in_ok-choices.ensures.no_more
    (c.behind.ensures.none c.in-None.is) (sym same ∙ c.bytes_before-place.ensures)
