use Rattle.std.proofs.Common.{◌≡◌, ◌+◌, map, length, sym, ◌∙◌, arith}
use Rattle.std.proofs.lemmas.List.{length-map}
use Rattle.pict_replay.specs.Plain.{place_of}
use Rattle.pict_trace.proofs.Shown.{some_left, nothing_left}
use Rattle.pict_replay.proofs.OneReading.{first_bad, all_choices}
use Rattle.pict_replay.proofs.choices.read_choices.Goals as goal

pub returns-then-not-is_empty-clause-bad : goal.returns-then-not-is_empty-clause-bad
returns-then-not-is_empty-clause-bad c number e =
    let found = c.in_ok-found.found in
    let same : c.len.result + 1 ≡ number = cc in
    let count : length (map place_of found.0.items) ≡ length found.0.items = length-map found.0.items place_of in
    first_bad c.args.text.now found.1.now (map place_of found.0.items) number c.in_ok-found.ensures.choices (let k = c.len.ensures in omega (arith, same, k, count))
    (some_left found.1.now (sym c.is_empty.ensures ∙ c.if-not-is_empty.true)) c.in_ok-found.ensures.no_more

pub returns-clause-choices : goal.returns-clause-choices
returns-clause-choices c =
    let found = c.in_ok-found.found in
    all_choices c.args.text.now found.1.now (map place_of found.0.items) c.in_ok-found.ensures.choices (nothing_left found.1.now (sym c.is_empty.ensures ∙ c.if-not-is_empty.false))
