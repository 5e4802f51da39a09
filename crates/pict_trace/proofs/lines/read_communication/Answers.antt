use Rattle.std.proofs.Common.{◌≡◌, ◌∷◌, ◌<◌, ◌^◌, Err, sym, ◌∙◌, ap, subst}
use Rattle.pict_core.specs.Plain.{plain_val}
use Rattle.pict_core.specs.Step.{Comm}
use Rattle.pict_trace.specs.Reading.{ReadsShown}
use Rattle.pict_trace.proofs.Shown.{communication_found, no_number_bad, big_channel_bad, no_value_bad, no_end_bad, number_grows}
use Rattle.pict_trace.proofs.Growing.{gained_on, value_grows}
use Rattle.pict_trace.proofs.lines.read_communication.Goals as goal

pub returns-in_err-number-clause-bad : goal.returns-in_err-number-clause-bad
returns-in_err-number-clause-bad c e = no_number_bad c.args.text.now (c.number_before.ensures.bad (let k = rw e at c.from_residual.ensures.1 in c.in_err-number.was ∙ ap Err (sym k)))

pub returns-in_err-channel-clause-bad : goal.returns-in_err-channel-clause-bad
returns-in_err-channel-clause-bad c e =
    let n = c.in_ok-number.number in
    big_channel_bad c.args.text.now n.1.now n.0 c.in_ok-number.ensures.some c.in_ok-number.ensures.small
    (c.channel_number.ensures.bad (let k = rw e at c.from_residual-in_err-channel.ensures.1 in c.in_err-channel.was ∙ ap Err (sym k)))

pub returns-in_err-found-clause-bad : goal.returns-in_err-found-clause-bad
returns-in_err-found-clause-bad c e =
    let n = c.in_ok-number.number in
    no_value_bad c.args.text.now n.1.now n.0 c.in_ok-number.ensures.some c.in_ok-number.ensures.small
    (c.read_value.ensures.bad (let k = rw e at c.from_residual-in_err-found.ensures.1 in c.in_err-found.was ∙ ap Err (sym k)))

pub returns-in_err-found-clause-kept : goal.returns-in_err-found-clause-kept
returns-in_err-found-clause-kept c =
    let n = c.in_ok-number.number in
    gained_on c.args.text.now n.1.now c.args.names.now c.args.names.now c.read_value.new.names (number_grows c.args.text.now n.0 n.1.now c.args.names.now c.in_ok-number.ensures.some) c.read_value.ensures.kept

pub returns-in_err-rest-clause-bad : goal.returns-in_err-rest-clause-bad
returns-in_err-rest-clause-bad c e =
    let n = c.in_ok-number.number in
    no_end_bad c.read_value.new.names c.args.text.now n.1.now c.in_ok-found.found.rest.now n.0 (plain_val c.in_ok-found.found.value) c.in_ok-number.ensures.some c.in_ok-number.ensures.small c.in_ok-found.ensures.ok
    (c.end_line.ensures.bad (let k = rw e at c.from_residual-in_err-rest.ensures.1 in c.in_err-rest.was ∙ ap Err (sym k)))

pub returns-in_err-rest-clause-kept : goal.returns-in_err-rest-clause-kept
returns-in_err-rest-clause-kept c =
    let n = c.in_ok-number.number in
    gained_on c.args.text.now n.1.now c.args.names.now c.args.names.now c.read_value.new.names (number_grows c.args.text.now n.0 n.1.now c.args.names.now c.in_ok-number.ensures.some) c.read_value.ensures.kept

pub returns-clause-ok : goal.returns-clause-ok
returns-clause-ok c =
    let n = c.in_ok-number.number in
    let v = plain_val c.in_ok-found.found.value in
    let same : c.in_ok-channel.channel ≡ n.0 = c.in_ok-channel.ensures.ok in
    let small : n.0 < 2 ^ 32 = c.in_ok-channel.ensures.small in
    subst (λ k. ReadsShown c.read_value.new.names (99 ∷ c.args.text.now) (Comm k v) c.in_ok-rest.rest.now) (sym same)
    (communication_found c.read_value.new.names c.args.text.now n.1.now c.in_ok-found.found.rest.now c.in_ok-rest.rest.now n.0 v small c.in_ok-number.ensures.some c.in_ok-found.ensures.ok c.in_ok-rest.ensures.ok)

pub returns-clause-grows : goal.returns-clause-grows
returns-clause-grows c =
    let n = c.in_ok-number.number in
    value_grows c.args.text.now n.1.now c.in_ok-found.found.rest.now c.in_ok-rest.rest.now 10 c.args.names.now c.args.names.now c.read_value.new.names (number_grows c.args.text.now n.0 n.1.now c.args.names.now c.in_ok-number.ensures.some) c.in_ok-found.ensures.grows c.in_ok-rest.ensures.ok

pub returns-clause-kept : goal.returns-clause-kept
returns-clause-kept c =
    let n = c.in_ok-number.number in
    gained_on c.args.text.now n.1.now c.args.names.now c.args.names.now c.read_value.new.names (number_grows c.args.text.now n.0 n.1.now c.args.names.now c.in_ok-number.ensures.some) c.read_value.ensures.kept
