use Rattle.std.proofs.Common.{◌≡◌, length, sym, ◌∙◌, subst}
use Rattle.pict_core.specs.Closed.{IsOver}
use Rattle.pict_core.specs.Plain.{plain_val}
use Rattle.pict_code.specs.Plain.{plain_pat}
use Rattle.pict_desk.specs.Known.{known, operand_value}
use Rattle.pict_desk.specs.AtHand.{channel_named}
use Rattle.pict_desk.specs.Pairs.{ArePairs}
use Rattle.pict_desk.specs.Code.{core_in}
use Rattle.pict_turns.proofs.Outputs.{named_channel}
use Rattle.pict_meetings.proofs.AtChannels.{input_over, receives, no_input}
use Rattle.pict_meetings.proofs.receiving.input.Goals as goal

pub channel_at_hand-requires-clause-over : goal.channel_at_hand-requires-clause-over
channel_at_hand-requires-clause-over c =
    subst (λ values. IsOver (length values) 0 (plain_val c.args.chan.now)) (sym c.deref.ensures.value)
    (input_over (core_in c.args.code.now) c.args.store.now c.requires.may.code_is.closed c.args.replicated (plain_val c.args.chan.now) (plain_pat c.args.pattern.now) c.args.part c.requires.acts)

pub channel_at_hand-requires-clause-pairs : goal.channel_at_hand-requires-clause-pairs
channel_at_hand-requires-clause-pairs c = (c.args.store.now.desk.heap, subst (ArePairs c.args.store.now.desk.heap) (sym c.deref.ensures.value) c.requires.may.acting.store.pairs)

pub receive-requires-clause-receives : goal.receive-requires-clause-receives
receive-requires-clause-receives c =
    let s = c.args.store.now in
    let pairs = subst (ArePairs s.desk.heap) (sym c.deref.ensures.value) c.requires.may.acting.store.pairs in
    let named : c.channel_at_hand.result ≡ channel_named (operand_value (known s.desk.heap s.desk.values.items) (plain_val c.args.chan.now)) =
    subst (λ values. c.channel_at_hand.result ≡ channel_named (operand_value (known s.desk.heap values) (plain_val c.args.chan.now))) c.deref.ensures.value (c.channel_at_hand.ensures s.desk.heap pairs) in
    receives (core_in c.args.code.now) s c.requires.may.code_is.closed c.args.replicated (plain_val c.args.chan.now) (plain_pat c.args.pattern.now) c.args.part c.requires.acts
    c.in-Some.channel (named_channel (operand_value (known s.desk.heap s.desk.values.items) (plain_val c.args.chan.now)) c.in-Some.channel (sym c.in-Some.is ∙ named))

pub unreachable-requires : goal.unreachable-requires
unreachable-requires c =
    let s = c.args.store.now in
    let pairs = subst (ArePairs s.desk.heap) (sym c.deref.ensures.value) c.requires.may.acting.store.pairs in
    let named : c.channel_at_hand.result ≡ channel_named (operand_value (known s.desk.heap s.desk.values.items) (plain_val c.args.chan.now)) =
    subst (λ values. c.channel_at_hand.result ≡ channel_named (operand_value (known s.desk.heap values) (plain_val c.args.chan.now))) c.deref.ensures.value (c.channel_at_hand.ensures s.desk.heap pairs) in
    no_input (core_in c.args.code.now) s c.requires.may.code_is.closed c.args.replicated (plain_val c.args.chan.now) (plain_pat c.args.pattern.now) c.args.part c.requires.acts
    c.requires.may.right (sym c.in-None.is ∙ named)
