use Rattle.std.proofs.Common.{◌≡◌, length, sym, ◌∙◌, subst, ap}
use Rattle.pict_core.specs.Closed.{IsOver}
use Rattle.pict_core.specs.Plain.{plain_val}
use Rattle.pict_desk.specs.Known.{known, operand_value}
use Rattle.pict_desk.specs.AtHand.{channel_named, StandsForPrimitive}
use Rattle.pict_desk.specs.Pairs.{ArePairs}
use Rattle.pict_turns.proofs.Numbered.{operands_over}
use Rattle.pict_calls.proofs.Outputs.{takes, node_call}
use Rattle.pict_desk.specs.Arguments.{operand_in}
use Rattle.pict_desk.specs.Code.{core_in}
use Rattle.pict_turns.proofs.Outputs.{named_channel, node_sent_to}
use Rattle.pict_meetings.proofs.PassedOver.{steps_or_passes}
use Rattle.pict_acting.proofs.outputs.output.Goals as goal
use Rattle.pict_core.specs.Term.{PrimitiveVal}

pub channel_at_hand-requires-clause-over : goal.channel_at_hand-requires-clause-over
channel_at_hand-requires-clause-over c =
    let s = c.args.store.now in
    subst (λ values. IsOver (length values) 0 (plain_val c.args.chan.now)) (sym c.deref.ensures.value)
    (operands_over (core_in c.args.code.now) s (plain_val c.args.chan.now) (plain_val c.args.message.now) c.args.at c.requires.may.code_is.closed c.requires.acts).0

pub channel_at_hand-requires-clause-pairs : goal.channel_at_hand-requires-clause-pairs
channel_at_hand-requires-clause-pairs c = (c.args.store.now.desk.heap, subst (ArePairs c.args.store.now.desk.heap) (sym c.deref.ensures.value) c.requires.may.acting.store.pairs)

pub send-requires-clause-sends : goal.send-requires-clause-sends
send-requires-clause-sends c =
    let s = c.args.store.now in
    let pairs = subst (ArePairs s.desk.heap) (sym c.deref.ensures.value) c.requires.may.acting.store.pairs in
    let named : c.channel_at_hand.result ≡ channel_named (operand_value (known s.desk.heap s.desk.values.items) (plain_val c.args.chan.now)) =
    subst (λ values. c.channel_at_hand.result ≡ channel_named (operand_value (known s.desk.heap values) (plain_val c.args.chan.now))) c.deref.ensures.value (c.channel_at_hand.ensures s.desk.heap pairs) in
    record {
      closed = c.requires.may.code_is.closed;
      chan = plain_val c.args.chan.now;
      acts = c.requires.acts;
      to = named_channel (operand_value (known s.desk.heap s.desk.values.items) (plain_val c.args.chan.now)) c.in-Some.channel (sym c.in-Some.is ∙ named);
    }

pub primitive_at_hand-p-requires-clause-over : goal.primitive_at_hand-p-requires-clause-over
primitive_at_hand-p-requires-clause-over c =
    let s = c.args.store.now in
    subst (λ values. IsOver (length values) 0 (plain_val c.args.chan.now)) (sym c.deref-in-None.ensures.value)
    (operands_over (core_in c.args.code.now) s (plain_val c.args.chan.now) (plain_val c.args.message.now) c.args.at c.requires.may.code_is.closed c.requires.acts).0

pub primitive_at_hand-p-requires-clause-is : goal.primitive_at_hand-p-requires-clause-is
primitive_at_hand-p-requires-clause-is c =
    let core = core_in c.args.code.now in
    let s = c.args.store.now in
    let chan = plain_val c.args.chan.now in
    let message = plain_val c.args.message.now in
    let pairs = subst (ArePairs s.desk.heap) (sym c.deref.ensures.value) c.requires.may.acting.store.pairs in
    let named : c.channel_at_hand.result ≡ channel_named (operand_value (known s.desk.heap s.desk.values.items) chan) =
    subst (λ values. c.channel_at_hand.result ≡ channel_named (operand_value (known s.desk.heap values) chan)) c.deref.ensures.value (c.channel_at_hand.ensures s.desk.heap pairs) in
    let to = node_sent_to core s c.requires.may.code_is.closed chan message c.args.at c.requires.acts c.requires.may.right (sym c.in-None.is ∙ named) in
    (s.desk.heap, to.0, subst (λ values. StandsForPrimitive s.desk.heap values chan to.0) (sym c.deref-in-None.ensures.value) (record { pairs = c.requires.may.acting.store.pairs; is = to.1 }))

pub call_message-requires-clause-over : goal.call_message-requires-clause-over
call_message-requires-clause-over c =
    (operands_over (core_in c.args.code.now) c.args.store.now (plain_val c.args.chan.now) (plain_val c.args.message.now) c.args.at c.requires.may.code_is.closed c.requires.acts).1

pub call_message-requires-clause-takes : goal.call_message-requires-clause-takes
call_message-requires-clause-takes c =
    let core = core_in c.args.code.now in
    let s = c.args.store.now in
    let chan = plain_val c.args.chan.now in
    let message = plain_val c.args.message.now in
    let may = c.requires.may in
    let pairs = subst (ArePairs s.desk.heap) (sym c.deref.ensures.value) may.acting.store.pairs in
    let named : c.channel_at_hand.result ≡ channel_named (operand_value (known s.desk.heap s.desk.values.items) chan) =
    subst (λ values. c.channel_at_hand.result ≡ channel_named (operand_value (known s.desk.heap values) chan)) c.deref.ensures.value (c.channel_at_hand.ensures s.desk.heap pairs) in
    let calls = node_call core s may.code_is.closed chan message c.args.at c.requires.acts may.right (sym c.in-None.is ∙ named) c.primitive_at_hand-p.result
    (λ q e. c.primitive_at_hand-p.ensures s.desk.heap q (subst (λ values. StandsForPrimitive s.desk.heap values chan q) (sym c.deref-in-None.ensures.value) (record { pairs = may.acting.store.pairs; is = e }))) in
    takes core s c.primitive_at_hand-p.result (operand_in s.desk.heap s.desk.values.items message) c.args.at calls may.right

pub returns-in-None : goal.returns-in-None
returns-in-None c =
    let core = core_in c.args.code.now in
    let s = c.args.store.now in
    let chan = plain_val c.args.chan.now in
    let message = plain_val c.args.message.now in
    let may = c.requires.may in
    let pairs = subst (ArePairs s.desk.heap) (sym c.deref.ensures.value) may.acting.store.pairs in
    let named : c.channel_at_hand.result ≡ channel_named (operand_value (known s.desk.heap s.desk.values.items) chan) =
    subst (λ values. c.channel_at_hand.result ≡ channel_named (operand_value (known s.desk.heap values) chan)) c.deref.ensures.value (c.channel_at_hand.ensures s.desk.heap pairs) in
    let to = node_sent_to core s may.code_is.closed chan message c.args.at c.requires.acts may.right (sym c.in-None.is ∙ named) in
    let same = c.primitive_at_hand-p.ensures s.desk.heap to.0
    (subst (λ values. StandsForPrimitive s.desk.heap values chan to.0) (sym c.deref-in-None.ensures.value) (record { pairs = may.acting.store.pairs; is = to.1 })) in
    record { steps = steps_or_passes _ _ _ _ _ (c.call_message.ensures.steps c.args.code.now chan may c.requires.acts (to.1 ∙ ap PrimitiveVal (sym same))) }
