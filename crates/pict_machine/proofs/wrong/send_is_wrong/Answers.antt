use Rattle.std.proofs.Common.{◌≡◌, not, length, sym, ap, ◌∙◌, subst}
use Rattle.pict_core.specs.Closed.{IsOver}
use Rattle.pict_core.specs.Matching.{match_value}
use Rattle.pict_core.specs.Plain.{plain_val}
use Rattle.pict_code.specs.Plain.{plain_pat}
use Rattle.pict_code.specs.ReadBack.{unleveled}
use Rattle.pict_turns.proofs.Numbered.{operands_over}
use Rattle.pict_desk.specs.Arguments.{operand_in}
use Rattle.pict_desk.specs.AtHand.{channel_named}
use Rattle.pict_desk.specs.Code.{core_in}
use Rattle.pict_desk.specs.Pairs.{ArePairs}
use Rattle.pict_meetings.proofs.Ops.{input_waits_first}
use Rattle.pict_meetings.proofs.Serving.{input_coded}
use Rattle.pict_shapes.specs.Fitting.{is_found}
use Rattle.pict_machine.proofs.Asking.{output_queue, output_at, sent_wrong, none_served}
use Rattle.pict_machine.proofs.wrong.send_is_wrong.Goals as goal

pub channel_at_hand-requires-clause-over : goal.channel_at_hand-requires-clause-over
channel_at_hand-requires-clause-over c =
    let s = c.args.store.now in
    let a = c.requires.acts in
    subst (λ values. IsOver (length values) 0 (plain_val c.args.chan.now)) (sym c.deref.ensures.value)
    (operands_over (core_in c.args.code.now) s (plain_val c.args.chan.now) (plain_val c.args.message.now) a.0 c.requires.code.closed a.1).0

pub channel_at_hand-requires-clause-pairs : goal.channel_at_hand-requires-clause-pairs
channel_at_hand-requires-clause-pairs c = (c.args.store.now.desk.heap, subst (ArePairs c.args.store.now.desk.heap) (sym c.deref.ensures.value) c.requires.may.acting.store.pairs)

pub first_waiting-requires-clause-queue : goal.first_waiting-requires-clause-queue
first_waiting-requires-clause-queue c =
    let s = c.args.store.now in
    let chan = plain_val c.args.chan.now in
    let message = plain_val c.args.message.now in
    let a = c.requires.acts in
    let pairs = subst (ArePairs s.desk.heap) (sym c.deref.ensures.value) c.requires.may.acting.store.pairs in
    let named = subst (λ values. c.channel_at_hand.result ≡ channel_named (operand_in s.desk.heap values chan)) c.deref.ensures.value (c.channel_at_hand.ensures s.desk.heap pairs) in
    output_queue (core_in c.args.code.now) s c.requires.may c.in-Some.channel (operand_in s.desk.heap s.desk.values.items message) a.0
    (output_at (core_in c.args.code.now) s c.requires.may c.requires.code.closed chan message a.0 c.in-Some.channel a.1 (sym c.in-Some.is ∙ named))

pub first_waiting-requires-clause-waiting : goal.first_waiting-requires-clause-waiting
first_waiting-requires-clause-waiting c = (core_in c.args.code.now, c.requires.may.acting.store.waiting c.in-Some.channel)

pub pattern_at-pattern-requires : goal.pattern_at-pattern-requires
pattern_at-pattern-requires c =
    let w = input_waits_first c.args.code.now c.args.store.now c.in-Some.channel c.in-Input.reader c.requires.code c.requires.may.acting.store (sym c.first_waiting.ensures.first ∙ c.in-Input.is) in
    record { inside = w.low; input = (w.replicated, w.pattern, w.part, w.input) }

pub fits_operand-requires : goal.fits_operand-requires
fits_operand-requires c =
    let s = c.args.store.now in
    let a = c.requires.acts in
    record {
      over = subst (λ values. IsOver (length values) 0 (plain_val c.args.message.now)) (sym c.deref-in-Input.ensures.value)
          (operands_over (core_in c.args.code.now) s (plain_val c.args.chan.now) (plain_val c.args.message.now) a.0 c.requires.code.closed a.1).1;
      pairs = subst (ArePairs s.desk.heap) (sym c.deref-in-Input.ensures.value) c.requires.may.acting.store.pairs;
    }

pub returns-in-Input-clause-wrong : goal.returns-in-Input-clause-wrong
returns-in-Input-clause-wrong c =
    let core = core_in c.args.code.now in
    let s = c.args.store.now in
    let chan = plain_val c.args.chan.now in
    let message = plain_val c.args.message.now in
    let a = c.requires.acts in
    let pairs = subst (ArePairs s.desk.heap) (sym c.deref.ensures.value) c.requires.may.acting.store.pairs in
    let named = subst (λ values. c.channel_at_hand.result ≡ channel_named (operand_in s.desk.heap values chan)) c.deref.ensures.value (c.channel_at_hand.ensures s.desk.heap pairs) in
    let first = sym c.first_waiting.ensures.first ∙ c.in-Input.is in
    let w = input_waits_first c.args.code.now s c.in-Some.channel c.in-Input.reader c.requires.code c.requires.may.acting.store first in
    ap not (c.fits_operand.ensures
    ∙ ap (λ values. is_found (match_value (unleveled (plain_pat c.pattern_at-pattern.result.now)) (operand_in s.desk.heap values message))) c.deref-in-Input.ensures.value
    ∙ ap (λ p. is_found (match_value (unleveled p) (operand_in s.desk.heap s.desk.values.items message))) (c.pattern_at-pattern.ensures w.replicated w.pattern w.part w.input))
    ∙ sym (sent_wrong core s c.requires.may c.in-Some.channel (operand_in s.desk.heap s.desk.values.items message) a.0 c.in-Input.reader w.replicated w.pattern w.part
    (output_at core s c.requires.may c.requires.code.closed chan message a.0 c.in-Some.channel a.1 (sym c.in-Some.is ∙ named)) first
    (input_coded _ c.in-Input.reader w.part w.replicated w.pattern c.requires.code w.input))

pub returns-in_default-clause-wrong : goal.returns-in_default-clause-wrong
returns-in_default-clause-wrong c =
    let core = core_in c.args.code.now in
    let s = c.args.store.now in
    let chan = plain_val c.args.chan.now in
    let message = plain_val c.args.message.now in
    let a = c.requires.acts in
    let pairs = subst (ArePairs s.desk.heap) (sym c.deref.ensures.value) c.requires.may.acting.store.pairs in
    let named = subst (λ values. c.channel_at_hand.result ≡ channel_named (operand_in s.desk.heap values chan)) c.deref.ensures.value (c.channel_at_hand.ensures s.desk.heap pairs) in
    sym (none_served core s c.requires.may c.in-Some.channel (operand_in s.desk.heap s.desk.values.items message) a.0
    (output_at core s c.requires.may c.requires.code.closed chan message a.0 c.in-Some.channel a.1 (sym c.in-Some.is ∙ named))
    (λ number e. c.in_default.not-Input number (c.first_waiting.ensures.first ∙ e)))

pub call_is_wrong-requires-clause-elsewhere : goal.call_is_wrong-requires-clause-elsewhere
call_is_wrong-requires-clause-elsewhere c =
    let s = c.args.store.now in
    let chan = plain_val c.args.chan.now in
    let pairs = subst (ArePairs s.desk.heap) (sym c.deref.ensures.value) c.requires.may.acting.store.pairs in
    let named = subst (λ values. c.channel_at_hand.result ≡ channel_named (operand_in s.desk.heap values chan)) c.deref.ensures.value (c.channel_at_hand.ensures s.desk.heap pairs) in
    sym c.in-None.is ∙ named
