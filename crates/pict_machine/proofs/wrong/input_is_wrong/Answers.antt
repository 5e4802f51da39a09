use Rattle.std.proofs.Common.{◌≡◌, ◌+◌, ◌<◌, ℕ, not, length, sym, ap, ◌∙◌, subst}
use Rattle.pict_core.specs.Closed.{IsOver}
use Rattle.pict_core.specs.Matching.{match_value}
use Rattle.pict_core.specs.Plain.{plain_val}
use Rattle.pict_code.specs.Plain.{plain_pat}
use Rattle.pict_code.specs.ReadBack.{unleveled}
use Rattle.pict_queue.specs.Contents.{contents}
use Rattle.pict_queue.specs.QueuesState.{QueuesState}
use Rattle.pict_desk.specs.Arguments.{operand_in}
use Rattle.pict_desk.specs.AtHand.{channel_named}
use Rattle.pict_desk.specs.Code.{core_in}
use Rattle.pict_desk.specs.Known.{value_in}
use Rattle.pict_desk.specs.Pairs.{IsPair, ArePairs}
use Rattle.pict_shapes.specs.Fitting.{is_found}
use Rattle.pict_machine.proofs.Asking.{input_queue, input_is, input_at, received_nowhere, taken_wrong, none_taken, first_message}
use Rattle.pict_meetings.proofs.AtChannels.{input_over}
use Rattle.pict_turns.proofs.Outputs.{word_is, pair_value}
use Rattle.pict_machine.proofs.wrong.input_is_wrong.Goals as goal

pub channel_at_hand-requires-clause-over : goal.channel_at_hand-requires-clause-over
channel_at_hand-requires-clause-over c =
    let a = c.requires.acts in
    subst (λ values. IsOver (length values) 0 (plain_val c.args.chan.now)) (sym c.deref.ensures.value)
    (input_over (core_in c.args.code.now) c.args.store.now c.requires.code.closed a.0 (plain_val c.args.chan.now) (plain_pat c.args.pattern.now) a.1 a.2)

pub channel_at_hand-requires-clause-pairs : goal.channel_at_hand-requires-clause-pairs
channel_at_hand-requires-clause-pairs c = (c.args.store.now.desk.heap, subst (ArePairs c.args.store.now.desk.heap) (sym c.deref.ensures.value) c.requires.may.acting.store.pairs)

pub first_waiting-requires-clause-queue : goal.first_waiting-requires-clause-queue
first_waiting-requires-clause-queue c =
    let s = c.args.store.now in
    let chan = plain_val c.args.chan.now in
    let a = c.requires.acts in
    let pairs = subst (ArePairs s.desk.heap) (sym c.deref.ensures.value) c.requires.may.acting.store.pairs in
    let named = subst (λ values. c.channel_at_hand.result ≡ channel_named (operand_in s.desk.heap values chan)) c.deref.ensures.value (c.channel_at_hand.ensures s.desk.heap pairs) in
    let i = input_at (core_in c.args.code.now) s c.requires.may c.requires.code.closed a.0 chan (plain_pat c.args.pattern.now) a.1 c.in-Some.channel a.2 (sym c.in-Some.is ∙ named) in
    input_queue (core_in c.args.code.now) s c.requires.may c.in-Some.channel a.0 (unleveled (plain_pat c.args.pattern.now)) i.0 i.1

pub first_waiting-requires-clause-waiting : goal.first_waiting-requires-clause-waiting
first_waiting-requires-clause-waiting c = (core_in c.args.code.now, c.requires.may.acting.store.waiting c.in-Some.channel)

pub waiting_message-message-requires-clause-queue : goal.waiting_message-message-requires-clause-queue
waiting_message-message-requires-clause-queue c =
    let s = c.args.store.now in
    let chan = plain_val c.args.chan.now in
    let a = c.requires.acts in
    let pairs = subst (ArePairs s.desk.heap) (sym c.deref.ensures.value) c.requires.may.acting.store.pairs in
    let named = subst (λ values. c.channel_at_hand.result ≡ channel_named (operand_in s.desk.heap values chan)) c.deref.ensures.value (c.channel_at_hand.ensures s.desk.heap pairs) in
    let i = input_at (core_in c.args.code.now) s c.requires.may c.requires.code.closed a.0 chan (plain_pat c.args.pattern.now) a.1 c.in-Some.channel a.2 (sym c.in-Some.is ∙ named) in
    subst (λ (q : QueuesState). c.in-Some.channel + 1 < length q.queues) (sym c.first_waiting.ensures.rest)
    (input_queue (core_in c.args.code.now) s c.requires.may c.in-Some.channel a.0 (unleveled (plain_pat c.args.pattern.now)) i.0 i.1)

pub waiting_message-message-requires-clause-kept : goal.waiting_message-message-requires-clause-kept
waiting_message-message-requires-clause-kept c =
    let s = c.args.store.now in
    let m = first_message (core_in c.args.code.now) s.desk.heap (contents s.queues (c.in-Some.channel + 1)) (c.requires.may.acting.store.blocks (c.in-Some.channel + 1)) (sym c.first_waiting.ensures.first ∙ c.in-Output.is) in
    (m.kept, m.others, c.first_waiting.ensures.contents (c.in-Some.channel + 1) ∙ m.is)

pub word_at-requires : goal.word_at-requires
word_at-requires c =
    let s = c.args.store.now in
    let m = first_message (core_in c.args.code.now) s.desk.heap (contents s.queues (c.in-Some.channel + 1)) (c.requires.may.acting.store.blocks (c.in-Some.channel + 1)) (sym c.first_waiting.ensures.first ∙ c.in-Output.is) in
    let same = c.waiting_message-message.ensures.message m.kept m.others (c.first_waiting.ensures.contents (c.in-Some.channel + 1) ∙ m.is) in
    let pair = subst (IsPair s.desk.heap) (sym same) m.message in
    (pair.word, pair.fits, pair.packs)

pub fits-requires : goal.fits-requires
fits-requires c =
    let s = c.args.store.now in
    let m = first_message (core_in c.args.code.now) s.desk.heap (contents s.queues (c.in-Some.channel + 1)) (c.requires.may.acting.store.blocks (c.in-Some.channel + 1)) (sym c.first_waiting.ensures.first ∙ c.in-Output.is) in
    let same = c.waiting_message-message.ensures.message m.kept m.others (c.first_waiting.ensures.contents (c.in-Some.channel + 1) ∙ m.is) in
    let pair = subst (IsPair s.desk.heap) (sym same) m.message in
    record { word = word_is s.desk.heap c.waiting_message-message.result pair c.word_at.result c.word_at.ensures }

pub returns-in-Output-clause-wrong : goal.returns-in-Output-clause-wrong
returns-in-Output-clause-wrong c =
    let s = c.args.store.now in
    let chan = plain_val c.args.chan.now in
    let a = c.requires.acts in
    let pairs = subst (ArePairs s.desk.heap) (sym c.deref.ensures.value) c.requires.may.acting.store.pairs in
    let named = subst (λ values. c.channel_at_hand.result ≡ channel_named (operand_in s.desk.heap values chan)) c.deref.ensures.value (c.channel_at_hand.ensures s.desk.heap pairs) in
    let m = first_message (core_in c.args.code.now) s.desk.heap (contents s.queues (c.in-Some.channel + 1)) (c.requires.may.acting.store.blocks (c.in-Some.channel + 1)) (sym c.first_waiting.ensures.first ∙ c.in-Output.is) in
    let same = c.waiting_message-message.ensures.message m.kept m.others (c.first_waiting.ensures.contents (c.in-Some.channel + 1) ∙ m.is) in
    let pair = subst (IsPair s.desk.heap) (sym same) m.message in
    let pattern = unleveled (plain_pat c.args.pattern.now) in
    let i = input_at (core_in c.args.code.now) s c.requires.may c.requires.code.closed a.0 chan (plain_pat c.args.pattern.now) a.1 c.in-Some.channel a.2 (sym c.in-Some.is ∙ named) in
    ap not (c.fits.ensures ∙ ap (λ v. is_found (match_value pattern v)) (sym (pair_value s.desk.heap c.waiting_message-message.result pair c.word_at.result c.word_at.ensures) ∙ ap (λ (x : ℕ × ℕ). value_in s.desk.heap x.0 x.1) same))
    ∙ sym (taken_wrong (core_in c.args.code.now) s c.requires.may c.in-Some.channel a.0 pattern i.0 m.kept m.others i.1 m.is)

pub returns-in_default-clause-wrong : goal.returns-in_default-clause-wrong
returns-in_default-clause-wrong c =
    let s = c.args.store.now in
    let chan = plain_val c.args.chan.now in
    let a = c.requires.acts in
    let pairs = subst (ArePairs s.desk.heap) (sym c.deref.ensures.value) c.requires.may.acting.store.pairs in
    let named = subst (λ values. c.channel_at_hand.result ≡ channel_named (operand_in s.desk.heap values chan)) c.deref.ensures.value (c.channel_at_hand.ensures s.desk.heap pairs) in
    let i = input_at (core_in c.args.code.now) s c.requires.may c.requires.code.closed a.0 chan (plain_pat c.args.pattern.now) a.1 c.in-Some.channel a.2 (sym c.in-Some.is ∙ named) in
    sym (none_taken (core_in c.args.code.now) s c.requires.may c.in-Some.channel a.0 (unleveled (plain_pat c.args.pattern.now)) i.0 i.1 (λ e. c.in_default.not-Output (c.first_waiting.ensures.first ∙ e)))

pub returns-in-None-clause-wrong : goal.returns-in-None-clause-wrong
returns-in-None-clause-wrong c =
    let s = c.args.store.now in
    let chan = plain_val c.args.chan.now in
    let a = c.requires.acts in
    let pairs = subst (ArePairs s.desk.heap) (sym c.deref.ensures.value) c.requires.may.acting.store.pairs in
    let named = subst (λ values. c.channel_at_hand.result ≡ channel_named (operand_in s.desk.heap values chan)) c.deref.ensures.value (c.channel_at_hand.ensures s.desk.heap pairs) in
    let i = input_is (core_in c.args.code.now) s c.requires.may c.requires.code.closed a.0 chan (plain_pat c.args.pattern.now) a.1 a.2 in
    sym (received_nowhere (core_in c.args.code.now) s c.requires.may (operand_in s.desk.heap s.desk.values.items chan) a.0 (unleveled (plain_pat c.args.pattern.now)) i.0 i.1 (sym c.in-None.is ∙ named))
