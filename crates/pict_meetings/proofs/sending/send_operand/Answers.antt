use Rattle.std.proofs.Common.{◌≡◌, length, map, refl, sym, subst}
use Rattle.pict_core.specs.Closed.{IsOver}
use Rattle.pict_core.specs.Plain.{plain_val}
use Rattle.pict_code.specs.Instruction as op
use Rattle.pict_desk.specs.Known.{known, operand_value}
use Rattle.pict_desk.specs.AtHand.{IsOfHeap, IsPairFor}
use Rattle.pict_desk.specs.Pairs.{ArePairs}
use Rattle.pict_desk.specs.Code.{core_in}
use Rattle.pict_desk.specs.Constants.{HasNoVariable}
use Rattle.pict_meetings.proofs.Growing.{operand_over, sends_whole, sends_pair}
use Rattle.pict_code.specs.Plain.{plain_node}
use Rattle.pict_prim.specs.declared.act.Need.{Need}
use Rattle.pict_desk.specs.Needs.{both_needs}
use Rattle.pict_turns.specs.Growing.{AddsAtMost, part_need}
use Rattle.pict_turns.proofs.Adding.{used_beside}
use Rattle.pict_turns.proofs.Growing.{message_is}
use Rattle.pict_turns.proofs.InPlace.{wordless_output}
use Rattle.pict_meetings.proofs.PassedOver.{step_or_passed}
use Rattle.pict_meetings.proofs.sending.send_operand.Goals as goal

pub pair_there-requires-clause-over : goal.pair_there-requires-clause-over
pair_there-requires-clause-over c =
    let x = c.requires.sends in
    subst (λ values. IsOver (length values) 0 (plain_val c.args.message.now)) (sym c.deref.ensures.value)
    (operand_over (core_in c.args.code.now) c.args.store.now c.args.channel (plain_val c.args.message.now) x.0 x.1)

pub pair_there-requires-clause-pairs : goal.pair_there-requires-clause-pairs
pair_there-requires-clause-pairs c = (c.args.store.now.desk.heap, subst (ArePairs c.args.store.now.desk.heap) (sym c.deref.ensures.value) c.requires.may.acting.store.pairs)

pub send_to_reader-done-requires-clause-sends : goal.send_to_reader-done-requires-clause-sends
send_to_reader-done-requires-clause-sends c =
    let s = c.args.store.now in
    let message = plain_val c.args.message.now in
    let x = c.requires.sends in
    let pairs = subst (ArePairs s.desk.heap) (sym c.deref.ensures.value) c.requires.may.acting.store.pairs in
    let pair : IsPairFor s.desk.heap (operand_value (known s.desk.heap s.desk.values.items) message) c.in-Some.pair =
    subst (λ values. IsPairFor s.desk.heap (operand_value (known s.desk.heap values) message) c.in-Some.pair) c.deref.ensures.value (c.in-Some.ensures.pair s.desk.heap pairs c.requires.constant) in
    (x.0, sends_whole _ _ _ _ _ (sends_pair (core_in c.args.code.now) s c.args.channel message x.0 x.1 c.in-Some.pair pair))

pub returns-in-None-clause-plain : goal.returns-in-None-clause-plain
returns-in-None-clause-plain c x =
    let s = c.args.store.now in
    let sends = c.requires.sends in
    let message = plain_val c.args.message.now in
    let wordless = wordless_output (core_in c.args.code.now) s (op.Out sends.1.chan message sends.0) sends.1.acts x in
    let is : op.Out sends.1.chan message sends.0 ≡ op.Out wordless.0 wordless.1 wordless.2 = wordless.3 in
    let same : message ≡ wordless.1 = cc in
    let none = c.in-None.ensures.none s.desk.heap c.requires.constant refl in
    absurd (none.1 (subst HasNoVariable (sym same) (wordless.4 (subst IsOfHeap same none.0))))

pub returns-in-Some-clause-adds : goal.returns-in-Some-clause-adds
returns-in-Some-clause-adds c replicated pattern part i =
    used_beside c.args.store.now.desk.heap.room c.send_to_reader-done.new.store.desk.heap.room _ _ (c.send_to_reader-done.ensures.adds replicated pattern part i)

pub returns-in-None-clause-adds : goal.returns-in-None-clause-adds
returns-in-None-clause-adds c replicated pattern part i =
    let s = c.args.store.now in
    let none = c.in-None.ensures.none s.desk.heap c.requires.constant refl in
    subst (λ (n : Need). AddsAtMost s c.send_unmade.new.store (both_needs n (part_need (map plain_node c.args.code.now) part))) (sym (message_is (plain_val c.args.message.now) (λ of_heap. none.1)))
    (c.send_unmade.ensures.adds replicated pattern part i)

pub returns-in-Some-clause-step : goal.returns-in-Some-clause-step
returns-in-Some-clause-step c =
    step_or_passed _ _ _ _ _ (c.receipt.ensures.step (core_in c.args.code.now) c.args.store.now c.send_to_reader-done.new.store c.send_to_reader-done.ensures.ok c.send_to_reader-done.ensures.refused)
