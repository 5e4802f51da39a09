use Rattle.std.proofs.Common.{length, sym, subst}
use Rattle.pict_core.specs.Closed.{IsOver}
use Rattle.pict_core.specs.Plain.{plain_val}
use Rattle.pict_desk.specs.Arguments.{operand_in}
use Rattle.pict_desk.specs.Code.{core_in}
use Rattle.pict_desk.specs.Pairs.{ArePairs}
use Rattle.pict_turns.proofs.Adding.{used_beside}
use Rattle.pict_meetings.specs.Sent.{IsSentFor}
use Rattle.pict_meetings.proofs.Growing.{operand_over, sends_sent}
use Rattle.pict_meetings.proofs.Ops.{input_waits_first}
use Rattle.pict_meetings.proofs.sending.send_unmade.Goals as goal

pub unmade-requires-clause-inside : goal.unmade-requires-clause-inside
unmade-requires-clause-inside c = (input_waits_first c.args.code.now c.args.store.now c.args.channel c.args.reader c.requires.may.code_is c.requires.may.acting.store c.requires.first).low

pub unmade-requires-clause-input : goal.unmade-requires-clause-input
unmade-requires-clause-input c =
    let w = input_waits_first c.args.code.now c.args.store.now c.args.channel c.args.reader c.requires.may.code_is c.requires.may.acting.store c.requires.first in
    (w.replicated, w.pattern, w.part, w.input)

pub unmade-requires-clause-over : goal.unmade-requires-clause-over
unmade-requires-clause-over c =
    let x = c.requires.sends in
    subst (λ values. IsOver (length values) 0 (plain_val c.args.message.now)) (sym c.deref.ensures.value)
    (operand_over (core_in c.args.code.now) c.args.store.now c.args.channel (plain_val c.args.message.now) x.0 x.1)

pub unmade-requires-clause-pairs : goal.unmade-requires-clause-pairs
unmade-requires-clause-pairs c = (c.args.store.now.desk.heap, subst (ArePairs c.args.store.now.desk.heap) (sym c.deref.ensures.value) c.requires.may.acting.store.pairs)

pub send_to_reader-requires-clause-sends : goal.send_to_reader-requires-clause-sends
send_to_reader-requires-clause-sends c =
    let s = c.args.store.now in
    let message = plain_val c.args.message.now in
    let x = c.requires.sends in
    let pairs = subst (ArePairs s.desk.heap) (sym c.deref.ensures.value) c.requires.may.acting.store.pairs in
    let is : IsSentFor s.desk.heap (operand_in s.desk.heap s.desk.values.items message) c.in-Some.sent =
    subst (λ values. IsSentFor s.desk.heap (operand_in s.desk.heap values message) c.in-Some.sent) c.deref.ensures.value (c.in-Some.ensures.sent s.desk.heap pairs) in
    (x.0, sends_sent (core_in c.args.code.now) s c.args.channel message x.0 x.1 c.in-Some.sent is)

pub returns-in-Some-clause-step : goal.returns-in-Some-clause-step
returns-in-Some-clause-step c =
    c.passed.ensures (core_in c.args.code.now) c.args.store.now c.send_to_reader.new.store c.args.channel c.in-Some.sent c.args.passes c.send_to_reader.ensures.ok c.send_to_reader.ensures.refused c.if-passes.true

pub returns-in-Some-clause-adds : goal.returns-in-Some-clause-adds
returns-in-Some-clause-adds c replicated pattern part i =
    used_beside c.args.store.now.desk.heap.room c.send_to_reader.new.store.desk.heap.room _ _ (c.send_to_reader.ensures.adds replicated pattern part i)
