use Rattle.std.proofs.Common.{length, refl, sym, subst}
use Rattle.pict_core.specs.Closed.{IsOver}
use Rattle.pict_core.specs.Plain.{plain_val}
use Rattle.pict_desk.specs.Known.{known, operand_value}
use Rattle.pict_desk.specs.AtHand.{IsPairFor}
use Rattle.pict_desk.specs.Pairs.{ArePairs}
use Rattle.pict_prim.specs.declared.act.Need.{Need}
use Rattle.pict_turns.specs.Growing.{AddsAtMost}
use Rattle.pict_turns.proofs.Adding.{used_less}
use Rattle.pict_turns.proofs.Growing.{message_is}
use Rattle.pict_meetings.proofs.Growing.{sends_pair}
use Rattle.pict_meetings.proofs.sending.park_operand.Goals as goal

pub pair_there-requires-clause-over : goal.pair_there-requires-clause-over
pair_there-requires-clause-over c = subst (λ values. IsOver (length values) 0 (plain_val c.args.message.now)) (sym c.deref.ensures.value) c.requires.over

pub pair_there-requires-clause-pairs : goal.pair_there-requires-clause-pairs
pair_there-requires-clause-pairs c = (c.args.store.now.desk.heap, subst (ArePairs c.args.store.now.desk.heap) (sym c.deref.ensures.value) c.requires.pairs)

pub returns-in-Some-clause-step : goal.returns-in-Some-clause-step
returns-in-Some-clause-step c core x none =
    let s = c.args.store.now in
    let message = plain_val c.args.message.now in
    let pairs = subst (ArePairs s.desk.heap) (sym c.deref.ensures.value) c.requires.pairs in
    let pair : IsPairFor s.desk.heap (operand_value (known s.desk.heap s.desk.values.items) message) c.in-Some.pair =
    subst (λ values. IsPairFor s.desk.heap (operand_value (known s.desk.heap values) message) c.in-Some.pair) c.deref.ensures.value (c.in-Some.ensures.pair s.desk.heap pairs c.requires.constant) in
    c.park_words.ensures.step core (sends_pair core s c.args.channel message c.args.at x c.in-Some.pair pair) none

pub returns-in-Some-clause-adds : goal.returns-in-Some-clause-adds
returns-in-Some-clause-adds c = used_less c.args.store.now.desk.heap.room c.park_words.new.store.desk.heap.room _ c.park_words.ensures.adds

pub returns-in-None-clause-adds : goal.returns-in-None-clause-adds
returns-in-None-clause-adds c =
    let s = c.args.store.now in
    let none = c.in-None.ensures.none s.desk.heap c.requires.constant refl in
    subst (λ (n : Need). AddsAtMost s c.park_made.new.store n) (sym (message_is (plain_val c.args.message.now) (λ of_heap. none.1))) c.park_made.ensures.adds
