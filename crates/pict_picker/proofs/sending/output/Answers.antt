use Rattle.std.proofs.Common.{ℕ, ◌≡◌, List, length, sym, ap, ◌∙◌, subst}
use Rattle.pict_core.specs.Closed.{IsOver}
use Rattle.pict_core.specs.Plain.{plain_val}
use Rattle.pict_core.specs.Term.{PrimitiveVal}
use Rattle.pict_desk.specs.Arguments.{operand_in}
use Rattle.pict_desk.specs.AtHand.{channel_named, StandsForPrimitive}
use Rattle.pict_desk.specs.Code.{core_in}
use Rattle.pict_desk.specs.Pairs.{ArePairs}
use Rattle.pict_picker.specs.Picker.{channel_processes}
use Rattle.pict_picker.proofs.Acts.{named_channel}
use Rattle.pict_picker.proofs.Deeds.{makes_desk}
use Rattle.pict_picker.proofs.Outputs.{operands_over, output_primitive, calls_is, calls_taken, called_ok}
use Rattle.pict_picker.proofs.sending.output.Goals as goal

pub channel_at_hand-requires-clause-over : goal.channel_at_hand-requires-clause-over
channel_at_hand-requires-clause-over c =
    let d = c.args.desk.now in
    let lists = channel_processes (core_in c.args.code.now) d.heap c.args.lists.now in
    subst (λ (vs : List (ℕ × ℕ)). IsOver (length vs) 0 (plain_val c.args.chan.now)) (sym c.deref.ensures.value)
    (operands_over c.args.code.now d lists c.args.j (plain_val c.args.chan.now) (plain_val c.args.message.now) c.args.at c.requires.acts.0 c.requires.acts.1).0

pub channel_at_hand-requires-clause-pairs : goal.channel_at_hand-requires-clause-pairs
channel_at_hand-requires-clause-pairs c = (c.args.desk.now.heap, subst (ArePairs c.args.desk.now.heap) (sym c.deref.ensures.value) c.requires.acts.1.may.desk.pairs)

pub send_operand-requires-clause-to : goal.send_operand-requires-clause-to
send_operand-requires-clause-to c =
    let d = c.args.desk.now in
    let pairs = subst (ArePairs d.heap) (sym c.deref.ensures.value) c.requires.acts.1.may.desk.pairs in
    let named : c.channel_at_hand.result ≡ channel_named (operand_in d.heap d.values.items (plain_val c.args.chan.now)) =
    subst (λ (vs : List (ℕ × ℕ)). c.channel_at_hand.result ≡ channel_named (operand_in d.heap vs (plain_val c.args.chan.now))) c.deref.ensures.value (c.channel_at_hand.ensures d.heap pairs) in
    named_channel (operand_in d.heap d.values.items (plain_val c.args.chan.now)) c.in-Some.channel (sym c.in-Some.is ∙ named)

pub primitive_at_hand-p-requires-clause-over : goal.primitive_at_hand-p-requires-clause-over
primitive_at_hand-p-requires-clause-over c =
    let d = c.args.desk.now in
    let lists = channel_processes (core_in c.args.code.now) d.heap c.args.lists.now in
    subst (λ (vs : List (ℕ × ℕ)). IsOver (length vs) 0 (plain_val c.args.chan.now)) (sym c.deref-in-None.ensures.value)
    (operands_over c.args.code.now d lists c.args.j (plain_val c.args.chan.now) (plain_val c.args.message.now) c.args.at c.requires.acts.0 c.requires.acts.1).0

pub primitive_at_hand-p-requires-clause-is : goal.primitive_at_hand-p-requires-clause-is
primitive_at_hand-p-requires-clause-is c =
    let d = c.args.desk.now in
    let chan = plain_val c.args.chan.now in
    let lists = channel_processes (core_in c.args.code.now) d.heap c.args.lists.now in
    let pairs = subst (ArePairs d.heap) (sym c.deref.ensures.value) c.requires.acts.1.may.desk.pairs in
    let named : c.channel_at_hand.result ≡ channel_named (operand_in d.heap d.values.items chan) =
    subst (λ (vs : List (ℕ × ℕ)). c.channel_at_hand.result ≡ channel_named (operand_in d.heap vs chan)) c.deref.ensures.value (c.channel_at_hand.ensures d.heap pairs) in
    let p = output_primitive c.args.code.now d lists c.args.j chan (plain_val c.args.message.now) c.args.at c.requires.acts.0 c.requires.acts.1 (sym c.in-None.is ∙ named) in
    (d.heap, p.0, subst (λ (vs : List (ℕ × ℕ)). StandsForPrimitive d.heap vs chan p.0) (sym c.deref-in-None.ensures.value) (record { pairs = c.requires.acts.1.may.desk.pairs; is = p.1 }))

pub call_operand-requires : goal.call_operand-requires
call_operand-requires c =
    let d = c.args.desk.now in
    let chan = plain_val c.args.chan.now in
    let lists = channel_processes (core_in c.args.code.now) d.heap c.args.lists.now in
    let a = c.requires.acts in
    let pairs = subst (ArePairs d.heap) (sym c.deref.ensures.value) a.1.may.desk.pairs in
    let named : c.channel_at_hand.result ≡ channel_named (operand_in d.heap d.values.items chan) =
    subst (λ (vs : List (ℕ × ℕ)). c.channel_at_hand.result ≡ channel_named (operand_in d.heap vs chan)) c.deref.ensures.value (c.channel_at_hand.ensures d.heap pairs) in
    let p = output_primitive c.args.code.now d lists c.args.j chan (plain_val c.args.message.now) c.args.at a.0 a.1 (sym c.in-None.is ∙ named) in
    let same = c.primitive_at_hand-p.ensures d.heap p.0
    (subst (λ (vs : List (ℕ × ℕ)). StandsForPrimitive d.heap vs chan p.0) (sym c.deref-in-None.ensures.value) (record { pairs = a.1.may.desk.pairs; is = p.1 })) in
    record {
      over = (operands_over c.args.code.now d lists c.args.j chan (plain_val c.args.message.now) c.args.at a.0 a.1).1;
      pairs = a.1.may.desk.pairs;
      takes = calls_taken c.args.code.now d lists c.args.j chan (plain_val c.args.message.now) c.args.at a.0 a.1 c.primitive_at_hand-p.result (p.1 ∙ ap PrimitiveVal (sym same));
    }

pub returns-in-None-clause-deed : goal.returns-in-None-clause-deed
returns-in-None-clause-deed c own a =
    let d = c.args.desk.now in
    let chan = plain_val c.args.chan.now in
    let message = plain_val c.args.message.now in
    let lists = channel_processes (core_in c.args.code.now) d.heap c.args.lists.now in
    let pairs = subst (ArePairs d.heap) (sym c.deref.ensures.value) a.may.desk.pairs in
    let named : c.channel_at_hand.result ≡ channel_named (operand_in d.heap d.values.items chan) =
    subst (λ (vs : List (ℕ × ℕ)). c.channel_at_hand.result ≡ channel_named (operand_in d.heap vs chan)) c.deref.ensures.value (c.channel_at_hand.ensures d.heap pairs) in
    let p = output_primitive c.args.code.now d lists c.args.j chan message c.args.at own a (sym c.in-None.is ∙ named) in
    let same = c.primitive_at_hand-p.ensures d.heap p.0
    (subst (λ (vs : List (ℕ × ℕ)). StandsForPrimitive d.heap vs chan p.0) (sym c.deref-in-None.ensures.value) (record { pairs = a.may.desk.pairs; is = p.1 })) in
    let to = p.1 ∙ ap PrimitiveVal (sym same) in
    called_ok (core_in c.args.code.now) c.call_operand.new.desk.heap lists c.args.j own c.primitive_at_hand-p.result (operand_in d.heap d.values.items message) c.args.at c.call_operand.result
    (calls_is c.args.code.now d lists c.args.j chan message c.args.at own a c.primitive_at_hand-p.result to)
    (calls_taken c.args.code.now d lists c.args.j chan message c.args.at own a c.primitive_at_hand-p.result to) c.call_operand.ensures.effect

pub returns-in-None-clause-rest : goal.returns-in-None-clause-rest
returns-in-None-clause-rest c = makes_desk (core_in c.args.code.now) c.args.desk.now c.call_operand.new.desk c.call_operand.ensures.rest c.requires.acts.1.may.desk
