use Rattle.std.proofs.Common.{ℕ, ◌<◌, ◌≡◌, List, length, sym, ◌∙◌, subst, arith}
use Rattle.pict_core.specs.Closed.{IsOver}
use Rattle.pict_core.specs.Plain.{plain_val}
use Rattle.pict_code.specs.Plain.{plain_pat}
use Rattle.pict_desk.specs.AtHand.{channel_named}
use Rattle.pict_desk.specs.Code.{core_in}
use Rattle.pict_desk.specs.Known.{known, operand_value}
use Rattle.pict_desk.specs.Pairs.{ArePairs}
use Rattle.pict_picker.specs.Picker.{channel_processes}
use Rattle.pict_picker.proofs.Acts.{named_channel, wait_at, channels_many}
use Rattle.pict_picker.proofs.Outputs.{input_over, receives_on, no_input}
use Rattle.pict_picker.proofs.acting.input.Goals as goal

pub channel_at_hand-requires-clause-over : goal.channel_at_hand-requires-clause-over
channel_at_hand-requires-clause-over c =
    let d = c.args.desk.now in
    let lists = channel_processes (core_in c.args.code.now) d.heap c.args.lists.now in
    subst (λ (vs : List (ℕ × ℕ)). IsOver (length vs) 0 (plain_val c.args.chan.now)) (sym c.deref.ensures.value)
    (input_over c.args.code.now d lists c.args.j c.args.replicated (plain_val c.args.chan.now) (plain_pat c.args.pattern.now) c.args.part c.requires.acts.0 c.requires.acts.1)

pub channel_at_hand-requires-clause-pairs : goal.channel_at_hand-requires-clause-pairs
channel_at_hand-requires-clause-pairs c = (c.args.desk.now.heap, subst (ArePairs c.args.desk.now.heap) (sym c.deref.ensures.value) c.requires.acts.1.may.desk.pairs)

pub index-requires : goal.index-requires
index-requires c =
    let d = c.args.desk.now in
    let core = core_in c.args.code.now in
    let chan = plain_val c.args.chan.now in
    let lists = channel_processes core d.heap c.args.lists.now in
    let a = c.requires.acts in
    let pairs = subst (ArePairs d.heap) (sym c.deref.ensures.value) a.1.may.desk.pairs in
    let named : c.channel_at_hand.result ≡ channel_named (operand_value (known d.heap d.values.items) chan) =
    subst (λ (vs : List (ℕ × ℕ)). c.channel_at_hand.result ≡ channel_named (operand_value (known d.heap vs) chan)) c.deref.ensures.value (c.channel_at_hand.ensures d.heap pairs) in
    let from = named_channel (operand_value (known d.heap d.values.items) chan) c.in-Some.channel (sym c.in-Some.is ∙ named) in
    let low = (receives_on c.args.code.now d lists c.args.j c.args.replicated chan (plain_pat c.args.pattern.now) c.args.part a.0 a.1 c.in-Some.channel from).there in
    omega (arith, low, channels_many c.args.lists.now core d.heap)

pub receive-requires : goal.receive-requires
receive-requires c =
    let d = c.args.desk.now in
    let core = core_in c.args.code.now in
    let chan = plain_val c.args.chan.now in
    let lists = channel_processes core d.heap c.args.lists.now in
    let a = c.requires.acts in
    let pairs = subst (ArePairs d.heap) (sym c.deref.ensures.value) a.1.may.desk.pairs in
    let named : c.channel_at_hand.result ≡ channel_named (operand_value (known d.heap d.values.items) chan) =
    subst (λ (vs : List (ℕ × ℕ)). c.channel_at_hand.result ≡ channel_named (operand_value (known d.heap vs) chan)) c.deref.ensures.value (c.channel_at_hand.ensures d.heap pairs) in
    let from = named_channel (operand_value (known d.heap d.values.items) chan) c.in-Some.channel (sym c.in-Some.is ∙ named) in
    let r = receives_on c.args.code.now d lists c.args.j c.args.replicated chan (plain_pat c.args.pattern.now) c.args.part a.0 a.1 c.in-Some.channel from in
    let low = r.there in
    let there : c.in-Some.channel < length c.args.lists.now.channels.items = omega (arith, low, channels_many c.args.lists.now core d.heap) in
    record { acts = (lists, a.0, r, wait_at c.args.code.now d c.args.lists.now c.in-Some.channel c.index.result.now there c.index.ensures c.requires.lists) }

pub returns-clause-deed : goal.returns-clause-deed
returns-clause-deed c own a =
    let d = c.args.desk.now in
    let core = core_in c.args.code.now in
    let chan = plain_val c.args.chan.now in
    let lists = channel_processes core d.heap c.args.lists.now in
    let pairs = subst (ArePairs d.heap) (sym c.deref.ensures.value) a.may.desk.pairs in
    let named : c.channel_at_hand.result ≡ channel_named (operand_value (known d.heap d.values.items) chan) =
    subst (λ (vs : List (ℕ × ℕ)). c.channel_at_hand.result ≡ channel_named (operand_value (known d.heap vs) chan)) c.deref.ensures.value (c.channel_at_hand.ensures d.heap pairs) in
    let from = named_channel (operand_value (known d.heap d.values.items) chan) c.in-Some.channel (sym c.in-Some.is ∙ named) in
    let r = receives_on c.args.code.now d lists c.args.j c.args.replicated chan (plain_pat c.args.pattern.now) c.args.part own a c.in-Some.channel from in
    let low = r.there in
    let there : c.in-Some.channel < length c.args.lists.now.channels.items = omega (arith, low, channels_many c.args.lists.now core d.heap) in
    c.receive.ensures.deed lists own r (wait_at c.args.code.now d c.args.lists.now c.in-Some.channel c.index.result.now there c.index.ensures c.requires.lists)

pub unreachable-requires : goal.unreachable-requires
unreachable-requires c =
    let d = c.args.desk.now in
    let core = core_in c.args.code.now in
    let chan = plain_val c.args.chan.now in
    let lists = channel_processes core d.heap c.args.lists.now in
    let a = c.requires.acts in
    let pairs = subst (ArePairs d.heap) (sym c.deref.ensures.value) a.1.may.desk.pairs in
    let named : c.channel_at_hand.result ≡ channel_named (operand_value (known d.heap d.values.items) chan) =
    subst (λ (vs : List (ℕ × ℕ)). c.channel_at_hand.result ≡ channel_named (operand_value (known d.heap vs) chan)) c.deref.ensures.value (c.channel_at_hand.ensures d.heap pairs) in
    no_input c.args.code.now d lists c.args.j c.args.replicated chan (plain_pat c.args.pattern.now) c.args.part a.0 a.1 (sym c.in-None.is ∙ named)
