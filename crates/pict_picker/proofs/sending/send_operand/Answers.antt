use Rattle.std.proofs.Common.{◌<◌, length, refl, sym, subst, arith}
use Rattle.pict_core.specs.Plain.{plain_val}
use Rattle.pict_desk.specs.Code.{core_in}
use Rattle.pict_desk.proofs.Making.{keeps_more}
use Rattle.pict_desk.proofs.Pairs.{value_packed}
use Rattle.pict_picker.specs.Acting.{WaitAt}
use Rattle.pict_picker.specs.Picker.{channel_processes}
use Rattle.pict_picker.proofs.Acts.{wait_at, channels_many}
use Rattle.pict_picker.proofs.Deeds.{keeps_desk, makes_desk, heap_stays}
use Rattle.pict_picker.proofs.Outputs.{operands_over, output_there, sends_on}
use Rattle.pict_picker.proofs.Standing.{lists_stay, waits_stay}
use Rattle.pict_picker.proofs.sending.send_operand.Goals as goal

pub make_word-requires-clause-over : goal.make_word-requires-clause-over
make_word-requires-clause-over c =
    let d = c.args.desk.now in
    let lists = channel_processes (core_in c.args.code.now) d.heap c.args.lists.now in
    (operands_over c.args.code.now d lists c.args.j (plain_val c.args.chan.now) (plain_val c.args.message.now) c.args.at c.requires.acts.0 c.requires.acts.1).1

pub make_word-requires-clause-pairs : goal.make_word-requires-clause-pairs
make_word-requires-clause-pairs c = c.requires.acts.1.may.desk.pairs

pub index-list-requires : goal.index-list-requires
index-list-requires c =
    let d = c.args.desk.now in
    let core = core_in c.args.code.now in
    let lists = channel_processes core d.heap c.args.lists.now in
    let low = output_there c.args.code.now d lists c.args.j (plain_val c.args.chan.now) (plain_val c.args.message.now) c.args.at c.requires.acts.0 c.requires.acts.1 c.args.channel c.requires.to in
    omega (arith, low, channels_many c.args.lists.now core d.heap)

-- the message is made, and the lists stand as they did
pub send-requires : goal.send-requires
send-requires c =
    let d = c.args.desk.now in
    let mid = c.make_word.new.desk in
    let core = core_in c.args.code.now in
    let lists = channel_processes core d.heap c.args.lists.now in
    let made = c.in_ok-word.ensures.made in
    let m = c.make_word.ensures.rest in
    let low = output_there c.args.code.now d lists c.args.j (plain_val c.args.chan.now) (plain_val c.args.message.now) c.args.at c.requires.acts.0 c.requires.acts.1 c.args.channel c.requires.to in
    let there : c.args.channel < length c.args.lists.now.channels.items = omega (arith, low, channels_many c.args.lists.now core d.heap) in
    record {
      acts = (
        lists,
        c.requires.acts.0,
        sends_on c.args.code.now d lists c.args.j (plain_val c.args.chan.now) (plain_val c.args.message.now) c.args.at c.requires.acts.0 c.requires.acts.1 c.args.channel c.requires.to
            mid c.in_ok-word.word c.pack.result m made (record { word = c.in_ok-word.word; is = made.word; fits = c.pack.ensures.fits; packs = sym c.pack.ensures.pair })
            (value_packed mid.heap c.in_ok-word.word c.pack.result c.pack.ensures.fits (sym c.pack.ensures.pair)),
        subst (λ ls. WaitAt c.args.code.now mid ls c.args.channel c.index-list.result.now.items) (waits_stay core d.heap mid.heap m.words c.args.lists.now c.requires.lists)
            (wait_at c.args.code.now mid c.args.lists.now c.args.channel c.index-list.result.now there c.index-list.ensures (lists_stay core d.heap mid.heap m.words c.args.lists.now c.requires.lists)),
      );
      empty = c.in_ok-room.ensures.empty;
      room = c.in_ok-room.ensures.room;
    }

pub returns-clause-deed : goal.returns-clause-deed
returns-clause-deed c own a =
    let d = c.args.desk.now in
    let mid = c.make_word.new.desk in
    let core = core_in c.args.code.now in
    let lists = channel_processes core d.heap c.args.lists.now in
    let made = c.in_ok-word.ensures.made in
    let m = c.make_word.ensures.rest in
    let low = output_there c.args.code.now d lists c.args.j (plain_val c.args.chan.now) (plain_val c.args.message.now) c.args.at own a c.args.channel c.requires.to in
    let there : c.args.channel < length c.args.lists.now.channels.items = omega (arith, low, channels_many c.args.lists.now core d.heap) in
    c.send.ensures.deed lists own
    (sends_on c.args.code.now d lists c.args.j (plain_val c.args.chan.now) (plain_val c.args.message.now) c.args.at own a c.args.channel c.requires.to
    mid c.in_ok-word.word c.pack.result m made (record { word = c.in_ok-word.word; is = made.word; fits = c.pack.ensures.fits; packs = sym c.pack.ensures.pair })
    (value_packed mid.heap c.in_ok-word.word c.pack.result c.pack.ensures.fits (sym c.pack.ensures.pair)))
    (subst (λ ls. WaitAt c.args.code.now mid ls c.args.channel c.index-list.result.now.items) (waits_stay core d.heap mid.heap m.words c.args.lists.now c.requires.lists)
    (wait_at c.args.code.now mid c.args.lists.now c.args.channel c.index-list.result.now there c.index-list.ensures (lists_stay core d.heap mid.heap m.words c.args.lists.now c.requires.lists)))

pub returns-clause-rest : goal.returns-clause-rest
returns-clause-rest c =
    let d = c.args.desk.now in
    record { words = keeps_more d.heap c.make_word.new.desk.heap c.send.new.desk.heap c.make_word.ensures.rest.words c.send.ensures.rest.words; desk = c.send.ensures.rest.desk }

pub returns-in_err-word-clause-rest : goal.returns-in_err-word-clause-rest
returns-in_err-word-clause-rest c = makes_desk (core_in c.args.code.now) c.args.desk.now c.make_word.new.desk c.make_word.ensures.rest c.requires.acts.1.may.desk

pub returns-in_err-room-clause-rest : goal.returns-in_err-room-clause-rest
returns-in_err-room-clause-rest c = keeps_desk (core_in c.args.code.now) c.args.desk.now c.requires.acts.1.may.desk

pub returns-in_err-room-clause-undone : goal.returns-in_err-room-clause-undone
returns-in_err-room-clause-undone c u = heap_stays c.args.desk.now.heap c.args.desk.now.heap refl

-- once the message is made something is done
pub returns-clause-undone : goal.returns-clause-undone
returns-clause-undone c u = absurd (c.send.ensures.done u)

pub returns-in_err-word-clause-undone : goal.returns-in_err-word-clause-undone
returns-in_err-word-clause-undone c u = c.in_err-word.ensures.refused
