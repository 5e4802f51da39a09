use Rattle.std.proofs.Common.{◌<◌, length, refl, sym, ◌∙◌, arith}
use Rattle.pict_desk.specs.Code.{core_in}
use Rattle.pict_picker.specs.Picker.{channel_processes}
use Rattle.pict_picker.specs.Waiting.{pair_value, kept_process}
use Rattle.pict_picker.proofs.Acts.{named_channel, wait_at, channels_many}
use Rattle.pict_picker.proofs.Deeds.{keeps_desk, makes_desk, heap_stays}
use Rattle.pict_picker.proofs.Outputs.{kept_sends}
use Rattle.pict_picker.proofs.sending.output_kept.Goals as goal

pub channel_of-requires : goal.channel_of-requires
channel_of-requires c = (c.args.desk.now.heap, c.requires.kept.to)

pub index-list-requires : goal.index-list-requires
index-list-requires c =
    let d = c.args.desk.now in
    let core = core_in c.args.code.now in
    let to = named_channel (pair_value d.heap c.args.kept.to) c.in-Some.channel (sym c.in-Some.is ∙ c.channel_of.ensures d.heap c.requires.kept.to) in
    let low = (kept_sends c.args.code.now d (channel_processes core d.heap c.args.lists.now) c.args.j c.args.kept c.requires.kept c.requires.acts c.in-Some.channel to).there in
    omega (arith, low, channels_many c.args.lists.now core d.heap)

pub send-requires : goal.send-requires
send-requires c =
    let d = c.args.desk.now in
    let core = core_in c.args.code.now in
    let lists = channel_processes core d.heap c.args.lists.now in
    let to = named_channel (pair_value d.heap c.args.kept.to) c.in-Some.channel (sym c.in-Some.is ∙ c.channel_of.ensures d.heap c.requires.kept.to) in
    let sends = kept_sends c.args.code.now d lists c.args.j c.args.kept c.requires.kept c.requires.acts c.in-Some.channel to in
    let low = sends.there in
    let there : c.in-Some.channel < length c.args.lists.now.channels.items = omega (arith, low, channels_many c.args.lists.now core d.heap) in
    record { acts = (lists, kept_process d.heap c.args.kept, sends, wait_at c.args.code.now d c.args.lists.now c.in-Some.channel c.index-list.result.now there c.index-list.ensures c.requires.lists); empty = c.in_ok-room-in-Some.ensures.empty; room = c.in_ok-room-in-Some.ensures.room }

pub returns-in_ok-room-in-Some-clause-deed : goal.returns-in_ok-room-in-Some-clause-deed
returns-in_ok-room-in-Some-clause-deed c =
    let d = c.args.desk.now in
    let core = core_in c.args.code.now in
    let lists = channel_processes core d.heap c.args.lists.now in
    let to = named_channel (pair_value d.heap c.args.kept.to) c.in-Some.channel (sym c.in-Some.is ∙ c.channel_of.ensures d.heap c.requires.kept.to) in
    let sends = kept_sends c.args.code.now d lists c.args.j c.args.kept c.requires.kept c.requires.acts c.in-Some.channel to in
    let low = sends.there in
    let there : c.in-Some.channel < length c.args.lists.now.channels.items = omega (arith, low, channels_many c.args.lists.now core d.heap) in
    c.send.ensures.deed lists (kept_process d.heap c.args.kept) sends (wait_at c.args.code.now d c.args.lists.now c.in-Some.channel c.index-list.result.now there c.index-list.ensures c.requires.lists)

pub call_kept-requires : goal.call_kept-requires
call_kept-requires c =
    let d = c.args.desk.now in
    record {
      kept = c.requires.kept;
      acts = (c.args.code.now, channel_processes (core_in c.args.code.now) d.heap c.args.lists.now, c.args.j, c.requires.acts);
      elsewhere = sym (c.channel_of.ensures d.heap c.requires.kept.to) ∙ c.in-None.is;
    }

pub returns-in-None-clause-deed : goal.returns-in-None-clause-deed
returns-in-None-clause-deed c =
    c.call_kept.ensures.deed c.args.code.now (channel_processes (core_in c.args.code.now) c.args.desk.now.heap c.args.lists.now) c.args.j c.requires.acts

pub returns-in-None-clause-rest : goal.returns-in-None-clause-rest
returns-in-None-clause-rest c = makes_desk (core_in c.args.code.now) c.args.desk.now c.call_kept.new.desk c.call_kept.ensures.rest c.requires.acts.desk

pub returns-in_err-room-in-Some-clause-rest : goal.returns-in_err-room-in-Some-clause-rest
returns-in_err-room-in-Some-clause-rest c = keeps_desk (core_in c.args.code.now) c.args.desk.now c.requires.acts.desk

pub returns-in_err-room-in-Some-clause-undone : goal.returns-in_err-room-in-Some-clause-undone
returns-in_err-room-in-Some-clause-undone c u = heap_stays c.args.desk.now.heap c.args.desk.now.heap refl

pub returns-in_ok-room-in-Some-clause-undone : goal.returns-in_ok-room-in-Some-clause-undone
returns-in_ok-room-in-Some-clause-undone c u = heap_stays c.args.desk.now.heap c.send.new.desk.heap c.send.ensures.heap
