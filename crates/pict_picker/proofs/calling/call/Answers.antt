use Rattle.std.proofs.Common.{sym, ap, ◌∙◌, subst, option_map, IfSome}
use Rattle.pict_core.specs.Primitives.{Effect, effect_of}
use Rattle.pict_heap.specs.HeapState.{value_of}
use Rattle.pict_prim.specs.Acts.{effect_act, IsActOf, HasRoom}
use Rattle.pict_desk.proofs.Making.{keeps_more}
use Rattle.pict_desk.specs.Room.{KeepsHeap}
use Rattle.pict_desk.proofs.MakingRoom.{keeps_words}
use Rattle.pict_picker.specs.Calling.{HasEffect}
use Rattle.pict_picker.proofs.Effects.{act_keeps, effect_keeps, need_keeps, makes_room, same_effect, no_effect, undone_zero}
use Rattle.pict_picker.proofs.calling.call.Goals as goal

pub room_of-need-requires : goal.room_of-need-requires
room_of-need-requires c = subst (λ o. IfSome o (IsActOf c.args.desk.now.heap)) c.in-Some.is c.act_on.ensures.words

pub finish-requires-clause-act : goal.finish-requires-clause-act
finish-requires-clause-act c =
    let old = c.args.desk.now.heap in
    let mid = c.reserve_room.new.desk.heap in
    act_keeps old mid (keeps_words old mid c.reserve_room.ensures.rest.heap) c.in-Some.act (subst (λ o. IfSome o (IsActOf old)) c.in-Some.is c.act_on.ensures.words)

pub finish-requires-clause-room : goal.finish-requires-clause-room
finish-requires-clause-room c =
    let old = c.args.desk.now.heap in
    let mid = c.reserve_room.new.desk.heap in
    let is = subst (λ o. IfSome o (IsActOf old)) c.in-Some.is c.act_on.ensures.words in
    subst (HasRoom mid.room) (c.room_of-need.ensures ∙ sym (need_keeps old mid (keeps_words old mid c.reserve_room.ensures.rest.heap) c.in-Some.act is)) c.in_ok-reserve_room-in-Some.ensures.room.heap

pub returns-clause-effect : goal.returns-clause-effect
returns-clause-effect c e is =
    let old = c.args.desk.now.heap in
    let mid = c.reserve_room.new.desk.heap in
    let act_is = subst (λ o. IfSome o (IsActOf old)) c.in-Some.is c.act_on.ensures.words in
    let found = sym c.act_on.ensures.effect ∙ ap (option_map (effect_act old)) c.in-Some.is in
    subst (λ (x : Effect). HasEffect c.finish.new.heap x c.args.at c.finish.result)
    (effect_keeps old mid (keeps_words old mid c.reserve_room.ensures.rest.heap) c.in-Some.act act_is
    ∙ same_effect (effect_act old c.in-Some.act) e (effect_of c.args.p (value_of old c.args.argument)) found is) c.finish.ensures.effect

pub returns-clause-rest : goal.returns-clause-rest
returns-clause-rest c =
    let old = c.args.desk.now in
    let mid = c.reserve_room.new.desk in
    let m = makes_room old mid c.reserve_room.ensures.rest in
    record { words = keeps_more old.heap mid.heap c.finish.new.heap m.words c.finish.ensures.keeps; values = m.values }

pub returns-in_err-reserve_room-in-Some-clause-rest : goal.returns-in_err-reserve_room-in-Some-clause-rest
returns-in_err-reserve_room-in-Some-clause-rest c = makes_room c.args.desk.now c.reserve_room.new.desk c.reserve_room.ensures.rest

pub unreachable-requires : goal.unreachable-requires
unreachable-requires c =
    let old = c.args.desk.now.heap in
    no_effect (effect_of c.args.p (value_of old c.args.argument)) (sym c.act_on.ensures.effect ∙ ap (option_map (effect_act old)) c.in-None.is) c.requires.takes

pub returns-clause-undone : goal.returns-clause-undone
returns-clause-undone c u =
    let old = c.args.desk.now.heap in
    let mid = c.reserve_room.new.desk.heap in
    let zero = undone_zero mid c.finish.new.heap c.in-Some.act c.args.at c.finish.result c.finish.ensures.effect u in
    subst (KeepsHeap old) (sym (c.finish.ensures.zero zero)) c.reserve_room.ensures.rest.heap

pub returns-in_err-reserve_room-in-Some-clause-undone : goal.returns-in_err-reserve_room-in-Some-clause-undone
returns-in_err-reserve_room-in-Some-clause-undone c u = c.reserve_room.ensures.rest.heap
