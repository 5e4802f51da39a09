use Rattle.std.proofs.Common.{map, ap, ◌∙◌, subst}
use Rattle.pict_desk.specs.Known.{known}
use Rattle.pict_desk.specs.Needs.{HasRoomFor}
use Rattle.pict_turns.proofs.Handing.{hands_wide}
use Rattle.pict_desk.proofs.MakingRoom.{need_wide}
use Rattle.pict_turns.proofs.parts.hand_on_wide.Goals as goal

pub frame_record-pair-requires-clause-room : goal.frame_record-pair-requires-clause-room
frame_record-pair-requires-clause-room c = subst (HasRoomFor c.args.store.now.desk.heap c.args.store.now.desk.pending) (need_wide c.args.frame.now c.requires.wide) c.requires.can.room

pub returns-clause-hands : goal.returns-clause-hands
returns-clause-hands c = λ core f.
    let s = c.args.store.now in
    let r = c.frame_record-pair in
    rw c.set.ensures (hands_wide core s r.new.heap r.new.pending r.result c.args.number c.args.frame.now f c.requires.pairs c.requires.wide
    (subst (HasRoomFor s.desk.heap s.desk.pending) (need_wide c.args.frame.now c.requires.wide) c.requires.can.room).countable r.ensures.pair
    (r.ensures.fields ∙ ap (λ vs. map (known s.desk.heap vs) c.args.frame.now) c.deref.ensures.value) r.ensures.keeps r.ensures.used r.ensures.pending)
