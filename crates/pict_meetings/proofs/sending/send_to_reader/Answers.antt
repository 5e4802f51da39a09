use Rattle.std.proofs.Common.{◌+◌, false, ◌∷◌, [], refl, ap, ◌∙◌, subst, arith}
use Rattle.pict_meetings.specs.Room.{CanHoldAfter}
use Rattle.pict_meetings.specs.Sent.{sent_value}
use Rattle.pict_meetings.specs.Waiting.{oldest}
use Rattle.pict_meetings.proofs.Sents.{sent_still}
use Rattle.pict_meetings.proofs.Ops.{input_waits_first}
use Rattle.pict_desk.specs.Code.{core_in}
use Rattle.pict_blocks.specs.Parts.{block_width}
use Rattle.pict_turns.specs.Widths.{MakesOnly}
use Rattle.pict_turns.proofs.Making.{makes_before}
use Rattle.pict_turns.proofs.Room.{done_after, refused_still, cost_still}
use Rattle.pict_turns.proofs.Turns.{acting_room}
use Rattle.pict_turns.proofs.Working.{costs_reserved}
use Rattle.pict_meetings.proofs.Growing.{sent_reserved, can_after}
use Rattle.pict_turns.proofs.Passing.{may_reserve}
use Rattle.pict_turns.proofs.Adding.{used_after, used_less}
use Rattle.pict_meetings.proofs.Plainly.{one_given, served, part_has, sends_kept}
use Rattle.pict_code.proofs.Lines.{on_err}
use Rattle.pict_meetings.proofs.sending.send_to_reader.Goals as goal

pub reader_frame-frame-requires-clause-input : goal.reader_frame-frame-requires-clause-input
reader_frame-frame-requires-clause-input c =
    let w = input_waits_first c.args.code.now c.args.store.now c.args.channel c.args.reader c.requires.may.code_is c.requires.may.acting.store c.requires.first in
    (w.replicated, w.pattern, w.part, w.input)

pub reader_as_wide-reuses-requires : goal.reader_as_wide-reuses-requires
reader_as_wide-reuses-requires c =
    record { low = (input_waits_first c.args.code.now c.args.store.now c.args.channel c.args.reader c.requires.may.code_is c.requires.may.acting.store c.requires.first).low }

pub meet_reader-requires-clause-sends : goal.meet_reader-requires-clause-sends
meet_reader-requires-clause-sends c =
    let x = c.requires.sends in
    (x.0, sent_reserved (core_in c.args.code.now) c.args.store.now c.reserve_served.new.store c.reserve_served.ensures.rest c.args.channel c.args.sent x.0 x.1)

pub meet_reader-requires-clause-right : goal.meet_reader-requires-clause-right
meet_reader-requires-clause-right c = (may_reserve c.args.code.now c.args.store.now c.reserve_served.new.store c.reserve_served.ensures.rest c.requires.may).right

pub meet_reader-requires-clause-can : goal.meet_reader-requires-clause-can
meet_reader-requires-clause-can c = λ replicated pattern part frame i f.
    let code = c.args.code.now in
    let mid = c.reserve_served.new.store in
    let may = may_reserve code c.args.store.now mid c.reserve_served.ensures.rest c.requires.may in
    let first = ap oldest (c.reserve_served.ensures.rest.contents (c.args.channel + 1)) ∙ c.requires.first in
    subst (CanHoldAfter mid _) (c.reader_frame-frame.ensures replicated pattern part frame i f)
    (can_after mid _ c.reader_frame-frame.result.now _ (c.in_ok-reserve_served.ensures.ok _ (λ yes.
    one_given code may.code_is mid may.acting.store c.args.channel c.args.reader first replicated pattern part i c.reader_frame-frame.result.now (c.reader_as_wide-reuses.ensures.0 yes))))

pub returns-clause-ok : goal.returns-clause-ok
returns-clause-ok c =
    let core = core_in c.args.code.now in
    let old = c.args.store.now in
    let mid = c.reserve_served.new.store in
    let new = c.meet_reader.new.store in
    let x = c.requires.sends in
    let rest = c.reserve_served.ensures.rest in
    let met = c.meet_reader.ensures.done in
    record {
      done = done_after core old mid rest new _ met;
      sent_is = sent_still mid.desk.heap new.desk.heap met.keeps c.args.sent (sent_reserved core old mid rest c.args.channel c.args.sent x.0 x.1).sent_is;
    }

pub returns-in_err-reserve_served-clause-refused : goal.returns-in_err-reserve_served-clause-refused
returns-in_err-reserve_served-clause-refused c =
    on_err c.from_residual.result
    (refused_still (core_in c.args.code.now) c.args.store.now c.reserve_served.new.store c.reserve_served.ensures.rest c.requires.may.acting.store)

pub returns-clause-cost : goal.returns-clause-cost
returns-clause-cost c replicated pattern part own frame i f g =
    costs_reserved c.args.store.now c.reserve_served.new.store c.meet_reader.new.store.queues _ _ c.reserve_served.ensures.rest (c.meet_reader.ensures.cost replicated pattern part own frame i f g) (omega arith)

pub returns-clause-turn : goal.returns-clause-turn
returns-clause-turn c replicated pattern part frame i f = let t = c.meet_reader.ensures.turn replicated pattern part frame i f in omega (arith, t)

pub returns-in_err-reserve_served-clause-turn : goal.returns-in_err-reserve_served-clause-turn
returns-in_err-reserve_served-clause-turn c replicated pattern part frame i f =
    let same = cost_still (core_in c.args.code.now) c.args.store.now c.reserve_served.new.store c.reserve_served.ensures.rest in omega (arith, same)

pub returns-clause-blocks : goal.returns-clause-blocks
returns-clause-blocks c replicated pattern part frame i f =
    let old = c.args.store.now.queues in
    let last = c.meet_reader.new.store.queues in
    subst (λ frame. MakesOnly old last (block_width frame ∷ [])) (c.reader_frame-frame.ensures replicated pattern part frame i f)
    (makes_before old c.reserve_served.new.store.queues last (block_width c.reader_frame-frame.result.now ∷ []) c.reserve_served.ensures.most c.meet_reader.ensures.blocks)

pub returns-in_err-reserve_served-clause-blocks : goal.returns-in_err-reserve_served-clause-blocks
returns-in_err-reserve_served-clause-blocks c replicated pattern part frame i f =
    subst (λ frame. MakesOnly c.args.store.now.queues c.reserve_served.new.store.queues (block_width frame ∷ [])) (c.reader_frame-frame.ensures replicated pattern part frame i f) c.reserve_served.ensures.most

pub returns-clause-plain : goal.returns-clause-plain
returns-clause-plain c x =
    let code = c.args.code.now in
    let core = core_in code in
    let s = c.args.store.now in
    let sends = c.requires.sends in
    let v = sent_value s.desk.heap c.args.sent in
    let i = served code c.requires.may.code_is s c.requires.may.acting.store c.args.channel c.args.reader c.requires.first v sends.0 sends.1.is x in
    let has = part_has code c.requires.may.code_is s c.requires.may.acting.store c.args.channel c.args.reader c.requires.first v sends.0 sends.1.is x in
    let r = c.reserve_served.ensures in
    let kept = sends_kept code c.requires.may.code_is s c.requires.may.acting.store c.args.channel c.args.reader c.requires.first v sends.0 sends.1.is x (acting_room core s c.requires.may.acting)
    c.reserve_served.new.store c.reader_frame-frame.result.now c.reader_as_wide-reuses.result
    (c.reader_frame-frame.ensures false i.0 x.part x.room.frame i.1 has) c.reader_as_wide-reuses.ensures.1 r.rest r.most
    (λ reused few. r.plain reused few refl) (λ few one. r.enough few refl one) r.blocks in
    (refl, λ width. c.meet_reader.ensures.blocks width ∙ kept.1 width)

pub returns-in_err-reserve_served-clause-plain : goal.returns-in_err-reserve_served-clause-plain
returns-in_err-reserve_served-clause-plain c x =
    let code = c.args.code.now in
    let core = core_in code in
    let s = c.args.store.now in
    let sends = c.requires.sends in
    let v = sent_value s.desk.heap c.args.sent in
    let i = served code c.requires.may.code_is s c.requires.may.acting.store c.args.channel c.args.reader c.requires.first v sends.0 sends.1.is x in
    let has = part_has code c.requires.may.code_is s c.requires.may.acting.store c.args.channel c.args.reader c.requires.first v sends.0 sends.1.is x in
    let r = c.in_err-reserve_served.ensures in
    let kept = sends_kept code c.requires.may.code_is s c.requires.may.acting.store c.args.channel c.args.reader c.requires.first v sends.0 sends.1.is x (acting_room core s c.requires.may.acting)
    c.reserve_served.new.store c.reader_frame-frame.result.now c.reader_as_wide-reuses.result
    (c.reader_frame-frame.ensures false i.0 x.part x.room.frame i.1 has) c.reader_as_wide-reuses.ensures.1 r.rest r.most
    (λ reused few. r.plain reused few refl) (λ few one. r.enough few refl one) r.blocks in
    let no = kept.0 in
    cc

pub returns-clause-adds : goal.returns-clause-adds
returns-clause-adds c replicated pattern part i =
    used_after c.args.store.now.desk.heap.room c.reserve_served.new.store.desk.heap.room c.meet_reader.new.store.desk.heap.room _ c.reserve_served.ensures.rest.room
    (c.meet_reader.ensures.adds replicated pattern part i)

pub returns-in_err-reserve_served-clause-adds : goal.returns-in_err-reserve_served-clause-adds
returns-in_err-reserve_served-clause-adds c replicated pattern part i =
    used_less c.args.store.now.desk.heap.room c.reserve_served.new.store.desk.heap.room _ c.reserve_served.ensures.rest.room
