use Rattle.std.proofs.Common.{ℕ, ◌+◌, List, ◌∷◌, [], cond, take, length, sym, ap, ◌∙◌, subst, arith}
use Rattle.pict_core.specs.Closed.{IsOver}
use Rattle.pict_core.specs.Plain.{plain_val}
use Rattle.pict_queue.specs.Contents.{contents}
use Rattle.pict_meetings.specs.Room.{CanHoldAfter}
use Rattle.pict_meetings.specs.Waiting.{oldest}
use Rattle.pict_meetings.proofs.Ops.{input_waits_first}
use Rattle.pict_desk.specs.Code.{core_in}
use Rattle.pict_blocks.specs.Parts.{block_width}
use Rattle.pict_turns.specs.Widths.{MakesOnly}
use Rattle.pict_turns.proofs.Making.{makes_before}
use Rattle.pict_turns.specs.declared.store.Store.{Store}
use Rattle.pict_turns.proofs.Room.{refused_still, cost_still}
use Rattle.pict_desk.proofs.MakingRoom.{has_room, room_swapped}
use Rattle.pict_turns.proofs.Working.{costs_reserved}
use Rattle.pict_meetings.proofs.Growing.{operand_reserved, operand_over, sends_whole, sends_made, done_made, right_made, can_grown}
use Rattle.pict_turns.proofs.Passing.{refused_step, may_reserve}
use Rattle.pict_turns.proofs.Adding.{used_both, used_after, used_less}
use Rattle.pict_meetings.proofs.Plainly.{one_given}
use Rattle.pict_meetings.proofs.sending.send_made.Goals as goal

pub reader_frame-frame-requires-clause-input : goal.reader_frame-frame-requires-clause-input
reader_frame-frame-requires-clause-input c =
    let w = input_waits_first c.args.code.now c.args.store.now c.args.channel c.args.reader c.requires.may.code_is c.requires.may.acting.store c.requires.first in
    (w.replicated, w.pattern, w.part, w.input)

pub reader_as_wide-reuses-requires : goal.reader_as_wide-reuses-requires
reader_as_wide-reuses-requires c =
    record { low = (input_waits_first c.args.code.now c.args.store.now c.args.channel c.args.reader c.requires.may.code_is c.requires.may.acting.store c.requires.first).low }

pub word_of-word-requires-clause-over : goal.word_of-word-requires-clause-over
word_of-word-requires-clause-over c =
    let core = core_in c.args.code.now in
    let mid = c.reserve_meeting.new.store in
    let x = c.requires.sends in
    let message = plain_val c.args.message.now in
    subst (λ values. IsOver (length values) 0 message) (sym c.deref.ensures.value)
    (operand_over core mid c.args.channel message x.0 (operand_reserved core c.args.store.now mid c.reserve_meeting.ensures.rest c.args.channel message x.0 x.1))

pub word_of-word-requires-clause-room : goal.word_of-word-requires-clause-room
word_of-word-requires-clause-room c =
    let code = c.args.code.now in
    let mid = c.reserve_meeting.new.store in
    let may = may_reserve code c.args.store.now mid c.reserve_meeting.ensures.rest c.requires.may in
    let first = ap oldest (c.reserve_meeting.ensures.rest.contents (c.args.channel + 1)) ∙ c.requires.first in
    let w = input_waits_first code mid c.args.channel c.args.reader may.code_is may.acting.store first in
    let given : List (List ℕ) = cond w.replicated [] (take 1 (contents mid.queues (c.args.channel + 1))) in
    let can = c.in_ok-reserve_meeting.ensures.room given (λ reused. one_given code may.code_is mid may.acting.store c.args.channel c.args.reader first w.replicated w.pattern w.part w.input
    c.reader_frame-frame.result.now (c.reader_as_wide-reuses.ensures.0 reused)) in
    has_room mid.desk.heap mid.desk.pending _ _ (room_swapped mid.desk.heap mid.desk.pending _ _ can.room)

pub meet_reader-requires-clause-sends : goal.meet_reader-requires-clause-sends
meet_reader-requires-clause-sends c =
    let x = c.requires.sends in (
      x.0,
      sends_whole _ _ _ _ _ (sends_made (core_in c.args.code.now) c.args.store.now c.reserve_meeting.new.store c.reserve_meeting.ensures.rest c.args.channel (plain_val c.args.message.now) x.0 x.1
          c.word_of-word.new.heap c.word_of-word.new.pending c.deref.result.now c.deref.ensures.value c.word_of-word.result c.word_of-word.ensures.made c.pack-value.result c.pack-value.ensures.fits (sym c.pack-value.ensures.pair)),
    )

pub meet_reader-requires-clause-right : goal.meet_reader-requires-clause-right
meet_reader-requires-clause-right c =
    let x = c.requires.sends in
    right_made (core_in c.args.code.now) c.args.store.now c.reserve_meeting.new.store c.reserve_meeting.ensures.rest c.args.channel (plain_val c.args.message.now) x.0 x.1
    c.word_of-word.new.heap c.word_of-word.new.pending c.deref.result.now c.deref.ensures.value c.word_of-word.result c.word_of-word.ensures.made
    (may_reserve c.args.code.now c.args.store.now c.reserve_meeting.new.store c.reserve_meeting.ensures.rest c.requires.may).right

pub meet_reader-requires-clause-can : goal.meet_reader-requires-clause-can
meet_reader-requires-clause-can c = λ replicated pattern part frame i f.
    let code = c.args.code.now in
    let mid = c.reserve_meeting.new.store in
    let grown : Store = record mid { desk = record mid.desk { heap = c.word_of-word.new.heap; pending = c.word_of-word.new.pending } } in
    let may = may_reserve code c.args.store.now mid c.reserve_meeting.ensures.rest c.requires.may in
    let first = ap oldest (c.reserve_meeting.ensures.rest.contents (c.args.channel + 1)) ∙ c.requires.first in
    subst (CanHoldAfter grown _) (c.reader_frame-frame.ensures replicated pattern part frame i f)
    (can_grown mid c.word_of-word.new.heap c.word_of-word.new.pending _ c.reader_frame-frame.result.now _ (c.in_ok-reserve_meeting.ensures.room _ (λ reused.
    one_given code may.code_is mid may.acting.store c.args.channel c.args.reader first replicated pattern part i c.reader_frame-frame.result.now
    (c.reader_as_wide-reuses.ensures.0 reused))) c.word_of-word.ensures.used c.word_of-word.ensures.pending)

pub returns-clause-step : goal.returns-clause-step
returns-clause-step c =
    let core = core_in c.args.code.now in
    let x = c.requires.sends in
    let new = c.meet_reader.new.store in
    let mid = c.reserve_meeting.new.store in
    let grown : Store = record mid { desk = record mid.desk { heap = c.word_of-word.new.heap; pending = c.word_of-word.new.pending } } in
    record {
      done = done_made core c.args.store.now mid c.reserve_meeting.ensures.rest c.args.channel (plain_val c.args.message.now) x.0 x.1
          c.word_of-word.new.heap c.word_of-word.new.pending c.deref.result.now c.deref.ensures.value c.word_of-word.result c.word_of-word.ensures.made new _ c.meet_reader.ensures.done;
      event = record {
        word = c.word_of-word.result;
        is = c.meet_reader.ensures.done.keeps.words c.word_of-word.result c.word_of-word.ensures.made.word;
        fits = c.pack-value.ensures.fits;
        packs = sym c.pack-value.ensures.pair;
      };
    }

pub returns-in_err-reserve_meeting-clause-step : goal.returns-in_err-reserve_meeting-clause-step
returns-in_err-reserve_meeting-clause-step c =
    refused_step (core_in c.args.code.now) c.args.store.now c.reserve_meeting.new.store c.from_residual.result _ c.from_residual.ensures.1
    (refused_still (core_in c.args.code.now) c.args.store.now c.reserve_meeting.new.store c.reserve_meeting.ensures.rest c.requires.may.acting.store)

pub returns-clause-cost : goal.returns-clause-cost
returns-clause-cost c replicated pattern part own frame i f g =
    costs_reserved c.args.store.now c.reserve_meeting.new.store c.meet_reader.new.store.queues _ _ c.reserve_meeting.ensures.rest (c.meet_reader.ensures.cost replicated pattern part own frame i f g) (omega arith)

pub returns-clause-turn : goal.returns-clause-turn
returns-clause-turn c replicated pattern part frame i f = let t = c.meet_reader.ensures.turn replicated pattern part frame i f in omega (arith, t)

pub returns-in_err-reserve_meeting-clause-turn : goal.returns-in_err-reserve_meeting-clause-turn
returns-in_err-reserve_meeting-clause-turn c replicated pattern part frame i f =
    let same = cost_still (core_in c.args.code.now) c.args.store.now c.reserve_meeting.new.store c.reserve_meeting.ensures.rest in omega (arith, same)

pub returns-clause-blocks : goal.returns-clause-blocks
returns-clause-blocks c replicated pattern part frame i f =
    let old = c.args.store.now.queues in
    let last = c.meet_reader.new.store.queues in
    subst (λ frame. MakesOnly old last (block_width frame ∷ [])) (c.reader_frame-frame.ensures replicated pattern part frame i f)
    (makes_before old c.reserve_meeting.new.store.queues last (block_width c.reader_frame-frame.result.now ∷ []) c.reserve_meeting.ensures.most c.meet_reader.ensures.blocks)

pub returns-in_err-reserve_meeting-clause-blocks : goal.returns-in_err-reserve_meeting-clause-blocks
returns-in_err-reserve_meeting-clause-blocks c replicated pattern part frame i f =
    subst (λ frame. MakesOnly c.args.store.now.queues c.reserve_meeting.new.store.queues (block_width frame ∷ [])) (c.reader_frame-frame.ensures replicated pattern part frame i f) c.reserve_meeting.ensures.most

pub returns-clause-adds : goal.returns-clause-adds
returns-clause-adds c replicated pattern part i =
    let old = c.args.store.now.desk.heap.room in
    let mid = c.reserve_meeting.new.store.desk.heap.room in
    let last = c.meet_reader.new.store.desk.heap.room in
    used_after old mid last _ c.reserve_meeting.ensures.rest.room
    (used_both mid c.word_of-word.new.heap.room last _ _ c.word_of-word.ensures.used (c.meet_reader.ensures.adds replicated pattern part i))

pub returns-in_err-reserve_meeting-clause-adds : goal.returns-in_err-reserve_meeting-clause-adds
returns-in_err-reserve_meeting-clause-adds c replicated pattern part i =
    used_less c.args.store.now.desk.heap.room c.reserve_meeting.new.store.desk.heap.room _ c.reserve_meeting.ensures.rest.room
