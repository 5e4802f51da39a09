use Rattle.std.proofs.Common.{◌+◌, ◌<◌, [], ◌∷◌, length, refl, sym, ap, ◌∙◌, subst, arith}
use Rattle.pict_core.specs.Step.{Quiet}
use Rattle.pict_desk.specs.Known.{value_in}
use Rattle.pict_queue.specs.QueuesState.{QueuesState}
use Rattle.pict_blocks.proofs.Held.{works_blocks}
use Rattle.pict_meetings.specs.Waiting.{oldest}
use Rattle.pict_desk.specs.Code.{core_in}
use Rattle.pict_blocks.specs.Parts.{block_width}
use Rattle.pict_turns.specs.Views.{acting_words}
use Rattle.pict_turns.specs.declared.store.Store.{Store}
use Rattle.pict_turns.proofs.AfterReading.{reads_works, done_read, acting_read}
use Rattle.pict_turns.proofs.Making.{makes_nothing}
use Rattle.pict_turns.proofs.Turns.{cost_nobody}
use Rattle.pict_turns.proofs.Working.{costs_then, kept_length, kept_works}
use Rattle.pict_meetings.proofs.Working.{kept_meeting_works}
use Rattle.pict_meetings.proofs.AtChannels.{output_queue}
use Rattle.pict_meetings.proofs.Growing.{sends_whole, sends_worked, kept_worked}
use Rattle.pict_turns.proofs.Passing.{may_worked, step_worked}
use Rattle.pict_turns.proofs.Needing.{only_worked, needed_by, kept_needs}
use Rattle.pict_meetings.proofs.Needing.{wait_needs, meeting_made}
use Rattle.pict_desk.specs.Needs.{no_need}
use Rattle.pict_turns.proofs.Adding.{used_beside}
use Rattle.pict_turns.proofs.Growing.{kept_adds, desk_same, adds_none}
use Rattle.pict_meetings.proofs.Adding.{meeting_added}
use Rattle.pict_turns.proofs.InPlace.{sent_in_place, nothing_worked, kept_sends}
use Rattle.pict_meetings.proofs.Plainly.{serves}
use Rattle.pict_meetings.proofs.sending.send_kept.Goals as goal

pub first_waiting-requires-clause-queue : goal.first_waiting-requires-clause-queue
first_waiting-requires-clause-queue c =
    let s = c.args.store.now in
    let x = c.requires.sends in
    output_queue (core_in c.args.code.now) s c.requires.may.acting c.requires.may.right (value_in s.desk.heap c.args.message.0 c.args.message.1) x.0 c.args.channel x.1.is

pub first_waiting-requires-clause-waiting : goal.first_waiting-requires-clause-waiting
first_waiting-requires-clause-waiting c = (core_in c.args.code.now, c.requires.may.acting.store.waiting c.args.channel)

pub send_to_reader-done-requires-clause-may : goal.send_to_reader-done-requires-clause-may
send_to_reader-done-requires-clause-may c = may_worked c.args.code.now c.args.store.now c.first_waiting.new.queues c.first_waiting.ensures.rest c.requires.may

pub send_to_reader-done-requires-clause-sends : goal.send_to_reader-done-requires-clause-sends
send_to_reader-done-requires-clause-sends c =
    let x = c.requires.sends in
    (x.0, sends_whole _ _ _ _ _ (sends_worked (core_in c.args.code.now) c.args.store.now c.first_waiting.new.queues c.first_waiting.ensures.rest c.args.channel c.args.message x.0 x.1))

pub park-requires : goal.park-requires
park-requires c =
    let s = c.args.store.now in
    let q = c.first_waiting.new.queues in
    let mid : Store = record s { queues = q } in
    let x = c.requires.sends in
    record {
      code = c.requires.may.code_is;
      acting = acting_read s mid (reads_works s q c.requires.may.acting.store.pairs c.first_waiting.ensures.rest) (core_in c.args.code.now) refl c.requires.may.acting;
      queue = subst (λ (q : QueuesState). c.args.channel + 1 < length q.queues) (sym c.first_waiting.ensures.rest)
          (output_queue (core_in c.args.code.now) s c.requires.may.acting c.requires.may.right (value_in s.desk.heap c.args.message.0 c.args.message.1) x.0 c.args.channel x.1.is);
    }

pub returns-in-Input : goal.returns-in-Input
returns-in-Input c =
    let s = c.args.store.now in
    let q = c.first_waiting.new.queues in
    let new = c.send_to_reader-done.new.store in
    let x = c.requires.sends in
    let core = core_in c.args.code.now in
    record {
      steps = record {
        step =
            step_worked c.args.code.now s q c.first_waiting.ensures.rest c.requires.may new c.receipt.result
            (c.receipt.ensures.step (core_in c.args.code.now) (record s { queues = q }) new c.send_to_reader-done.ensures.ok c.send_to_reader-done.ensures.refused);
        work =
            kept_meeting_works c.args.code.now c.requires.may.code_is s c.send_to_reader-done.new.store c.requires.may.acting.store c.args.channel c.in-Input.reader
            (sym c.first_waiting.ensures.first ∙ c.in-Input.is) (value_in s.desk.heap c.args.message.0 c.args.message.1) x.0 x.1.is
            c.send_to_reader-done.ensures.turn
            (λ replicated pattern part theirs frame i f g. costs_then s.queues c.first_waiting.new.queues c.send_to_reader-done.new.store.queues 2 _ _ c.first_waiting.ensures.cost (c.send_to_reader-done.ensures.cost replicated pattern part theirs frame i f g) (omega arith))
            c.requires.may.acting c.requires.kept.kept;
        blocks =
            meeting_made c.args.code.now c.requires.may.code_is s [] (kept_needs core s _ c.requires.kept.kept.is) c.args.channel (value_in s.desk.heap c.args.message.0 c.args.message.1) x.0 x.1.is c.requires.may.acting.store
            c.in-Input.reader (sym c.first_waiting.ensures.first ∙ c.in-Input.is) c.send_to_reader-done.new.store
            (λ replicated pattern part frame i f. only_worked s.queues c.first_waiting.new.queues c.send_to_reader-done.new.store.queues (block_width frame ∷ []) c.first_waiting.ensures.rest (c.send_to_reader-done.ensures.blocks replicated pattern part frame i f));
        adds =
            meeting_added c.args.code.now c.requires.may.code_is s no_need no_need (kept_adds core s _ c.requires.kept.kept.is) c.args.channel (value_in s.desk.heap c.args.message.0 c.args.message.1) x.0 x.1.is
            c.requires.may.acting.store c.in-Input.reader (sym c.first_waiting.ensures.first ∙ c.in-Input.is) c.send_to_reader-done.new.store
            (λ replicated pattern part i. used_beside s.desk.heap.room c.send_to_reader-done.new.store.desk.heap.room no_need _ (c.send_to_reader-done.ensures.adds replicated pattern part i));
        plain = λ meets.
            let sent = kept_sends (core_in c.args.code.now) c.args.store.now c.requires.kept.kept meets in
            let sent = nothing_worked s q c.send_to_reader-done.new.store c.send_to_reader-done.result c.first_waiting.ensures.rest
            (c.send_to_reader-done.ensures.plain (sent_in_place (core_in c.args.code.now) s q c.first_waiting.ensures.rest (acting_words (core_in c.args.code.now) s) sent)) in
            (c.receipt.ensures.ok sent.0, sent.1);
      };
    }

pub returns-in_default : goal.returns-in_default
returns-in_default c =
    let s = c.args.store.now in
    let core = core_in c.args.code.now in
    let q = c.first_waiting.new.queues in
    let mid : Store = record s { queues = q } in
    let n = kept_length core s c.requires.kept.kept in
    let idle = cost_nobody core c.park.new.store c.park.ensures.turn in
    let x = c.requires.sends in
    let sends = c.requires.sends in
    record {
      steps = record {
        step =
            record {
              done = done_read s mid (reads_works s q c.requires.may.acting.store.pairs c.first_waiting.ensures.rest) core refl c.park.new.store Quiet
                  (c.park.ensures.output (kept_worked core s q c.first_waiting.ensures.rest c.args.channel c.requires.kept)
                  (λ number e. c.in_default.not-Input number (c.first_waiting.ensures.first ∙ sym (ap oldest (c.first_waiting.ensures.contents (c.args.channel + 1))) ∙ e)));
              event = tt;
            };
        work =
            kept_works core s c.park.new.store c.requires.may.acting c.requires.kept.kept 13 0
            (costs_then s.queues c.first_waiting.new.queues c.park.new.store.queues 2 (length (acting_words core s) + 3) 13 c.first_waiting.ensures.cost c.park.ensures.cost (omega (arith, n))) (omega (arith, idle)) (omega arith);
        blocks =
            needed_by core s c.park.new.store []
            (wait_needs core s [] (kept_needs core s _ c.requires.kept.kept.is) c.args.channel (value_in s.desk.heap c.args.message.0 c.args.message.1) x.0 x.1.is
            (λ number e. c.in_default.not-Input number (c.first_waiting.ensures.first ∙ e)))
            (makes_nothing s.queues c.park.new.store.queues [] (λ width. c.park.ensures.blocks width ∙ works_blocks s.queues c.first_waiting.new.queues c.first_waiting.ensures.rest width));
        adds = adds_none (core_in c.args.code.now) c.args.store.now c.park.new.store (desk_same c.args.store.now c.park.new.store c.park.ensures.desk);
        plain = λ meets.
            let sent = kept_sends (core_in c.args.code.now) c.args.store.now c.requires.kept.kept meets in
            let served = serves core s (acting_words core s) c.args.channel (value_in s.desk.heap c.args.message.0 c.args.message.1) sends.0 sends.1.is sent in
            absurd (c.in_default.not-Input served.0 (c.first_waiting.ensures.first ∙ served.2));
      };
    }
