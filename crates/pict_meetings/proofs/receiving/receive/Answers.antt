use Rattle.std.proofs.Common.{◌+◌, ◌<◌, [], ◌∷◌, length, refl, sym, ap, ◌∙◌, subst, arith}
use Rattle.pict_core.specs.Step.{Quiet}
use Rattle.pict_code.specs.Nodes.{input_op}
use Rattle.pict_code.specs.Plain.{plain_pat}
use Rattle.pict_code.specs.ReadBack.{unleveled}
use Rattle.pict_queue.specs.QueuesState.{QueuesState}
use Rattle.pict_blocks.proofs.Held.{works_blocks}
use Rattle.pict_meetings.specs.Waiting.{oldest}
use Rattle.pict_desk.specs.Code.{core_in}
use Rattle.pict_turns.specs.declared.store.Store.{Store}
use Rattle.pict_blocks.specs.Parts.{block_width}
use Rattle.pict_turns.specs.Views.{acting_words}
use Rattle.pict_turns.proofs.AfterReading.{reads_works, acting_read, done_read}
use Rattle.pict_turns.proofs.Making.{makes_nothing}
use Rattle.pict_desk.proofs.Numbered.{in_code}
use Rattle.pict_turns.proofs.Turns.{cost_nobody}
use Rattle.pict_meetings.proofs.Inputs.{part_inside}
use Rattle.pict_meetings.proofs.Receipts.{receives_part}
use Rattle.pict_meetings.proofs.AtChannels.{input_process, input_queue}
use Rattle.pict_turns.proofs.Needing.{only_worked, needed_by}
use Rattle.pict_meetings.proofs.Needing.{receipt_needs, waiting_needs, part_made_beside}
use Rattle.pict_turns.proofs.Growing.{desk_same, adds_none}
use Rattle.pict_meetings.proofs.Adding.{receipt_adds, part_added}
use Rattle.pict_turns.proofs.InPlace.{received_in_place, nothing_worked, input_receives}
use Rattle.pict_meetings.proofs.Plainly.{message_waits}
use Rattle.pict_turns.proofs.Working.{frame_there, costs_then, own_wide, alone_works}
use Rattle.pict_meetings.proofs.Working.{input_works}
use Rattle.pict_turns.proofs.Passing.{may_worked, step_worked}
use Rattle.pict_meetings.proofs.Passing.{receives_worked}
use Rattle.pict_meetings.proofs.receiving.receive.Goals as goal

pub first_waiting-requires-clause-queue : goal.first_waiting-requires-clause-queue
first_waiting-requires-clause-queue c =
    input_queue (core_in c.args.code.now) c.args.store.now c.args.channel c.args.replicated (plain_pat c.args.pattern.now) c.args.part c.requires.receives c.requires.may.right

pub first_waiting-requires-clause-waiting : goal.first_waiting-requires-clause-waiting
first_waiting-requires-clause-waiting c = (core_in c.args.code.now, c.requires.may.acting.store.waiting c.args.channel)

pub receive_message-requires-clause-may : goal.receive_message-requires-clause-may
receive_message-requires-clause-may c = may_worked c.args.code.now c.args.store.now c.first_waiting.new.queues c.first_waiting.ensures.rest c.requires.may

pub receive_message-requires-clause-receives : goal.receive_message-requires-clause-receives
receive_message-requires-clause-receives c =
    receives_worked (core_in c.args.code.now) c.args.store.now c.first_waiting.new.queues c.args.channel c.args.replicated (plain_pat c.args.pattern.now) c.args.part c.first_waiting.ensures.rest c.requires.receives

pub park-requires : goal.park-requires
park-requires c =
    let s = c.args.store.now in
    let q = c.first_waiting.new.queues in
    let mid : Store = record s { queues = q } in
    record {
      code = c.requires.may.code_is;
      acting = acting_read s mid (reads_works s q c.requires.may.acting.store.pairs c.first_waiting.ensures.rest) (core_in c.args.code.now) refl c.requires.may.acting;
      queue = subst (λ (q : QueuesState). c.args.channel + 1 < length q.queues) (sym c.first_waiting.ensures.rest)
          (input_queue (core_in c.args.code.now) s c.args.channel c.args.replicated (plain_pat c.args.pattern.now) c.args.part c.requires.receives c.requires.may.right);
    }

pub returns-in-Output : goal.returns-in-Output
returns-in-Output c =
    let s = c.args.store.now in
    let x = c.requires.receives in
    let code = c.args.code.now in
    let pattern = plain_pat c.args.pattern.now in
    let receives = c.requires.receives in
    let q = c.first_waiting.new.queues in
    record {
      steps = record {
        step = step_worked c.args.code.now c.args.store.now c.first_waiting.new.queues c.first_waiting.ensures.rest c.requires.may c.receive_message.new.store c.receive_message.result c.receive_message.ensures.step;
        work =
            input_works c.args.code.now c.requires.may.code_is s c.receive_message.new.store c.args.replicated x.chan (plain_pat c.args.pattern.now) c.args.part x.acts c.receive_message.ensures.turn
            (λ frame f. costs_then s.queues c.first_waiting.new.queues c.receive_message.new.store.queues 2 (block_width frame + 7) (block_width frame + 9) c.first_waiting.ensures.cost (c.receive_message.ensures.cost frame f) (omega arith));
        blocks =
            let core = core_in code in
            let p = input_process core s c.args.channel c.args.replicated pattern c.args.part receives in
            let low = in_code code c.requires.may.code_is c.args.part (part_inside core pattern c.args.part (receives_part core s c.args.channel c.args.replicated pattern c.args.part receives)) in
            let f = frame_there code c.args.part low in
            part_made_beside code c.requires.may.code_is s c.receive_message.new.store c.args.part f.0 f.1
            (receipt_needs core s c.args.replicated receives.chan pattern c.args.part receives.acts c.args.channel (unleveled pattern) p.0 p.1 (sym c.first_waiting.ensures.first ∙ c.in-Output.is))
            (only_worked s.queues c.first_waiting.new.queues c.receive_message.new.store.queues ((length (acting_words core s) + 1) ∷ block_width f.0 ∷ []) c.first_waiting.ensures.rest (c.receive_message.ensures.blocks f.0 f.1));
        adds =
            let core = core_in c.args.code.now in
            let p = input_process core s c.args.channel c.args.replicated pattern c.args.part receives in
            part_added c.args.code.now c.requires.may.code_is s c.receive_message.new.store c.args.part
            (receipt_adds core s c.args.replicated receives.chan pattern c.args.part receives.acts c.args.channel (unleveled pattern) p.0 p.1 (sym c.first_waiting.ensures.first ∙ c.in-Output.is))
            c.receive_message.ensures.adds;
        plain = λ meets.
            let received = input_receives (core_in c.args.code.now) c.args.store.now c.args.replicated c.requires.receives.chan (plain_pat c.args.pattern.now) c.args.part c.requires.receives.acts meets in
            nothing_worked s q c.receive_message.new.store c.receive_message.result c.first_waiting.ensures.rest
            (c.receive_message.ensures.plain (received_in_place (core_in c.args.code.now) s q c.first_waiting.ensures.rest (acting_words (core_in c.args.code.now) s) received));
      };
    }

pub returns-in_default : goal.returns-in_default
returns-in_default c =
    let s = c.args.store.now in
    let core = core_in c.args.code.now in
    let pattern = plain_pat c.args.pattern.now in
    let q = c.first_waiting.new.queues in
    let mid : Store = record s { queues = q } in
    let x = c.requires.receives in
    let o = input_op c.args.replicated x.chan (plain_pat c.args.pattern.now) c.args.part in
    let wide = own_wide core s o x.acts in
    let idle = cost_nobody core c.park.new.store c.park.ensures.turn in
    let receives = c.requires.receives in
    record {
      steps = record {
        step =
            record {
              done = done_read s mid (reads_works s q c.requires.may.acting.store.pairs c.first_waiting.ensures.rest) core refl c.park.new.store Quiet
                  (c.park.ensures.input c.args.replicated pattern c.args.part (receives_worked core s q c.args.channel c.args.replicated pattern c.args.part c.first_waiting.ensures.rest c.requires.receives)
                  (λ e. c.in_default.not-Output (c.first_waiting.ensures.first ∙ sym (ap oldest (c.first_waiting.ensures.contents (c.args.channel + 1))) ∙ e)));
              event = tt;
            };
        work =
            alone_works core s c.park.new.store o x.acts (block_width x.acts.node.frame + 4) 0
            (costs_then s.queues c.first_waiting.new.queues c.park.new.store.queues 2 (length (acting_words core s) + 3) (block_width x.acts.node.frame + 4) c.first_waiting.ensures.cost c.park.ensures.cost (omega (arith, wide)))
            (omega (arith, idle)) (omega arith);
        blocks =
            let p = input_process core s c.args.channel c.args.replicated pattern c.args.part receives in
            needed_by core s c.park.new.store []
            (waiting_needs core s c.args.replicated receives.chan pattern c.args.part receives.acts c.args.channel (unleveled pattern) p.0 p.1 (λ e. c.in_default.not-Output (c.first_waiting.ensures.first ∙ e)))
            (makes_nothing s.queues c.park.new.store.queues [] (λ width. c.park.ensures.blocks width ∙ works_blocks s.queues c.first_waiting.new.queues c.first_waiting.ensures.rest width));
        adds = adds_none (core_in c.args.code.now) c.args.store.now c.park.new.store (desk_same c.args.store.now c.park.new.store c.park.ensures.desk);
        plain = λ meets.
            let received = input_receives (core_in c.args.code.now) c.args.store.now c.args.replicated c.requires.receives.chan (plain_pat c.args.pattern.now) c.args.part c.requires.receives.acts meets in
            let p = input_process core s c.args.channel c.args.replicated pattern c.args.part c.requires.receives in
            absurd (c.in_default.not-Output (c.first_waiting.ensures.first ∙ message_waits core s (acting_words core s) c.args.channel c.args.replicated (unleveled pattern) p.0 p.1 received));
      };
    }
