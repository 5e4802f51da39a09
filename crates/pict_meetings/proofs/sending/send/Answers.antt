use Rattle.std.proofs.Common.{◌+◌, ◌<◌, [], ◌∷◌, length, sym, ap, ◌∙◌, subst, arith}
use Rattle.pict_core.specs.Plain.{plain_val}
use Rattle.pict_desk.specs.Known.{known, operand_value}
use Rattle.pict_code.specs.Instruction as op
use Rattle.pict_queue.specs.QueuesState.{QueuesState}
use Rattle.pict_meetings.specs.Waiting.{oldest}
use Rattle.pict_desk.specs.Code.{core_in}
use Rattle.pict_blocks.specs.Parts.{block_width}
use Rattle.pict_turns.specs.Views.{acting_words}
use Rattle.pict_turns.proofs.Working.{costs_then, own_cost, alone_works}
use Rattle.pict_meetings.proofs.Working.{meeting_works}
use Rattle.pict_meetings.proofs.AtChannels.{output_queue}
use Rattle.pict_meetings.proofs.Growing.{operand_worked, operand_process, operand_over}
use Rattle.pict_turns.proofs.Passing.{may_worked, step_worked}
use Rattle.pict_turns.proofs.Needing.{only_worked, needed_by, node_needs}
use Rattle.pict_meetings.proofs.Needing.{wait_needs, meeting_made}
use Rattle.pict_turns.specs.Growing.{message_need, given_need}
use Rattle.pict_turns.proofs.Growing.{node_adds}
use Rattle.pict_meetings.proofs.Adding.{wait_adds, meeting_added}
use Rattle.pict_turns.proofs.InPlace.{sent_in_place, nothing_worked, output_sends}
use Rattle.pict_meetings.proofs.Plainly.{serves}
use Rattle.pict_meetings.proofs.PassedOver.{step_or_passed, worked_or_passed}
use Rattle.pict_meetings.proofs.sending.send.Goals as goal

pub first_waiting-requires-clause-queue : goal.first_waiting-requires-clause-queue
first_waiting-requires-clause-queue c =
    let core = core_in c.args.code.now in
    let s = c.args.store.now in
    let message = plain_val c.args.message.now in
    output_queue core s c.requires.may.acting c.requires.may.right (operand_value (known s.desk.heap s.desk.values.items) message) c.args.at c.args.channel
    (operand_process core s c.args.channel message c.args.at c.requires.sends)

pub first_waiting-requires-clause-waiting : goal.first_waiting-requires-clause-waiting
first_waiting-requires-clause-waiting c = (core_in c.args.code.now, c.requires.may.acting.store.waiting c.args.channel)

pub send_operand-requires-clause-sends : goal.send_operand-requires-clause-sends
send_operand-requires-clause-sends c =
    (c.args.at, operand_worked (core_in c.args.code.now) c.args.store.now c.first_waiting.new.queues c.first_waiting.ensures.rest c.args.channel (plain_val c.args.message.now) c.args.at c.requires.sends)

pub send_operand-requires-clause-may : goal.send_operand-requires-clause-may
send_operand-requires-clause-may c = may_worked c.args.code.now c.args.store.now c.first_waiting.new.queues c.first_waiting.ensures.rest c.requires.may

pub park_operand-requires : goal.park_operand-requires
park_operand-requires c =
    let core = core_in c.args.code.now in
    let s = c.args.store.now in
    let message = plain_val c.args.message.now in
    record {
      queue = subst (λ (x : QueuesState). c.args.channel + 1 < length x.queues) (sym c.first_waiting.ensures.rest)
          (output_queue core s c.requires.may.acting c.requires.may.right (operand_value (known s.desk.heap s.desk.values.items) message) c.args.at c.args.channel (operand_process core s c.args.channel message c.args.at c.requires.sends));
      over = operand_over core s c.args.channel message c.args.at c.requires.sends;
      pairs = c.requires.may.acting.store.pairs;
      constant = c.requires.constant;
    }

pub returns-in-Input : goal.returns-in-Input
returns-in-Input c =
    let core = core_in c.args.code.now in
    let s = c.args.store.now in
    let message = plain_val c.args.message.now in
    let x = c.requires.sends in
    let q = c.first_waiting.new.queues in
    record {
      steps = record {
        step = worked_or_passed c.args.code.now c.args.store.now c.first_waiting.new.queues c.first_waiting.ensures.rest c.requires.may c.args.passes c.send_operand.new.store c.send_operand.result c.send_operand.ensures.step;
        work =
            meeting_works c.args.code.now c.requires.may.code_is s c.send_operand.new.store c.requires.may.acting.store c.args.channel c.in-Input.reader
            (sym c.first_waiting.ensures.first ∙ c.in-Input.is) (operand_value (known s.desk.heap s.desk.values.items) message) c.args.at (operand_process core s c.args.channel message c.args.at x)
            c.send_operand.ensures.turn
            (λ replicated pattern part theirs frame i g h. costs_then s.queues c.first_waiting.new.queues c.send_operand.new.store.queues 2 _ _ c.first_waiting.ensures.cost (c.send_operand.ensures.cost replicated pattern part theirs frame i g h) (omega arith))
            x.chan message c.args.at x.acts;
        blocks =
            meeting_made c.args.code.now c.requires.may.code_is s (9 ∷ []) (node_needs core s (op.Out x.chan message c.args.at) x.acts) c.args.channel (operand_value (known s.desk.heap s.desk.values.items) message) c.args.at
            (operand_process core s c.args.channel message c.args.at x) c.requires.may.acting.store
            c.in-Input.reader (sym c.first_waiting.ensures.first ∙ c.in-Input.is) c.send_operand.new.store
            (λ replicated pattern part frame i f. only_worked s.queues c.first_waiting.new.queues c.send_operand.new.store.queues (block_width frame ∷ []) c.first_waiting.ensures.rest (c.send_operand.ensures.blocks replicated pattern part frame i f));
        adds =
            meeting_added c.args.code.now c.requires.may.code_is s (message_need message) (given_need message) (node_adds core s (op.Out x.chan message c.args.at) x.acts) c.args.channel
            (operand_value (known s.desk.heap s.desk.values.items) message) c.args.at (operand_process core s c.args.channel message c.args.at x) c.requires.may.acting.store
            c.in-Input.reader (sym c.first_waiting.ensures.first ∙ c.in-Input.is) c.send_operand.new.store c.send_operand.ensures.adds;
        plain = λ meets.
            let sent = output_sends (core_in c.args.code.now) c.args.store.now c.requires.sends.chan (plain_val c.args.message.now) c.args.at c.requires.sends.acts meets in
            nothing_worked s q c.send_operand.new.store c.send_operand.result c.first_waiting.ensures.rest
            (c.send_operand.ensures.plain (sent_in_place (core_in c.args.code.now) s q c.first_waiting.ensures.rest (acting_words (core_in c.args.code.now) s) sent));
      };
    }

pub returns-in_default : goal.returns-in_default
returns-in_default c =
    let s = c.args.store.now in
    let core = core_in c.args.code.now in
    let q = c.first_waiting.new.queues in
    let x = c.requires.sends in
    let o = op.Out x.chan (plain_val c.args.message.now) c.args.at in
    let own = own_cost core s o x.acts in
    let turn = c.park_operand.ensures.turn core in
    let message = plain_val c.args.message.now in
    record {
      steps = record {
        step =
            step_or_passed _ _ _ _ _ (step_worked c.args.code.now s q c.first_waiting.ensures.rest c.requires.may c.park_operand.new.store c.park_operand.result
            (c.park_operand.ensures.step core (operand_worked core s q c.first_waiting.ensures.rest c.args.channel (plain_val c.args.message.now) c.args.at c.requires.sends)
            (λ number e. c.in_default.not-Input number (c.first_waiting.ensures.first ∙ sym (ap oldest (c.first_waiting.ensures.contents (c.args.channel + 1))) ∙ e))));
        work =
            alone_works core s c.park_operand.new.store o x.acts 12 (block_width x.acts.node.frame + 4)
            (costs_then s.queues c.first_waiting.new.queues c.park_operand.new.store.queues 2 10 12 c.first_waiting.ensures.cost c.park_operand.ensures.cost (omega arith)) (omega (arith, own, turn)) (omega arith);
        blocks =
            needed_by core s c.park_operand.new.store (9 ∷ [])
            (wait_needs core s (9 ∷ []) (node_needs core s (op.Out x.chan message c.args.at) x.acts) c.args.channel (operand_value (known s.desk.heap s.desk.values.items) message) c.args.at
            (operand_process core s c.args.channel message c.args.at x)
            (λ number e. c.in_default.not-Input number (c.first_waiting.ensures.first ∙ e)))
            (only_worked s.queues c.first_waiting.new.queues c.park_operand.new.store.queues (9 ∷ []) c.first_waiting.ensures.rest c.park_operand.ensures.blocks);
        adds =
            wait_adds core s (message_need message) (given_need message) (node_adds core s (op.Out x.chan message c.args.at) x.acts) c.args.channel (operand_value (known s.desk.heap s.desk.values.items) message) c.args.at
            (operand_process core s c.args.channel message c.args.at x) c.park_operand.new.store c.park_operand.ensures.adds;
        plain = λ meets.
            let sent = output_sends (core_in c.args.code.now) c.args.store.now c.requires.sends.chan (plain_val c.args.message.now) c.args.at c.requires.sends.acts meets in
            let served = serves core s (acting_words core s) c.args.channel (operand_value (known s.desk.heap s.desk.values.items) message) c.args.at
            (operand_process core s c.args.channel message c.args.at c.requires.sends) sent in
            absurd (c.in_default.not-Input served.0 (c.first_waiting.ensures.first ∙ served.2));
      };
    }
