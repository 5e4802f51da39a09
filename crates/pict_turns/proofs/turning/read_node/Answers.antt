use Rattle.std.proofs.Common.{ℕ, List, ◌≤◌, length, map, refl, sym, ap, subst, arith}
use Rattle.pict_syntax.specs.declared.limits.TheConstants.{NARROW_LIMIT}
use Rattle.pict_code.specs.Plain.{plain_node}
use Rattle.pict_queue.specs.QueuesState.{QueuesState, CostsAtMost}
use Rattle.pict_queue.specs.Contents.{held_words}
use Rattle.pict_desk.specs.Code.{core_in}
use Rattle.pict_turns.specs.declared.store.Store.{Store}
use Rattle.pict_turns.proofs.Held.{has_read_by}
use Rattle.pict_turns.proofs.AfterReading.{reads_aside, held_read}
use Rattle.pict_blocks.proofs.Holding.{width_wide}
use Rattle.pict_turns.proofs.Numbered.{coded_inside}
use Rattle.pict_desk.proofs.Numbered.{coded_frame, coded_rising, in_code, same_frame}
use Rattle.pict_blocks.proofs.Costs.{costs_more, costs_one}
use Rattle.pict_turns.proofs.Taking.{node_low, node_read, read_frame_is, words_width, narrow_taken, narrow_turn_taken}
use Rattle.pict_turns.proofs.turning.read_node.Goals as goal

pub frame_at-frame-requires : goal.frame_at-frame-requires
frame_at-frame-requires c =
    let core = core_in c.args.code.now in
    let s = c.args.store.now in
    in_code c.args.code.now c.requires.code c.args.number
    (node_low core s.desk.heap c.args.number (held_words s.queues.region c.args.block) c.requires.is.0 c.requires.is.1)

pub read_narrow-requires-clause-inside : goal.read_narrow-requires-clause-inside
read_narrow-requires-clause-inside c = coded_inside c.args.code.now c.requires.code c.args.store.now c.requires.store c.args.number c.frame_at-frame.result.now c.frame_at-frame.ensures

pub read_narrow-requires-clause-rising : goal.read_narrow-requires-clause-rising
read_narrow-requires-clause-rising c = coded_rising c.args.code.now c.requires.code c.args.number c.frame_at-frame.result.now c.frame_at-frame.ensures

pub read_wide_node-requires-clause-wide : goal.read_wide_node-requires-clause-wide
read_wide_node-requires-clause-wide c = λ frame f.
    let many = c.if-frame.false in
    let same = ap length (same_frame (map plain_node c.args.code.now) c.args.number frame c.frame_at-frame.result.now f c.frame_at-frame.ensures) in
    omega (arith, many, same)

pub give-requires : goal.give-requires
give-requires c = held_read c.args.store.now (record c.read_wide_node.new.store { turn = c.args.store.now.turn }) c.read_wide_node.ensures.read.rest c.args.block c.requires.held

pub returns-then-frame-clause-frees : goal.returns-then-frame-clause-frees
returns-then-frame-clause-frees c =
    let core = core_in c.args.code.now in
    let s = c.args.store.now in
    let n : Store = record s { desk = c.read_narrow.new.desk } in
    let frame = c.frame_at-frame.result.now in
    let words = held_words s.queues.region c.args.block in
    let f = coded_frame c.args.code.now c.requires.code c.args.number frame c.frame_at-frame.ensures in
    let read = node_read core s n c.args.number words frame c.requires.is.0 c.requires.is.1 f (has_read_by s s.queues c.read_narrow.new.desk words frame refl c.read_narrow.ensures.read) in
    let few : length read.node.frame ≤ NARROW_LIMIT =
    subst (λ (ls : List ℕ). length ls ≤ NARROW_LIMIT) (sym (read_frame_is core s n c.args.number words frame read f)) c.if-frame.true in
    rw c.set.ensures (record {
      between = s.queues;
      read = record {
        words = narrow_taken core s n c.args.number words c.requires.is.0 c.requires.is.1 read few;
        turn = narrow_turn_taken core s n c.args.number words c.requires.is.0 c.requires.is.1 read few;
        rest = reads_aside s n read.rest;
      };
      freed = c.read_narrow.ensures.freed;
    })

pub returns-then-frame-clause-cost : goal.returns-then-frame-clause-cost
returns-then-frame-clause-cost c =
    let core = core_in c.args.code.now in
    let s = c.args.store.now in
    let words = held_words s.queues.region c.args.block in
    let f = coded_frame c.args.code.now c.requires.code c.args.number c.frame_at-frame.result.now c.frame_at-frame.ensures in
    subst (λ (n : ℕ). CostsAtMost n s.queues c.read_narrow.new.queues) (sym (words_width core s.desk.heap c.args.number words c.requires.is.0 c.requires.is.1 c.frame_at-frame.result.now f))
    c.read_narrow.ensures.cost

pub returns-else-frame-clause-frees : goal.returns-else-frame-clause-frees
returns-else-frame-clause-frees c = record {
  between = c.read_wide_node.new.store.queues;
  read = c.read_wide_node.ensures.read;
  freed = record {
    contents = c.give.ensures.contents;
    spare = c.give.ensures.spare;
    widths = c.give.ensures.others;
    queues = ap (λ (q : QueuesState). q.queues) c.give.ensures.rest;
    spare_queues = ap (λ (q : QueuesState). q.spare_queues) c.give.ensures.rest;
    gone = c.give.ensures.gone;
    blocks = c.give.ensures.blocks;
  };
}

pub returns-else-frame-clause-cost : goal.returns-else-frame-clause-cost
returns-else-frame-clause-cost c =
    let core = core_in c.args.code.now in
    let s = c.args.store.now in
    let frame = c.frame_at-frame.result.now in
    let words = held_words s.queues.region c.args.block in
    let f = coded_frame c.args.code.now c.requires.code c.args.number frame c.frame_at-frame.ensures in
    let width = words_width core s.desk.heap c.args.number words c.requires.is.0 c.requires.is.1 frame f in
    let four = width_wide frame c.if-frame.false in
    costs_more s.queues c.read_wide_node.new.store.queues c.give.new.self 2 1 _ (omega (arith, width, four)) c.read_wide_node.ensures.cost
    (costs_one c.read_wide_node.new.store.queues c.give.new.self c.give.ensures.work)
