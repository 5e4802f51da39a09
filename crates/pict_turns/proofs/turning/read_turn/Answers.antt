use Rattle.std.proofs.Common.{◌+◌, ◌≡◌, length, ap, arith}
use Rattle.pict_blocks.proofs.Costs.{costs_more, costs_one, costs_up}
use Rattle.pict_region.specs.RegionState.{words_of}
use Rattle.pict_queue.specs.QueuesState.{QueuesState}
use Rattle.pict_queue.specs.Contents.{held_words}
use Rattle.pict_desk.specs.Code.{core_in}
use Rattle.pict_turns.proofs.AfterReading.{held_read}
use Rattle.pict_turns.proofs.Taking.{kept_first, node_first}
use Rattle.pict_turns.proofs.turning.read_turn.Goals as goal

pub read_output-requires-clause-kept : goal.read_output-requires-clause-kept
read_output-requires-clause-kept c =
    let s = c.args.store.now in
    kept_first (core_in c.args.code.now) s.desk.heap (words_of s.queues.region c.args.block) c.requires.is (let w = c.requires.first in omega (arith, w))

pub read_output-requires-clause-pairs : goal.read_output-requires-clause-pairs
read_output-requires-clause-pairs c = c.requires.store.pairs

pub give-requires : goal.give-requires
give-requires c =
    held_read c.args.store.now (record c.read_output.new.store { turn = c.args.store.now.turn }) (c.read_output.ensures.read (core_in c.args.code.now)).rest c.args.block c.requires.held

pub returns-then-first-eq0-clause-frees : goal.returns-then-first-eq0-clause-frees
returns-then-first-eq0-clause-frees c = record {
  between = c.read_output.new.store.queues;
  read = c.read_output.ensures.read (core_in c.args.code.now);
  freed = record {
    contents = c.give.ensures.contents;
    spare = c.give.ensures.spare;
    widths = c.give.ensures.others;
    queues = ap (λ (q : QueuesState). q.queues) c.give.ensures.rest;
    spare_queues = ap (λ (q : QueuesState). q.spare_queues) c.give.ensures.rest;
    gone = c.give.ensures.gone;
    blocks = c.give.ensures.blocks;
  };
}

pub returns-then-first-eq0-clause-cost : goal.returns-then-first-eq0-clause-cost
returns-then-first-eq0-clause-cost c =
    let s = c.args.store.now in
    let k = kept_first (core_in c.args.code.now) s.desk.heap (words_of s.queues.region c.args.block) c.requires.is (let w = c.requires.first in omega (arith, w)) in
    let long : length (held_words s.queues.region c.args.block) ≡ 8 = ap length k.is in
    costs_more s.queues c.read_output.new.store.queues c.give.new.self 7 1 (length (held_words s.queues.region c.args.block) + 2) (omega (arith, long))
    c.read_output.ensures.cost (costs_one c.read_output.new.store.queues c.give.new.self c.give.ensures.work)

pub read_node-requires-clause-is : goal.read_node-requires-clause-is
read_node-requires-clause-is c =
    let s = c.args.store.now in
    let w = c.requires.first in
    let n = node_first (core_in c.args.code.now) s.desk.heap (words_of s.queues.region c.args.block) c.requires.is (omega (arith, w)) in
    (n.0, let e = n.1 in omega (arith, e, w))

pub returns-else-first-eq0-clause-cost : goal.returns-else-first-eq0-clause-cost
returns-else-first-eq0-clause-cost c =
    let s = c.args.store.now in
    costs_up s.queues c.read_node.new.store.queues (length (held_words s.queues.region c.args.block) + 1) (length (held_words s.queues.region c.args.block) + 2) (omega arith) c.read_node.ensures.cost
