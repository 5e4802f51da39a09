use Rattle.std.proofs.Common.{arith}
use Rattle.pict_blocks.proofs.Costs.{costs_more, costs_one}
use Rattle.pict_blocks.proofs.Held.{made_of}
use Rattle.pict_blocks.proofs.Outputs.{taken_wide, still_wide, all_kept}
use Rattle.pict_blocks.proofs.Written.{writes_one}
use Rattle.pict_blocks.proofs.keeping.kept_block.Goals as goal

pub write_pair-requires-clause-inside : goal.write_pair-requires-clause-inside
write_pair-requires-clause-inside c =
    let e = taken_wide c.args.queues.now c.take-block.new.self c.take-block.result 9 c.take-block.ensures.live in omega (arith, e)

pub write_pair-requires-2-clause-inside : goal.write_pair-requires-2-clause-inside
write_pair-requires-2-clause-inside c =
    let e = still_wide c.take-block.new.self c.write_pair.new.queues c.take-block.result 2 9 c.args.kept.to c.write_pair.ensures.writes
    (taken_wide c.args.queues.now c.take-block.new.self c.take-block.result 9 c.take-block.ensures.live) in
    omega (arith, e)

pub write_pair-requires-3-clause-inside : goal.write_pair-requires-3-clause-inside
write_pair-requires-3-clause-inside c =
    let e = still_wide c.write_pair.new.queues c.write_pair-2.new.queues c.take-block.result 4 9 c.args.kept.message c.write_pair-2.ensures.writes
    (still_wide c.take-block.new.self c.write_pair.new.queues c.take-block.result 2 9 c.args.kept.to c.write_pair.ensures.writes
    (taken_wide c.args.queues.now c.take-block.new.self c.take-block.result 9 c.take-block.ensures.live)) in
    omega (arith, e)

pub set-requires-clause-inside : goal.set-requires-clause-inside
set-requires-clause-inside c =
    let e = still_wide c.write_pair-2.new.queues c.write_pair-3.new.queues c.take-block.result 6 9 (c.from.result, c.from-2.result) c.write_pair-3.ensures.writes
    (still_wide c.write_pair.new.queues c.write_pair-2.new.queues c.take-block.result 4 9 c.args.kept.message c.write_pair-2.ensures.writes
    (still_wide c.take-block.new.self c.write_pair.new.queues c.take-block.result 2 9 c.args.kept.to c.write_pair.ensures.writes
    (taken_wide c.args.queues.now c.take-block.new.self c.take-block.result 9 c.take-block.ensures.live))) in
    omega (arith, e)

pub returns-clause-made : goal.returns-clause-made
returns-clause-made c =
    let d = writes_one c.write_pair-3.new.queues c.set.new.self _ _ c.set.ensures.live c.set.ensures.free c.set.ensures.blocks c.set.ensures.rest c.set.ensures.lists c.set.ensures.held in
    made_of c.args.queues.now c.take-block.new.self c.set.new.self c.take-block.result 9 _ c.take-block.ensures.held c.take-block.ensures.spare c.take-block.ensures.others c.take-block.ensures.rest
    c.take-block.ensures.apart c.take-block.ensures.contents c.take-block.ensures.kept c.take-block.ensures.more c.take-block.ensures.blocks
    (all_kept c.args.queues.now c.take-block.new.self c.write_pair.new.queues c.write_pair-2.new.queues c.write_pair-3.new.queues c.set.new.self c.take-block.result c.args.kept
    c.take-block.ensures.live c.write_pair.ensures.writes c.write_pair-2.ensures.writes (rw (c.from.ensures, c.from-2.ensures) at c.write_pair-3.ensures.writes) (rw (c.from-3.ensures) at d))

pub returns-clause-cost : goal.returns-clause-cost
returns-clause-cost c =
    costs_more c.args.queues.now c.write_pair-3.new.queues c.set.new.self 7 1 _ (omega arith)
    (costs_more c.args.queues.now c.write_pair-2.new.queues c.write_pair-3.new.queues 5 2 _ (omega arith)
    (costs_more c.args.queues.now c.write_pair.new.queues c.write_pair-2.new.queues 3 2 _ (omega arith)
    (costs_more c.args.queues.now c.take-block.new.self c.write_pair.new.queues 1 2 _ (omega arith)
    (costs_one c.args.queues.now c.take-block.new.self c.take-block.ensures.work) c.write_pair.ensures.cost)
    c.write_pair-2.ensures.cost) c.write_pair-3.ensures.cost)
    (costs_one c.write_pair-3.new.queues c.set.new.self c.set.ensures.work)
