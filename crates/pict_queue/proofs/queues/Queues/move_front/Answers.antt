use Rattle.std.proofs.Common.{map, refl, ap}
use Rattle.pict_queue.specs.Contents.{held_words}
use Rattle.pict_queue.proofs.Kept.{lists_turned, lists_moved, held_moved, no_more_moved, contents_moved, words_along}
use Rattle.pict_queue.proofs.queues.Queues.move_front.Goals as goal

pub returns-then-is_one_block-clause-lists : goal.returns-then-is_one_block-clause-lists
returns-then-is_one_block-clause-lists c =
    let one = c.is_one_block.ensures.one c.if-is_one_block.true in lists_turned c.args.self.now c.args.from.0 c.args.to.0 one.0 one.1

pub returns-then-is_one_block-clause-moved : goal.returns-then-is_one_block-clause-moved
returns-then-is_one_block-clause-moved c queue = ap (map (held_words c.args.self.now.region)) (returns-then-is_one_block-clause-lists c queue)

pub returns-then-is_one_block-clause-kept : goal.returns-then-is_one_block-clause-kept
returns-then-is_one_block-clause-kept c block held = record { held = held; words = refl }

pub returns-clause-lists : goal.returns-clause-lists
returns-clause-lists c =
    lists_moved c.args.self.now c.pop-block.new.self c.push_back.new.self c.args.from.0 c.args.to.0 c.pop-block.result
    c.pop-block.ensures.list c.pop-block.ensures.others c.push_back.ensures.list c.push_back.ensures.others

pub returns-clause-moved : goal.returns-clause-moved
returns-clause-moved c =
    contents_moved c.args.self.now c.push_back.new.self
    (words_along c.args.self.now.region c.pop-block.new.self.region c.push_back.new.self.region c.pop-block.ensures.rest.contents c.push_back.ensures.rest.contents)
    c.args.from.0 c.args.to.0 (returns-clause-lists c)

pub returns-clause-kept : goal.returns-clause-kept
returns-clause-kept c =
    held_moved c.args.self.now c.pop-block.new.self c.push_back.new.self c.args.from.0 c.args.to.0 c.pop-block.result
    c.pop-block.ensures.list c.pop-block.ensures.others c.push_back.ensures.list c.push_back.ensures.others c.pop-block.ensures.kept c.push_back.ensures.kept

pub returns-clause-no_more : goal.returns-clause-no_more
returns-clause-no_more c =
    no_more_moved c.args.self.now c.pop-block.new.self c.push_back.new.self c.args.from.0 c.args.to.0 c.pop-block.result
    c.pop-block.ensures.list c.pop-block.ensures.others c.push_back.ensures.list c.push_back.ensures.others c.pop-block.ensures.more c.push_back.ensures.gone
