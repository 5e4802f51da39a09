use Rattle.pict_queue.specs.Contents.{held_words}
use Rattle.pict_desk.specs.Code.{core_in}
use Rattle.pict_turns.proofs.Taking.{popped_block, popped_store, turn_acting, turn_takes, turn_costs}
use Rattle.pict_turns.proofs.turning.take_turn.Goals as goal

pub read_turn-requires-clause-store : goal.read_turn-requires-clause-store
read_turn-requires-clause-store c =
    let popped = c.pop_front_word.new.self in
    popped_store (core_in c.args.code.now) c.args.store.now popped c.requires.store c.requires.nobody (held_words popped.region c.in-Some.block)
    c.in-Some.ensures.popped c.in-Some.ensures.other_contents c.in-Some.ensures.rest.queues

pub read_turn-requires-clause-is : goal.read_turn-requires-clause-is
read_turn-requires-clause-is c =
    let popped = c.pop_front_word.new.self in
    popped_block (core_in c.args.code.now) c.args.store.now popped c.requires.store c.requires.nobody (held_words popped.region c.in-Some.block)
    c.in-Some.ensures.popped c.in-Some.ensures.other_contents c.in-Some.ensures.rest.queues

pub returns-clause-acting : goal.returns-clause-acting
returns-clause-acting c =
    let s = c.args.store.now in
    let new = c.read_turn.new.store in
    let f = c.read_turn.ensures.frees in
    turn_acting (core_in c.args.code.now) s c.pop_front_word.new.self c.in-Some.block (record new { queues = f.between; turn = s.turn }) new.turn new.queues c.requires.store c.requires.nobody
    c.in-Some.ensures.popped c.in-Some.ensures.other_contents c.in-Some.ensures.rest c.in-Some.ensures.blocks c.in-Some.ensures.more
    f.read.rest f.read.words f.read.turn f.freed.contents f.freed.queues f.freed.spare f.freed.widths f.freed.gone f.freed.blocks

pub returns-clause-takes : goal.returns-clause-takes
returns-clause-takes c =
    let s = c.args.store.now in
    let new = c.read_turn.new.store in
    let f = c.read_turn.ensures.frees in
    turn_takes (core_in c.args.code.now) s c.pop_front_word.new.self c.in-Some.block (record new { queues = f.between; turn = s.turn }) new.turn new.queues c.requires.store c.requires.nobody
    c.in-Some.ensures.popped c.in-Some.ensures.other_contents c.in-Some.ensures.rest c.in-Some.ensures.blocks c.in-Some.ensures.more
    f.read.rest f.read.words f.read.turn f.freed.contents f.freed.queues f.freed.spare f.freed.widths f.freed.gone f.freed.blocks f.freed.spare_queues

pub returns-clause-cost : goal.returns-clause-cost
returns-clause-cost c =
    let s = c.args.store.now in
    let new = c.read_turn.new.store in
    let f = c.read_turn.ensures.frees in
    turn_costs (core_in c.args.code.now) s c.pop_front_word.new.self c.in-Some.block (record new { queues = f.between; turn = s.turn }) new.turn new.queues c.requires.store c.requires.nobody
    c.in-Some.ensures.popped c.in-Some.ensures.other_contents c.in-Some.ensures.rest c.in-Some.ensures.blocks c.in-Some.ensures.more
    f.read.rest f.read.words f.read.turn f.freed.contents f.freed.queues f.freed.spare f.freed.widths f.freed.gone f.freed.blocks
    c.in-Some.ensures.cost c.read_turn.ensures.cost
