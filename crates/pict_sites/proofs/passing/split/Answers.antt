use Rattle.std.proofs.Common.{length, ap}
use Rattle.pict_code.proofs.Lines.{on_err}
use Rattle.pict_queue.specs.QueuesState.{QueuesState}
use Rattle.pict_desk.specs.Code.{core_in}
use Rattle.pict_desk.proofs.Numbered.{coded_frame, in_code}
use Rattle.pict_turns.proofs.Numbered.{coded_inside, fork_parts}
use Rattle.pict_turns.proofs.Room.{store_still, refused_still}
use Rattle.pict_sites.proofs.Parting.{puts_after, splits_by}
use Rattle.pict_sites.proofs.passing.split.Goals as goal

pub frame_at-first-requires : goal.frame_at-first-requires
frame_at-first-requires c =
    in_code c.args.code.now c.requires.code c.args.left (fork_parts (core_in c.args.code.now) c.args.store.now c.args.left c.args.right c.requires.acts).0

pub frame_at-second-requires : goal.frame_at-second-requires
frame_at-second-requires c =
    in_code c.args.code.now c.requires.code c.args.right (fork_parts (core_in c.args.code.now) c.args.store.now c.args.left c.args.right c.requires.acts).1

pub returns-in_err-reserve_both-clause-refused : goal.returns-in_err-reserve_both-clause-refused
returns-in_err-reserve_both-clause-refused c =
    on_err c.from_residual.result (refused_still (core_in c.args.code.now) c.args.store.now c.reserve_both.new.store c.reserve_both.ensures.rest c.requires.acts.acting.store)

pub returns-in_err-reserve-clause-refused : goal.returns-in_err-reserve-clause-refused
returns-in_err-reserve-clause-refused c =
    on_err c.from_residual-in_err-reserve.result (refused_still (core_in c.args.code.now) c.args.store.now c.reserve_both.new.store c.reserve_both.ensures.rest c.requires.acts.acting.store)

pub put_parts-requires-clause-inside : goal.put_parts-requires-clause-inside
put_parts-requires-clause-inside c =
    let mid = c.reserve_both.new.store in
    coded_inside c.args.code.now c.requires.code mid (store_still (core_in c.args.code.now) c.args.store.now mid c.reserve_both.ensures.rest c.requires.acts.acting.store)
    c.args.left c.frame_at-first.result.now c.frame_at-first.ensures

pub put_parts-requires-clause-within : goal.put_parts-requires-clause-within
put_parts-requires-clause-within c =
    let mid = c.reserve_both.new.store in
    coded_inside c.args.code.now c.requires.code mid (store_still (core_in c.args.code.now) c.args.store.now mid c.reserve_both.ensures.rest c.requires.acts.acting.store)
    c.args.right c.frame_at-second.result.now c.frame_at-second.ensures

pub returns-clause-splits : goal.returns-clause-splits
returns-clause-splits c =
    let core = core_in c.args.code.now in
    let s = c.args.store.now in
    let mid = c.reserve_both.new.store in
    let last = c.put_parts.new.store in
    let first = c.frame_at-first.result.now in
    let second = c.frame_at-second.result.now in
    splits_by core s last c.args.queues.now c.put_parts.new.queues c.args.left c.args.right first second c.requires.acts c.requires.site
    (coded_frame c.args.code.now c.requires.code c.args.left first c.frame_at-first.ensures)
    (coded_frame c.args.code.now c.requires.code c.args.right second c.frame_at-second.ensures)
    (puts_after core s mid last c.args.queues.now c.reserve.new.self c.put_parts.new.queues c.args.left c.args.right first second c.reserve_both.ensures.rest
    (record { contents = c.reserve.ensures.contents; queues = ap (λ (q : QueuesState). length q.queues) c.reserve.ensures.queues }) c.put_parts.ensures)
