use Rattle.std.proofs.Common.{ℕ, ◌≤◌, ◌<◌, ◌∷◌, [], map, sym, ap, ◌∙◌, subst, arith}
use Rattle.std.specs.List.{All}
use Rattle.pict_core.specs.Step.{Quiet}
use Rattle.pict_code.specs.Instruction as op
use Rattle.pict_code.specs.Plain.{plain_node}
use Rattle.pict_region.specs.RegionState.{RegionState, spare, blocks, KeepsBlocks}
use Rattle.pict_queue.specs.QueuesState.{QueuesState}
use Rattle.pict_desk.specs.Needs.{HasRoomFor}
use Rattle.pict_desk.specs.Code.{core_in}
use Rattle.pict_blocks.specs.Parts.{block_width}
use Rattle.pict_desk.specs.Room.{frame_need}
use Rattle.pict_turns.specs.Widths.{MakesOnly}
use Rattle.pict_turns.proofs.Adding.{used_after, used_less, used_same, adds_part}
use Rattle.pict_turns.proofs.Handing.{handed_cost}
use Rattle.pict_turns.proofs.Making.{makes_before, makes_part}
use Rattle.pict_turns.proofs.Numbered.{coded_inside, new_part}
use Rattle.pict_desk.proofs.Numbered.{coded_frame, in_code, same_frame}
use Rattle.pict_turns.proofs.Room.{can_hold, store_still, acts_still, done_after, refused_still}
use Rattle.pict_turns.proofs.Steps.{channel_by}
use Rattle.pict_turns.proofs.nodes.make_channel.Goals as goal
use Rattle.pict_turns.proofs.Passing.{refused_step}
use Rattle.pict_turns.proofs.Whole.{new_steps}
use Rattle.pict_turns.proofs.Working.{refused_cost}

pub frame_at-frame-requires : goal.frame_at-frame-requires
frame_at-frame-requires c =
    in_code c.args.code.now c.requires.code c.args.part (new_part (core_in c.args.code.now) c.args.store.now c.args.level c.args.part c.requires.acts).0

pub add_channel-requires-clause-inside : goal.add_channel-requires-clause-inside
add_channel-requires-clause-inside c =
    let core = core_in c.args.code.now in
    let mid = c.reserve_channel.new.store in
    (new_part core mid c.args.level c.args.part
    (acts_still core c.args.store.now mid c.reserve_channel.ensures.rest (op.New c.args.level c.args.part) c.requires.acts)).1

pub add_channel-requires-clause-pairs : goal.add_channel-requires-clause-pairs
add_channel-requires-clause-pairs c =
    (store_still (core_in c.args.code.now) c.args.store.now c.reserve_channel.new.store c.reserve_channel.ensures.rest c.requires.acts.acting.store).pairs

pub hand_on-requires-clause-can : goal.hand_on-requires-clause-can
hand_on-requires-clause-can c =
    let frame = c.frame_at-frame.result.now in
    let can = can_hold c.reserve_channel.new.store frame _ c.in_ok-reserve_channel.ensures.part in
    let added = c.add_channel.ensures in
    record {
      block = subst (λ (r : RegionState). 1 ≤ spare r (block_width frame)) (sym added.region) can.block;
      room = subst (λ h. HasRoomFor h c.add_channel.new.store.desk.pending (frame_need frame)) (sym added.heap)
          (subst (λ p. HasRoomFor c.reserve_channel.new.store.desk.heap p (frame_need frame)) (sym added.pending) can.room);
    }

pub hand_on-requires-clause-inside : goal.hand_on-requires-clause-inside
hand_on-requires-clause-inside c =
    let mid = c.reserve_channel.new.store in
    let inside = coded_inside c.args.code.now c.requires.code mid
    (store_still (core_in c.args.code.now) c.args.store.now mid c.reserve_channel.ensures.rest c.requires.acts.acting.store)
    c.args.part c.frame_at-frame.result.now c.frame_at-frame.ensures in
    subst (λ (n : ℕ). All (λ level. level < n) c.frame_at-frame.result.now) (sym c.add_channel.ensures.levels) inside

pub returns-clause-turn : goal.returns-clause-turn
returns-clause-turn c = λ frame is.
    let core = core_in c.args.code.now in
    let f = coded_frame c.args.code.now c.requires.code c.args.part c.frame_at-frame.result.now c.frame_at-frame.ensures in
    let same = ap block_width (same_frame (map plain_node c.args.code.now) c.args.part frame c.frame_at-frame.result.now is c.frame_at-frame.ensures) in
    let cost = handed_cost core c.add_channel.new.store c.hand_on.new.store c.args.part c.frame_at-frame.result.now (c.hand_on.ensures.hands core f) in
    omega (arith, same, cost)

pub returns-clause-blocks : goal.returns-clause-blocks
returns-clause-blocks c =
    let old = c.args.store.now.queues in
    let mid = c.reserve_channel.new.store.queues in
    let opened = c.add_channel.new.store.queues in
    let last = c.hand_on.new.store.queues in
    let same : KeepsBlocks mid.region opened.region = λ width. ap (λ (r : RegionState). blocks r width) c.add_channel.ensures.region in
    let needed = block_width c.frame_at-frame.result.now ∷ [] in
    makes_part (map plain_node c.args.code.now) old last c.args.part _ c.frame_at-frame.ensures
    (subst (λ (q : QueuesState). MakesOnly old q needed) (sym c.hand_on.ensures.queues) (makes_before old mid opened needed c.reserve_channel.ensures.most same))

pub returns-clause-work : goal.returns-clause-work
returns-clause-work c =
    ap (λ (q : QueuesState). q.region.work) c.hand_on.ensures.queues ∙ ap (λ (r : RegionState). r.work) c.add_channel.ensures.region ∙ c.reserve_channel.ensures.rest.work

pub returns-clause-steps : goal.returns-clause-steps
returns-clause-steps c =
    let core = core_in c.args.code.now in
    let old = c.args.store.now in
    let mid = c.reserve_channel.new.store in
    let opened = c.add_channel.new.store in
    let last = c.hand_on.new.store in
    let rest = c.reserve_channel.ensures.rest in
    let f = coded_frame c.args.code.now c.requires.code c.args.part c.frame_at-frame.result.now c.frame_at-frame.ensures in
    let done = done_after core old mid rest last Quiet
    (channel_by core mid opened last c.args.level c.args.part c.frame_at-frame.result.now (acts_still core old mid rest (op.New c.args.level c.args.part) c.requires.acts)
    c.add_channel.ensures f (c.hand_on.ensures.hands core f) c.in_ok-reserve_channel.ensures.part.block) in
    new_steps c.args.code.now c.requires.code old last _ (record { done = done; event = tt })
    c.args.level c.args.part c.requires.acts
    (λ frame x. let t = returns-clause-turn c frame x in omega (arith, t)) (returns-clause-work c) (returns-clause-blocks c)
    (adds_part (map plain_node c.args.code.now) old last c.args.part _ c.frame_at-frame.ensures
    (used_after old.desk.heap.room mid.desk.heap.room last.desk.heap.room _ c.reserve_channel.ensures.rest.room
    (used_same mid.desk.heap opened.desk.heap last.desk.heap.room _ c.add_channel.ensures.heap (c.hand_on.ensures.hands (core_in c.args.code.now) f).used)))

pub returns-in_err-reserve_channel-clause-blocks : goal.returns-in_err-reserve_channel-clause-blocks
returns-in_err-reserve_channel-clause-blocks c =
    makes_part (map plain_node c.args.code.now) c.args.store.now.queues c.reserve_channel.new.store.queues c.args.part _ c.frame_at-frame.ensures c.reserve_channel.ensures.most

pub returns-in_err-reserve_channel-clause-steps : goal.returns-in_err-reserve_channel-clause-steps
returns-in_err-reserve_channel-clause-steps c =
    let core = core_in c.args.code.now in
    let old = c.args.store.now in
    let mid = c.reserve_channel.new.store in
    let refused = refused_still core old mid c.reserve_channel.ensures.rest c.requires.acts.acting.store in
    let same = refused_cost core old mid refused in
    new_steps c.args.code.now c.requires.code old mid _ (refused_step core old mid c.from_residual.result _ c.from_residual.ensures.1 refused)
    c.args.level c.args.part c.requires.acts
    (λ frame x. omega (arith, same)) c.reserve_channel.ensures.rest.work (returns-in_err-reserve_channel-clause-blocks c)
    (used_less c.args.store.now.desk.heap.room c.reserve_channel.new.store.desk.heap.room _ c.reserve_channel.ensures.rest.room)
