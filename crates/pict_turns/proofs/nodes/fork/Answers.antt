use Rattle.std.proofs.Common.{ℕ, List, ◌+◌, ◌≤◌, ◌<◌, ◌∷◌, [], length, map, refl, sym, ap, ◌∙◌, subst, arith}
use Rattle.std.specs.List.{All}
use Rattle.pict_core.specs.Step.{Quiet}
use Rattle.pict_code.specs.Instruction as op
use Rattle.pict_code.specs.Plain.{plain_node}
use Rattle.pict_blocks.proofs.Costs.{costs_more, costs_nothing}
use Rattle.pict_queue.specs.QueuesState.{QueuesState, IsQueue, CostsAtMost}
use Rattle.pict_desk.specs.Code.{core_in}
use Rattle.pict_blocks.specs.Parts.{block_width}
use Rattle.pict_turns.specs.Turns.{turn_cost}
use Rattle.pict_turns.specs.Widths.{MakesOnly}
use Rattle.pict_turns.proofs.Adding.{used_less, adds_parts}
use Rattle.pict_turns.proofs.Handing.{handed_pairs, handed_record}
use Rattle.pict_turns.proofs.Making.{makes_before, makes_parts}
use Rattle.pict_turns.proofs.Numbered.{coded_inside, fork_parts}
use Rattle.pict_desk.proofs.Numbered.{coded_frame, in_code, same_frame}
use Rattle.pict_turns.proofs.Room.{can_first, can_second, store_still, acts_still, done_after, refused_still}
use Rattle.pict_turns.proofs.Steps.{fork_by, fork_cost}
use Rattle.pict_turns.proofs.nodes.fork.Goals as goal
use Rattle.pict_turns.proofs.Passing.{refused_step}
use Rattle.pict_turns.proofs.Whole.{fork_steps}
use Rattle.pict_turns.proofs.Working.{refused_cost}

pub frame_at-first-requires : goal.frame_at-first-requires
frame_at-first-requires c =
    in_code c.args.code.now c.requires.code c.args.left (fork_parts (core_in c.args.code.now) c.args.store.now c.args.left c.args.right c.requires.acts).0

pub frame_at-second-requires : goal.frame_at-second-requires
frame_at-second-requires c =
    in_code c.args.code.now c.requires.code c.args.right (fork_parts (core_in c.args.code.now) c.args.store.now c.args.left c.args.right c.requires.acts).1

pub hand_on_from-requires-clause-turn : goal.hand_on_from-requires-clause-turn
hand_on_from-requires-clause-turn c =
    (store_still (core_in c.args.code.now) c.args.store.now c.reserve_parts.new.store c.reserve_parts.ensures.rest c.requires.acts.acting.store).turn

pub record_at-there-requires-clause-turn : goal.record_at-there-requires-clause-turn
record_at-there-requires-clause-turn c =
    (store_still (core_in c.args.code.now) c.args.store.now c.reserve_parts.new.store c.reserve_parts.ensures.rest c.requires.acts.acting.store).turn

pub spawn_from-requires-clause-there : goal.spawn_from-requires-clause-there
spawn_from-requires-clause-there c =
    let core = core_in c.args.code.now in
    let mid = c.reserve_parts.new.store in
    let f = coded_frame c.args.code.now c.requires.code c.args.left c.frame_at-first.result.now c.frame_at-first.ensures in
    let still = store_still core c.args.store.now mid c.reserve_parts.ensures.rest c.requires.acts.acting.store in
    handed_record core mid c.hand_on_from.new.store c.args.left c.frame_at-first.result.now (c.hand_on_from.ensures.hands core f) still.pairs c.frame_at-second.result.now
    c.record_at-there.result c.record_at-there.ensures

pub hand_on_from-requires-clause-can : goal.hand_on_from-requires-clause-can
hand_on_from-requires-clause-can c =
    let mid = c.reserve_parts.new.store in
    let both = c.in_ok-reserve_parts.ensures.ok in
    can_first mid c.frame_at-first.result.now c.frame_at-second.result.now both

pub hand_on_from-requires-clause-inside : goal.hand_on_from-requires-clause-inside
hand_on_from-requires-clause-inside c =
    let mid = c.reserve_parts.new.store in
    coded_inside c.args.code.now c.requires.code mid (store_still (core_in c.args.code.now) c.args.store.now mid c.reserve_parts.ensures.rest c.requires.acts.acting.store)
    c.args.left c.frame_at-first.result.now c.frame_at-first.ensures

pub hand_on_from-requires-clause-pairs : goal.hand_on_from-requires-clause-pairs
hand_on_from-requires-clause-pairs c =
    (store_still (core_in c.args.code.now) c.args.store.now c.reserve_parts.new.store c.reserve_parts.ensures.rest c.requires.acts.acting.store).pairs

pub spawn_from-requires-clause-queue : goal.spawn_from-requires-clause-queue
spawn_from-requires-clause-queue c =
    let ready = (store_still (core_in c.args.code.now) c.args.store.now c.reserve_parts.new.store c.reserve_parts.ensures.rest c.requires.acts.acting.store).ready in
    subst (λ (q : QueuesState). IsQueue q 0) (sym c.hand_on_from.ensures.queues) ready

pub spawn_from-requires-clause-can : goal.spawn_from-requires-clause-can
spawn_from-requires-clause-can c =
    let core = core_in c.args.code.now in
    let f = coded_frame c.args.code.now c.requires.code c.args.left c.frame_at-first.result.now c.frame_at-first.ensures in
    can_second core c.reserve_parts.new.store c.hand_on_from.new.store c.args.left c.frame_at-first.result.now c.frame_at-second.result.now c.in_ok-reserve_parts.ensures.ok
    (c.hand_on_from.ensures.hands core f)

pub spawn_from-requires-clause-inside : goal.spawn_from-requires-clause-inside
spawn_from-requires-clause-inside c =
    let core = core_in c.args.code.now in
    let mid = c.reserve_parts.new.store in
    let f = coded_frame c.args.code.now c.requires.code c.args.left c.frame_at-first.result.now c.frame_at-first.ensures in
    let inside = coded_inside c.args.code.now c.requires.code mid (store_still core c.args.store.now mid c.reserve_parts.ensures.rest c.requires.acts.acting.store)
    c.args.right c.frame_at-second.result.now c.frame_at-second.ensures in
    subst (λ (vs : List (ℕ × ℕ)). All (λ level. level < length vs) c.frame_at-second.result.now) (sym (c.hand_on_from.ensures.hands core f).values) inside

pub spawn_from-requires-clause-pairs : goal.spawn_from-requires-clause-pairs
spawn_from-requires-clause-pairs c =
    let core = core_in c.args.code.now in
    let mid = c.reserve_parts.new.store in
    let f = coded_frame c.args.code.now c.requires.code c.args.left c.frame_at-first.result.now c.frame_at-first.ensures in
    handed_pairs core mid c.hand_on_from.new.store c.args.left c.frame_at-first.result.now (c.hand_on_from.ensures.hands core f)
    (store_still core c.args.store.now mid c.reserve_parts.ensures.rest c.requires.acts.acting.store).pairs

pub returns-clause-turn : goal.returns-clause-turn
returns-clause-turn c = λ first is.
    let core = core_in c.args.code.now in
    let f = coded_frame c.args.code.now c.requires.code c.args.left c.frame_at-first.result.now c.frame_at-first.ensures in
    let same = same_frame (map plain_node c.args.code.now) c.args.left first c.frame_at-first.result.now is c.frame_at-first.ensures in
    let cost = fork_cost core c.reserve_parts.new.store c.hand_on_from.new.store c.spawn_from.new.store c.args.left c.args.right c.frame_at-first.result.now c.frame_at-second.result.now
    (c.hand_on_from.ensures.hands core f) c.spawn_from.ensures.spawns in
    subst (λ (frame : List ℕ). turn_cost core c.spawn_from.new.store ≤ block_width frame + 4) (sym same) cost

pub returns-clause-blocks : goal.returns-clause-blocks
returns-clause-blocks c =
    let old = c.args.store.now.queues in
    let mid = c.reserve_parts.new.store.queues in
    let handed = c.hand_on_from.new.store.queues in
    let last = c.spawn_from.new.store.queues in
    let needed = block_width c.frame_at-first.result.now ∷ block_width c.frame_at-second.result.now ∷ [] in
    makes_parts (map plain_node c.args.code.now) old last c.args.left c.args.right _ _ c.frame_at-first.ensures c.frame_at-second.ensures
    (makes_before old handed last needed (subst (λ (q : QueuesState). MakesOnly old q needed) (sym c.hand_on_from.ensures.queues) c.reserve_parts.ensures.most) c.spawn_from.ensures.blocks)

pub returns-clause-cost : goal.returns-clause-cost
returns-clause-cost c = λ second is.
    let old = c.args.store.now.queues in
    let handed = c.hand_on_from.new.store.queues in
    let last = c.spawn_from.new.store.queues in
    let same = same_frame (map plain_node c.args.code.now) c.args.right second c.frame_at-second.result.now is c.frame_at-second.ensures in
    let work = ap (λ (q : QueuesState). q.region.work) c.hand_on_from.ensures.queues ∙ c.reserve_parts.ensures.rest.work in
    subst (λ (frame : List ℕ). CostsAtMost (block_width frame + 2) old last) (sym same)
    (costs_more old handed last 0 (block_width c.frame_at-second.result.now + 2) _ (omega arith) (costs_nothing old handed work) c.spawn_from.ensures.cost)

pub returns-clause-steps : goal.returns-clause-steps
returns-clause-steps c =
    let core = core_in c.args.code.now in
    let old = c.args.store.now in
    let mid = c.reserve_parts.new.store in
    let handed = c.hand_on_from.new.store in
    let last = c.spawn_from.new.store in
    let rest = c.reserve_parts.ensures.rest in
    let f = coded_frame c.args.code.now c.requires.code c.args.left c.frame_at-first.result.now c.frame_at-first.ensures in
    let g = coded_frame c.args.code.now c.requires.code c.args.right c.frame_at-second.result.now c.frame_at-second.ensures in
    let done = done_after core old mid rest last Quiet
    (fork_by core mid handed last c.args.left c.args.right c.frame_at-first.result.now c.frame_at-second.result.now (c.hand_on_from.ensures.hands core f)
    c.spawn_from.ensures.spawns f g (acts_still core old mid rest (op.Par c.args.left c.args.right) c.requires.acts)
    c.in_ok-reserve_parts.ensures.ok c.spawn_from.ensures.no_more (let same = c.spawn_from.ensures.spawns.queues in let left = c.spawn_from.ensures.spare_queues in omega (arith, same, left))) in
    fork_steps c.args.code.now c.requires.code old last _ (record { done = done; event = tt })
    c.args.left c.args.right c.requires.acts
    (λ first f. let t = returns-clause-turn c first f in omega (arith, t)) (returns-clause-cost c) (returns-clause-blocks c)
    (adds_parts (map plain_node c.args.code.now) c.args.store.now c.reserve_parts.new.store c.hand_on_from.new.store c.spawn_from.new.store c.args.left c.args.right _ _ c.frame_at-first.ensures c.frame_at-second.ensures
    c.reserve_parts.ensures.rest.room (c.hand_on_from.ensures.hands (core_in c.args.code.now) f).used c.spawn_from.ensures.spawns.used)

pub returns-in_err-reserve_parts-clause-blocks : goal.returns-in_err-reserve_parts-clause-blocks
returns-in_err-reserve_parts-clause-blocks c =
    makes_parts (map plain_node c.args.code.now) c.args.store.now.queues c.reserve_parts.new.store.queues c.args.left c.args.right _ _ c.frame_at-first.ensures c.frame_at-second.ensures
    c.reserve_parts.ensures.most

pub returns-in_err-reserve_parts-clause-cost : goal.returns-in_err-reserve_parts-clause-cost
returns-in_err-reserve_parts-clause-cost c = λ second is.
    let old = c.args.store.now.queues in
    let mid = c.reserve_parts.new.store.queues in
    costs_more old mid mid 0 0 _ (omega arith) (costs_nothing old mid c.reserve_parts.ensures.rest.work) (costs_nothing mid mid refl)

pub returns-in_err-reserve_parts-clause-steps : goal.returns-in_err-reserve_parts-clause-steps
returns-in_err-reserve_parts-clause-steps c =
    let core = core_in c.args.code.now in
    let old = c.args.store.now in
    let mid = c.reserve_parts.new.store in
    let refused = refused_still core old mid c.reserve_parts.ensures.rest c.requires.acts.acting.store in
    let same = refused_cost core old mid refused in
    fork_steps c.args.code.now c.requires.code old mid _ (refused_step core old mid c.from_residual.result _ c.from_residual.ensures.1 refused)
    c.args.left c.args.right c.requires.acts
    (λ first f. omega (arith, same)) (returns-in_err-reserve_parts-clause-cost c) (returns-in_err-reserve_parts-clause-blocks c)
    (used_less c.args.store.now.desk.heap.room c.reserve_parts.new.store.desk.heap.room _ c.reserve_parts.ensures.rest.room)
