use Rattle.std.proofs.Common.{◌≤◌, Some, sym, ap, ◌∙◌, subst, arith}
use Rattle.pict_code.proofs.Lines.{on_err}
use Rattle.pict_core.specs.Primitives.{Effect}
use Rattle.pict_prim.specs.Acts.{effect_act, answer_need}
use Rattle.pict_region.specs.RegionState.{spare}
use Rattle.pict_queue.specs.QueuesState.{QueuesState}
use Rattle.pict_turns.specs.Widths.{MakesOnly, answer_widths}
use Rattle.pict_turns.proofs.Room.{refused_still, cost_still}
use Rattle.pict_desk.proofs.MakingRoom.{keeps_words}
use Rattle.pict_calls.proofs.Answering.{makes_act, room_for_act}
use Rattle.pict_calls.proofs.Keeping.{effect_keeps}
use Rattle.pict_calls.proofs.Stepping.{acts_by, calls_still, acts_after, cost_after}
use Rattle.pict_turns.proofs.Adding.{used_after, used_less}
use Rattle.pict_turns.specs.Growing.{AddsAtMost}
use Rattle.pict_calls.proofs.calling.carry_out.Goals as goal

pub returns-clause-done : goal.returns-clause-done
returns-clause-done c core p v on is =
    let old = c.args.store.now in
    let mid = c.reserve.new.store in
    let r = c.reserve.ensures.rest in
    let same = effect_keeps old.desk.heap mid.desk.heap (keeps_words old.desk.heap mid.desk.heap r.heap) c.args.act c.requires.act in
    let free = room_for_act mid.queues mid.desk.heap c.args.act (subst (λ n. n ≤ spare mid.queues.region 9) c.outputs.ensures c.in_ok-reserve.ensures.blocks) in
    acts_after core old mid r c.finish.new.store c.finish.result
    (acts_by core mid c.finish.new.store p v c.args.at (effect_act mid.desk.heap c.args.act) c.finish.result (calls_still core old mid r p v c.args.at on) (is ∙ ap Some (sym same)) free c.finish.ensures.acted)

pub returns-in_err-reserve-clause-refused : goal.returns-in_err-reserve-clause-refused
returns-in_err-reserve-clause-refused c core acting = on_err c.from_residual.result (refused_still core c.args.store.now c.reserve.new.store c.reserve.ensures.rest acting.store)

pub returns-clause-blocks : goal.returns-clause-blocks
returns-clause-blocks c =
    let old = c.args.store.now in
    let mid = c.reserve.new.store in
    subst (λ (q : QueuesState). MakesOnly old.queues q (answer_widths (effect_act old.desk.heap c.args.act))) (sym c.finish.ensures.acted.queues)
    (makes_act old.queues mid.queues old.desk.heap c.args.act c.outputs.result c.outputs.ensures c.reserve.ensures.least c.reserve.ensures.most)

pub returns-in_err-reserve-clause-blocks : goal.returns-in_err-reserve-clause-blocks
returns-in_err-reserve-clause-blocks c =
    let old = c.args.store.now in
    makes_act old.queues c.reserve.new.store.queues old.desk.heap c.args.act c.outputs.result c.outputs.ensures c.reserve.ensures.least c.reserve.ensures.most

pub returns-clause-turn : goal.returns-clause-turn
returns-clause-turn c core =
    let old = c.args.store.now in
    let mid = c.reserve.new.store in
    let still = cost_still core old mid c.reserve.ensures.rest in
    let more = cost_after core mid c.finish.new.store (effect_act mid.desk.heap c.args.act) c.args.at c.finish.result c.finish.ensures.acted in
    omega (arith, still, more)

pub returns-in_err-reserve-clause-turn : goal.returns-in_err-reserve-clause-turn
returns-in_err-reserve-clause-turn c core = let still = cost_still core c.args.store.now c.reserve.new.store c.reserve.ensures.rest in omega (arith, still)

pub returns-clause-adds : goal.returns-clause-adds
returns-clause-adds c =
    let old = c.args.store.now in
    let mid = c.reserve.new.store in
    let last = c.finish.new.store in
    let r = c.reserve.ensures.rest in
    let same = effect_keeps old.desk.heap mid.desk.heap (keeps_words old.desk.heap mid.desk.heap r.heap) c.args.act c.requires.act in
    used_after old.desk.heap.room mid.desk.heap.room last.desk.heap.room _ r.room (subst (λ (e : Effect). AddsAtMost mid last (answer_need e)) same c.finish.ensures.adds)

pub returns-in_err-reserve-clause-adds : goal.returns-in_err-reserve-clause-adds
returns-in_err-reserve-clause-adds c = used_less c.args.store.now.desk.heap.room c.reserve.new.store.desk.heap.room _ c.reserve.ensures.rest.room
