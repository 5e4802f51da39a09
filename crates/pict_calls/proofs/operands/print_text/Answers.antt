use Rattle.std.proofs.Common.{◌+◌, ◌≤◌, [], Some, refl, sym, ap, subst, arith}
use Rattle.pict_syntax.specs.declared.primitive.Primitive.TheVariants as primitive
use Rattle.pict_core.specs.Primitives.{Effect, Nothing}
use Rattle.pict_core.specs.Term.{Val, Text}
use Rattle.pict_code.proofs.Lines.{on_err}
use Rattle.pict_prim.specs.Acts.{effect_act}
use Rattle.pict_prim.specs.Printed.{printed_of}
use Rattle.pict_prim.specs.declared.act.Act.TheVariants as act
use Rattle.pict_queue.specs.QueuesState.{QueuesState}
use Rattle.pict_turns.specs.Turns.{turn_cost}
use Rattle.pict_turns.specs.Widths.{MakesOnly}
use Rattle.pict_turns.proofs.Adding.{used_before, used_after, used_less}
use Rattle.pict_turns.proofs.Room.{refused_still, cost_still}
use Rattle.pict_calls.proofs.Answering.{makes_act}
use Rattle.pict_calls.proofs.Stepping.{acts_by, calls_still, acts_after, acted_before, cost_after}
use Rattle.pict_calls.proofs.operands.print_text.Goals as goal

prints_bytes : Val → Effect
prints_bytes v = record { printed = printed_of v; leaves = Nothing }

pub returns-clause-done : goal.returns-clause-done
unfolding prints_bytes
returns-clause-done c core on =
    let old = c.args.store.now in
    let mid = c.reserve.new.store in
    let made = record mid { desk = record mid.desk { heap = c.add_text-text.new.self } } in
    let e = effect_act made.desk.heap (act.Print c.add_text-text.result) in
    let r = c.reserve.ensures.rest in
    acts_after core old mid r c.finish.new.store c.finish.result
    (acts_by core mid c.finish.new.store primitive.Print (Text c.args.bytes.now) c.args.at e c.finish.result
    (calls_still core old mid r primitive.Print (Text c.args.bytes.now) c.args.at on)
    (ap (λ v. Some (prints_bytes v)) (sym c.add_text-text.ensures.value)) tt
    (acted_before mid made c.finish.new.store e c.args.at c.finish.result c.add_text-text.ensures.keeps refl refl (λ is. cc) c.finish.ensures.acted))

pub returns-in_err-reserve-clause-refused : goal.returns-in_err-reserve-clause-refused
returns-in_err-reserve-clause-refused c core acting = on_err c.from_residual.result (refused_still core c.args.store.now c.reserve.new.store c.reserve.ensures.rest acting.store)

pub returns-clause-blocks : goal.returns-clause-blocks
returns-clause-blocks c =
    let old = c.args.store.now in
    subst (λ (q : QueuesState). MakesOnly old.queues q []) (sym c.finish.ensures.acted.queues)
    (makes_act old.queues c.reserve.new.store.queues old.desk.heap act.ZeroDivisor 0 refl c.reserve.ensures.least c.reserve.ensures.most)

pub returns-in_err-reserve-clause-blocks : goal.returns-in_err-reserve-clause-blocks
returns-in_err-reserve-clause-blocks c =
    let old = c.args.store.now in
    makes_act old.queues c.reserve.new.store.queues old.desk.heap act.ZeroDivisor 0 refl c.reserve.ensures.least c.reserve.ensures.most

pub returns-clause-turn : goal.returns-clause-turn
returns-clause-turn c core =
    let mid = c.reserve.new.store in
    let made = record mid { desk = record mid.desk { heap = c.add_text-text.new.self } } in
    let still = cost_still core c.args.store.now mid c.reserve.ensures.rest in
    let more : turn_cost core c.finish.new.store ≤ turn_cost core mid + 13 =
    cost_after core made c.finish.new.store (effect_act made.desk.heap (act.Print c.add_text-text.result)) c.args.at c.finish.result c.finish.ensures.acted in
    omega (arith, still, more)

pub returns-in_err-reserve-clause-turn : goal.returns-in_err-reserve-clause-turn
returns-in_err-reserve-clause-turn c core = let still = cost_still core c.args.store.now c.reserve.new.store c.reserve.ensures.rest in omega (arith, still)

pub returns-clause-adds : goal.returns-clause-adds
returns-clause-adds c =
    let old = c.args.store.now in
    let mid = c.reserve.new.store in
    let made = record mid { desk = record mid.desk { heap = c.add_text-text.new.self } } in
    let last = c.finish.new.store in
    used_after old.desk.heap.room mid.desk.heap.room last.desk.heap.room _ c.reserve.ensures.rest.room
    (used_before mid.desk.heap.room made.desk.heap.room last.desk.heap.room _ c.add_text-text.ensures.room c.finish.ensures.adds)

pub returns-in_err-reserve-clause-adds : goal.returns-in_err-reserve-clause-adds
returns-in_err-reserve-clause-adds c = used_less c.args.store.now.desk.heap.room c.reserve.new.store.desk.heap.room _ c.reserve.ensures.rest.room
