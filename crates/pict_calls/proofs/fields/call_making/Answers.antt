use Rattle.std.proofs.Common.{◌≡◌, [], ◌∷◌, length, IsSome, Some, refl, sym, ap, ◌∙◌, subst, arith}
use Rattle.pict_core.specs.Primitives.{Leaves, effect_of}
use Rattle.pict_code.proofs.Lines.{on_err}
use Rattle.pict_prim.specs.Acts.{effect_act}
use Rattle.pict_queue.specs.QueuesState.{QueuesState}
use Rattle.pict_desk.specs.Pairs.{ArePairs}
use Rattle.pict_desk.proofs.Making.{keeps_all}
use Rattle.pict_turns.specs.Widths.{MakesOnly}
use Rattle.pict_turns.specs.declared.store.Store.{Store}
use Rattle.pict_turns.proofs.Making.{makes_nothing}
use Rattle.pict_desk.proofs.MakingRoom.{uses_nothing}
use Rattle.pict_turns.proofs.Adding.{used_both, used_after, used_less}
use Rattle.pict_turns.proofs.Room.{refused_still, cost_still}
use Rattle.pict_desk.specs.Arguments.{argument_of}
use Rattle.pict_calls.specs.Finishing.{IsTurnAfter}
use Rattle.pict_turns.specs.declared.event.Shown.TheVariants as shows
use Rattle.pict_calls.proofs.Answering.{HasRoomToAnswer, makes_answer, adds_same, room_for_any}
use Rattle.pict_desk.proofs.Reckoning.{labels_same, argument_kept, room_then}
use Rattle.pict_calls.proofs.Stepping.{some_is, acts_by, calls_still, acts_after, acted_before, cost_same, cost_after}
use Rattle.pict_calls.proofs.fields.call_making.Goals as goal

pub divides_by_zero-requires-clause-pairs : goal.divides_by_zero-requires-clause-pairs
divides_by_zero-requires-clause-pairs c = let h = c.args.store.now.desk.heap in (h, subst (ArePairs h) (sym c.deref.ensures.value) c.requires.pairs)

pub returns-then-divides_by_zero-clause-done : goal.returns-then-divides_by_zero-clause-done
returns-then-divides_by_zero-clause-done c core labelled on =
    let s = c.args.store.now in
    let fields = c.args.fields.now in
    let taken = c.requires.takes.0 in
    let e = some_is (effect_of c.args.p (argument_of s.desk.heap s.desk.values.items fields taken)) c.requires.takes.1 in
    let zero = c.divides_by_zero.ensures s.desk.heap taken e.0 (subst (ArePairs s.desk.heap) (sym c.deref.ensures.value) c.requires.pairs)
    (subst (λ vs. effect_of c.args.p (argument_of s.desk.heap vs fields taken) ≡ Some e.0) (sym c.deref.ensures.value) e.1) in
    let trap = zero.0 c.if-divides_by_zero.true in
    acts_by core s s c.args.p (argument_of s.desk.heap s.desk.values.items fields labelled) c.args.at e.0 (shows.Trapped c.args.at) on
    (labels_same c.args.p _ labelled taken ∙ e.1) (subst (HasRoomToAnswer s.queues) (sym trap) tt)
    (record {
      turn = subst (λ (l : Leaves). IsTurnAfter s.desk.heap l c.args.at s.turn) (sym trap) tt;
      shows = (trap, refl);
      queues = refl;
      values = refl;
      keeps = keeps_all s.desk.heap;
      trap = λ is. refl;
    })

pub decide-act-requires-clause-takes : goal.decide-act-requires-clause-takes
decide-act-requires-clause-takes c =
    let taken = c.requires.takes.0 in
    let same = (let r = c.make_call_room.ensures.rest in argument_kept c.args.store.now.desk c.make_call_room.new.store.desk r.heap r.values) c.args.fields.now taken in
    (taken, subst (λ v. IsSome (effect_of c.args.p v)) (sym same) c.requires.takes.1)

pub finish-requires-clause-room : goal.finish-requires-clause-room
finish-requires-clause-room c =
    let taken = c.requires.takes.0 in
    let mid = c.make_call_room.new.store in
    let made : Store = record c.make_call_room.new.store { desk = c.decide-act.new.desk } in
    let r = c.in_ok-make_call_room.ensures.room in
    let same = (let k = c.make_call_room.ensures.rest in argument_kept c.args.store.now.desk mid.desk k.heap k.values) c.args.fields.now taken in
    let effect = sym (ap (effect_of c.args.p) same) ∙ c.decide-act.ensures.effect taken in
    room_then mid.desk.heap made.desk.heap mid.desk.pending c.decide-act.result (length c.args.fields.now) r.bytes _ r.room c.decide-act.ensures.used (r.at_most taken (effect_act made.desk.heap c.decide-act.result) effect)

pub returns-clause-done : goal.returns-clause-done
returns-clause-done c core labelled on =
    let s = c.args.store.now in
    let fields = c.args.fields.now in
    let mid = c.make_call_room.new.store in
    let made : Store = record c.make_call_room.new.store { desk = c.decide-act.new.desk } in
    let last = c.finish.new.store in
    let r = c.make_call_room.ensures.rest in
    let e = effect_act made.desk.heap c.decide-act.result in
    let v = argument_of s.desk.heap s.desk.values.items fields labelled in
    let same = argument_kept s.desk mid.desk r.heap r.values fields labelled in
    let effect = sym (ap (effect_of c.args.p) same) ∙ c.decide-act.ensures.effect labelled in
    let zero = c.divides_by_zero.ensures s.desk.heap labelled e (subst (ArePairs s.desk.heap) (sym c.deref.ensures.value) c.requires.pairs)
    (subst (λ vs. effect_of c.args.p (argument_of s.desk.heap vs fields labelled) ≡ Some e) (sym c.deref.ensures.value) effect) in
    acts_after core s mid r last c.finish.result
    (acts_by core mid last c.args.p v c.args.at e c.finish.result (calls_still core s mid r c.args.p v c.args.at on) effect
    (room_for_any mid.queues e.leaves c.in_ok-make_call_room.ensures.spare)
    (acted_before mid made last e c.args.at c.finish.result c.decide-act.ensures.keeps refl c.decide-act.ensures.values
    (λ is. let t = zero.1 is in let f = c.if-divides_by_zero.false in cc) c.finish.ensures.acted))

pub returns-in_err-make_call_room-clause-refused : goal.returns-in_err-make_call_room-clause-refused
returns-in_err-make_call_room-clause-refused c core acting =
    on_err c.from_residual.result (refused_still core c.args.store.now c.make_call_room.new.store c.make_call_room.ensures.rest acting.store)

pub returns-then-divides_by_zero-clause-blocks : goal.returns-then-divides_by_zero-clause-blocks
returns-then-divides_by_zero-clause-blocks c _ e _ = let queues = c.args.store.now.queues in makes_nothing queues queues _ (λ width. refl)

pub returns-clause-blocks : goal.returns-clause-blocks
returns-clause-blocks c labelled e is =
    let s = c.args.store.now in
    let fields = c.args.fields.now in
    let last = c.finish.new.store in
    let zero = c.divides_by_zero.ensures s.desk.heap labelled e (subst (ArePairs s.desk.heap) (sym c.deref.ensures.value) c.requires.pairs)
    (subst (λ vs. effect_of c.args.p (argument_of s.desk.heap vs fields labelled) ≡ Some e) (sym c.deref.ensures.value) is) in
    makes_answer s.queues last.queues c.args.p _ labelled e is (λ trap. let t = zero.1 trap in let f = c.if-divides_by_zero.false in cc)
    (subst (λ (q : QueuesState). MakesOnly s.queues q (9 ∷ [])) (sym c.finish.ensures.acted.queues) c.make_call_room.ensures.most)

pub returns-in_err-make_call_room-clause-blocks : goal.returns-in_err-make_call_room-clause-blocks
returns-in_err-make_call_room-clause-blocks c labelled e is =
    let s = c.args.store.now in
    let fields = c.args.fields.now in
    let zero = c.divides_by_zero.ensures s.desk.heap labelled e (subst (ArePairs s.desk.heap) (sym c.deref.ensures.value) c.requires.pairs)
    (subst (λ vs. effect_of c.args.p (argument_of s.desk.heap vs fields labelled) ≡ Some e) (sym c.deref.ensures.value) is) in
    makes_answer s.queues c.make_call_room.new.store.queues c.args.p _ labelled e is (λ trap. let t = zero.1 trap in let f = c.if-divides_by_zero.false in cc)
    c.make_call_room.ensures.most

pub returns-clause-turn : goal.returns-clause-turn
returns-clause-turn c core =
    let made : Store = record c.make_call_room.new.store { desk = c.decide-act.new.desk } in
    let still = cost_still core c.args.store.now c.make_call_room.new.store c.make_call_room.ensures.rest in
    let more = cost_after core made c.finish.new.store (effect_act made.desk.heap c.decide-act.result) c.args.at c.finish.result c.finish.ensures.acted in
    let kept = cost_same core c.make_call_room.new.store made refl c.decide-act.ensures.values in
    omega (arith, still, kept, more)

pub returns-in_err-make_call_room-clause-turn : goal.returns-in_err-make_call_room-clause-turn
returns-in_err-make_call_room-clause-turn c core =
    let still = cost_still core c.args.store.now c.make_call_room.new.store c.make_call_room.ensures.rest in omega (arith, still)

pub returns-then-divides_by_zero-clause-adds : goal.returns-then-divides_by_zero-clause-adds
returns-then-divides_by_zero-clause-adds c _ e _ = let room = c.args.store.now.desk.heap.room in used_less room room _ (uses_nothing room)

pub returns-clause-adds : goal.returns-clause-adds
returns-clause-adds c labelled e is =
    let s = c.args.store.now in
    let mid = c.make_call_room.new.store in
    let made : Store = record c.make_call_room.new.store { desk = c.decide-act.new.desk } in
    let last = c.finish.new.store in
    let r = c.make_call_room.ensures.rest in
    let same = argument_kept s.desk mid.desk r.heap r.values c.args.fields.now labelled in
    let effect = sym (ap (effect_of c.args.p) same) ∙ c.decide-act.ensures.effect labelled in
    used_after s.desk.heap.room mid.desk.heap.room last.desk.heap.room _ r.room
    (used_both mid.desk.heap.room made.desk.heap.room last.desk.heap.room _ _ c.decide-act.ensures.used
    (adds_same made last (effect_act made.desk.heap c.decide-act.result) e (sym effect ∙ is) c.finish.ensures.adds))

pub returns-in_err-make_call_room-clause-adds : goal.returns-in_err-make_call_room-clause-adds
returns-in_err-make_call_room-clause-adds c _ e _ = used_less c.args.store.now.desk.heap.room c.make_call_room.new.store.desk.heap.room _ c.make_call_room.ensures.rest.room
