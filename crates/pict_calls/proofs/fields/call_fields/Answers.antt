use Rattle.std.proofs.Common.{sym, subst, ◌∙◌}
use Rattle.pict_code.proofs.Lines.{on_err}
use Rattle.pict_desk.specs.Pairs.{ArePairs}
use Rattle.pict_turns.specs.declared.turn.Turn.TheVariants.{Output}
use Rattle.pict_turns.proofs.Adding.{used_less}
use Rattle.pict_turns.proofs.Room.{refused_still}
use Rattle.pict_desk.specs.Answers.{IsAnswerOf}
use Rattle.pict_desk.specs.Arguments.{argument_of}
use Rattle.pict_turns.specs.declared.event.Shown.TheVariants as shows
use Rattle.pict_calls.proofs.Answering.{makes_same}
use Rattle.pict_calls.proofs.Numbers.{answering, hands_answer}
use Rattle.pict_calls.proofs.Stepping.{acts_by, calls_still, acts_after}
use Rattle.pict_calls.proofs.fields.call_fields.Goals as goal

pub answer_at_hand-requires-clause-pairs : goal.answer_at_hand-requires-clause-pairs
answer_at_hand-requires-clause-pairs c = let h = c.args.store.now.desk.heap in (h, subst (ArePairs h) (sym c.deref.ensures.value) c.requires.pairs)

pub returns-in_err-reserve_kept-clause-refused : goal.returns-in_err-reserve_kept-clause-refused
returns-in_err-reserve_kept-clause-refused c core acting =
    on_err c.from_residual.result (refused_still core c.args.store.now c.reserve_kept.new.store c.reserve_kept.ensures.rest acting.store)

pub returns-in_err-reserve_kept-clause-blocks : goal.returns-in_err-reserve_kept-clause-blocks
returns-in_err-reserve_kept-clause-blocks c labelled e is =
    let s = c.args.store.now in
    let at_hand = c.in-Some.ensures s.desk.heap (subst (ArePairs s.desk.heap) (sym c.deref.ensures.value) c.requires.pairs) in
    let a = subst (λ vs. IsAnswerOf s.desk.heap vs c.args.p c.args.fields.now c.args.at c.in-Some.kept) c.deref.ensures.value at_hand in
    makes_same s.queues c.reserve_kept.new.store.queues (answering a.to a.answer) e (sym (a.effect labelled) ∙ is) c.reserve_kept.ensures.most

pub returns-in-Some-clause-done : goal.returns-in-Some-clause-done
returns-in-Some-clause-done c core labelled on =
    let s = c.args.store.now in
    let mid = c.reserve_kept.new.store in
    let r = c.reserve_kept.ensures.rest in
    let at_hand = c.in-Some.ensures s.desk.heap (subst (ArePairs s.desk.heap) (sym c.deref.ensures.value) c.requires.pairs) in
    let a = subst (λ vs. IsAnswerOf s.desk.heap vs c.args.p c.args.fields.now c.args.at c.in-Some.kept) c.deref.ensures.value at_hand in
    let v = argument_of s.desk.heap s.desk.values.items c.args.fields.now labelled in
    let last = record mid { turn = Output c.in-Some.kept } in
    rw c.set.ensures (acts_after core s mid r last shows.Quiet
    (acts_by core mid last c.args.p v c.args.at (answering a.to a.answer) shows.Quiet (calls_still core s mid r c.args.p v c.args.at on) (a.effect labelled) c.in_ok-reserve_kept.ensures.block
    (hands_answer s mid r.heap c.args.p c.args.fields.now c.args.at c.in-Some.kept a)))

pub returns-in-Some-clause-blocks : goal.returns-in-Some-clause-blocks
returns-in-Some-clause-blocks c labelled e is =
    let s = c.args.store.now in
    let at_hand = c.in-Some.ensures s.desk.heap (subst (ArePairs s.desk.heap) (sym c.deref.ensures.value) c.requires.pairs) in
    let a = subst (λ vs. IsAnswerOf s.desk.heap vs c.args.p c.args.fields.now c.args.at c.in-Some.kept) c.deref.ensures.value at_hand in
    makes_same s.queues c.reserve_kept.new.store.queues (answering a.to a.answer) e (sym (a.effect labelled) ∙ is) c.reserve_kept.ensures.most

pub returns-in-Some-clause-adds : goal.returns-in-Some-clause-adds
returns-in-Some-clause-adds c _ e _ = used_less c.args.store.now.desk.heap.room c.reserve_kept.new.store.desk.heap.room _ c.reserve_kept.ensures.rest.room

pub returns-in_err-reserve_kept-clause-adds : goal.returns-in_err-reserve_kept-clause-adds
returns-in_err-reserve_kept-clause-adds c _ e _ = used_less c.args.store.now.desk.heap.room c.reserve_kept.new.store.desk.heap.room _ c.reserve_kept.ensures.rest.room
