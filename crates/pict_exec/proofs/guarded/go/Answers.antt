use Rattle.std.proofs.Common.{◌≡◌, refl, sym, ◌∙◌, subst, arith}
use Rattle.pict_core.specs.Configuration.{Configuration, IsConfiguration}
use Rattle.pict_heap.specs.HeapState.{HeapState}
use Rattle.pict_view.specs.Right.{IsRightFor}
use Rattle.pict_view.specs.Stepping.{IsStepOf}
use Rattle.pict_view.specs.View.{StandsFor}
use Rattle.pict_view.proofs.Runs.{is_done, is_spent, is_trapped, one_more, saw_more, refused}
use Rattle.pict_machine.specs.Events.{label_of, trap_of}
use Rattle.pict_machine.specs.Machine.{view_of, heap_of}
use Rattle.pict_machine.proofs.Running.{broke_before}
use Rattle.pict_exec.proofs.Guarding.{is_misshapen, right_next}
use Rattle.pict_exec.proofs.guarded.go.Goals as goal

pub returns-then-not-ready-clause-end : goal.returns-then-not-ready-clause-end
returns-then-not-ready-clause-end g c C is s =
    (is_done _ _ C _ _ c.ready.result c.loop-done.done refl c.loop-done.invariant.within c.if-not-ready.true c.ready.ensures.unfinished (c.loop-done.invariant.stood C is s)).ran

pub returns-then-next_is_wrong-clause-end : goal.returns-then-next_is_wrong-clause-end
returns-then-next_is_wrong-clause-end g c C is s =
    is_misshapen _ _ C (view_of c.loop-done.machine) _ _ c.next_is_wrong.result c.loop-done-test.true c.if-next_is_wrong.true c.next_is_wrong.ensures.unchanged.view c.next_is_wrong.ensures.wrong (c.loop-done.invariant.stood C is s)

pub step-requires-clause-right : goal.step-requires-clause-right
step-requires-clause-right g c =
    let C = c.requires.stands in
    subst (λ v. IsRightFor v 1) (sym c.next_is_wrong.ensures.unchanged.view)
    (right_next _ _ (view_of c.loop-done.machine) _ c.next_is_wrong.result c.if-next_is_wrong.false c.next_is_wrong.ensures.wrong (c.loop-done.invariant.stood C.0 C.1 C.2))

pub returns-in-Err-clause-broken : goal.returns-in-Err-clause-broken
returns-in-Err-clause-broken g c C is s =
    broke_before _ _ C (view_of c.loop-done.machine) _ (g.W.Watcher.next c.args.watcher.now) (g.W.Watcher.torn c.args.watcher.now) (g.W.Watcher.view c.args.watcher.now) (g.W.Watcher.view c.loop-done.watcher) c.loop-done.invariant.within (c.in-Err.ensures.refused.view ∙ c.next_is_wrong.ensures.unchanged.view) (c.loop-done.invariant.stood C is s)

pub returns-in-Some-clause-end : goal.returns-in-Some-clause-end
returns-in-Some-clause-end g c C is s =
    let v = view_of c.loop-done.machine in
    let same = c.next_is_wrong.ensures.unchanged.view in
    let steps = λ (D : Configuration) (d : IsConfiguration D) (st : StandsFor v D). c.in-Ok.ensures.ok D d (subst (λ u. StandsFor u D) (sym same) st) in
    (is_trapped _ _ C v _ _ (label_of (heap_of c.step.new.self) c.in-Ok.event) (trap_of c.in-Ok.event) c.in-Some.at c.loop-done-test.true steps (sym c.trap.ensures ∙ c.in-Some.is) (c.loop-done.invariant.stood C is s)).ran

pub loop-done-preserved : goal.loop-done-preserved
loop-done-preserved g c =
    let v = view_of c.loop-done.machine in
    let same = c.next_is_wrong.ensures.unchanged.view in
    record {
      within = let lt = c.loop-done-test.true in omega (arith, lt);
      kept = c.step.ensures.kept;
      few = let few = c.loop-done.invariant.few in let more = c.step.ensures.channels in let count = c.next_is_wrong.ensures.unchanged.queues in omega (arith, few, more, count);
      next_stays = λ v n x. c.show.ensures.next_stays v n x ∙ c.loop-done.invariant.next_stays v n x;
      torn_stays = λ v n x after. (λ t. (c.loop-done.invariant.torn_stays v n x after).0 ((c.show.ensures.torn_stays v n x after).0 t), λ t. (c.show.ensures.torn_stays v n x after).1 ((c.loop-done.invariant.torn_stays v n x after).1 t));
      faults_stay = omega (arith, c.loop-done.invariant.faults_stay, c.show.ensures.faults_stay);
      same = g.met.W.Watcher.same_along _ _ _ c.loop-done.invariant.same c.show.ensures.same;
      stood = λ C is s.
          let steps = λ (D : Configuration) (d : IsConfiguration D) (st : StandsFor v D). subst (λ (h : HeapState). IsStepOf D (label_of h c.in-Ok.event) (trap_of c.in-Ok.event) (view_of c.step.new.self)) (sym c.heap.ensures) (c.in-Ok.ensures.ok D d (subst (λ u. StandsFor u D) (sym same) st)) in
          one_more _ _ v _ (label_of c.heap.result.now c.in-Ok.event) (trap_of c.in-Ok.event) _ _ (c.loop-done.invariant.stood C is s) steps (sym c.trap.ensures ∙ c.in-None.is)
          (λ ls d. saw_more _ _ c.loop-done.invariant.next_stays _ _ _ _ c.in-Ok-show.ensures.seen ls d);
    }

pub returns-in-Err-show-clause-broken : goal.returns-in-Err-show-clause-broken
returns-in-Err-show-clause-broken g c C is s =
    let v = view_of c.loop-done.machine in
    let same = c.next_is_wrong.ensures.unchanged.view in
    let steps = λ (D : Configuration) (d : IsConfiguration D) (st : StandsFor v D). subst (λ (h : HeapState). IsStepOf D (label_of h c.in-Ok.event) (trap_of c.in-Ok.event) (view_of c.step.new.self)) (sym c.heap.ensures) (c.in-Ok.ensures.ok D d (subst (λ u. StandsFor u D) (sym same) st)) in
    refused _ _ _ v _ (label_of c.heap.result.now c.in-Ok.event) (trap_of c.in-Ok.event) _ _ _ _ _ _ c.loop-done-test.true (c.loop-done.invariant.stood C is s)
    steps (sym c.trap.ensures ∙ c.in-None.is) c.loop-done.invariant.torn_stays c.in-Err-show.ensures.torn c.in-Err-show.ensures.one

pub returns-then-ready-clause-end : goal.returns-then-ready-clause-end
returns-then-ready-clause-end g c C is s =
    let within = c.loop-done.invariant.within in
    let all : c.loop-done.done ≡ c.args.fuel = omega (arith, within, c.loop-done-test.false) in
    (is_spent _ _ C _ _ c.ready-2.result all c.if-ready.true c.ready-2.ensures.unfinished (c.loop-done.invariant.stood C is s)).ran

pub returns-else-ready-clause-end : goal.returns-else-ready-clause-end
returns-else-ready-clause-end g c C is s =
    (is_done _ _ C _ _ c.ready-2.result c.loop-done.done refl c.loop-done.invariant.within c.if-ready.false c.ready-2.ensures.unfinished (c.loop-done.invariant.stood C is s)).ran
