use Rattle.std.proofs.Common.{◌≡◌, ◌+◌, ◌-◌, ◌≤◌, Some, None, Ok, arith, sym, ap, ◌∙◌, subst}
use Rattle.pict_view.proofs.Runs.{is_trapped, one_more, saw_more, refused}
use Rattle.pict_heap.specs.HeapState.{HeapState}
use Rattle.pict_machine.specs.Events.{label_of, trap_of, IsEventOf}
use Rattle.pict_turns.specs.Shown.{label_shown, trap_shown}
use Rattle.pict_machine.specs.Machine.{running_view, heap_of}
use Rattle.pict_machine.proofs.Bounding.{spends_on, spends_up}
use Rattle.pict_machine.proofs.Going.{right_after, stops_of, stood_between, further, event_of, rests, wants}
use Rattle.pict_code.proofs.Lines.{on_err}
use Rattle.pict_machine.proofs.Running.{seen_steps}
use Rattle.pict_desk.proofs.Making.{keeps_more}
use Rattle.pict_machine.proofs.machine.Machine.watch.Goals as goal

pub skip_quiet-passed-requires-clause-right : goal.skip_quiet-passed-requires-clause-right
skip_quiet-passed-requires-clause-right g c =
    let all : c.loop-done.done + (c.args.fuel - c.loop-done.done) ≤ c.args.fuel = omega arith in
    right_after _ _ _ _ _ _ all c.requires.right c.loop-done.invariant.stood

pub returns-in_err-packed-clause-broken : goal.returns-in_err-packed-clause-broken
returns-in_err-packed-clause-broken g c =
    let all : c.loop-done.done + (c.args.fuel - c.loop-done.done) ≡ c.args.fuel = omega arith in
    on_err c.from_residual.result (λ C is s.
    wants c.passes-passes.result (g.W.Watcher.next c.args.watcher.now) c.passes-passes.ensures (g.W.Watcher.view c.args.watcher.now) (g.W.Watcher.view c.loop-done.watcher) c.loop-done.done c.args.fuel C _ _ _ _ _ c.skip_quiet-passed.ensures.gone all _ (g.W.Watcher.torn c.args.watcher.now) c.in_err-packed.was (c.loop-done.invariant.stood C is s))

pub returns-in-None-clause-end : goal.returns-in-None-clause-end
returns-in-None-clause-end g c C is s =
    let all : c.loop-done.done + (c.args.fuel - c.loop-done.done) ≡ c.args.fuel = omega arith in
    let none : c.skip_quiet-passed.result.event ≡ Ok None = cc in
    rests c.passes-passes.result (g.W.Watcher.next c.args.watcher.now) c.passes-passes.ensures (g.W.Watcher.view c.args.watcher.now) (g.W.Watcher.view c.loop-done.watcher) _ _ _ _ _ _ _ _ c.skip_quiet-passed.ensures.gone all _ c.stopped.result.end none c.stopped.ensures.steps c.stopped.ensures.end (c.loop-done.invariant.stood C is s)

pub unpacked-event-requires : goal.unpacked-event-requires
unpacked-event-requires g c =
    let all : c.loop-done.done + (c.args.fuel - c.loop-done.done) ≡ c.args.fuel = omega arith in
    let some : c.skip_quiet-passed.result.event ≡ Ok (Some c.in-Some.packed) = c.in_ok-packed.was ∙ ap Ok c.in-Some.is in
    let has = event_of c.passes-passes.result (g.W.Watcher.next c.args.watcher.now) c.passes-passes.ensures (g.W.Watcher.view c.args.watcher.now) (g.W.Watcher.view c.loop-done.watcher) c.loop-done.done c.args.fuel c.requires.right.configuration _ _ _ _ _ c.skip_quiet-passed.ensures.gone all c.in-Some.packed some in
    (heap_of c.skip_quiet-passed.new.self, has.event)

pub show-requires : goal.show-requires
show-requires g c =
    let all : c.loop-done.done + (c.args.fuel - c.loop-done.done) ≡ c.args.fuel = omega arith in
    let some : c.skip_quiet-passed.result.event ≡ Ok (Some c.in-Some.packed) = c.in_ok-packed.was ∙ ap Ok c.in-Some.is in
    let has = event_of c.passes-passes.result (g.W.Watcher.next c.args.watcher.now) c.passes-passes.ensures (g.W.Watcher.view c.args.watcher.now) (g.W.Watcher.view c.loop-done.watcher) c.loop-done.done c.args.fuel c.requires.right.configuration _ _ _ _ _ c.skip_quiet-passed.ensures.gone all c.in-Some.packed some in
    subst (λ (h : HeapState). IsEventOf h c.unpacked-event.result) (sym c.heap.ensures) (c.unpacked-event.ensures.event (heap_of c.skip_quiet-passed.new.self) has.event)

pub returns-in-Some-trap-clause-end : goal.returns-in-Some-trap-clause-end
returns-in-Some-trap-clause-end g c C is s =
    let all : c.loop-done.done + (c.args.fuel - c.loop-done.done) ≡ c.args.fuel = omega arith in
    let e = c.in-Some.packed in
    let some : c.skip_quiet-passed.result.event ≡ Ok (Some c.in-Some.packed) = c.in_ok-packed.was ∙ ap Ok c.in-Some.is in
    let lt = further c.passes-passes.result (g.W.Watcher.next c.args.watcher.now) c.passes-passes.ensures (g.W.Watcher.view c.args.watcher.now) (g.W.Watcher.view c.loop-done.watcher) c.loop-done.done c.args.fuel C _ _ _ _ _ c.skip_quiet-passed.ensures.gone all e some in
    let has = event_of c.passes-passes.result (g.W.Watcher.next c.args.watcher.now) c.passes-passes.ensures (g.W.Watcher.view c.args.watcher.now) (g.W.Watcher.view c.loop-done.watcher) c.loop-done.done c.args.fuel C _ _ _ _ _ c.skip_quiet-passed.ensures.gone all e some in
    is_trapped _ _ _ _ _ _ (label_shown (heap_of c.skip_quiet-passed.new.self) e) (trap_shown e) _ lt has.step (sym c.unpacked-event.ensures.trap ∙ sym c.in-Some-trap.ensures)
    (stood_between c.passes-passes.result (g.W.Watcher.next c.args.watcher.now) c.passes-passes.ensures (g.W.Watcher.view c.args.watcher.now) (g.W.Watcher.view c.loop-done.watcher) _ _ _ _ _ _ _ _ c.skip_quiet-passed.ensures.gone all (c.loop-done.invariant.stood C is s))

pub returns-in-Err-clause-broken : goal.returns-in-Err-clause-broken
returns-in-Err-clause-broken g c C is s =
    let all : c.loop-done.done + (c.args.fuel - c.loop-done.done) ≡ c.args.fuel = omega arith in
    let e = c.in-Some.packed in
    let some : c.skip_quiet-passed.result.event ≡ Ok (Some c.in-Some.packed) = c.in_ok-packed.was ∙ ap Ok c.in-Some.is in
    let lt = further c.passes-passes.result (g.W.Watcher.next c.args.watcher.now) c.passes-passes.ensures (g.W.Watcher.view c.args.watcher.now) (g.W.Watcher.view c.loop-done.watcher) c.loop-done.done c.args.fuel C _ _ _ _ _ c.skip_quiet-passed.ensures.gone all e some in
    let has = event_of c.passes-passes.result (g.W.Watcher.next c.args.watcher.now) c.passes-passes.ensures (g.W.Watcher.view c.args.watcher.now) (g.W.Watcher.view c.loop-done.watcher) c.loop-done.done c.args.fuel C _ _ _ _ _ c.skip_quiet-passed.ensures.gone all e some in
    let steps = seen_steps c.heap.result.now (heap_of c.skip_quiet-passed.new.self) e c.unpacked-event.result c.skip_quiet-passed.ensures.gone.between (running_view c.skip_quiet-passed.new.self) c.heap.ensures (c.unpacked-event.ensures.label (heap_of c.skip_quiet-passed.new.self) has.event) c.unpacked-event.ensures.trap has.step in
    refused _ _ _ _ _ (label_of c.heap.result.now c.unpacked-event.result) (trap_of c.unpacked-event.result) _ _ _ _ _ _ lt (stood_between c.passes-passes.result (g.W.Watcher.next c.args.watcher.now) c.passes-passes.ensures (g.W.Watcher.view c.args.watcher.now) (g.W.Watcher.view c.loop-done.watcher) _ _ _ _ _ _ _ _ c.skip_quiet-passed.ensures.gone all (c.loop-done.invariant.stood C is s))
    steps (sym c.in-None-trap.ensures) c.loop-done.invariant.torn_stays c.in-Err.ensures.torn c.in-Err.ensures.one

pub loop-done-preserved : goal.loop-done-preserved
loop-done-preserved g c =
    let all : c.loop-done.done + (c.args.fuel - c.loop-done.done) ≡ c.args.fuel = omega arith in
    let e = c.in-Some.packed in
    let some : c.skip_quiet-passed.result.event ≡ Ok (Some c.in-Some.packed) = c.in_ok-packed.was ∙ ap Ok c.in-Some.is in
    record {
      within = let lt = further c.passes-passes.result (g.W.Watcher.next c.args.watcher.now) c.passes-passes.ensures (g.W.Watcher.view c.args.watcher.now) (g.W.Watcher.view c.loop-done.watcher) c.loop-done.done c.args.fuel c.requires.right.configuration _ _ _ _ _ c.skip_quiet-passed.ensures.gone all e some in omega (arith, lt);
      kept = c.skip_quiet-passed.ensures.kept;
      few = let k = c.skip_quiet-passed.ensures.made in let few = c.loop-done.invariant.few in omega (arith, k, few);
      next_stays = λ v n x. c.show.ensures.next_stays v n x ∙ c.loop-done.invariant.next_stays v n x;
      torn_stays = λ v n x after. (λ t. (c.loop-done.invariant.torn_stays v n x after).0 ((c.show.ensures.torn_stays v n x after).0 t), λ t. (c.show.ensures.torn_stays v n x after).1 ((c.loop-done.invariant.torn_stays v n x after).1 t));
      spends = spends_on c.args.self.now c.loop-done.self c.skip_quiet-passed.new.self c.loop-done.done (c.skip_quiet-passed.result.passed + 1) _ c.loop-done.invariant.spends c.skip_quiet-passed.ensures.spends_passed (omega arith);
      keeps = keeps_more _ _ _ c.loop-done.invariant.keeps c.skip_quiet-passed.ensures.keeps;
      faults_stay = omega (arith, c.loop-done.invariant.faults_stay, c.show.ensures.faults_stay);
      same = g.met.W.Watcher.same_along _ _ _ c.loop-done.invariant.same c.show.ensures.same;
      stood = λ C is s.
          let has = event_of c.passes-passes.result (g.W.Watcher.next c.args.watcher.now) c.passes-passes.ensures (g.W.Watcher.view c.args.watcher.now) (g.W.Watcher.view c.loop-done.watcher) c.loop-done.done c.args.fuel C _ _ _ _ _ c.skip_quiet-passed.ensures.gone all e some in
          let steps = seen_steps c.heap.result.now (heap_of c.skip_quiet-passed.new.self) e c.unpacked-event.result c.skip_quiet-passed.ensures.gone.between (running_view c.skip_quiet-passed.new.self) c.heap.ensures (c.unpacked-event.ensures.label (heap_of c.skip_quiet-passed.new.self) has.event) c.unpacked-event.ensures.trap has.step in
          one_more _ _ _ _ (label_of c.heap.result.now c.unpacked-event.result) (trap_of c.unpacked-event.result) _ _ (stood_between c.passes-passes.result (g.W.Watcher.next c.args.watcher.now) c.passes-passes.ensures (g.W.Watcher.view c.args.watcher.now) (g.W.Watcher.view c.loop-done.watcher) _ _ _ _ _ _ _ _ c.skip_quiet-passed.ensures.gone all (c.loop-done.invariant.stood C is s)) steps (sym c.in-None-trap.ensures)
          (λ ls d. saw_more _ _ c.loop-done.invariant.next_stays _ _ _ _ c.in-Ok.ensures.seen ls d);
    }

pub returns-clause-end : goal.returns-clause-end
returns-clause-end g c C is s =
    let all : c.loop-done.done ≡ c.args.fuel = let within = c.loop-done.invariant.within in omega (arith, within) in
    stops_of _ _ _ _ _ _ c.stopped-2.result.end c.stopped-2.ensures.steps c.stopped-2.ensures.end c.loop-done.invariant.within (λ some. all) (c.loop-done.invariant.stood C is s)

pub returns-in_err-packed-clause-spends : goal.returns-in_err-packed-clause-spends
returns-in_err-packed-clause-spends g c =
    let within = c.loop-done.invariant.within in
    spends_on c.args.self.now c.loop-done.self c.skip_quiet-passed.new.self c.loop-done.done (c.args.fuel - c.loop-done.done) c.args.fuel c.loop-done.invariant.spends c.skip_quiet-passed.ensures.spends (omega (arith, within))

pub returns-in-None-clause-spends : goal.returns-in-None-clause-spends
returns-in-None-clause-spends g c =
    let within = c.loop-done.invariant.within in
    spends_on c.args.self.now c.loop-done.self c.skip_quiet-passed.new.self c.loop-done.done (c.args.fuel - c.loop-done.done) c.args.fuel c.loop-done.invariant.spends c.skip_quiet-passed.ensures.spends (omega (arith, within))

pub returns-in-Some-trap-clause-spends : goal.returns-in-Some-trap-clause-spends
returns-in-Some-trap-clause-spends g c =
    let within = c.loop-done.invariant.within in
    spends_on c.args.self.now c.loop-done.self c.skip_quiet-passed.new.self c.loop-done.done (c.args.fuel - c.loop-done.done) c.args.fuel c.loop-done.invariant.spends c.skip_quiet-passed.ensures.spends (omega (arith, within))

pub returns-in-Err-clause-spends : goal.returns-in-Err-clause-spends
returns-in-Err-clause-spends g c =
    let within = c.loop-done.invariant.within in
    spends_on c.args.self.now c.loop-done.self c.skip_quiet-passed.new.self c.loop-done.done (c.args.fuel - c.loop-done.done) c.args.fuel c.loop-done.invariant.spends c.skip_quiet-passed.ensures.spends (omega (arith, within))

pub returns-clause-spends : goal.returns-clause-spends
returns-clause-spends g c = let within = c.loop-done.invariant.within in spends_up c.args.self.now c.loop-done.self c.loop-done.done c.args.fuel c.loop-done.invariant.spends (omega (arith, within))
