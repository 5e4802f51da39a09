use Rattle.std.proofs.Common.{sym, subst, arith}
use Rattle.pict_view.specs.Right.{IsRightFor}
use Rattle.pict_view.specs.View.{View, StandsFor}
use Rattle.pict_view.specs.Watching.{Saw, SawOrTore, RanFor, BrokeOff}
use Rattle.pict_heap.specs.HeapState.{HeapState, KeepsWords, LosesNoRoom}
use Rattle.pict_machine.specs.Events.{end_of}
use Rattle.pict_machine.specs.Machine.{view_of, running_view, heap_of}
use Rattle.pict_machine.proofs.Bounding.{rested_work, rested_blocks}
use Rattle.pict_machine.proofs.Running.{ends_same, broken_same}
use Rattle.pict_machine.proofs.Steps.{idle_view}
use Rattle.pict_machine.proofs.machine.Machine.run_counted.Goals as goal

pub watch-answer-requires-clause-kept : goal.watch-answer-requires-clause-kept
watch-answer-requires-clause-kept g c = c.requires.kept.running

pub watch-answer-requires-clause-right : goal.watch-answer-requires-clause-right
watch-answer-requires-clause-right g c = subst (λ (v : View). IsRightFor v c.args.fuel) (sym (idle_view c.args.self.now c.requires.kept)) c.requires.right

pub returns-clause-end : goal.returns-clause-end
returns-clause-end g c =
    let old = c.args.self.now in
    let saw = Saw (g.W.Watcher.next c.args.watcher.now) (g.W.Watcher.view c.args.watcher.now) (g.W.Watcher.view c.watch-answer.new.watcher) in
    ends_same (running_view old) (view_of old) (running_view c.watch-answer.new.self) (view_of c.rest.new.self) (idle_view old c.requires.kept) (sym c.rest.ensures.view)
    c.watch-answer.result (λ s C v. RanFor C c.args.fuel s.steps (end_of s.end) v saw) c.watch-answer.ensures.end

pub returns-clause-broken : goal.returns-clause-broken
returns-clause-broken g c =
    let old = c.args.self.now in
    let saw = SawOrTore (g.W.Watcher.next c.args.watcher.now) (g.W.Watcher.torn c.args.watcher.now) (g.W.Watcher.view c.args.watcher.now) (g.W.Watcher.view c.watch-answer.new.watcher) in
    broken_same (running_view old) (view_of old) (running_view c.watch-answer.new.self) (view_of c.rest.new.self) (idle_view old c.requires.kept) (sym c.rest.ensures.view)
    c.watch-answer.result (λ C v. BrokeOff C c.args.fuel (StandsFor v) saw) c.watch-answer.ensures.broken

pub returns-clause-keeps : goal.returns-clause-keeps
returns-clause-keeps g c = subst (λ (h : HeapState). KeepsWords (heap_of c.args.self.now) h) (sym c.rest.ensures.heap) c.watch-answer.ensures.keeps

pub returns-clause-work : goal.returns-clause-work
returns-clause-work g c = rested_work c.args.self.now c.watch-answer.new.self c.rest.new.self c.args.fuel c.watch-answer.ensures.spends c.rest.ensures.work

pub returns-clause-blocks : goal.returns-clause-blocks
returns-clause-blocks g c = rested_blocks c.args.self.now c.watch-answer.new.self c.rest.new.self c.args.fuel c.watch-answer.ensures.spends c.rest.ensures.blocks

pub returns-clause-queues : goal.returns-clause-queues
returns-clause-queues g c = let first = c.watch-answer.ensures.spends.queues in let then_ = c.rest.ensures.queues in omega (arith, first, then_)

pub returns-clause-room : goal.returns-clause-room
returns-clause-room g c = subst (λ (h : HeapState). LosesNoRoom (heap_of c.args.self.now).room h.room) (sym c.rest.ensures.heap) c.watch-answer.ensures.spends.room
