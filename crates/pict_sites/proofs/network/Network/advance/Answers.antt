use Rattle.std.proofs.Common.{◌≡◌, ◌+◌, ◌∷◌, [], inl, subst, arith}
use Rattle.pict_core.specs.Run.{shown}
use Rattle.pict_heap.specs.HeapState.{HeapState}
use Rattle.pict_view.specs.Watching.{Saw, WhereTold}
use Rattle.pict_view.proofs.Runs.{saw_nothing}
use Rattle.pict_picker.specs.Events.{label_of}
use Rattle.pict_sites.specs.Alone.{StandsIn}
use Rattle.pict_sites.specs.Network.{heap_of}
use Rattle.pict_sites.proofs.Going.{goes_none, went_done, went_moved, went_trapped, went_stepped, went_torn}
use Rattle.pict_sites.proofs.network.Network.advance.Goals as goal

pub returns-in-Err-clause-broken : goal.returns-in-Err-clause-broken
returns-in-Err-clause-broken g c N st = (
  0,
  let some = c.requires.some in omega (arith, some),
  goes_none N c.args.chooser.now,
  inl (c.in-Err.ensures.refused N st, saw_nothing (g.W.Watcher.next c.args.watcher.now) (g.W.Watcher.view c.args.watcher.now)),
)

pub returns-in-None-clause-gone : goal.returns-in-None-clause-gone
returns-in-None-clause-gone g c N st =
    let n = c.next_in.new.self in
    let next = g.W.Watcher.next c.args.watcher.now in
    let view = g.W.Watcher.view c.args.watcher.now in
    went_done (heap_of n) (StandsIn c.args.alone n) N c.args.chooser.now c.next_in.new.chooser c.args.steps (Saw next view view) c.in-Ok.next (c.in-Ok.ensures.ok N st) c.in-None.is (saw_nothing next view)

pub returns-in-Moved-clause-gone : goal.returns-in-Moved-clause-gone
returns-in-Moved-clause-gone g c N st =
    let n = c.next_in.new.self in
    let next = g.W.Watcher.next c.args.watcher.now in
    let view = g.W.Watcher.view c.args.watcher.now in
    went_moved (heap_of n) (StandsIn c.args.alone n) N c.args.chooser.now c.next_in.new.chooser c.args.steps (Saw next view view) c.in-Ok.next (c.in-Ok.ensures.ok N st)
    c.in-Some.happened c.in-Some.is c.in-Moved.is (saw_nothing next view)

pub returns-in-Some-trap-clause-gone : goal.returns-in-Some-trap-clause-gone
returns-in-Some-trap-clause-gone g c N st =
    let n = c.next_in.new.self in
    let next = g.W.Watcher.next c.args.watcher.now in
    let view = g.W.Watcher.view c.args.watcher.now in
    went_trapped (heap_of n) (StandsIn c.args.alone n) N c.args.chooser.now c.next_in.new.chooser c.args.steps (Saw next view view) c.in-Ok.next (c.in-Ok.ensures.ok N st)
    c.in-Some.happened c.in-Some.is c.in-Stepped.did c.in-Stepped.is c.in-Some-trap.at c.in-Some-trap.ensures (saw_nothing next view)

pub returns-in-Ok-show_did-clause-gone : goal.returns-in-Ok-show_did-clause-gone
returns-in-Ok-show_did-clause-gone g c N st =
    let n = c.next_in.new.self in
    let next = g.W.Watcher.next c.args.watcher.now in
    let view = g.W.Watcher.view c.args.watcher.now in
    let after = g.W.Watcher.view c.show_did.new.watcher in
    let d = c.in-Stepped.did in
    went_stepped (heap_of n) (StandsIn c.args.alone n) N c.args.chooser.now c.next_in.new.chooser c.args.steps (Saw next view after) c.in-Ok.next (c.in-Ok.ensures.ok N st)
    c.in-Some.happened c.in-Some.is d c.in-Stepped.is c.in-None-trap.ensures
    (subst (λ (h : HeapState). Saw next view after (shown (c.args.steps + c.in-Ok.next.quiet + 1) (label_of h d))) c.heap.ensures c.in-Ok-show_did.ensures.seen)

pub returns-in-Err-show_did-clause-broken : goal.returns-in-Err-show_did-clause-broken
returns-in-Err-show_did-clause-broken g c N st =
    let n = c.next_in.new.self in
    let next = g.W.Watcher.next c.args.watcher.now in
    let torn = g.W.Watcher.torn c.args.watcher.now in
    let view = g.W.Watcher.view c.args.watcher.now in
    let after = g.W.Watcher.view c.show_did.new.watcher in
    let d = c.in-Stepped.did in
    let number = c.args.steps + c.in-Ok.next.quiet + 1 in
    went_torn (heap_of n) (StandsIn c.args.alone n) N c.args.chooser.now c.next_in.new.chooser c.args.steps (Saw next view after) c.in-Ok.next (c.in-Ok.ensures.ok N st)
    c.in-Some.happened c.in-Some.is d c.in-Stepped.is c.args.most (λ k label. WhereTold (λ b a. torn b k label a) view after) c.in-Ok.ensures.within c.in-None-trap.ensures
    (subst (λ (h : HeapState). shown number (label_of h d) ≡ (number, label_of h d) ∷ []) c.heap.ensures c.in-Err-show_did.ensures.one)
    (subst (λ (h : HeapState). WhereTold (λ b a. torn b number (label_of h d) a) view after) c.heap.ensures c.in-Err-show_did.ensures.torn)
