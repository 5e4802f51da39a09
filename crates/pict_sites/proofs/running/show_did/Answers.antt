use Rattle.std.proofs.Common.{OnOk, subst}
use Rattle.pict_core.specs.Run.{shown}
use Rattle.pict_core.specs.Step.{Label}
use Rattle.pict_view.specs.Watching.{Saw}
use Rattle.pict_sites.proofs.running.show_did.Goals as goal

pub show-requires : goal.show-requires
show-requires g c = c.event_of-event.ensures.event c.args.heap.now c.requires

pub returns-clause-seen : goal.returns-clause-seen
returns-clause-seen g c =
    subst (λ (l : Label). OnOk c.show.result (Saw (g.W.Watcher.next c.args.watcher.now) (g.W.Watcher.view c.args.watcher.now) (g.W.Watcher.view c.show.new.watcher) (shown c.args.number l)))
    (c.event_of-event.ensures.label c.args.heap.now) c.show.ensures.seen
