use Rattle.pict_core.specs.Plain.{plain_core}
use Rattle.pict_view.specs.Watching.{Saw, SawOrTore}
use Rattle.pict_machine.specs.Machine.{view_of}
use Rattle.pict_exec.specs.Ends.{end_of}
use Rattle.pict_exec.proofs.Guarding.{ended, broken}
use Rattle.pict_exec.proofs.guarded.execute.Goals as goal

pub returns-clause-end : goal.returns-clause-end
returns-clause-end g c =
    ended (plain_core c.args.core.now) c.args.fuel (view_of c.in_ok-machine.machine) (view_of c.go.new.machine)
    (Saw (g.W.Watcher.next c.args.watcher.now) (g.W.Watcher.view c.args.watcher.now) (g.W.Watcher.view c.go.new.watcher))
    c.in_ok-machine.ensures.is c.in_ok-machine.ensures.stands c.go.result end_of c.go.ensures.end

pub returns-clause-broken : goal.returns-clause-broken
returns-clause-broken g c =
    broken (plain_core c.args.core.now) c.args.fuel (view_of c.in_ok-machine.machine) (view_of c.go.new.machine)
    (SawOrTore (g.W.Watcher.next c.args.watcher.now) (g.W.Watcher.torn c.args.watcher.now) (g.W.Watcher.view c.args.watcher.now) (g.W.Watcher.view c.go.new.watcher))
    c.in_ok-machine.ensures.is c.in_ok-machine.ensures.stands c.go.result c.go.ensures.broken
