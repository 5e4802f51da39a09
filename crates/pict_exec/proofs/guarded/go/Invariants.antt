use Rattle.std.proofs.Common.{◌≡◌, ◌≤◌, ◌+◌, ◌-◌, ◌↔◌, ℕ, List}
use Rattle.pict_core.specs.Configuration.{Configuration, IsConfiguration}
use Rattle.pict_core.specs.Step.{Label}
use Rattle.pict_view.specs.View.{StandsFor}
use Rattle.pict_view.specs.Watching.{Saw}
use Rattle.pict_view.proofs.Runs.{Stood}
use Rattle.pict_machine.specs.Machine.{IsMachine, view_of, channels_of}
use Rattle.pict_exec.proofs.guarded.go.Given as goal

abbrev pub decreases-loop-done : goal.decreases-loop-done
decreases-loop-done g l = l.fuel - l.done

abbrev pub invariant-loop-done : goal.invariant-loop-done
invariant-loop-done g l = record {
  within : l.done ≤ l.fuel;
  kept : IsMachine l.machine;
  few : channels_of l.machine ≤ channels_of l.fn.machine + l.done;
  next_stays : (v : List ℕ) (n : ℕ) (x : Label) → g.W.Watcher.next l.watcher v n x ≡ g.W.Watcher.next l.fn.watcher v n x;
  torn_stays : (v : List ℕ) (n : ℕ) (x : Label) (after : List ℕ) → g.W.Watcher.torn l.watcher v n x after ↔ g.W.Watcher.torn l.fn.watcher v n x after;
  faults_stay : g.W.Watcher.faults l.fn.watcher ≤ g.W.Watcher.faults l.watcher;
  same : g.W.Watcher.same l.fn.watcher l.watcher;
  stood : (C : Configuration) → IsConfiguration C → StandsFor (view_of l.fn.machine) C
      → Stood l.done C (view_of l.machine) (Saw (g.W.Watcher.next l.fn.watcher) (g.W.Watcher.view l.fn.watcher) (g.W.Watcher.view l.watcher));
}
