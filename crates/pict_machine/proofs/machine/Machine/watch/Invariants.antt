use Rattle.std.proofs.Common.{◌≡◌, ◌≤◌, ◌+◌, ◌-◌, ◌↔◌, ℕ, List}
use Rattle.pict_core.specs.Configuration.{Configuration, IsConfiguration}
use Rattle.pict_core.specs.Step.{Label}
use Rattle.pict_heap.specs.HeapState.{KeepsWords}
use Rattle.pict_view.specs.View.{StandsFor}
use Rattle.pict_machine.specs.Bounds.{SpendsAtMost}
use Rattle.pict_machine.specs.Machine.{IsRunning, running_view, heap_of, channels_of}
use Rattle.pict_view.specs.Watching.{Saw}
use Rattle.pict_view.proofs.Runs.{Stood}
use Rattle.pict_machine.proofs.machine.Machine.watch.Given as goal

abbrev pub decreases-loop-done : goal.decreases-loop-done
decreases-loop-done g l = l.fuel - l.done

abbrev pub invariant-loop-done : goal.invariant-loop-done
invariant-loop-done g l = record {
  within : l.done ≤ l.fuel;
  kept : IsRunning l.self;
  few : channels_of l.self ≤ channels_of l.fn.self + l.done;
  next_stays : (v : List ℕ) (n : ℕ) (x : Label) → g.W.Watcher.next l.watcher v n x ≡ g.W.Watcher.next l.fn.watcher v n x;
  torn_stays : (v : List ℕ) (n : ℕ) (x : Label) (after : List ℕ) → g.W.Watcher.torn l.watcher v n x after ↔ g.W.Watcher.torn l.fn.watcher v n x after;
  spends : SpendsAtMost l.done l.fn.self l.self;
  keeps : KeepsWords (heap_of l.fn.self) (heap_of l.self);
  faults_stay : g.W.Watcher.faults l.fn.watcher ≤ g.W.Watcher.faults l.watcher;
  same : g.W.Watcher.same l.fn.watcher l.watcher;
  stood : (C : Configuration) → IsConfiguration C → StandsFor (running_view l.fn.self) C
      → Stood l.done C (running_view l.self) (Saw (g.W.Watcher.next l.fn.watcher) (g.W.Watcher.view l.fn.watcher) (g.W.Watcher.view l.watcher));
}
