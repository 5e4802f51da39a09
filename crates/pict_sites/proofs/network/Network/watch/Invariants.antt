use Rattle.std.proofs.Common.{ℕ, ◌≡◌, ◌≤◌, ◌+◌, ◌-◌, ◌↔◌, List}
use Rattle.pict_core.specs.Step.{Label}
use Rattle.pict_view.specs.Watching.{Saw}
use Rattle.pict_network.specs.Network as plain
use Rattle.pict_sites.specs.Alone.{IsRunning, StandsIn}
use Rattle.pict_sites.specs.Network.{channels_of}
use Rattle.pict_sites.specs.Runs.{ComesTo}
use Rattle.pict_sites.proofs.network.Network.watch.Given as goal

abbrev pub decreases-loop-count : goal.decreases-loop-count
decreases-loop-count g l = l.fuel - l.count

abbrev pub invariant-loop-count : goal.invariant-loop-count
invariant-loop-count g l = record {
  within : l.count ≤ l.fuel;
  kept : IsRunning l.fn.alone l.self;
  channels : channels_of l.self ≤ channels_of l.fn.self + l.count;
  few : l.steps ≤ l.count;
  so_far : (N : plain.Network) → StandsIn l.fn.alone l.fn.self N
      → ComesTo (StandsIn l.fn.alone l.self) N l.fn.chooser l.count l.steps l.chooser (Saw (g.W.Watcher.next l.fn.watcher) (g.W.Watcher.view l.fn.watcher) (g.W.Watcher.view l.watcher));
  next_stays : (v : List ℕ) (n : ℕ) (k : Label) → g.W.Watcher.next l.watcher v n k ≡ g.W.Watcher.next l.fn.watcher v n k;
  torn_stays : (v : List ℕ) (n : ℕ) (k : Label) (after : List ℕ) → g.W.Watcher.torn l.watcher v n k after ↔ g.W.Watcher.torn l.fn.watcher v n k after;
  faults_stay : g.W.Watcher.faults l.fn.watcher ≤ g.W.Watcher.faults l.watcher;
  same : g.W.Watcher.same l.fn.watcher l.watcher;
}
