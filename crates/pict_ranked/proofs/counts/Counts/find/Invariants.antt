use Rattle.std.proofs.Common.{◌≤◌, ◌-◌}
use Rattle.pict_ranked.proofs.Descending.{Descends}
use Rattle.pict_ranked.proofs.counts.Counts.find.Given as goal

abbrev pub invariant-loop-k : goal.invariant-loop-k
invariant-loop-k l = (1 ≤ l.k) × Descends l.self-inside.width l.self-inside.nodes.items l.i l.left l.k

abbrev pub decreases-loop-k : goal.decreases-loop-k
decreases-loop-k l = l.self-inside.width - l.k
