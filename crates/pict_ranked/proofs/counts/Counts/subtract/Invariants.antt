use Rattle.std.proofs.Common.{◌≡◌}
use Rattle.pict_ranked.proofs.Changing.{IsMore, IsOffAt}
use Rattle.pict_ranked.proofs.counts.Counts.subtract.Given as goal

abbrev pub invariant-loop-k : goal.invariant-loop-k
invariant-loop-k l =
    (l.self-inside.width ≡ l.initial.self-inside.width)
    × IsOffAt IsMore l.self-inside.width l.initial.self-inside.nodes.items l.self-inside.nodes.items l.k

abbrev pub decreases-loop-k : goal.decreases-loop-k
decreases-loop-k l = l.k
