use Rattle.std.proofs.Common.{◌≡◌}
use Rattle.pict_ranked.proofs.Changing.{IsLess, IsOffAt, HaveRoom}
use Rattle.pict_ranked.proofs.counts.Counts.add.Given as goal

abbrev pub invariant-loop-k : goal.invariant-loop-k
invariant-loop-k l =
    (l.self-inside.width ≡ l.initial.self-inside.width)
    × IsOffAt IsLess l.self-inside.width l.initial.self-inside.nodes.items l.self-inside.nodes.items l.k
    × HaveRoom l.self-inside.nodes.items l.k

abbrev pub decreases-loop-k : goal.decreases-loop-k
decreases-loop-k l = l.k
