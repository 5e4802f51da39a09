use Rattle.std.proofs.Common.{◌≡◌, ◌-◌, ◌++◌, length, replicate}
use Rattle.pict_ranked.proofs.counts.Counts.fill.Given as goal

abbrev pub invariant-loop-leaf : goal.invariant-loop-leaf
invariant-loop-leaf l = l.self ≡ replicate l.leaf 1 ++ replicate (length l.fn.self - l.leaf) 0
