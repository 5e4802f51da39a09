use Rattle.std.proofs.Common.{◌≡◌}
use Rattle.pict_object.specs.Heads.{own_labels}
use Rattle.pict_object.proofs.decoding.own.Given as goal

abbrev pub invariant-loop-k : goal.invariant-loop-k
invariant-loop-k l = l.labels.items ≡ own_labels l.k
