-- The values so far.
use Rattle.pict_infer.specs.Beside.{AreJoined}
use Rattle.pict_infer.proofs.added.join_values.Given as goal

abbrev pub invariant-loop-v : goal.invariant-loop-v
invariant-loop-v l = AreJoined l.base l.by l.fn.outer.items l.yielded l.all.items
