-- The parameters so far, and those that are left, are all.
use Rattle.std.proofs.Common.{◌≡◌, ◌-◌}
use Rattle.pict_normal.specs.WrittenArguments.{parameters}
use Rattle.pict_normal.proofs.BareOperators.{types_before}
use Rattle.pict_normal.proofs.operators.parameters.Given as goal

abbrev pub invariant-loop-k : goal.invariant-loop-k
invariant-loop-k l = types_before l.types.items (parameters (l.count - l.k)) ≡ parameters l.count
