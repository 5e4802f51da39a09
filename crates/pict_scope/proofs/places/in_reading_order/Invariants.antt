-- The targets so far stand in the answer.
use Rattle.std.proofs.Common.{◌≡◌, map, take}
use Rattle.pict_scope.specs.Places.{placed}
use Rattle.pict_scope.proofs.places.in_reading_order.Given as goal

abbrev pub invariant-loop-target : goal.invariant-loop-target
invariant-loop-target l = l.all.items ≡ map (placed l.none l.table.items) (take l.target-index l.targets)
