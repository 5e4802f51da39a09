-- The numbers from here on have their places.
use Rattle.std.proofs.Common.{◌≤◌, length}
use Rattle.pict_scope.specs.Places.{HasPlacesFrom}
use Rattle.pict_scope.proofs.places.table_of.Given as goal

abbrev pub invariant-loop-place : goal.invariant-loop-place
invariant-loop-place l = record {
  within : l.place ≤ length l.order;
  places : HasPlacesFrom l.place l.order l.table.items;
}

abbrev pub decreases-loop-place : goal.decreases-loop-place
decreases-loop-place l = l.place
