-- The table grows, and no number has another place.
use Rattle.std.proofs.Common.{◌-◌, ◌+◌, vec_len}
use Rattle.pict_scope.specs.Places.{SamePlaces}
use Rattle.pict_scope.proofs.places.set_place.Given as goal

abbrev pub invariant-loop-table : goal.invariant-loop-table
invariant-loop-table l = SamePlaces l.none l.fn.table.items l.table.items

abbrev pub decreases-loop-table : goal.decreases-loop-table
decreases-loop-table l = l.index + 1 - vec_len l.table
