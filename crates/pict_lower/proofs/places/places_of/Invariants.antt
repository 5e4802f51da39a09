use Rattle.std.proofs.Common.{◌≡◌, ◌++◌, map, length}
use Rattle.pict_core.specs.Plain.{plain_core}
use Rattle.pict_code.specs.Nodes.{places}
use Rattle.pict_lower.specs.Parts.{all_places, plain_place, waiting}
use Rattle.pict_lower.proofs.places.places_of.Given as goal

abbrev pub invariant-loop-place : goal.invariant-loop-place
invariant-loop-place l = map plain_place l.found.items ++ all_places (waiting l.pending.items) ≡ places 0 (plain_core l.core)

abbrev pub decreases-loop-place : goal.decreases-loop-place
decreases-loop-place l = length (all_places (waiting l.pending.items))
