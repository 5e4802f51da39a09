use Rattle.std.proofs.Common.{◌≤◌, map, drop, length}
use Rattle.pict_lower.specs.Parts.{plain_place}
use Rattle.pict_lower.specs.Laid.{IsLaid}
use Rattle.pict_lower.proofs.lowering.lower.Given as goal

abbrev pub invariant-loop-number : goal.invariant-loop-number
invariant-loop-number l = (l.number ≤ length l.places.items) × IsLaid l.number (drop l.number (map plain_place l.places.items)) l.nodes.items l.sizes.items

abbrev pub decreases-loop-number : goal.decreases-loop-number
decreases-loop-number l = l.number
