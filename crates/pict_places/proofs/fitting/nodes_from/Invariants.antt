use Rattle.std.proofs.Common.{◌≡◌, map, take}
use Rattle.pict_places.specs.Nodes.{node_from}
use Rattle.pict_places.proofs.fitting.nodes_from.Given as goal

abbrev pub invariant-loop-origin : goal.invariant-loop-origin
invariant-loop-origin l = l.nodes.items ≡ map node_from (take l.origin-index l.origins)
