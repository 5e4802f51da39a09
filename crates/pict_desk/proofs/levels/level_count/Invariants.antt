use Rattle.std.proofs.Common.{◌≡◌, max, map, drop}
use Rattle.pict_code.specs.Plain.{plain_node}
use Rattle.pict_desk.specs.Levels.{levels_in}
use Rattle.pict_desk.proofs.levels.level_count.Given as goal

abbrev pub invariant-loop-node : goal.invariant-loop-node
invariant-loop-node l = max l.count (levels_in (map plain_node (drop l.node-index l.nodes))) ≡ levels_in (map plain_node l.nodes)
