use Rattle.std.proofs.Common.{map, take}
use Rattle.pict_code.specs.Plain.{plain_node}
use Rattle.pict_desk.specs.Constants.{AreConstants, OnlyMakes}
use Rattle.pict_desk.proofs.constants.make_constants.Given as goal

abbrev pub invariant-loop-node : goal.invariant-loop-node
invariant-loop-node l = record {
  are : AreConstants l.desk.heap (map plain_node (take l.node-index l.nodes)) l.constants.items;
  rest : OnlyMakes l.fn.desk l.desk;
}
