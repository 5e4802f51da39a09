-- Those from here on are noted.
use Rattle.std.proofs.Common.{◌≤◌, length, drop}
use Rattle.pict_unused.specs.Summing.{AreSummed}
use Rattle.pict_unused.proofs.summing.summed.Given as goal

abbrev pub invariant-loop-index : goal.invariant-loop-index
invariant-loop-index l = record {
  within : l.index ≤ length l.roles;
  noted : AreSummed (drop l.index l.roles) (drop l.index l.targets) l.table.items;
}

abbrev pub decreases-loop-index : goal.decreases-loop-index
decreases-loop-index l = l.index
