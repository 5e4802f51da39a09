-- Those so far, and those to come, are all.
use Rattle.std.proofs.Common.{◌≡◌, ◌++◌, drop}
use Rattle.pict_unused.specs.Hints.{roles_in}
use Rattle.pict_unused.proofs.summing.roles_in.Given as goal

abbrev pub invariant-loop-item : goal.invariant-loop-item
invariant-loop-item l = l.roles.items ++ roles_in (drop l.item-index l.items) ≡ roles_in l.items
