-- The table grows, and no binder has another use.
use Rattle.std.proofs.Common.{◌-◌, ◌+◌, vec_len}
use Rattle.pict_unused.specs.Summing.{SameUses}
use Rattle.pict_unused.proofs.summing.note.Given as goal

abbrev pub invariant-loop-table : goal.invariant-loop-table
invariant-loop-table l = SameUses l.fn.table.items l.table.items

abbrev pub decreases-loop-table : goal.decreases-loop-table
decreases-loop-table l = l.index + 1 - vec_len l.table
