-- So many are missing.
use Rattle.std.proofs.Common.{◌≤◌, ◌-◌, length}
use Rattle.pict_lines.proofs.Finding.{AreMissing}
use Rattle.pict_lines.proofs.fields.none_found.Given as goal

abbrev pub invariant-loop-list : goal.invariant-loop-list
invariant-loop-list l = record { missing : AreMissing l.list.items; count : length l.list.items ≤ length l.bs }

abbrev pub decreases-loop-list : goal.decreases-loop-list
decreases-loop-list l = length l.bs - length l.list.items
