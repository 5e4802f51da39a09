-- So many applications are begun.
use Rattle.std.proofs.Common.{◌-◌, length}
use Rattle.pict_infer.specs.Environments.{environment_of}
use Rattle.pict_lines.proofs.Beginning.{AreStarted}
use Rattle.pict_lines.proofs.left.begin.Given as goal

abbrev pub invariant-down : goal.invariant-down
invariant-down l = AreStarted (environment_of l.env) l.o l.vs l.fn.expected l.frames.items l.inside

abbrev pub decreases-down : goal.decreases-down
decreases-down l = length l.vs - length l.frames.items
