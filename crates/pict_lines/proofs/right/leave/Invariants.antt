-- What stands inside the applications that are left has its judgement.
use Rattle.std.proofs.Common.{length}
use Rattle.pict_infer.specs.Environments.{environment_of}
use Rattle.pict_lines.proofs.Leaving.{IsLeaving}
use Rattle.pict_lines.proofs.right.leave.Given as goal

abbrev pub invariant-up : goal.invariant-up
invariant-up l = IsLeaving (environment_of l.env) l.o l.fn.vs l.expected l.frames.items l.at l.given

abbrev pub decreases-up : goal.decreases-up
decreases-up l = length l.frames.items
