use Rattle.std.proofs.Common.{◌+◌, ◌*◌}
use Rattle.pict_object.proofs.process.+read_part.Given as goal

abbrev pub decreases-read_part : goal.decreases-read_part
decreases-read_part l = 3 * l.left

abbrev pub decreases-read_tagged : goal.decreases-read_tagged
decreases-read_tagged l = 3 * l.left + 2

abbrev pub decreases-read_par : goal.decreases-read_par
decreases-read_par l = 3 * l.left + 1

abbrev pub decreases-read_new : goal.decreases-read_new
decreases-read_new l = 3 * l.left + 1

abbrev pub decreases-read_in : goal.decreases-read_in
decreases-read_in l = 3 * l.left + 1

abbrev pub decreases-read_if : goal.decreases-read_if
decreases-read_if l = 3 * l.left + 1
