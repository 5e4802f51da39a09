-- Each form is one level deeper.
use Rattle.std.proofs.Common.{◌+◌, ◌*◌}
use Rattle.pict_misfit.proofs.clash.+first.Given as goal

abbrev pub decreases-first_clash : goal.decreases-first_clash
decreases-first_clash l = 3 * l.deep

abbrev pub decreases-content_clash : goal.decreases-content_clash
decreases-content_clash l = 3 * l.deep + 1

abbrev pub decreases-record_clash : goal.decreases-record_clash
decreases-record_clash l = 3 * l.deep + 2

abbrev pub decreases-labels_clash : goal.decreases-labels_clash
decreases-labels_clash l = 3 * l.deep + 1
