-- Each form is one level deeper.
use Rattle.std.proofs.Common.{◌+◌, ◌*◌}
use Rattle.pict_misfit.proofs.said.+fits.Given as goal

abbrev pub decreases-type_fits : goal.decreases-type_fits
decreases-type_fits l = 3 * l.deep

abbrev pub decreases-record_fits : goal.decreases-record_fits
decreases-record_fits l = 3 * l.deep + 2

abbrev pub decreases-types_fit : goal.decreases-types_fit
decreases-types_fit l = 3 * l.deep + 1

abbrev pub decreases-labels_fit : goal.decreases-labels_fit
decreases-labels_fit l = 3 * l.deep + 1

abbrev pub decreases-bounds_fit : goal.decreases-bounds_fit
decreases-bounds_fit l = 3 * l.deep + 1
