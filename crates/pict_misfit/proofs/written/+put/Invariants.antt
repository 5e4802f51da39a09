-- Each form is one level deeper.
use Rattle.std.proofs.Common.{◌+◌, ◌*◌}
use Rattle.pict_misfit.proofs.written.+put.Given as goal

abbrev pub decreases-put_type : goal.decreases-put_type
decreases-put_type l = 3 * l.deep

abbrev pub decreases-put_said : goal.decreases-put_said
decreases-put_said l = 3 * l.deep + 1

abbrev pub decreases-put_form : goal.decreases-put_form
decreases-put_form l = 3 * l.deep + 2

abbrev pub decreases-put_record : goal.decreases-put_record
decreases-put_record l = 3 * l.deep + 1
