use Rattle.std.proofs.Common.{◌≡◌, map, take}
use Rattle.pict_core.specs.Plain.{plain_val, plain_field, vals_of, labelled_of}
use Rattle.pict_desk.specs.Needs.{needs_of, needs_of_labelled}
use Rattle.pict_desk.proofs.needs.+need.Given as goal

abbrev pub invariant-need_of_all-loop-operand : goal.invariant-need_of_all-loop-operand
invariant-need_of_all-loop-operand l = l.sum ≡ needs_of (vals_of (map plain_val (take l.operand-index l.operands)))

abbrev pub invariant-needs_labelled-loop-field : goal.invariant-needs_labelled-loop-field
invariant-needs_labelled-loop-field l = l.sum ≡ needs_of_labelled (labelled_of (map plain_field (take l.field-index l.operands)))
