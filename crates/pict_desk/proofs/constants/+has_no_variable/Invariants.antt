use Rattle.std.proofs.Common.{map, take}
use Rattle.pict_core.specs.Plain.{plain_val, plain_field, vals_of, labelled_of}
use Rattle.pict_desk.specs.Constants.{HaveNoVariable, LabelledHaveNone}
use Rattle.pict_desk.proofs.constants.+has_no_variable.Given as goal

abbrev pub invariant-have_no_variable-loop-operand : goal.invariant-have_no_variable-loop-operand
invariant-have_no_variable-loop-operand l = HaveNoVariable (vals_of (map plain_val (take l.operand-index l.operands)))

abbrev pub invariant-labelled_have_none-loop-field : goal.invariant-labelled_have_none-loop-field
invariant-labelled_have_none-loop-field l = LabelledHaveNone (labelled_of (map plain_field (take l.field-index l.operands)))
