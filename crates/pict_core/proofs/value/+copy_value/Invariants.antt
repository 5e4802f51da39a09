use Rattle.std.proofs.Common.{◌≡◌, map, take}
use Rattle.pict_core.specs.Plain.{plain_val, plain_field}
use Rattle.pict_core.proofs.value.+copy_value.Given as goal

abbrev pub invariant-copy_fields-loop-field : goal.invariant-copy_fields-loop-field
invariant-copy_fields-loop-field l = map plain_field l.made.items ≡ map plain_field (take l.field-index l.fields)

abbrev pub invariant-copy_values-loop-value : goal.invariant-copy_values-loop-value
invariant-copy_values-loop-value l = map plain_val l.made.items ≡ map plain_val (take l.value-index l.values)
