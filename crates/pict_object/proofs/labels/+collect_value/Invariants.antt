use Rattle.std.proofs.Common.{◌≡◌, ◌++◌, map, drop}
use Rattle.pict_core.specs.Plain.{plain_val, plain_field, vals_of, labelled_of}
use Rattle.pict_object.specs.Objects.{labels_of_values, labels_of_labelled}
use Rattle.pict_object.specs.Collected.{numbers}
use Rattle.pict_object.proofs.labels.+collect_value.Given as goal

abbrev pub invariant-collect_fields-loop-field : goal.invariant-collect_fields-loop-field
invariant-collect_fields-loop-field l =
    numbers l.labels.items ++ labels_of_labelled (labelled_of (map plain_field (drop l.field-index l.fields)))
    ≡ numbers l.initial.labels.items ++ labels_of_labelled (labelled_of (map plain_field l.fields))

abbrev pub invariant-collect_values-loop-value : goal.invariant-collect_values-loop-value
invariant-collect_values-loop-value l =
    numbers l.labels.items ++ labels_of_values (vals_of (map plain_val (drop l.value-index l.values)))
    ≡ numbers l.initial.labels.items ++ labels_of_values (vals_of (map plain_val l.values))
