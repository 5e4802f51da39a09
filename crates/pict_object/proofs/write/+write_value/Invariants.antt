use Rattle.std.proofs.Common.{◌≡◌, ◌++◌, map, drop}
use Rattle.pict_core.specs.Plain.{plain_val, plain_field, vals_of, labelled_of}
use Rattle.pict_object.specs.Objects.{values_bytes, labelled_bytes}
use Rattle.pict_object.specs.Fits.{ValuesHaveBytes, LabelledHaveBytes}
use Rattle.pict_object.specs.Sizes.{Anywhere, place_at}
use Rattle.pict_object.proofs.write.+write_value.Given as goal

abbrev pub invariant-write_fields-loop-field : goal.invariant-write_fields-loop-field
invariant-write_fields-loop-field l =
    (l.out.items ++ labelled_bytes (place_at l.places) (labelled_of (map plain_field (drop l.field-index l.fields)))
    ≡ l.initial.out.items ++ labelled_bytes (place_at l.places) (labelled_of (map plain_field l.fields)))
    × LabelledHaveBytes Anywhere (labelled_of (map plain_field (drop l.field-index l.fields)))

abbrev pub invariant-write_values-loop-value : goal.invariant-write_values-loop-value
invariant-write_values-loop-value l =
    (l.out.items ++ values_bytes (place_at l.places) (vals_of (map plain_val (drop l.value-index l.values)))
    ≡ l.initial.out.items ++ values_bytes (place_at l.places) (vals_of (map plain_val l.values)))
    × ValuesHaveBytes Anywhere (vals_of (map plain_val (drop l.value-index l.values)))
