use Rattle.std.proofs.Common.{◌≡◌, ◌-◌, ◌+◌, ◌^◌, ◌≤◌, min, length, map, drop}
use Rattle.pict_core.specs.Plain.{plain_val, plain_field, vals_of, labelled_of}
use Rattle.pict_object.specs.Objects.{values_bytes, labelled_bytes}
use Rattle.pict_object.specs.Sizes.{first_place, AreFit, FieldsFit}
use Rattle.pict_object.proofs.size.+value_size.Given as goal

abbrev pub invariant-fields_size-loop-field : goal.invariant-fields_size-loop-field
invariant-fields_size-loop-field l =
    (min (l.size + length (labelled_bytes first_place (labelled_of (map plain_field (drop l.field-index l.fields))))) (2 ^ 64 - 1)
    ≡ min (length (labelled_bytes first_place (labelled_of (map plain_field l.fields)))) (2 ^ 64 - 1))
    × (FieldsFit (labelled_of (map plain_field (drop l.field-index l.fields))) → FieldsFit (labelled_of (map plain_field l.fields)))
    × (l.size ≤ 2 ^ 64 - 1)

abbrev pub invariant-values_size-loop-value : goal.invariant-values_size-loop-value
invariant-values_size-loop-value l =
    (min (l.size + length (values_bytes first_place (vals_of (map plain_val (drop l.value-index l.values))))) (2 ^ 64 - 1)
    ≡ min (length (values_bytes first_place (vals_of (map plain_val l.values)))) (2 ^ 64 - 1))
    × (AreFit (vals_of (map plain_val (drop l.value-index l.values))) → AreFit (vals_of (map plain_val l.values)))
    × (l.size ≤ 2 ^ 64 - 1)
