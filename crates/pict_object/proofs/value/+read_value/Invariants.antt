use Rattle.std.proofs.Common.{◌≡◌, ◌+◌, ◌-◌, ◌*◌, map}
use Rattle.pict_core.specs.Plain.{plain_val, plain_field}
use Rattle.pict_object.specs.Reading.{parts_at, counted_at, fields_at, labelled_at, value_at}
use Rattle.pict_object.proofs.Loops.{with_front}
use Rattle.pict_object.proofs.value.+read_value.Given as goal

abbrev pub decreases-read_value : goal.decreases-read_value
decreases-read_value l = 3 * l.left

abbrev pub decreases-read_record : goal.decreases-read_record
decreases-read_record l = 3 * l.left + 2

abbrev pub decreases-read_values : goal.decreases-read_values
decreases-read_values l = 3 * l.left + 1

abbrev pub decreases-read_fields : goal.decreases-read_fields
decreases-read_fields l = 3 * l.left + 1

abbrev pub invariant-read_values-loop : goal.invariant-read_values-loop
invariant-read_values-loop l =
    with_front (map plain_val l.values.items) (parts_at (value_at l.labels l.bound l.left) (l.count - l.counter) l.rest) ≡ counted_at (value_at l.labels l.bound l.left) l.bytes

abbrev pub invariant-read_fields-loop : goal.invariant-read_fields-loop
invariant-read_fields-loop l =
    with_front (map plain_field l.fields.items) (fields_at l.labels (value_at l.labels l.bound l.left) (l.count - l.counter) l.from l.rest) ≡ labelled_at l.labels (value_at l.labels l.bound l.left) l.bytes
