use Rattle.std.proofs.Common.{◌≡◌, ◌+◌, ◌-◌, ◌*◌, map}
use Rattle.pict_core.specs.Plain.{plain_pat, plain_pat_field}
use Rattle.pict_object.specs.Reading.{parts_at, counted_at, fields_at, labelled_at, pattern_at}
use Rattle.pict_object.proofs.Loops.{with_front}
use Rattle.pict_object.proofs.pattern.+read_pattern.Given as goal

abbrev pub decreases-read_pattern : goal.decreases-read_pattern
decreases-read_pattern l = 3 * l.left

abbrev pub decreases-read_record : goal.decreases-read_record
decreases-read_record l = 3 * l.left + 2

abbrev pub decreases-read_patterns : goal.decreases-read_patterns
decreases-read_patterns l = 3 * l.left + 1

abbrev pub decreases-read_pattern_fields : goal.decreases-read_pattern_fields
decreases-read_pattern_fields l = 3 * l.left + 1

abbrev pub invariant-read_patterns-loop : goal.invariant-read_patterns-loop
invariant-read_patterns-loop l =
    with_front (map plain_pat l.patterns.items) (parts_at (pattern_at l.labels l.left) (l.count - l.counter) l.rest) ≡ counted_at (pattern_at l.labels l.left) l.bytes

abbrev pub invariant-read_pattern_fields-loop : goal.invariant-read_pattern_fields-loop
invariant-read_pattern_fields-loop l =
    with_front (map plain_pat_field l.fields.items) (fields_at l.labels (pattern_at l.labels l.left) (l.count - l.counter) l.from l.rest) ≡ labelled_at l.labels (pattern_at l.labels l.left) l.bytes
