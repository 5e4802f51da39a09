use Rattle.std.proofs.Common.{◌≡◌, map, drop}
use Rattle.pict_core.specs.Matching.{field_at}
use Rattle.pict_core.specs.Plain.{plain_field, labelled_of}
use Rattle.pict_core.proofs.matching.value_at.Given as goal

abbrev pub invariant-loop-field : goal.invariant-loop-field
invariant-loop-field l = field_at l.label.0 (labelled_of (map plain_field l.fields)) ≡ field_at l.label.0 (labelled_of (map plain_field (drop l.field-index l.fields)))
