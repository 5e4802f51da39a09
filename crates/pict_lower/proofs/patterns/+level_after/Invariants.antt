use Rattle.std.proofs.Common.{◌≡◌, ◌+◌, map, drop}
use Rattle.pict_core.specs.Plain.{plain_pat, plain_pat_field}
use Rattle.pict_lower.specs.Fields.{binds_each, binds_each_labelled}
use Rattle.pict_lower.proofs.patterns.+level_after.Given as goal

abbrev pub invariant-level_after_fields-loop-field : goal.invariant-level_after_fields-loop-field
invariant-level_after_fields-loop-field l = l.next + binds_each (map plain_pat (drop l.field-index l.fields)) ≡ l.level + binds_each (map plain_pat l.fields)

abbrev pub invariant-level_after_labelled-loop-field : goal.invariant-level_after_labelled-loop-field
invariant-level_after_labelled-loop-field l =
    l.next + binds_each_labelled (map plain_pat_field (drop l.field-index l.fields)) ≡ l.level + binds_each_labelled (map plain_pat_field l.fields)
