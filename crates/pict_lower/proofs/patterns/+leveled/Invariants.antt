use Rattle.std.proofs.Common.{◌≡◌, ◌+◌, ◌++◌, map, drop}
use Rattle.pict_core.specs.Plain.{plain_pat, plain_pat_field}
use Rattle.pict_code.specs.Plain as code
use Rattle.pict_lower.specs.Fields.{binds_each, binds_each_labelled, leveled_each, leveled_each_labelled}
use Rattle.pict_lower.proofs.patterns.+leveled.Given as goal

abbrev pub invariant-leveled_fields-loop-field : goal.invariant-leveled_fields-loop-field
invariant-leveled_fields-loop-field l =
    (map code.plain_pat l.made.items ++ leveled_each l.level (map plain_pat (drop l.field-index l.fields)) ≡ leveled_each l.fn.level (map plain_pat l.fields))
    × (l.level + binds_each (map plain_pat (drop l.field-index l.fields)) ≡ l.fn.level + binds_each (map plain_pat l.fields))

abbrev pub invariant-leveled_labelled-loop-field : goal.invariant-leveled_labelled-loop-field
invariant-leveled_labelled-loop-field l =
    (map code.plain_pat_field l.made.items ++ leveled_each_labelled l.level (map plain_pat_field (drop l.field-index l.fields)) ≡ leveled_each_labelled l.fn.level (map plain_pat_field l.fields))
    × (l.level + binds_each_labelled (map plain_pat_field (drop l.field-index l.fields)) ≡ l.fn.level + binds_each_labelled (map plain_pat_field l.fields))
