use Rattle.std.proofs.Common.{◌≡◌, ◌-◌, ◌+◌, ◌^◌, ◌≤◌, min, map, drop}
use Rattle.pict_core.specs.Plain.{plain_pat, plain_pat_field, pats_of, labelled_pats_of}
use Rattle.pict_core.specs.Closed.{binds_all, binds_labelled}
use Rattle.pict_exec.proofs.room.+variables.Given as goal

abbrev pub invariant-variables_in-loop-pattern : goal.invariant-variables_in-loop-pattern
invariant-variables_in-loop-pattern l =
    (min (l.count + binds_all (pats_of (map plain_pat (drop l.pattern-index l.patterns)))) (2 ^ 64 - 1)
    ≡ min (binds_all (pats_of (map plain_pat l.patterns))) (2 ^ 64 - 1))
    × (l.count ≤ 2 ^ 64 - 1)

abbrev pub invariant-variables_in_fields-loop-field : goal.invariant-variables_in_fields-loop-field
invariant-variables_in_fields-loop-field l =
    (min (l.count + binds_labelled (labelled_pats_of (map plain_pat_field (drop l.field-index l.fields)))) (2 ^ 64 - 1)
    ≡ min (binds_labelled (labelled_pats_of (map plain_pat_field l.fields))) (2 ^ 64 - 1))
    × (l.count ≤ 2 ^ 64 - 1)
