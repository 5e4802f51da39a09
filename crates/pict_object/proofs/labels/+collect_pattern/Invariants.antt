use Rattle.std.proofs.Common.{◌≡◌, ◌++◌, map, drop}
use Rattle.pict_core.specs.Plain.{plain_pat, plain_pat_field, pats_of, labelled_pats_of}
use Rattle.pict_object.specs.Objects.{labels_of_patterns, labels_of_labelled_patterns}
use Rattle.pict_object.specs.Collected.{numbers}
use Rattle.pict_object.proofs.labels.+collect_pattern.Given as goal

abbrev pub invariant-collect_pattern_fields-loop-field : goal.invariant-collect_pattern_fields-loop-field
invariant-collect_pattern_fields-loop-field l =
    numbers l.labels.items ++ labels_of_labelled_patterns (labelled_pats_of (map plain_pat_field (drop l.field-index l.fields)))
    ≡ numbers l.initial.labels.items ++ labels_of_labelled_patterns (labelled_pats_of (map plain_pat_field l.fields))

abbrev pub invariant-collect_patterns-loop-pattern : goal.invariant-collect_patterns-loop-pattern
invariant-collect_patterns-loop-pattern l =
    numbers l.labels.items ++ labels_of_patterns (pats_of (map plain_pat (drop l.pattern-index l.patterns)))
    ≡ numbers l.initial.labels.items ++ labels_of_patterns (pats_of (map plain_pat l.patterns))
