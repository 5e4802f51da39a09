use Rattle.std.proofs.Common.{◌≡◌, ◌-◌, ◌+◌, ◌^◌, ◌≤◌, min, length, map, drop}
use Rattle.pict_core.specs.Plain.{plain_pat, plain_pat_field, pats_of, labelled_pats_of}
use Rattle.pict_object.specs.Objects.{patterns_bytes, labelled_patterns_bytes}
use Rattle.pict_object.specs.Sizes.{first_place}
use Rattle.pict_object.proofs.size.+pattern_size.Given as goal

abbrev pub invariant-pattern_fields_size-loop-field : goal.invariant-pattern_fields_size-loop-field
invariant-pattern_fields_size-loop-field l =
    (min (l.size + length (labelled_patterns_bytes first_place (labelled_pats_of (map plain_pat_field (drop l.field-index l.fields))))) (2 ^ 64 - 1)
    ≡ min (length (labelled_patterns_bytes first_place (labelled_pats_of (map plain_pat_field l.fields)))) (2 ^ 64 - 1))
    × (l.size ≤ 2 ^ 64 - 1)

abbrev pub invariant-patterns_size-loop-pattern : goal.invariant-patterns_size-loop-pattern
invariant-patterns_size-loop-pattern l =
    (min (l.size + length (patterns_bytes first_place (pats_of (map plain_pat (drop l.pattern-index l.patterns))))) (2 ^ 64 - 1)
    ≡ min (length (patterns_bytes first_place (pats_of (map plain_pat l.patterns)))) (2 ^ 64 - 1))
    × (l.size ≤ 2 ^ 64 - 1)
