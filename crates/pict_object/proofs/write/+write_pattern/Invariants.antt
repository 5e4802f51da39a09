use Rattle.std.proofs.Common.{◌≡◌, ◌++◌, map, drop}
use Rattle.pict_core.specs.Plain.{plain_pat, plain_pat_field, pats_of, labelled_pats_of}
use Rattle.pict_object.specs.Objects.{patterns_bytes, labelled_patterns_bytes}
use Rattle.pict_object.specs.Fits.{PatternsHaveBytes, LabelledPatternsHaveBytes}
use Rattle.pict_object.specs.Sizes.{Anywhere, place_at}
use Rattle.pict_object.proofs.write.+write_pattern.Given as goal

abbrev pub invariant-write_pattern_fields-loop-field : goal.invariant-write_pattern_fields-loop-field
invariant-write_pattern_fields-loop-field l =
    (l.out.items ++ labelled_patterns_bytes (place_at l.places) (labelled_pats_of (map plain_pat_field (drop l.field-index l.fields)))
    ≡ l.initial.out.items ++ labelled_patterns_bytes (place_at l.places) (labelled_pats_of (map plain_pat_field l.fields)))
    × LabelledPatternsHaveBytes Anywhere (labelled_pats_of (map plain_pat_field (drop l.field-index l.fields)))

abbrev pub invariant-write_patterns-loop-pattern : goal.invariant-write_patterns-loop-pattern
invariant-write_patterns-loop-pattern l =
    (l.out.items ++ patterns_bytes (place_at l.places) (pats_of (map plain_pat (drop l.pattern-index l.patterns)))
    ≡ l.initial.out.items ++ patterns_bytes (place_at l.places) (pats_of (map plain_pat l.patterns)))
    × PatternsHaveBytes Anywhere (pats_of (map plain_pat (drop l.pattern-index l.patterns)))
