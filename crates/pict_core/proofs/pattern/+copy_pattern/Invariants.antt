use Rattle.std.proofs.Common.{◌≡◌, map, take}
use Rattle.pict_core.specs.Plain.{plain_pat, plain_pat_field}
use Rattle.pict_core.proofs.pattern.+copy_pattern.Given as goal

abbrev pub invariant-copy_pattern_fields-loop-field : goal.invariant-copy_pattern_fields-loop-field
invariant-copy_pattern_fields-loop-field l = map plain_pat_field l.made.items ≡ map plain_pat_field (take l.field-index l.fields)

abbrev pub invariant-copy_patterns-loop-pattern : goal.invariant-copy_patterns-loop-pattern
invariant-copy_patterns-loop-pattern l = map plain_pat l.made.items ≡ map plain_pat (take l.pattern-index l.patterns)
