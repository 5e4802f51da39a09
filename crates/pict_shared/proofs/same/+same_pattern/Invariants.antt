use Rattle.std.proofs.Common.{◌≡◌, map, take}
use Rattle.pict_core.specs.Plain.{plain_pat, plain_pat_field}
use Rattle.pict_shared.proofs.same.+same_pattern.Given as goal

abbrev pub invariant-same_patterns-loop-i : goal.invariant-same_patterns-loop-i
invariant-same_patterns-loop-i l = map plain_pat (take l.i l.ones) ≡ map plain_pat (take l.i l.others)

abbrev pub invariant-same_pattern_fields-loop-i : goal.invariant-same_pattern_fields-loop-i
invariant-same_pattern_fields-loop-i l = map plain_pat_field (take l.i l.ones) ≡ map plain_pat_field (take l.i l.others)
