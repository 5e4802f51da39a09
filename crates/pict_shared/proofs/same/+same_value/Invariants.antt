use Rattle.std.proofs.Common.{◌≡◌, map, take}
use Rattle.pict_core.specs.Plain.{plain_val, plain_field}
use Rattle.pict_core.specs.Substitution.{replace_value}
use Rattle.pict_shared.specs.Alike.{renaming_by, renamed_field}
use Rattle.pict_shared.proofs.same.+same_value.Given as goal

abbrev pub invariant-same_values-loop-i : goal.invariant-same_values-loop-i
invariant-same_values-loop-i l = map (λ v. replace_value (renaming_by l.names) (plain_val v)) (take l.i l.ones) ≡ map plain_val (take l.i l.others)

abbrev pub invariant-same_fields-loop-i : goal.invariant-same_fields-loop-i
invariant-same_fields-loop-i l = map (renamed_field l.names) (take l.i l.ones) ≡ map plain_field (take l.i l.others)
