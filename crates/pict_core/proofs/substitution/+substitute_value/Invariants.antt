use Rattle.std.proofs.Common.{◌≡◌, map, take}
use Rattle.pict_core.specs.Substitution.{replace_value, substitution}
use Rattle.pict_core.specs.Plain.{plain_val, plain_field}
use Rattle.pict_core.proofs.substitution.+substitute_value.Given as goal

abbrev pub invariant-substitute_fields-loop-field : goal.invariant-substitute_fields-loop-field
invariant-substitute_fields-loop-field l = map plain_field l.made.items ≡ map (λ e. (e.0, replace_value (substitution 0 (map plain_val l.values)) (plain_val e.1))) (take l.field-index l.fields)

abbrev pub invariant-substitute_values-loop-part : goal.invariant-substitute_values-loop-part
invariant-substitute_values-loop-part l = map plain_val l.made.items ≡ map (λ x. replace_value (substitution 0 (map plain_val l.values)) (plain_val x)) (take l.part-index l.parts)
