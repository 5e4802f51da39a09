use Rattle.std.proofs.Common.{ap, ◌∙◌, map}
use Rattle.pict_core.specs.Substitution.{replace_value, substitution}
use Rattle.pict_core.specs.Plain.{plain_val}
use Rattle.pict_core.proofs.Substituting.{replace_fields}
use Rattle.pict_core.proofs.substitution.+substitute_value.Goals as goal

pub substitute_value-returns-in_ok-substitute_fields-in-Fields : goal.substitute_value-returns-in_ok-substitute_fields-in-Fields
substitute_value-returns-in_ok-substitute_fields-in-Fields t c =
    replace_fields _ _ _ _ _ _ c.in-Fields.is
    (c.in_ok-substitute_values-in-Fields.ensures ∙ ap (map (λ x. replace_value (substitution 0 (map plain_val c.args.values.now)) (plain_val x))) c.deref.ensures.value)
    (c.in_ok-substitute_fields-in-Fields.ensures ∙ ap (map (λ e. (e.0, replace_value (substitution 0 (map plain_val c.args.values.now)) (plain_val e.1)))) c.deref-in-Fields.ensures.value)
