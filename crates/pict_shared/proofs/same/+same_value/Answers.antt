use Rattle.std.proofs.Common.{sym, ap, ◌∙◌, map}
use Rattle.pict_core.specs.Plain.{plain_val, plain_field}
use Rattle.pict_core.specs.Substitution.{replace_value}
use Rattle.pict_shared.specs.Alike.{renaming_by, renamed_field}
use Rattle.pict_shared.proofs.Becoming.{record_becomes}
use Rattle.pict_shared.proofs.same.+same_value.Goals as goal

pub same_value-returns-else-not-same_values : goal.same_value-returns-else-not-same_values
same_value-returns-else-not-same_values t c = λ h.
    record_becomes c.args.names.now _ _ _ _ _ _ c.in-Fields.is c.in-Fields-other.is
    (ap (map (λ x. replace_value (renaming_by c.args.names.now) (plain_val x))) (sym c.deref.ensures.value) ∙ c.same_values.ensures c.if-not-same_values.false ∙ ap (map plain_val) c.deref-in-Fields-other.ensures.value)
    (ap (map (renamed_field c.args.names.now)) (sym c.deref-in-Fields-other-2.ensures.value) ∙ c.same_fields.ensures h ∙ ap (map plain_field) c.deref-in-Fields-other-3.ensures.value)
