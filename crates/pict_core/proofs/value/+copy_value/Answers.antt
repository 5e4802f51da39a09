use Rattle.std.proofs.Common.{ap, ◌∙◌, map}
use Rattle.pict_core.specs.Plain.{plain_val, plain_field}
use Rattle.pict_core.proofs.Fields.{same_fields}
use Rattle.pict_core.proofs.value.+copy_value.Goals as goal

pub CoreVal::copy-returns-in_ok-copy_fields-in-Fields : goal.CoreVal::copy-returns-in_ok-copy_fields-in-Fields
CoreVal::copy-returns-in_ok-copy_fields-in-Fields t c =
    same_fields _ _ _ _ _ c.in-Fields.is (c.in_ok-copy_values-in-Fields.ensures ∙ ap (map plain_val) c.deref.ensures.value) (c.in_ok-copy_fields-in-Fields.ensures ∙ ap (map plain_field) c.deref-in-Fields.ensures.value)
