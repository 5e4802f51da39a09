use Rattle.std.proofs.Common.{◌∙◌, ◌++◌, ap, sym, map, append_assoc}
use Rattle.std.proofs.lemmas.Result.{on_ok_weaker}
use Rattle.pict_core.specs.Plain.{plain_val, plain_field, vals_of, labelled_of}
use Rattle.pict_object.specs.Objects.{labels_of_value, labels_of_values, labels_of_labelled}
use Rattle.pict_object.specs.Collected.{numbers}
use Rattle.pict_object.proofs.Sizes.{fields_are}
use Rattle.pict_object.proofs.labels.+collect_value.Goals as goal

pub collect_value-returns-in_ok-collect_values-in-Fields : goal.collect_value-returns-in_ok-collect_values-in-Fields
collect_value-returns-in_ok-collect_values-in-Fields t c =
    let first = labels_of_values (vals_of (map plain_val c.deref.result.now)) in
    let second = labels_of_labelled (labelled_of (map plain_field c.deref-in-Fields.result.now)) in
    on_ok_weaker c.collect_fields.result
    (λ h. h ∙ ap (λ z. z ++ second) c.in_ok-collect_values-in-Fields.ensures ∙ append_assoc (numbers c.args.labels.now.items) first second
    ∙ ap (λ v. numbers c.args.labels.now.items ++ labels_of_value v) (sym (fields_are c.args.value.now c.in-Fields.positional c.in-Fields.labelled c.deref.result.now c.deref-in-Fields.result.now c.in-Fields.is c.deref.ensures.value c.deref-in-Fields.ensures.value)))
    c.collect_fields.ensures
