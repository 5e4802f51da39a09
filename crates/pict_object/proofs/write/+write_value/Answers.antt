use Rattle.std.proofs.Common.{rules, refl, ◌∙◌, ◌++◌, ap, sym, length, map}
use Rattle.std.proofs.lemmas.Result.{on_ok_weaker}
use Rattle.pict_core.specs.declared.value.CoreVal.{the_lemmas}
use Rattle.pict_core.specs.Plain.{plain_val, plain_field, vals_of, labelled_of}
use Rattle.pict_object.specs.Objects.{values_bytes, labelled_bytes, count_bytes}
use Rattle.pict_object.specs.Sizes.{place_at}
use Rattle.pict_object.proofs.Writing.{in_turn, record_bytes, fields_needs, first_field}
use Rattle.pict_object.proofs.write.+write_value.Goals as goal

pub write_fields-write_value-requires : goal.write_fields-write_value-requires
write_fields-write_value-requires t c =
    (search (rules, the_lemmas), first_field c.args.fields.now c.loop-field.field-index c.field-item.result c.loop-field-test.true c.field-item.is c.loop-field.invariant.1)

pub write_value-write_values-requires : goal.write_value-write_values-requires
write_value-write_values-requires t c =
    let n = fields_needs c.args.value.now c.in-Fields.positional c.in-Fields.labelled c.deref.result.now c.in-Fields.labelled.items c.in-Fields.is c.deref.ensures.value refl c.requires in
    (search (rules, the_lemmas), (n.few, n.fit))

pub write_value-write_fields-requires : goal.write_value-write_fields-requires
write_value-write_fields-requires t c =
    let n = fields_needs c.args.value.now c.in-Fields.positional c.in-Fields.labelled c.deref.result.now c.deref-in-Fields.result.now c.in-Fields.is c.deref.ensures.value c.deref-in-Fields.ensures.value c.requires in
    (search (rules, the_lemmas), (n.few_labelled, n.labelled_fit))

pub write_value-returns-in_ok-write_values-in-Fields : goal.write_value-returns-in_ok-write_values-in-Fields
write_value-returns-in_ok-write_values-in-Fields t c =
    on_ok_weaker c.write_fields.result
    (λ h. in_turn 0x17 c.args.out.now.items c.push.new.self.items c.write_values.new.out.items c.write_fields.new.out.items
    (count_bytes (length c.deref.result.now)) (values_bytes (place_at c.args.places.now) (vals_of (map plain_val c.deref.result.now)))
    (count_bytes (length c.deref-in-Fields.result.now)) (labelled_bytes (place_at c.args.places.now) (labelled_of (map plain_field c.deref-in-Fields.result.now)))
    c.in_ok-push-in-Fields.ensures.items c.in_ok-write_values-in-Fields.ensures h
    ∙ ap (λ z. c.args.out.now.items ++ z) (sym (record_bytes (place_at c.args.places.now) c.args.value.now c.in-Fields.positional c.in-Fields.labelled c.deref.result.now c.deref-in-Fields.result.now c.in-Fields.is c.deref.ensures.value c.deref-in-Fields.ensures.value)))
    c.write_fields.ensures
