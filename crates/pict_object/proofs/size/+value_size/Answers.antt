use Rattle.std.proofs.Common.{ap, sym, ◌∙◌, length, map, arith, subst}
use Rattle.pict_core.specs.Plain.{plain_val, plain_field, vals_of, labelled_of}
use Rattle.pict_object.specs.Objects.{value_bytes}
use Rattle.pict_object.specs.Sizes.{first_place, Fit}
use Rattle.pict_object.proofs.Sizes.{record_length, fields_are}
use Rattle.pict_object.proofs.size.+value_size.Goals as goal

pub value_size-returns-in-Fields-clause-size : goal.value_size-returns-in-Fields-clause-size
value_size-returns-in-Fields-clause-size t c =
    let is = fields_are c.args.value.now c.in-Fields.positional c.in-Fields.labelled c.deref.result.now c.deref-in-Fields.result.now c.in-Fields.is c.deref.ensures.value c.deref-in-Fields.ensures.value in
    let e = ap (λ v. length (value_bytes first_place v)) is ∙ record_length first_place (vals_of (map plain_val c.deref.result.now)) (labelled_of (map plain_field c.deref-in-Fields.result.now)) in
    omega (arith, e, c.values_size.ensures.size, c.fields_size.ensures.size, c.saturating_add-in-Fields.ensures, c.saturating_add-in-Fields-2.ensures)

pub value_size-returns-in-Fields-clause-fits : goal.value_size-returns-in-Fields-clause-fits
value_size-returns-in-Fields-clause-fits t c =
    let is = fields_are c.args.value.now c.in-Fields.positional c.in-Fields.labelled c.deref.result.now c.deref-in-Fields.result.now c.in-Fields.is c.deref.ensures.value c.deref-in-Fields.ensures.value in
    subst Fit (sym is) (c.values_size.ensures.fits, c.fields_size.ensures.fits)
