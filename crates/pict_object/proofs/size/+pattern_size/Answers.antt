use Rattle.std.proofs.Common.{ap, ◌∙◌, length, map, arith}
use Rattle.pict_core.specs.Plain.{plain_pat, plain_pat_field, pats_of, labelled_pats_of}
use Rattle.pict_object.specs.Objects.{pattern_bytes}
use Rattle.pict_object.specs.Sizes.{first_place}
use Rattle.pict_object.proofs.Sizes.{pattern_length, pattern_fields_are}
use Rattle.pict_object.proofs.size.+pattern_size.Goals as goal

pub pattern_size-returns-in-Fields : goal.pattern_size-returns-in-Fields
pattern_size-returns-in-Fields t c =
    let is = pattern_fields_are c.args.pattern.now c.in-Fields.positional c.in-Fields.labelled c.deref.result.now c.deref-in-Fields.result.now c.in-Fields.is c.deref.ensures.value c.deref-in-Fields.ensures.value in
    let e = ap (λ v. length (pattern_bytes first_place v)) is ∙ pattern_length first_place (pats_of (map plain_pat c.deref.result.now)) (labelled_pats_of (map plain_pat_field c.deref-in-Fields.result.now)) in
    record { size = omega (arith, e, c.patterns_size.ensures.size, c.pattern_fields_size.ensures.size, c.saturating_add.ensures, c.saturating_add-in-Fields.ensures) }
