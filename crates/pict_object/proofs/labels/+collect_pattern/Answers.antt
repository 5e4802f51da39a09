use Rattle.std.proofs.Common.{◌∙◌, ◌++◌, ap, sym, map, append_assoc}
use Rattle.std.proofs.lemmas.Result.{on_ok_weaker}
use Rattle.pict_core.specs.Plain.{plain_pat, plain_pat_field, pats_of, labelled_pats_of}
use Rattle.pict_object.specs.Objects.{labels_of_pattern, labels_of_patterns, labels_of_labelled_patterns}
use Rattle.pict_object.specs.Collected.{numbers}
use Rattle.pict_object.proofs.Sizes.{pattern_fields_are}
use Rattle.pict_object.proofs.labels.+collect_pattern.Goals as goal

pub collect_pattern-returns-in_ok-collect_patterns-in-Fields : goal.collect_pattern-returns-in_ok-collect_patterns-in-Fields
collect_pattern-returns-in_ok-collect_patterns-in-Fields t c =
    let first = labels_of_patterns (pats_of (map plain_pat c.deref.result.now)) in
    let second = labels_of_labelled_patterns (labelled_pats_of (map plain_pat_field c.deref-in-Fields.result.now)) in
    on_ok_weaker c.collect_pattern_fields.result
    (λ h. h ∙ ap (λ z. z ++ second) c.in_ok-collect_patterns-in-Fields.ensures ∙ append_assoc (numbers c.args.labels.now.items) first second
    ∙ ap (λ v. numbers c.args.labels.now.items ++ labels_of_pattern v) (sym (pattern_fields_are c.args.pattern.now c.in-Fields.positional c.in-Fields.labelled c.deref.result.now c.deref-in-Fields.result.now c.in-Fields.is c.deref.ensures.value c.deref-in-Fields.ensures.value)))
    c.collect_pattern_fields.ensures
