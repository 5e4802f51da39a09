use Rattle.std.proofs.Common.{◌≡◌, ◌+◌, map, ap, sym, ◌∙◌, arith}
use Rattle.pict_core.specs.Plain.{plain_pat, plain_pat_field}
use Rattle.pict_lower.specs.Fields.{binds_each, binds_each_labelled, leveled_each, leveled_each_labelled}
use Rattle.pict_lower.proofs.Leveling.{record_binds, record_levels}
use Rattle.pict_lower.proofs.patterns.+leveled.Goals as goal

pub leveled-returns-in_ok-leveled_labelled-in-Fields-clause-pattern : goal.leveled-returns-in_ok-leveled_labelled-in-Fields-clause-pattern
leveled-returns-in_ok-leveled_labelled-in-Fields-clause-pattern t c =
    record_levels c.args.level.now c.leveled_fields.new.level c.args.pattern.now c.in-Fields.positional c.in-Fields.labelled
    c.in_ok-leveled_fields-in-Fields.field-0 c.in_ok-leveled_labelled-in-Fields.field-0 c.in-Fields.is
    (c.in_ok-leveled_fields-in-Fields.ensures.fields ∙ ap (λ l. leveled_each c.args.level.now (map plain_pat l)) c.deref.ensures.value)
    (c.in_ok-leveled_fields-in-Fields.ensures.level ∙ ap (λ l. c.args.level.now + binds_each (map plain_pat l)) c.deref.ensures.value)
    (c.in_ok-leveled_labelled-in-Fields.ensures.fields ∙ ap (λ l. leveled_each_labelled c.leveled_fields.new.level (map plain_pat_field l)) c.deref-in-Fields.ensures.value)

pub leveled-returns-in_ok-leveled_labelled-in-Fields-clause-level : goal.leveled-returns-in_ok-leveled_labelled-in-Fields-clause-level
leveled-returns-in_ok-leveled_labelled-in-Fields-clause-level t c =
    let first = ap (λ l. binds_each (map plain_pat l)) c.deref.ensures.value in
    let second = ap (λ l. binds_each_labelled (map plain_pat_field l)) c.deref-in-Fields.ensures.value in
    let both = record_binds c.args.pattern.now c.in-Fields.positional c.in-Fields.labelled c.in-Fields.is in
    omega (arith, c.in_ok-leveled_fields-in-Fields.ensures.level, c.in_ok-leveled_labelled-in-Fields.ensures.level, first, second, both)
