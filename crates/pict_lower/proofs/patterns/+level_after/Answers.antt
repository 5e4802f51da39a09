use Rattle.std.proofs.Common.{◌≡◌, ◌+◌, map, IfOk, ap, subst, arith}
use Rattle.pict_core.specs.Closed.{binds}
use Rattle.pict_core.specs.Plain.{plain_pat, plain_pat_field}
use Rattle.pict_lower.specs.Fields.{binds_each, binds_each_labelled}
use Rattle.pict_lower.proofs.Leveling.{record_binds}
use Rattle.pict_lower.proofs.patterns.+level_after.Goals as goal

pub level_after-returns-in_ok-level_after_fields-in-Fields : goal.level_after-returns-in_ok-level_after_fields-in-Fields
level_after-returns-in_ok-level_after_fields-in-Fields t c =
    let first = ap (λ l. binds_each (map plain_pat l)) c.deref.ensures.value in
    let second = ap (λ l. binds_each_labelled (map plain_pat_field l)) c.deref-in-Fields.ensures.value in
    let both = record_binds c.args.pattern.now c.in-Fields.positional c.in-Fields.labelled c.in-Fields.is in
    let e : c.in_ok-level_after_fields-in-Fields.field-0 + binds_each_labelled (map plain_pat_field c.deref-in-Fields.result.now) ≡ c.args.level + binds (plain_pat c.args.pattern.now) =
    omega (arith, c.in_ok-level_after_fields-in-Fields.ensures, first, second, both) in
    subst (λ n. IfOk c.level_after_labelled.result (λ l. l ≡ n)) e c.level_after_labelled.ensures
