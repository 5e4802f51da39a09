-- A definition that is applied.
use Rattle.std.proofs.Common.{◌∙◌, sym, ap}
use Rattle.pict_normal.specs.Around.{around}
use Rattle.pict_normal.specs.Meanings.{meanings}
use Rattle.pict_types.specs.Types.{is_top}
use Rattle.pict_types.specs.Plain.{plain_arg, plain_types}
use Rattle.pict_types.specs.Replacing.{replace, replace_types}
use Rattle.pict_normal.proofs.BecomingTop.{defined_applied}
use Rattle.pict_types.proofs.Rows.{apply_is}
use Rattle.pict_normal.proofs.tops.+tops.Goals as goal

pub becomes_top-returns-in-Some-definition : goal.becomes_top-returns-in-Some-definition
becomes_top-returns-in-Some-definition t c =
    let d = around c.args.inner.now c.args.c.now in
    let e = apply_is c.args.t.now c.in-Apply.i c.in-Apply.ts c.deref-in-Some-definition.result.now c.in-Apply.is (c.deref-in-Some-definition.ensures.value ∙ ap (λ v. v.items) c.deref.ensures) in
    c.applied_becomes_top.ensures
    ∙ sym (defined_applied d c.in-Apply.i (plain_arg c.in-Some-definition.arg.now) (replace_types (meanings d) (plain_types c.deref-in-Some-definition.result.now)) c.in-Some-definition.ensures.some)
    ∙ ap (λ x. is_top (replace (meanings d) x)) (sym e)
