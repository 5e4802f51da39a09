-- The arguments of an applied variable.
use Rattle.std.proofs.Common.{◌∙◌, sym, ap}
use Rattle.pict_types.specs.Types.{Apply}
use Rattle.pict_types.specs.Plain.{plain_types}
use Rattle.pict_types.specs.Replacing.{apply_variable}
use Rattle.pict_types.proofs.Rows.{plain_apply}
use Rattle.pict_types.proofs.fill.apply_head.Goals as goal

pub returns-in_ok-new-in-Some : goal.returns-in_ok-new-in-Some
returns-in_ok-new-in-Some c =
    plain_apply c.in-Some.i c.in_ok-new-in-Some.field-0
    ∙ ap (λ v. Apply c.in-Some.i (plain_types v.items)) c.in_ok-new-in-Some.ensures.ok
    ∙ ap (λ h. apply_variable h (plain_types c.args.ts.items)) (sym c.in-Some.is)
