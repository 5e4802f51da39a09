-- Y8 where there is no function.
use Rattle.std.proofs.Common.{◌∙◌, ap, sym}
use Rattle.pict_rules.specs.Shapes.{applicable}
use Rattle.pict_lines.proofs.HeadForms.{no_function_here}
use Rattle.pict_lines.proofs.functions.head.Goals as goal

pub returns-in-Some-clause-ok : goal.returns-in-Some-clause-ok
returns-in-Some-clause-ok c =
    let h = rw c.in-Some.is at c.in_ok-found.ensures.some in
    ap applicable (sym c.in_ok-exposed.ensures) ∙ h

pub returns-clause-refused : goal.returns-clause-refused
returns-clause-refused c =
    let h = rw c.in-None.is at c.in_ok-found.ensures.none in
    no_function_here _ c.args.at (ap applicable (sym c.in_ok-exposed.ensures) ∙ h)
