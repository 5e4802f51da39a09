use Rattle.std.proofs.Common.{sym, ap}
use Rattle.pict_prim.specs.Needed.{needed}
use Rattle.pict_prim.proofs.Needs.{if_needs}
use Rattle.pict_prim.proofs.deciding.act_on_simple.Goals as goal

pub returns-in-Print-clause-need : goal.returns-in-Print-clause-need
returns-in-Print-clause-need c h v = if_needs h c.print.result _ _ (ap (λ p. needed p v) (sym c.in-Print.is)) (c.print.ensures.need h v)

pub returns-in-Printi-clause-need : goal.returns-in-Printi-clause-need
returns-in-Printi-clause-need c h v = if_needs h c.print_number.result _ _ (ap (λ p. needed p v) (sym c.in-Printi.is)) (c.print_number.ensures.need h v)
