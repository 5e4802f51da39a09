use Rattle.std.proofs.Common.{sym, arith}
use Rattle.pict_seed.proofs.Choosing.{chosen_few}
use Rattle.pict_top.proofs.picking.pick_partner.Goals as goal

pub returns-then-count-eq0 : goal.returns-then-count-eq0
returns-then-count-eq0 c = let none = c.if-count-eq0.true in sym (chosen_few c.args.count c.args.chooser.now (omega (arith, none)))
