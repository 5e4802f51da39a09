use Rattle.pict_prim.proofs.Quotients.{quotient_is}
use Rattle.pict_prim.proofs.numbers.quotient.Goals as goal

pub returns : goal.returns
returns c = quotient_is c.args.a c.args.b c.wrapping_div.result c.ranges.a c.ranges.b (record { sfits = c.wrapping_div.type_inv }) c.wrapping_div.ensures
