use Rattle.pict_prim.proofs.Counted.{not_three}
use Rattle.pict_prim.proofs.operands.first_three.Goals as goal

pub returns-else-fields-eq3 : goal.returns-else-fields-eq3
returns-else-fields-eq3 c ls f = not_three c.args.fields.now ls c.if-fields-eq3.false f
