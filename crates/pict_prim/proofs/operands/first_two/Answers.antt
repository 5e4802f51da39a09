use Rattle.pict_prim.proofs.Counted.{not_two}
use Rattle.pict_prim.proofs.operands.first_two.Goals as goal

pub returns-else-fields-eq2 : goal.returns-else-fields-eq2
returns-else-fields-eq2 c ls f = not_two c.args.fields.now ls c.if-fields-eq2.false f
