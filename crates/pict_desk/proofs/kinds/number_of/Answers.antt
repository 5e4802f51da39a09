use Rattle.pict_desk.proofs.Tagged.{number_elsewhere}
use Rattle.pict_desk.proofs.kinds.number_of.Goals as goal

pub returns-else-pair-eq-NUMBER : goal.returns-else-pair-eq-NUMBER
returns-else-pair-eq-NUMBER c h is = number_elsewhere h c.args.pair is c.if-pair-eq-NUMBER.false
