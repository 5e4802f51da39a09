use Rattle.pict_gather.proofs.OneReached.{one_reached}
use Rattle.pict_gather.proofs.laws.law_one_reached.Goals as goal

pub returns : goal.returns
returns c = one_reached
