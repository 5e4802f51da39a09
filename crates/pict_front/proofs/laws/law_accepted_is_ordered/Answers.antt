use Rattle.pict_front.proofs.InOrder.{accepted_is_ordered}
use Rattle.pict_front.proofs.laws.law_accepted_is_ordered.Goals as goal

pub returns : goal.returns
returns c = accepted_is_ordered
