use Rattle.pict_front.proofs.InOrder.{accepted_is_read_back}
use Rattle.pict_front.proofs.laws.law_accepted_is_read_back.Goals as goal

pub returns : goal.returns
returns c = accepted_is_read_back
