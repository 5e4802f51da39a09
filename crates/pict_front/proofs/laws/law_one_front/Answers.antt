use Rattle.pict_front.proofs.EachPhase.{one_front}
use Rattle.pict_front.proofs.laws.law_one_front.Goals as goal

pub returns : goal.returns
returns c = one_front
