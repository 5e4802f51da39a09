use Rattle.pict_network.proofs.Possible.{next_is_possible}
use Rattle.pict_network.proofs.laws.law_next_is_possible.Goals as goal

pub returns : goal.returns
returns c = next_is_possible
