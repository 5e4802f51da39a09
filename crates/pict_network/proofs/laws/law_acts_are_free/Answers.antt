use Rattle.pict_network.proofs.Freed.{acts_are_free}
use Rattle.pict_network.proofs.laws.law_acts_are_free.Goals as goal

pub returns : goal.returns
returns c = acts_are_free
