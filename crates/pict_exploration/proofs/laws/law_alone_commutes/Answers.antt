use Rattle.pict_exploration.proofs.Commuting.{alone_commutes}
use Rattle.pict_exploration.proofs.laws.law_alone_commutes.Goals as goal

pub returns : goal.returns
returns c = alone_commutes
