use Rattle.pict_network.proofs.Viewing.{acts_are_viewed}
use Rattle.pict_network.proofs.laws.law_acts_are_viewed.Goals as goal

pub returns : goal.returns
returns c = acts_are_viewed
