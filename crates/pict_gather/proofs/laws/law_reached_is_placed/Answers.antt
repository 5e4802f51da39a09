use Rattle.pict_gather.proofs.Placed.{reached_is_placed}
use Rattle.pict_gather.proofs.laws.law_reached_is_placed.Goals as goal

pub returns : goal.returns
returns c = reached_is_placed
