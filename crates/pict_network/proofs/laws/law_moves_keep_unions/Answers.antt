use Rattle.pict_network.proofs.Moving.{moves_keep_unions}
use Rattle.pict_network.proofs.laws.law_moves_keep_unions.Goals as goal

pub returns : goal.returns
returns c = moves_keep_unions
