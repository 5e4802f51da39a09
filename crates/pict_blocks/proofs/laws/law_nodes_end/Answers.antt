use Rattle.pict_blocks.proofs.Forking.{nodes_end}
use Rattle.pict_blocks.proofs.laws.law_nodes_end.Goals as goal

pub returns : goal.returns
returns c = nodes_end
