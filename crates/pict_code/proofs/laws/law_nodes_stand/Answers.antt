use Rattle.pict_code.proofs.Closings.{nodes_stand}
use Rattle.pict_code.proofs.laws.law_nodes_stand.Goals as goal

pub returns : goal.returns
returns c = nodes_stand
