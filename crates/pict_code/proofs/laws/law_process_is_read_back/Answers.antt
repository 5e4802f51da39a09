use Rattle.pict_code.proofs.Rebuilding.{core_of_nodes}
use Rattle.pict_code.proofs.laws.law_process_is_read_back.Goals as goal

pub returns : goal.returns
returns c = core_of_nodes
