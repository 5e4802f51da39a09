use Rattle.pict_blocks.proofs.Forking.{parts_fork}
use Rattle.pict_blocks.proofs.laws.law_parts_fork.Goals as goal

pub returns : goal.returns
returns c = parts_fork
