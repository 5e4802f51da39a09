use Rattle.pict_blocks.proofs.Standing.{narrow_blocks}
use Rattle.pict_blocks.proofs.laws.law_narrow_blocks.Goals as goal

pub returns : goal.returns
returns c = narrow_blocks
