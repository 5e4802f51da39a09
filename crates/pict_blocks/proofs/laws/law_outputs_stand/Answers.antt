use Rattle.pict_blocks.proofs.Meeting.{outputs_stand}
use Rattle.pict_blocks.proofs.laws.law_outputs_stand.Goals as goal

pub returns : goal.returns
returns c = outputs_stand
