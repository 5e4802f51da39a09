use Rattle.pict_blocks.proofs.Meeting.{outputs_meet}
use Rattle.pict_blocks.proofs.laws.law_outputs_meet.Goals as goal

pub returns : goal.returns
returns c = outputs_meet
