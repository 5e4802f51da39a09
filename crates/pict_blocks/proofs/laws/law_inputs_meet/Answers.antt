use Rattle.pict_blocks.proofs.Meeting.{inputs_meet}
use Rattle.pict_blocks.proofs.laws.law_inputs_meet.Goals as goal

pub returns : goal.returns
returns c = inputs_meet
