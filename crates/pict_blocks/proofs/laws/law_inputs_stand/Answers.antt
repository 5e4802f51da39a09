use Rattle.pict_blocks.proofs.Meeting.{inputs_stand}
use Rattle.pict_blocks.proofs.laws.law_inputs_stand.Goals as goal

pub returns : goal.returns
returns c = inputs_stand
