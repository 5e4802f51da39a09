use Rattle.pict_top.proofs.Answered.{picked_is_answered}
use Rattle.pict_top.proofs.laws.law_picked_is_answered.Goals as goal

pub returns : goal.returns
returns c = picked_is_answered
