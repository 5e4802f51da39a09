use Rattle.pict_way.proofs.Answering.{ways_are_answered}
use Rattle.pict_way.proofs.laws.law_ways_are_answered.Goals as goal

pub returns : goal.returns
returns c = ways_are_answered
